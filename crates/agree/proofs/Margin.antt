-- With endings on and the column known, nothing lands at or past the limit: an ending lands below it once the carriage is home, and
-- the character after it lands at the column on record, which is then below the limit.
-- Assumes nothing.
use Prim.Native.Nat.{ℕ, ◌+◌, ◌≤◌, ◌<◌}
use mathlib.Core.Path.{◌≡◌, refl, sym, ap, ◌∙◌}
use mathlib.Core.Bool.{Bool, true, false, ◌&&◌, false≢true, and-false}
use mathlib.Core.List.{List, [], ◌∷◌, ◌++◌}
use native.Mathlib.Omega.{arith}
use borrow.Author.Tests.{leb-false, lt-leb}
use Rattle.code.specs.Kinds.{kind_of, moves}
use Rattle.settings.specs.Table.{sound_settings}
use Rattle.settings.specs.Options.{endings, limit, ending_codes}
use Rattle.printer.specs.Printer.{hear_count, hear, hears, landing, mark_as, prints_as, prints, prints_all}
use Rattle.sender.specs.Record.{notes}
use Rattle.sender.specs.Code.{send_as}
use Rattle.sender.specs.Ending.{ending_of, until_zero, due, ending, ending_before}
use Rattle.sender.specs.Item.{character, item, after_item, items}
use Rattle.agree.specs.Names.{Case, Kind, Still, Space, Return, Shift, Char, Settings, Printer, Mark, Record, Wanted, Sender, Option, Some, None}
use Rattle.agree.specs.Agrees.{ColumnAgrees, Agrees, Obeys}
use Rattle.agree.specs.Margin.{LandsBelow, Below}
use Rattle.agree.specs.Sure.{ColumnSure}
use Rattle.agree.proofs.Agreement.{agreement}
use Rattle.agree.proofs.Folds.{prints_append, obeys_append, item_cases}
use Rattle.agree.proofs.Prints.{code_prints}
use Rattle.agree.proofs.Weights.{weight_at, weight, count_by, places}
use Rattle.agree.proofs.Home.{HomeAt, Home, home_column, Sound, sound}
use Rattle.agree.proofs.Told.{ending_keeps, column_told}

-- Marks below a limit.

below_append : (limit : ℕ) (xs ys : List Mark) → Below limit xs → Below limit ys → Below limit (xs ++ ys)
below_append limit [] ys a b = b
below_append limit (x ∷ xs) ys a b = (a.0, below_append limit xs ys a.1 b)

landing_below : (limit n : ℕ) (b : Bool) → (b ≡ true → n < limit) → LandsBelow limit (landing b n)
landing_below limit n true h = h refl
landing_below limit n false h = tt

prints_below : (limit : ℕ) (k : Kind) (m : Mark) → LandsBelow limit m.lands → Below limit (prints_as k m)
prints_below limit Still m h = (h, tt)
prints_below limit Space m h = (h, tt)
prints_below limit Return m h = (h, tt)
prints_below limit (Shift to) m h = tt
prints_below limit (Char bell) m h = (h, tt)

mark_below : (limit : ℕ) (k : Kind) (case : Case) (n c : ℕ) → (moves case k ≡ true → n < limit) → Below limit (prints_as k (mark_as k case n c))
mark_below limit k case n c h = prints_below limit k (mark_as k case n c) (landing_below limit n (moves case k) h)

-- Codes that land below it.

heavy : (k : Kind) (case : Case) → moves case k ≡ true → weight_at k ≡ 1
heavy Still case h = absurd (false≢true h)
heavy Space case h = refl
heavy Return case h = absurd (false≢true h)
heavy (Shift to) case h = absurd (false≢true h)
heavy (Char bell) case h = refl

light_below : (limit : ℕ) (p : Printer) (cs : List ℕ) → p.count + weight cs ≤ limit → Below limit (prints_all p cs)
light_below limit p [] h = tt
light_below limit p (c ∷ cs) h =
    below_append limit (prints p c) (prints_all (hear p c) cs)
    (mark_below limit (kind_of c) p.case p.count c (λ m. omega (arith, heavy (kind_of c) p.case m)))
    (light_below limit (hear p c) cs (omega (arith, count_by p (kind_of c))))

-- those that bring the carriage home
home_below : (limit m : ℕ) → m < limit → (cs : List ℕ) → Home m cs → (p : Printer) → Below limit (prints_all p cs)
home_below limit m room [] h p = absurd h
home_below limit m room (c ∷ cs) h p = go (kind_of c) refl h (home_below limit m room cs)
  where
    still : (k : Kind) → kind_of c ≡ k → moves p.case k ≡ false → Below limit (prints_all (hear p c) cs) → Below limit (prints_all p (c ∷ cs))
    still k e s t = below_append limit (prints p c) (prints_all (hear p c) cs) (mark_below limit (kind_of c) p.case p.count c (λ h. absurd (false≢true (sym s ∙ rw e at h)))) t

    go : (k : Kind) → kind_of c ≡ k → HomeAt m k cs (Home m cs) → (Home m cs → (p : Printer) → Below limit (prints_all p cs)) → Below limit (prints_all p (c ∷ cs))
    go Still e h rest = still Still e refl (rest h (hear p c))
    go Space e h rest = absurd h
    go Return e h rest =
        let z : (hear p c).count ≡ 0 = ap (hear_count p) e in
        still Return e refl (light_below limit (hear p c) cs (omega arith))
    go (Shift to) e h rest = still (Shift to) e refl (rest h (hear p c))
    go (Char bell) e h rest = absurd h

-- The character after the ending.

-- below the limit on record is below it on the printer
count_below : (limit : ℕ) (col : Option ℕ) (count : ℕ) → limit ≤ 80 → ColumnSure col → ColumnAgrees col count → places col < limit → count < limit
count_below limit None count most sure a h = absurd sure
count_below limit (Some n) count most sure a h = omega arith

module _ (o : Settings) (t : Sound o) where
  not_due : (col : Option ℕ) → endings o ≡ true → due o col ≡ false → places col < limit o
  not_due None on h = omega (arith, t.least)
  not_due (Some n) on h = leb-false (limit o) n (rw on at h)

  -- after the ending that is due, no other is
  pub due_ends : (r : Record) → places (notes o r (ending o r true)).column ≤ 7
  due_ends r = home_column 7 o (ending_of o r (until_zero (ending_codes o))) (t.home r) r

  pub low_not_due : (col : Option ℕ) → places col < limit o → due o col ≡ false
  low_not_due None h = refl
  low_not_due (Some n) h = rw (lt-leb (limit o) n h) (and-false (endings o))

  module _ (on : endings o ≡ true) (r : Record) (w : Wanted) where
    below_limit : moves w.case (kind_of w.code) ≡ true → places (notes o r (ending_before o r w)).column < limit o
    below_limit h = go (moves w.case (kind_of w.code) && due o r.column) refl
      where
        go : (b : Bool) → (moves w.case (kind_of w.code) && due o r.column) ≡ b → places (notes o r (ending o r b)).column < limit o
        go true e = omega (arith, due_ends r, t.least)
        go false e = not_due r.column on (rw h at e)

    ending_below : (p : Printer) → Below (limit o) (prints_all p (ending_before o r w))
    ending_below p = go (moves w.case (kind_of w.code) && due o r.column)
      where
        go : (b : Bool) → Below (limit o) (prints_all p (ending o r b))
        go true = home_below (limit o) 7 (omega (arith, t.least)) (ending_of o r (until_zero (ending_codes o))) (t.home r) p
        go false = tt

    character_below : (p : Printer) → ColumnSure r.column → Obeys o p (character o r w) → Agrees r p → Below (limit o) (prints_all p (character o r w))
    character_below p sure obeys a =
        let e = ending_before o r w in
        let q = hears p e in
        let cs = send_as o (notes o r e).case w.case w.code in
        let b = agreement o r p e (obeys_append o p e cs obeys).0 a in
        rw (prints_append p e cs, code_prints o (notes o r e) q w.case w.code b)
        (below_append (limit o) (prints_all p e) (prints_as (kind_of w.code) (mark_as (kind_of w.code) w.case q.count w.code)) (ending_below p)
        (mark_below (limit o) (kind_of w.code) w.case q.count w.code
        (λ h. count_below (limit o) (notes o r e).column q.count t.most (ending_keeps o r w sure) b.column (below_limit h))))

-- every space and struck character of an item and of its ending
module _ (o : Settings) (h : sound_settings o ≡ true) (on : endings o ≡ true) where
  pub item_below : (s : Sender) (p : Printer) (w : Wanted) → ColumnSure s.held.column → Obeys o p (item o s w) → Agrees s.held p → Below (limit o) (prints_all p (item o s w))
  item_below s p w sure obeys a =
      item_cases o s w (λ cs. Obeys o p cs → Below (limit o) (prints_all p cs)) (λ h. tt) (λ q. character_below o (sound o h) on s.held w p sure q a) obeys

  pub items_below : (s : Sender) (p : Printer) (ws : List Wanted) → ColumnSure s.held.column → Obeys o p (items o s ws) → Agrees s.held p → Below (limit o) (prints_all p (items o s ws))
  items_below s p [] sure obeys a = tt
  items_below s p (w ∷ ws) sure obeys a =
      let cs = item o s w in
      let t = items o (after_item o s w) ws in
      let both = obeys_append o p cs t obeys in
      rw (prints_append p cs t)
      (below_append (limit o) (prints_all p cs) (prints_all (hears p cs) t) (item_below s p w sure both.0 a)
      (items_below (after_item o s w) (hears p cs) ws (column_told o s (w ∷ []) true (λ h. sure) refl) both.1 (agreement o s.held p cs both.0 a)))
