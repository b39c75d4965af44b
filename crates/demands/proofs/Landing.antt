-- With 49 on, what lands after the first return lands below the limit: with the column on record all of it does, and without it an
-- item has no ending, so nothing lands after its return.
-- Assumes nothing.
use Prim.Native.Nat.{ℕ}
use mathlib.Core.Path.{◌≡◌, refl}
use mathlib.Core.Bool.{Bool, true, false, cond, ◌||◌, false≢true, and-false, or-false, or_assoc}
use mathlib.Core.List.{List, [], ◌∷◌, ◌++◌, append-nil}
use Rattle.code.specs.Kinds.{kind_of, shifts}
use Rattle.code.proofs.Laws.{kind_shift}
use Rattle.settings.specs.Table.{sound_settings}
use Rattle.settings.specs.Options.{endings, limit, onspace, onreturn}
use Rattle.printer.specs.Printer.{hear, hears, prints, prints_all}
use Rattle.sender.specs.Code.{is_case, unshift, send_kind, send_as}
use Rattle.sender.specs.Ending.{ending_before}
use Rattle.sender.specs.Item.{character, item, after_item, items}
use Rattle.agree.specs.Agrees.{Agrees, Obeys}
use Rattle.agree.specs.Margin.{Below}
use Rattle.agree.specs.Sure.{ColumnSure, is_return, holds}
use Rattle.agree.proofs.Agreement.{agreement}
use Rattle.agree.proofs.Folds.{prints_shifts, obeys_append, item_cases}
use Rattle.agree.proofs.Told.{column_told}
use Rattle.agree.proofs.Margin.{item_below}
use Rattle.demands.specs.Names.{Case, Kind, Still, Space, Return, Shift, Char, Settings, Record, Wanted, Sender, Printer, Mark, Option, Some, None}
use Rattle.demands.specs.Printing.{Within}

below_split : (limit : ℕ) (xs ys : List Mark) → Below limit (xs ++ ys) → Below limit xs × Below limit ys
below_split limit [] ys h = (tt, h)
below_split limit (x ∷ xs) ys h = let t = below_split limit xs ys h.1 in ((h.0, t.0), t.1)

module _ (limit : ℕ) where
  -- all of it below is enough
  below_within : (b : Bool) (p : Printer) (cs : List ℕ) → Below limit (prints_all p cs) → Within limit b p cs
  below_within b p [] h = tt
  below_within b p (c ∷ cs) h =
      let t = below_split limit (prints p c) (prints_all (hear p c) cs) h in
      (λ (r : b ≡ true). t.0, below_within (b || is_return (kind_of c)) (hear p c) cs t.1)

  within_append : (b : Bool) (p : Printer) (xs ys : List ℕ) → Within limit b p xs → Within limit (b || holds is_return xs) (hears p xs) ys → Within limit b p (xs ++ ys)
  within_append b p [] ys h t = rw or-false at t
  within_append b p (x ∷ xs) ys h t = (h.0, within_append (b || is_return (kind_of x)) (hear p x) xs ys h.1 (rw (← or_assoc b (is_return (kind_of x)) (holds is_return xs)) at t))

  shifts_within : (b : Bool) (p : Printer) (ts : List Case) → Within limit b p (shifts ts)
  shifts_within b p ts = below_within b p (shifts ts) (rw (prints_shifts p ts) tt)

  none : {A : Type 0} → false ≡ true → A
  none h = absurd (false≢true h)

  shifted_within : (p : Printer) (want : Case) (c : ℕ) (b : Bool) → Within limit false p (shifts (cond b [] (want ∷ [])) ++ c ∷ [])
  shifted_within p want c true = (none, tt)
  shifted_within p want c false = (none, ((λ h. none (rw (kind_shift want) at h)), tt))

  -- no return before it, and none in it that anything lands after
  code_within : (o : Settings) (n : Option Case) (p : Printer) (want : Case) (c : ℕ) → Within limit false p (send_as o n want c)
  code_within o n p want c = go (kind_of c)
    where
      go : (k : Kind) → Within limit false p (send_kind o n want k c)
      go Still = (none, tt)
      go Space = (none, shifts_within (is_return (kind_of c)) (hear p c) (unshift (onspace o) n))
      go Return = (none, shifts_within (is_return (kind_of c)) (hear p c) (unshift (onreturn o) n))
      go (Shift to) = (none, tt)
      go (Char bell) = shifted_within p want c (is_case n want)

-- with the column unknown no ending is due
unknown_within : (limit : ℕ) (o : Settings) (r : Record) (p : Printer) (w : Wanted) → r.column ≡ None → Within limit false p (character o r w)
unknown_within limit o r p w e =
    let d : ending_before o r w ≡ [] = rw (e, and-false) in
    rw d (code_within limit o r.case p w.case w.code)

module _ (o : Settings) (h : sound_settings o ≡ true) (on : endings o ≡ true) where
  item_within : (s : Sender) (p : Printer) (w : Wanted) (b : Bool) → (b ≡ true → ColumnSure s.held.column) → Obeys o p (item o s w) → Agrees s.held p → Within (limit o) b p (item o s w)
  item_within s p w b sure obeys a = go s.held.column refl b sure
    where
      known : (b : Bool) → ColumnSure s.held.column → Within (limit o) b p (item o s w)
      known b f = below_within (limit o) b p (item o s w) (item_below o h on s p w f obeys a)

      go : (col : Option ℕ) → s.held.column ≡ col → (b : Bool) → (b ≡ true → ColumnSure s.held.column) → Within (limit o) b p (item o s w)
      go (Some n) e b sure = known b (rw e tt)
      go None e true sure = known true (sure refl)
      go None e false sure = item_cases o s w (Within (limit o) false p) tt (unknown_within (limit o) o s.held p w e)

  -- many items, each with the column known as soon as a return was sent
  pub items_within : (s : Sender) (p : Printer) (ws : List Wanted) (b : Bool) → (b ≡ true → ColumnSure s.held.column) → Obeys o p (items o s ws) → Agrees s.held p → Within (limit o) b p (items o s ws)
  items_within s p [] b sure obeys a = tt
  items_within s p (w ∷ ws) b sure obeys a =
      let cs = item o s w in
      let both = obeys_append o p cs (items o (after_item o s w) ws) obeys in
      let after : (b || holds is_return cs) ≡ true → ColumnSure (after_item o s w).held.column = λ q. column_told o s (w ∷ []) b sure (rw (append-nil cs) q) in
      within_append (limit o) b p cs (items o (after_item o s w) ws) (item_within s p w b sure both.0 a)
      (items_within (after_item o s w) (hears p cs) ws (b || holds is_return cs) after both.1 (agreement o s.held p cs both.0 a))
