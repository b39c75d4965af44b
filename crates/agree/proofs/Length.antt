-- How many codes: at most 12 for an ending, 14 for an item and 16 for two. A code added to an ending is paid for by the case then
-- being letters; of two items only one has an ending.
-- Assumes nothing.
use Prim.Native.Nat.{ℕ, ◌+◌, ◌*◌, ◌≤◌, ◌<◌}
use mathlib.Core.Path.{◌≡◌}
use mathlib.Core.Bool.{Bool, true, false, ◌&&◌, and-false}
use mathlib.Core.List.{List, [], ◌∷◌, ◌++◌, append-nil}
use native.Mathlib.Omega.{arith}
use lib.ListN.{length, length-append}
use Rattle.code.specs.Kinds.{kind_of, moves, shifts}
use Rattle.settings.specs.Table.{sound_settings}
use Rattle.settings.specs.Options.{limit, onspace, onreturn, ending_codes}
use Rattle.sender.specs.Record.{notes}
use Rattle.sender.specs.Code.{shift_to, unshift, send_kind, send_as}
use Rattle.sender.specs.Ending.{on_record, ending_code, ending_of, until_zero, due, ending, ending_before}
use Rattle.sender.specs.Item.{character, last_of, item, after_item, items, wanted, wanted_of}
use Rattle.sender.specs.After.{after_unshift, after_case}
use Rattle.sender.proofs.Append.{notes_append}
use Rattle.agree.specs.Names.{Case, Letters, Figures, Kind, Still, Space, Return, Shift, Char, Conversion, Cased, Settings, Record, Wanted, Sender, Option, Some, None}
use Rattle.sender.proofs.After.{record_after}
use Rattle.sender.proofs.Few.{code_length, wanted_few}
use Rattle.agree.proofs.Folds.{item_cases}
use Rattle.agree.proofs.Weights.{weight_code, places, column_reach}
use Rattle.agree.proofs.Home.{Sound, sound}
use Rattle.agree.proofs.Margin.{due_ends, low_not_due}

-- whether a code may be added: not while the case is known to be letters
abbrev unsure : Option Case → ℕ
unsure None = 1
unsure (Some Letters) = 0
unsure (Some Figures) = 1

unsure_most : (n : Option Case) → unsure n ≤ 1
unsure_most None = omega arith
unsure_most (Some Letters) = omega arith
unsure_most (Some Figures) = omega arith

abbrev Paid : Option Case → List ℕ → Option Case → Type 0
Paid n cs then = 2 * length cs + unsure then ≤ 3 + unsure n

paid_unshift : (b : Bool) (n : Option Case) (c : ℕ) → Paid n (c ∷ shifts (unshift b n)) (after_unshift b n)
paid_unshift false n c = omega arith
paid_unshift true None c = omega arith
paid_unshift true (Some Letters) c = omega arith
paid_unshift true (Some Figures) c = omega arith

paid_shift : (n : Option Case) (c : ℕ) → Paid n (shifts (shift_to n (on_record n)) ++ c ∷ []) (Some (on_record n))
paid_shift None c = omega arith
paid_shift (Some Letters) c = omega arith
paid_shift (Some Figures) c = omega arith

paid_kind : (o : Settings) (n : Option Case) (c : ℕ) (k : Kind) → Paid n (send_kind o n (on_record n) k c) (after_case o n (on_record n) k)
paid_kind o n c Still = omega arith
paid_kind o n c Space = paid_unshift (onspace o) n c
paid_kind o n c Return = paid_unshift (onreturn o) n c
paid_kind o n c (Shift to) = omega (arith, unsure_most (Some to))
paid_kind o n c (Char bell) = paid_shift n c

paid : (o : Settings) (r : Record) (c : ℕ) → Paid r.case (ending_code o r.case c) (notes o r (ending_code o r.case c)).case
paid o r c = rw (record_after o r (on_record r.case) c) (paid_kind o r.case c (kind_of c))

-- half as many again as the string has, and one half more
ending_length : (o : Settings) (r : Record) (cs : List ℕ) → 2 * length (ending_of o r cs) ≤ 3 * length cs + unsure r.case
ending_length o r [] = omega arith
ending_length o r (c ∷ cs) =
    let s = ending_code o r.case c in
    rw (length-append s (ending_of o (notes o r s) cs)) (omega (arith, paid o r c, ending_length o (notes o r s) cs))

module _ (o : Settings) (t : Sound o) where
  pub ending_most : (r : Record) (b : Bool) → length (ending o r b) ≤ 12
  ending_most r true = omega (arith, ending_length o r (until_zero (ending_codes o)), t.short, unsure_most r.case)
  ending_most r false = omega arith

  item_most : (s : Sender) (w : Wanted) → length (item o s w) ≤ 14
  item_most s w =
      let e = ending_before o s.held w in
      let n = (notes o s.held e).case in
      item_cases o s w (λ cs. length cs ≤ 14) (omega arith)
      (rw (length-append e (send_as o n w.case w.code))
      (omega (arith, ending_most s.held (moves w.case (kind_of w.code) && due o s.held.column), code_length o n w.case w.code)))

  -- with no ending due
  item_short : (s : Sender) (w : Wanted) → due o s.held.column ≡ false → length (item o s w) ≤ 2
  item_short s w h =
      let e : character o s.held w ≡ send_as o s.held.case w.case w.code = rw (h, and-false (moves w.case (kind_of w.code))) in
      item_cases o s w (λ cs. length cs ≤ 2) (omega arith) (rw e (code_length o s.held.case w.case w.code))

  two_most : (s : Sender) (w v : Wanted) → length (item o s w) + length (item o (after_item o s w) v) ≤ 16
  two_most s w v = item_cases o s w P (omega (arith, item_most (after []) v)) (go (moves w.case (kind_of w.code) && due o s.held.column))
    where
      after : List ℕ → Sender
      after cs = record { held = notes o s.held cs; last = last_of (kind_of w.code) }

      P : List ℕ → Type 0
      P cs = length cs + length (item o (after cs) v) ≤ 16

      go : (b : Bool) → let e = ending o s.held b in P (e ++ send_as o (notes o s.held e).case w.case w.code)
      go true =
          let e = ending o s.held true in
          let r = notes o s.held e in
          let x = send_as o r.case w.case w.code in
          let col = (notes o s.held (e ++ x)).column in
          let low : places col < limit o = rw (notes_append o s.held e x) (omega (arith, due_ends o t s.held, column_reach o r x, weight_code o r.case w.case w.code, t.least)) in
          let short = item_short (after (e ++ x)) v (low_not_due o t col low) in
          omega (arith, length-append e x, ending_most s.held true, code_length o r.case w.case w.code, short)
      go false =
          let x = send_as o s.held.case w.case w.code in
          omega (arith, code_length o s.held.case w.case w.code, item_most (after x) v)

module _ (o : Settings) (h : sound_settings o ≡ true) where
  pub item_length : (s : Sender) (w : Wanted) → length (item o s w) ≤ 14
  item_length s w = item_most o (sound o h) s w

  pub items_length : (s : Sender) (ws : List Wanted) → length ws ≤ 2 → length (items o s ws) ≤ 16
  items_length s [] few = omega arith
  items_length s (w ∷ []) few = rw (append-nil (item o s w)) (omega (arith, item_length s w))
  items_length s (w ∷ v ∷ []) few =
      let u = after_item o s w in
      rw (append-nil (item o u v), length-append (item o s w) (item o u v)) (two_most o (sound o h) s w v)
  items_length s (w ∷ v ∷ u ∷ ws) few = absurd (omega arith)

  -- two text bytes, as a released `/` and the byte after it
  pub texts_length : (s : Sender) (x y : Conversion) → length (items o s (wanted_of x ++ wanted_of y)) ≤ 16
  texts_length s x y = items_length s (wanted_of x ++ wanted_of y) (rw (length-append (wanted_of x) (wanted_of y)) (omega (arith, wanted_few x, wanted_few y)))

  pub slash_length : (s : Sender) (y : Conversion) → length (items o s (wanted Figures 29 ∷ wanted_of y)) ≤ 16
  slash_length s y = texts_length s (Cased Figures 29) y
