-- How far codes carry a carriage: each kind has a weight, and an ending weighs at most its string's length.
-- Assumes nothing.
use Prim.Native.Nat.{ℕ, ◌+◌, ◌≤◌}
use mathlib.Core.Path.{◌≡◌, refl}
use mathlib.Core.Bool.{Bool, true, false}
use mathlib.Core.List.{List, [], ◌∷◌, ◌++◌}
use native.Mathlib.Omega.{arith}
use lib.ListN.{length}
use Rattle.code.specs.Kinds.{kind_of, strikes, shifts}
use Rattle.code.proofs.Laws.{kind_shift}
use Rattle.settings.specs.Options.{onspace, onreturn}
use Rattle.printer.specs.Printer.{advanced, hear_count}
use Rattle.sender.specs.Record.{next, note_char, note_column, note, notes}
use Rattle.sender.specs.Code.{shift_to, unshift, send_kind, send_as}
use Rattle.sender.specs.Ending.{on_record, ending_code, ending_of}
use Rattle.agree.specs.Names.{Case, Letters, Figures, Kind, Still, Space, Return, Shift, Char, Settings, Printer, Record, Option, Some, None}

-- what a code moves the carriage at most
abbrev pub weight_at : Kind → ℕ
weight_at Still = 0
weight_at Space = 1
weight_at Return = 0
weight_at (Shift to) = 0
weight_at (Char bell) = 1

abbrev pub weight : List ℕ → ℕ
weight [] = 0
weight (c ∷ cs) = weight_at (kind_of c) + weight cs

-- An ending weighs at most its string's length.

pub weight_append : (xs ys : List ℕ) → weight (xs ++ ys) ≡ weight xs + weight ys
weight_append [] ys = omega arith
weight_append (x ∷ xs) ys = omega (arith, weight_append xs ys)

pub weight_shifts : (ts : List Case) → weight (shifts ts) ≡ 0
weight_shifts [] = refl
weight_shifts (to ∷ ts) = rw (kind_shift to, weight_shifts ts)

pub weight_code : (o : Settings) (n : Option Case) (want : Case) (c : ℕ) → weight (send_as o n want c) ≤ 1
weight_code o n want c = go (kind_of c) refl
  where
    go : (k : Kind) → kind_of c ≡ k → weight (send_kind o n want k c) ≤ 1
    go Still e = rw e (omega arith)
    go Space e = rw (e, weight_shifts (unshift (onspace o) n)) (omega arith)
    go Return e = rw (e, weight_shifts (unshift (onreturn o) n)) (omega arith)
    go (Shift to) e = rw e (omega arith)
    go (Char bell) e = rw (weight_append (shifts (shift_to n want)) (c ∷ []), weight_shifts (shift_to n want), e) (omega arith)

pub weight_ending : (o : Settings) (r : Record) (cs : List ℕ) → weight (ending_of o r cs) ≤ length cs
weight_ending o r [] = omega arith
weight_ending o r (c ∷ cs) =
    let s = ending_code o r.case c in
    rw (weight_append s (ending_of o (notes o r s) cs)) (omega (arith, weight_code o r.case (on_record r.case) c, weight_ending o (notes o r s) cs))

-- The printer's carriage, and the column on record.

advanced_by : (b : Bool) (n : ℕ) → advanced b n ≤ n + 1
advanced_by true n = omega arith
advanced_by false n = omega arith

pub count_by : (p : Printer) (k : Kind) → hear_count p k ≤ p.count + weight_at k
count_by p Still = omega arith
count_by p Space = omega arith
count_by p Return = omega arith
count_by p (Shift to) = omega arith
count_by p (Char bell) = advanced_by (strikes bell p.case) p.count

-- no ending is due while the column is unknown
abbrev pub places : Option ℕ → ℕ
places None = 0
places (Some n) = n

next_by : (col : Option ℕ) → places (next col) ≤ places col + 1
next_by None = omega arith
next_by (Some n) = omega arith

char_by : (bell : Bool) (n : Option Case) (col : Option ℕ) → places (note_char bell n col) ≤ places col + 1
char_by false n col = next_by col
char_by true None col = omega arith
char_by true (Some Letters) col = next_by col
char_by true (Some Figures) col = omega arith

column_by : (n : Option Case) (col : Option ℕ) (k : Kind) → places (note_column n col k) ≤ places col + weight_at k
column_by n col Still = omega arith
column_by n col Space = next_by col
column_by n col Return = omega arith
column_by n col (Shift to) = omega arith
column_by n col (Char bell) = char_by bell n col

pub column_reach : (o : Settings) (r : Record) (cs : List ℕ) → places (notes o r cs).column ≤ places r.column + weight cs
column_reach o r [] = omega arith
column_reach o r (c ∷ cs) = omega (arith, column_reach o (note o r c) cs, column_by r.case r.column (kind_of c))
