-- After a whole code in its wanted case, the fold over what was sent gives the paper's own words.
-- Assumes nothing.
use Prim.Native.Nat.{ℕ}
use mathlib.Core.Path.{◌≡◌, refl}
use mathlib.Core.Bool.{Bool, true, false, cond}
use mathlib.Core.List.{List, [], ◌∷◌, ◌++◌}
use Rattle.code.specs.Kinds.{kind_of, shifts, strikes}
use Rattle.code.proofs.Laws.{kind_shift}
use Rattle.settings.specs.Options.{onspace, onreturn}
use Rattle.sender.specs.Record.{note_unshift, next, note_char, notes}
use Rattle.sender.specs.Code.{shift_to, unshift, send_kind, send_as}
use Rattle.sender.specs.After.{after_unshift, after}
use Rattle.sender.specs.Names.{Case, Letters, Figures, Kind, Still, Space, Return, Shift, Char, Settings, Record, Option, Some, None}

abbrev held : Option Case → Option ℕ → Record
held n col = record { case = n; column = col }

unshift_after : (o : Settings) (b : Bool) (n : Option Case) (col : Option ℕ) → notes o (held (note_unshift b n) col) (shifts (unshift b n)) ≡ held (after_unshift b n) col
unshift_after o false n col = refl
unshift_after o true None col = rw (kind_shift Letters)
unshift_after o true (Some Letters) col = refl
unshift_after o true (Some Figures) col = rw (kind_shift Letters)

shift_after : (o : Settings) (n : Option Case) (want : Case) (col : Option ℕ) (cs : List ℕ) → notes o (held n col) (shifts (shift_to n want) ++ cs) ≡ notes o (held (Some want) col) cs
shift_after o None want col cs = rw (kind_shift want)
shift_after o (Some Letters) Letters col cs = refl
shift_after o (Some Letters) Figures col cs = rw (kind_shift Figures)
shift_after o (Some Figures) Letters col cs = rw (kind_shift Letters)
shift_after o (Some Figures) Figures col cs = refl

char_after : (bell : Bool) (want : Case) (col : Option ℕ) → note_char bell (Some want) col ≡ cond (strikes bell want) (next col) col
char_after false want col = refl
char_after true Letters col = refl
char_after true Figures col = refl

pub record_after : (o : Settings) (r : Record) (want : Case) (c : ℕ) → notes o r (send_as o r.case want c) ≡ after o r want (kind_of c)
record_after o r want c = go (kind_of c) refl
  where
    go : (k : Kind) → kind_of c ≡ k → notes o r (send_kind o r.case want k c) ≡ after o r want k
    go Still e = rw e
    go Space e = rw (e, notes) (unshift_after o (onspace o) r.case (next r.column))
    go Return e = rw (e, notes) (unshift_after o (onreturn o) r.case (Some 0))
    go (Shift to) e = rw e
    go (Char bell) e = rw (shift_after o r.case want r.column (c ∷ []), e, char_after bell want r.column)
