-- Agreement is kept by one code, so by all that is ever sent.
-- Assumes nothing.
use Prim.Native.Nat.{ℕ, ◌+◌}
use mathlib.Core.Path.{◌≡◌, refl}
use mathlib.Core.Bool.{Bool, true, false, false≢true}
use mathlib.Core.List.{List, [], ◌∷◌}
use native.Mathlib.Omega.{arith}
use Rattle.code.specs.Kinds.{kind_of, strikes}
use Rattle.settings.specs.Options.{onspace, onreturn}
use Rattle.printer.specs.Printer.{unshifted, hear_case, advanced, hear_count, hear_kind, hear, hears}
use Rattle.sender.specs.Record.{unknown, note_unshift, note_case, next, note_char, note_column, note_kind, note, notes}
use Rattle.agree.specs.Names.{Case, Letters, Figures, Kind, Still, Space, Return, Shift, Char, Settings, Printer, Record, Option, Some, None}
use Rattle.agree.specs.Agrees.{CaseAgrees, ColumnAgrees, Agrees, ObeysAt, Obeys}

unshift_kept : (own option : Bool) (n : Option Case) (case : Case) → (own ≡ true → option ≡ true) → CaseAgrees n case → CaseAgrees (note_unshift option n) (unshifted own case)
unshift_kept false false n case obeys a = a
unshift_kept true false n case obeys a = absurd (false≢true (obeys refl))
unshift_kept own true None case obeys a = tt
unshift_kept own true (Some Figures) case obeys a = tt
unshift_kept false true (Some Letters) case obeys a = a
unshift_kept true true (Some Letters) case obeys a = refl

next_kept : (col : Option ℕ) (count : ℕ) → ColumnAgrees col count → ColumnAgrees (next col) (count + 1)
next_kept None count a = tt
next_kept (Some n) count a = omega arith

char_kept : (bell : Bool) (n : Option Case) (case : Case) (col : Option ℕ) (count : ℕ) → CaseAgrees n case → ColumnAgrees col count → ColumnAgrees (note_char bell n col) (advanced (strikes bell case) count)
char_kept false n case col count a b = next_kept col count b
char_kept true None case col count a b = tt
char_kept true (Some Letters) case col count a b = rw (← a) (next_kept col count b)
char_kept true (Some Figures) case col count a b = rw (← a) b

module _ (o : Settings) (r : Record) (p : Printer) (a : Agrees r p) where
  case_kept : (k : Kind) → ObeysAt o p k → CaseAgrees (note_case o r.case k) (hear_case p k)
  case_kept Still obeys = a.case
  case_kept Space obeys = unshift_kept p.onspace (onspace o) r.case p.case obeys a.case
  case_kept Return obeys = unshift_kept p.onreturn (onreturn o) r.case p.case obeys a.case
  case_kept (Shift to) obeys = refl
  case_kept (Char bell) obeys = a.case

  column_kept : (k : Kind) → ColumnAgrees (note_column r.case r.column k) (hear_count p k)
  column_kept Still = a.column
  column_kept Space = next_kept r.column p.count a.column
  column_kept Return = refl
  column_kept (Shift to) = a.column
  column_kept (Char bell) = char_kept bell r.case p.case r.column p.count a.case a.column

  pub kind_kept : (k : Kind) → ObeysAt o p k → Agrees (note_kind o r k) (hear_kind p k)
  kind_kept k obeys = record { case = case_kept k obeys; column = column_kept k }

-- a code, an ending, an item: whatever goes out
pub agreement : (o : Settings) (r : Record) (p : Printer) (cs : List ℕ) → Obeys o p cs → Agrees r p → Agrees (notes o r cs) (hears p cs)
agreement o r p [] obeys a = a
agreement o r p (c ∷ cs) obeys a = agreement o (note o r c) (hear p c) cs obeys.1 (kind_kept o r p a (kind_of c) obeys.0)

-- on connection any printer agrees
pub unknown_agrees : (p : Printer) → Agrees unknown p
unknown_agrees p = record { case = tt; column = tt }
