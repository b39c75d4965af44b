-- A code in its wanted case prints its character, and the shifts around it print nothing.
-- Assumes nothing.
use Prim.Native.Nat.{ℕ}
use mathlib.Core.Path.{◌≡◌, refl, ap}
use mathlib.Core.List.{List, [], ◌∷◌, ◌++◌}
use Rattle.code.specs.Kinds.{kind_of, dependent, shifts}
use Rattle.code.proofs.Laws.{kind_shift, alike}
use Rattle.settings.specs.Options.{onspace, onreturn}
use Rattle.printer.specs.Printer.{hear_kind, from, mark_as, prints_as, prints_all}
use Rattle.sender.specs.Code.{shift_to, unshift, send_kind, send_as}
use Rattle.agree.specs.Names.{Case, Letters, Figures, Kind, Still, Space, Return, Shift, Char, Settings, Printer, Record, Option, Some, None}
use Rattle.agree.specs.Agrees.{CaseAgrees, Agrees}
use Rattle.agree.proofs.Folds.{prints_shifts}

-- the shift that goes first prints nothing, and the printer is then in the wanted case
shift_turns : (n : Option Case) (want : Case) (p : Printer) (cs : List ℕ) → CaseAgrees n p.case → prints_all p (shifts (shift_to n want) ++ cs) ≡ prints_all (from want p.count p.onspace p.onreturn) cs
shift_turns None want p cs a = rw (kind_shift want)
shift_turns (Some Letters) Letters p cs a = rw a
shift_turns (Some Letters) Figures p cs a = rw (kind_shift Figures)
shift_turns (Some Figures) Letters p cs a = rw (kind_shift Letters)
shift_turns (Some Figures) Figures p cs a = rw a

-- a code in its wanted case prints as that case's row says; the shifts around it print nothing
pub code_prints : (o : Settings) (r : Record) (p : Printer) (want : Case) (c : ℕ) → Agrees r p → prints_all p (send_as o r.case want c) ≡ prints_as (kind_of c) (mark_as (kind_of c) want p.count c)
code_prints o r p want c a = go (kind_of c) refl
  where
    go : (k : Kind) → kind_of c ≡ k → prints_all p (send_kind o r.case want k c) ≡ prints_as k (mark_as k want p.count c)
    go Still e = rw (e, alike c p.case want (ap dependent e))
    go Space e = rw (e, alike c p.case want (ap dependent e), prints_shifts (hear_kind p Space) (unshift (onspace o) r.case))
    go Return e = rw (e, alike c p.case want (ap dependent e), prints_shifts (hear_kind p Return) (unshift (onreturn o) r.case))
    go (Shift to) e = rw e
    go (Char bell) e = rw (shift_turns r.case want p (c ∷ []) a.case, e)
