-- The states that events lead to and the codes that they send to the line, of two lists joined.
-- Assumes nothing.
use Prim.Native.Nat.{ℕ}
use mathlib.Core.Path.{◌≡◌, refl, sym, ap, ◌∙◌}
use mathlib.Core.List.{List, [], ◌∷◌, ◌++◌, append_assoc}
use Rattle.step.specs.Route.{route}
use Rattle.step.specs.Step.{lined, step, Event, run}
use Rattle.linebox.specs.Ends.{events}
use Rattle.demands.specs.Names.{Route, Dropped, ToPrinter, ToHost, ToTu, State, Line}
use Rattle.demands.specs.Lent.{lines}

pub run_append : (s : State) (es fs : List Event) → run s (es ++ fs) ≡ run (run s es) fs
run_append s [] fs = refl
run_append s (e ∷ es) fs = run_append (step e.stream s e.byte).state es fs

pub lines_append : (s : State) (es fs : List Event) → lines s (es ++ fs) ≡ lines s es ++ lines (run s es) fs
lines_append s [] fs = refl
lines_append s (e ∷ es) fs =
    let x = step e.stream s e.byte in
    ap (λ (r : List ℕ). x.line ++ r) (lines_append x.state es fs) ∙ sym (append_assoc x.line (lines x.state es) (lines (run x.state es) fs))

-- a line code sends nothing to the line
pub lined_none : (k : Route) (s : State) (c : ℕ) → (lined k s c).line ≡ []
lined_none Dropped s c = refl
lined_none ToPrinter s c = refl
lined_none ToHost s c = refl
lined_none ToTu s c = refl

pub line_none : (s : State) (xs : List ℕ) → lines s (events Line xs) ≡ []
line_none s [] = refl
line_none s (x ∷ xs) = rw (lined_none (route s.connection Line) s x) (line_none (step Line s x).state xs)
