-- The story of a box and its printers: what they hear, and when they are obedient.
use Rattle.std.specs.Prelude.{ℕ, suc, Bool, false, cond, ◌||◌, List, [], ◌∷◌}
use Rattle.printer.specs.Printer.{hears}
use Rattle.agree.specs.Agrees.{Obeys}
use Rattle.agree.specs.Sure.{is_return, holds}
use Rattle.step.specs.State.{fresh_box}
use Rattle.step.specs.Step.{Step, step, Event}
use Rattle.demands.specs.Names.{Printer, State}
use Rattle.demands.specs.Writes.{connects}

-- the box, the printer on its line, and whether a return was sent since the last connection
pub record Scene : Type 0 where
  pub state : State
  pub printer : Printer
  pub returned : Bool

abbrev pub start : Printer → Scene
start p = record { state = fresh_box; printer = p; returned = false }

abbrev pub does : Scene → Event → Step
does x e = step e.stream x.state e.byte

-- the printer hears what goes to the line; if the byte connects, another takes the line, any one, in any case at any place
abbrev pub turned : Scene → Event → Printer → Scene
turned x e other = record {
  state = (does x e).state;
  printer = cond (connects x.state e) other (hears x.printer (does x e).line);
  returned = cond (connects x.state e) false (x.returned || holds is_return (does x e).line);
}

-- Bytes taken, counted from n: the printer `joining n` takes the line if the n-th connects.

-- the one premise: a printer unshifts by itself on a space or a return only if the option is on whenever one is sent
abbrev pub Obedient : (ℕ → Printer) → ℕ → Scene → List Event → Type 0
Obedient joining n x [] = Unit {0}
Obedient joining n x (e ∷ es) = Obeys x.state.settings x.printer (does x e).line × Obedient joining (suc n) (turned x e (joining n)) es
