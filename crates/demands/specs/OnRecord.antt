-- Demand 2, of the record: what was sent puts the column and the case on record, until a connection.
use Rattle.std.specs.Prelude.{◌≡◌, true, false, List, [], ◌∷◌}
use Rattle.agree.specs.Sure.{ColumnSure, CaseSure, is_return, is_cased, holds}
use Rattle.step.specs.Step.{step, Event, run}
use Rattle.demands.specs.Names.{State}
use Rattle.demands.specs.Lent.{lines}
use Rattle.demands.specs.Writes.{connects}

-- at none of the events does a connection command succeed
abbrev pub Unconnected : State → List Event → Type 0
Unconnected s [] = Unit {0}
Unconnected s (e ∷ es) = (connects s e ≡ false) × Unconnected (step e.stream s e.byte).state es

-- after a return sent the column is on record; after a shift, or a code that depends on case, the case
pub record OnRecord (s : State) (es : List Event) : Type 0 where
  pub column : holds is_return (lines s es) ≡ true → ColumnSure (run s es).sender.held.column
  pub case : holds is_cased (lines s es) ≡ true → CaseSure (run s es).sender.held.case
