-- The items of a byte, each a code in its wanted case.
use Rattle.std.specs.Prelude.{ℕ, List, [], ◌∷◌}
use Rattle.command.specs.Read.{read, text_of}
use Rattle.sender.specs.Item.{wanted}
use Rattle.step.specs.Route.{route}
use Rattle.step.specs.Step.{text, Event}
use Rattle.demands.specs.Names.{Route, Dropped, ToPrinter, ToHost, ToTu, Wanted, State, Stream, Host, Line, Tu}

abbrev pub carried_to : Route → State → ℕ → List Wanted
carried_to Dropped s c = []
carried_to ToPrinter s c = wanted s.incoming c ∷ []
carried_to ToHost s c = []
carried_to ToTu s c = []

abbrev pub items_by : Stream → State → ℕ → List Wanted
items_by Host s b = text s.settings (route s.connection Host) (text_of (read s.reader b).out)
items_by Line s c = []
items_by Tu s c = carried_to (route s.connection Tu) s c

abbrev pub items_of : State → Event → List Wanted
items_of s e = items_by e.stream s e.byte
