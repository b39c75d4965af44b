-- What the calls of the traced lines start with.
use Rattle.std.specs.Prelude.{ℕ, Bool, List, get_or, replicate, Some, None}
use Rattle.laws.specs.Written.{fronted}
use Rattle.settings.specs.Command.{kept, with_value}
use Rattle.step.specs.declared.State.{State}
use Rattle.step.specs.State.{with_stored}
use Rattle.step.specs.declared.Stream.{Stream}
use Rattle.step.specs.declared.Stream.TheVariants.{Host, Line, Tu}
use Rattle.entries.specs.declared.text.Form.{Form}
use Rattle.entries.specs.declared.text.Form.TheVariants.{Escaped, Decimal}
use Rattle.entries.specs.declared.traces.Start.{Start}
use Rattle.entries.specs.declared.traces.Ran.{Ran}
use Rattle.entries.specs.Text.{before_bar, after_bar, decoded}

-- a box with ample room
abbrev pub ready : State → Start
ready state = record { state = state; first = 255; second = 255; from = 0 }

-- the box after a vector that is as expected, or differs
abbrev pub judged : Bool → State → Ran
judged same state = record { same = Some same; next = ready state }

-- a line that is no vector
abbrev pub prepared : Start → Ran
prepared b = record { same = None; next = b }

-- what a stream takes: host bytes, or codes
abbrev pub form_taken : Stream → Form
form_taken Host = Escaped
form_taken Line = Decimal
form_taken Tu = Decimal

-- its call's first buffer
abbrev pub form_first : Stream → Form
form_first Host = Decimal
form_first Line = Escaped
form_first Tu = Decimal

-- and its second
abbrev pub form_second : Stream → Form
form_second Host = Escaped
form_second Line = Decimal
form_second Tu = Escaped

-- the numbers of a line's first field, in so many places
abbrev pub numbers_in : ℕ → List ℕ → List ℕ
numbers_in n s = fronted (replicate n 0) (decoded Decimal (before_bar (after_bar s)) n)

-- the next call lends these rooms and starts from this count
abbrev pub lending : Start → List ℕ → Start
lending b s = record { state = b.state; first = get_or (numbers_in 3 s) 0 0; second = get_or (numbers_in 3 s) 1 0; from = get_or (numbers_in 3 s) 2 0 }

-- the box with that number in option 50, which has place 1, sound or not
abbrev pub limited : Start → List ℕ → Start
limited b s = ready (with_stored b.state (kept (with_value b.state.settings 1 (get_or (numbers_in 1 s) 0 0)) b.state.calling b.state.connection))
