-- What one byte of each stream does: the state after it, and what goes to the line, to the host and to the TU.
use Rattle.std.specs.Prelude.{ℕ, Bool, true, cond, List, [], ◌∷◌}
use Rattle.code.specs.Rows.{row_at}
use Rattle.code.specs.Kinds.{kind_of}
use Rattle.message.specs.Message.{framed}
use Rattle.command.specs.Read.{read, text_of}
use Rattle.settings.specs.Command.{commanded}
use Rattle.settings.specs.Options.{reports}
use Rattle.sender.specs.Reading.{read_case}
use Rattle.sender.specs.Item.{items, after_items, wanted, wanted_text}
use Rattle.step.specs.Names.{Case, Kind, Still, Space, Return, Shift, Char, Out, Nothing, One, Two, Finished, Route, Dropped, ToPrinter, ToHost, ToTu, Settings, Outcome, Wanted, State, Stream, Host, Line, Tu}
use Rattle.step.specs.Route.{route}
use Rattle.step.specs.State.{with_reader, with_sender, with_reading, with_incoming, with_motor, with_stored}
use Rattle.step.specs.Hear.{motor_after, told_of}

pub record Step : Type 0 where
  pub state : State
  pub line : List ℕ
  pub host : List ℕ
  pub tu : List ℕ

-- taken and dropped
abbrev pub quiet : State → Step
quiet s = record { state = s; line = []; host = []; tu = [] }

-- items to the line, which the motor hears
abbrev pub sends : State → List Wanted → Step
sends s ws = record { state = with_motor (with_sender s (after_items s.settings s.sender ws)) (motor_after s ws); line = items s.settings s.sender ws; host = told_of s ws; tu = [] }

-- Host bytes.

-- host text on its route: to the printer, or dropped
abbrev pub text : Settings → Route → List ℕ → List Wanted
text o Dropped bs = []
text o ToPrinter bs = wanted_text o bs
text o ToHost bs = []
text o ToTu bs = []

-- the text that the command reader made of a byte
abbrev pub texted : State → Out → Step
texted s out = sends s (text s.settings (route s.connection Host) (text_of out))

-- commands work in every mode; the answer goes to the host
abbrev pub obeys : State → Outcome → Step
obeys s o = record { state = with_stored s o.stored; line = []; host = framed o.numbers; tu = [] }

-- what the command reader made of the byte; a finished command's fields stand in the reader before it
abbrev pub hosted : State → List ℕ → Out → Step
hosted s fields Nothing = quiet s
hosted s fields (One b) = texted s (One b)
hosted s fields (Two b) = texted s (Two b)
hosted s fields (Finished v count) = obeys s (commanded s.settings s.calling s.connection v count fields)

abbrev pub host_step : State → ℕ → Step
host_step s b = hosted (with_reader s (read s.reader b).reader) s.reader.values (read s.reader b).out

-- Line codes.

-- 27 and 31 give SO and SI if option 74 is on, otherwise nothing
abbrev pub is_read : Bool → Kind → Bool
is_read reports Still = true
is_read reports Space = true
is_read reports Return = true
is_read reports (Shift to) = reports
is_read reports (Char bell) = true

abbrev pub read_as : Bool → Case → Kind → ℕ → List ℕ
read_as reports case k c = cond (is_read reports k) (row_at case c ∷ []) []

-- line codes on their route: each read for the host in the case before it, or to the TU unchanged
abbrev pub lined : Route → State → ℕ → Step
lined Dropped s c = quiet s
lined ToPrinter s c = quiet s
lined ToHost s c = record { state = with_reading s (read_case s.settings s.reading (kind_of c)); line = []; host = read_as (reports s.settings) s.reading (kind_of c) c; tu = [] }
lined ToTu s c = record { state = s; line = []; host = []; tu = c ∷ [] }

abbrev pub line_step : State → ℕ → Step
line_step s c = lined (route s.connection Line) s c

-- TU codes.

-- an item, the wanted case being the incoming reading case
abbrev pub carried : State → ℕ → Step
carried s c = sends (with_incoming s (read_case s.settings s.incoming (kind_of c))) (wanted s.incoming c ∷ [])

-- TU codes on their route
abbrev pub tued : Route → State → ℕ → Step
tued Dropped s c = quiet s
tued ToPrinter s c = carried s c
tued ToHost s c = quiet s
tued ToTu s c = quiet s

abbrev pub tu_step : State → ℕ → Step
tu_step s c = tued (route s.connection Tu) s c

-- One byte of a stream, and many.

abbrev pub step : Stream → State → ℕ → Step
step Host s b = host_step s b
step Line s c = line_step s c
step Tu s c = tu_step s c

-- An event is a byte of a stream; many events are run one after the other.

pub record Event : Type 0 where
  pub stream : Stream
  pub byte : ℕ

-- the state after events
abbrev pub run : State → List Event → State
run s [] = s
run s (e ∷ es) = run (step e.stream s e.byte).state es

-- what each event did
abbrev pub steps : State → List Event → List Step
steps s [] = []
steps s (e ∷ es) = step e.stream s e.byte ∷ steps (step e.stream s e.byte).state es
