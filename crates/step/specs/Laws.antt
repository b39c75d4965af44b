-- What the laws of the box speak of.
use Rattle.std.specs.Prelude.{ℕ, ◌≤◌, ◌≡◌, Bool, true, false, ◌&&◌, ◌||◌, length}
use Rattle.settings.specs.Laws.{Sound}
use Rattle.motor.specs.Motor.{resting, sound_motor}
use Rattle.command.specs.Read.{sound_stage}
use Rattle.step.specs.Names.{Letters, Calling, Connection, State, Stream, Host, Line, Tu, ToPrinter, ToHost}
use Rattle.step.specs.Route.{route, is_printer}
use Rattle.step.specs.Hear.{listens}
use Rattle.step.specs.Step.{Step}

-- the parts of a sound state: settings and connection, a command reader no further than twelve fields, its eleven places, and a sound
-- motor
pub record Parts (s : State) : Type 0 where
  pub held : Sound s.settings s.calling s.connection
  pub stage : sound_stage s.reader.stage ≡ true
  pub eleven : length s.reader.values ≡ 11
  pub motor : sound_motor s.motor ≡ true

-- something is heard: there is a motor to listen, and text or TU codes go to the printer
abbrev pub heeds : Calling → Connection → Bool
heeds k c = listens k c && (is_printer (route c Host) || is_printer (route c Tu))

-- the reading case is letters unless line codes go to the host, and the incoming case unless TU codes go to the printer; the motor is off
-- where nothing is heard
pub record Rested (s : State) : Type 0 where
  pub reading : (route s.connection Line ≡ ToHost → ⊥) → s.reading ≡ Letters
  pub incoming : (route s.connection Tu ≡ ToPrinter → ⊥) → s.incoming ≡ Letters
  pub motor : heeds s.calling s.connection ≡ false → s.motor ≡ resting

-- The most that one byte makes.

abbrev pub most_line : Stream → ℕ
most_line Host = 16
most_line Line = 0
most_line Tu = 14

abbrev pub most_host : Stream → ℕ
most_host Host = 37
most_host Line = 1
most_host Tu = 17

abbrev pub most_tu : Stream → ℕ
most_tu Host = 0
most_tu Line = 1
most_tu Tu = 0

pub record Few (t : Stream) (x : Step) : Type 0 where
  pub line : length x.line ≤ most_line t
  pub host : length x.host ≤ most_host t
  pub tu : length x.tu ≤ most_tu t

-- in the buffers as they are lent
abbrev pub most_first : Stream → ℕ
most_first Host = most_line Host
most_first Line = most_host Line
most_first Tu = most_line Tu

abbrev pub most_second : Stream → ℕ
most_second Host = most_host Host
most_second Line = most_tu Line
most_second Tu = most_host Tu
