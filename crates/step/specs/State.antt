-- The state: a fresh box, what is sound, and its parts set one by one.
use Rattle.std.specs.Prelude.{Bool, cond, ◌&&◌, eqb, length}
use Rattle.settings.specs.Table.{factory, factory_calling, sound_settings, sound_calling, sound_connection}
use Rattle.settings.specs.Command.{link}
use Rattle.command.specs.Read.{idle, sound_stage}
use Rattle.sender.specs.Item.{fresh}
use Rattle.motor.specs.Motor.{resting, sound_motor}
use Rattle.step.specs.Names.{Case, Letters, Reader, Stored, Sender, Motor, State}

-- factory settings, mode 11, nothing held, the motor off
abbrev pub fresh_box : State
fresh_box = record { settings = factory; connection = link 11 0 0; sender = fresh; reading = Letters; incoming = Letters; reader = idle; calling = factory_calling; motor = resting }

-- a command reader with eleven places for fields, and no further than twelve fields
abbrev pub sound_reader : Reader → Bool
sound_reader r = eqb (length r.values) 11 && sound_stage r.stage

-- every setting and the connection in the table's ranges, a sound command reader and a sound motor; a column and a case can be no
-- other than they should
abbrev pub sound : State → Bool
sound s = sound_settings s.settings && (sound_connection s.connection && (sound_calling s.calling && (sound_reader s.reader && sound_motor s.motor)))

abbrev pub with_reader : State → Reader → State
with_reader s r = record { settings = s.settings; connection = s.connection; sender = s.sender; reading = s.reading; incoming = s.incoming; reader = r; calling = s.calling; motor = s.motor }

abbrev pub with_sender : State → Sender → State
with_sender s x = record { settings = s.settings; connection = s.connection; sender = x; reading = s.reading; incoming = s.incoming; reader = s.reader; calling = s.calling; motor = s.motor }

abbrev pub with_reading : State → Case → State
with_reading s case = record { settings = s.settings; connection = s.connection; sender = s.sender; reading = case; incoming = s.incoming; reader = s.reader; calling = s.calling; motor = s.motor }

abbrev pub with_incoming : State → Case → State
with_incoming s case = record { settings = s.settings; connection = s.connection; sender = s.sender; reading = s.reading; incoming = case; reader = s.reader; calling = s.calling; motor = s.motor }

abbrev pub with_motor : State → Motor → State
with_motor s m = record { settings = s.settings; connection = s.connection; sender = s.sender; reading = s.reading; incoming = s.incoming; reader = s.reader; calling = s.calling; motor = m }

-- what a command stored; writing a connection, even the same one, makes the record unknown, sets the reading cases to letters and
-- forgets the last item, and no other command touches them; writing that or how a station is called turns the motor off and forgets
-- what it heard
abbrev pub with_stored : State → Stored → State
with_stored s t = record {
  settings = t.settings;
  connection = t.connection;
  sender = cond t.connected fresh s.sender;
  reading = cond t.connected Letters s.reading;
  incoming = cond t.connected Letters s.incoming;
  reader = s.reader;
  calling = t.calling;
  motor = cond t.forgets resting s.motor;
}
