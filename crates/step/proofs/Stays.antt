-- A fresh box is sound, and a sound state stays sound under every byte of every stream.
-- Assumes nothing.
use Prim.Native.Nat.{ℕ}
use mathlib.Core.Path.{◌≡◌}
use mathlib.Core.Bool.{Bool, true, false, cond}
use mathlib.Core.List.{List, [], ◌∷◌}
use borrow.Author.Tests.{eqb-true, eq-eqb}
use lib.Dec.{eqb}
use lib.ListN.{length}
use Rattle.std.proofs.lemmas.Bool.{and_parts}
use Rattle.code.specs.Kinds.{kind_of}
use Rattle.command.specs.Read.{read, sound_stage}
use Rattle.command.proofs.Leads.{sound_read, eleven_read}
use Rattle.settings.specs.Table.{row, sound_settings, sound_calling, sound_connection}
use Rattle.settings.specs.Command.{commanded}
use Rattle.settings.proofs.Written.{stays, factory_sound, factory_calling_sound}
use Rattle.sender.specs.Reading.{read_case}
use Rattle.sender.specs.Item.{wanted}
use Rattle.motor.specs.Motor.{hearing_all, resting, sound_motor}
use Rattle.motor.proofs.Sound.{resting_sound, all_sound}
use Rattle.step.specs.Names.{Out, Nothing, One, Two, Finished, Route, Dropped, ToPrinter, ToHost, ToTu, Wanted, Motor, State, Stream, Host, Line, Tu}
use Rattle.step.specs.Route.{route}
use Rattle.step.specs.State.{sound_reader, sound, fresh_box, with_reader, with_incoming}
use Rattle.step.specs.Hear.{listens, codes_asked, motor_after}
use Rattle.step.specs.Step.{sends, text, hosted, lined, tued, step, Event, run}
use Rattle.step.specs.Laws.{Parts}

-- the tests of a sound state, one by one
pub sound_parts : (s : State) → sound s ≡ true → Parts s
sound_parts s h =
    let a = and_parts (sound_settings s.settings) _ h in
    let b = and_parts (sound_connection s.connection) _ a.1 in
    let c = and_parts (sound_calling s.calling) _ b.1 in
    let d = and_parts (sound_reader s.reader) (sound_motor s.motor) c.1 in
    let e = and_parts (eqb (length s.reader.values) 11) (sound_stage s.reader.stage) d.0 in
    record { held = record { settings = a.0; connection = b.0; calling = c.0 }; stage = e.1; eleven = eqb-true _ 11 e.0; motor = d.1 }

-- and together
pub parts_sound : (s : State) → Parts s → sound s ≡ true
parts_sound s p = rw (eq-eqb _ 11 p.eleven, p.held.settings, p.held.connection, p.held.calling, p.stage, p.motor)

-- a fresh box is sound
pub fresh_sound : sound fresh_box ≡ true
unfolding sound_connection row
fresh_sound = rw (factory_sound, factory_calling_sound, resting_sound)

-- Every byte of every stream.

-- the motor after items
heard_sound : (s : State) (ws : List Wanted) → sound_motor s.motor ≡ true → sound_motor (motor_after s ws) ≡ true
unfolding motor_after
heard_sound s ws h = go (listens s.calling s.connection)
  where
    go : (b : Bool) → sound_motor (cond b (hearing_all s.calling s.motor (codes_asked ws)) s.motor) ≡ true
    go true = all_sound s.calling (codes_asked ws) s.motor h
    go false = h

-- the motor after a command
forgets_sound : (b : Bool) (m : Motor) → sound_motor m ≡ true → sound_motor (cond b resting m) ≡ true
forgets_sound true m h = resting_sound
forgets_sound false m h = h

sends_parts : (s : State) (ws : List Wanted) → Parts s → Parts (sends s ws).state
sends_parts s ws p = record { held = p.held; stage = p.stage; eleven = p.eleven; motor = heard_sound s ws p.motor }

hosted_parts : (s : State) (fields : List ℕ) (out : Out) → length fields ≡ 11 → Parts s → Parts (hosted s fields out).state
hosted_parts s fields Nothing l p = p
hosted_parts s fields (One b) l p = sends_parts s (text s.settings (route s.connection Host) (b ∷ [])) p
hosted_parts s fields (Two b) l p = sends_parts s (text s.settings (route s.connection Host) (47 ∷ b ∷ [])) p
hosted_parts s fields (Finished v count) l p = record {
  held = stays s.settings s.calling s.connection p.held v count fields l;
  stage = p.stage;
  eleven = p.eleven;
  motor = forgets_sound (commanded s.settings s.calling s.connection v count fields).stored.forgets s.motor p.motor;
}

lined_parts : (k : Route) (s : State) (c : ℕ) → Parts s → Parts (lined k s c).state
lined_parts Dropped s c p = p
lined_parts ToPrinter s c p = p
lined_parts ToHost s c p = record { held = p.held; stage = p.stage; eleven = p.eleven; motor = p.motor }
lined_parts ToTu s c p = p

tued_parts : (k : Route) (s : State) (c : ℕ) → Parts s → Parts (tued k s c).state
tued_parts Dropped s c p = p
tued_parts ToPrinter s c p =
    let t = with_incoming s (read_case s.settings s.incoming (kind_of c)) in
    sends_parts t (wanted s.incoming c ∷ []) (record { held = p.held; stage = p.stage; eleven = p.eleven; motor = p.motor })
tued_parts ToHost s c p = p
tued_parts ToTu s c p = p

pub step_parts : (t : Stream) (s : State) (b : ℕ) → Parts s → Parts (step t s b).state
step_parts Host s b p =
    let r = (read s.reader b).reader in
    hosted_parts (with_reader s r) s.reader.values (read s.reader b).out p.eleven
    (record { held = p.held; stage = sound_read s.reader b p.stage; eleven = eleven_read s.reader b p.eleven; motor = p.motor })
step_parts Line s b p = lined_parts (route s.connection Line) s b p
step_parts Tu s b p = tued_parts (route s.connection Tu) s b p

-- a sound state stays sound
pub sound_step : (t : Stream) (s : State) (b : ℕ) → sound s ≡ true → sound (step t s b).state ≡ true
sound_step t s b h = parts_sound (step t s b).state (step_parts t s b (sound_parts s h))

pub sound_run : (s : State) (es : List Event) → sound s ≡ true → sound (run s es) ≡ true
sound_run s [] h = h
sound_run s (e ∷ es) h = sound_run (step e.stream s e.byte).state es (sound_step e.stream s e.byte h)
