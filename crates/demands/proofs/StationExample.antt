-- The example meets the premises, and the motor starts with its A, as the theorem says.
-- Assumes nothing.
use Prim.Native.Nat.{ℕ}
use mathlib.Core.Path.{◌≡◌, refl}
use mathlib.Core.List.{List, [], ◌∷◌, ◌++◌}
use Rattle.code.specs.Rows.{row_at}
use Rattle.code.specs.Kinds.{kind_of}
use Rattle.code.specs.Convert.{conversion}
use Rattle.message.specs.Message.{digits}
use Rattle.settings.specs.Table.{row, sound_string, sound_signal, sound_stand_in}
use Rattle.settings.specs.Options.{endings, limit, onspace, onreturn, filter, stand_in, ending_codes}
use Rattle.settings.specs.Command.{commanded}
use Rattle.motor.specs.Motor.{latest, size, matches, signal, starts, while_off, hearing}
use Rattle.motor.specs.Turning.{Starts, last_stop}
use Rattle.step.specs.Route.{route}
use Rattle.step.specs.State.{fresh_box}
use Rattle.step.specs.Hear.{listens, motor_after, told_of}
use Rattle.step.specs.Step.{step, run}
use Rattle.linebox.specs.Ends.{events}
use Rattle.demands.specs.Names.{Host}
use Rattle.demands.specs.Station.{heard_since, Coded, calling_after, Stationed}
use Rattle.demands.specs.Traces.{mode1}
use Rattle.demands.specs.StationExample.{by91, before, told}
use Rattle.demands.proofs.Station.{fresh_stationed}

coded : (bs : List ℕ) → Coded (events Host bs)
coded [] = tt
coded (b ∷ bs) = (tt, coded bs)

pub example : Stationed before
example = fresh_stationed before (coded (mode1 ++ by91 ++ 66 ∷ []))

-- `B` was heard since string 91 was written
pub example_heard : heard_since before ≡ 25 ∷ []
unfolding conversion kind_of row_at row commanded route sound_string sound_signal sound_stand_in endings limit onspace onreturn filter stand_in ending_codes listens motor_after
example_heard = refl

-- `A` starts the motor, and the host is told
pub example_told : (step Host (run fresh_box before) 65).host ≡ told
unfolding conversion kind_of row_at row commanded route digits sound_string sound_signal sound_stand_in endings limit onspace onreturn filter stand_in ending_codes listens motor_after told_of latest size matches signal starts while_off hearing
example_told = refl

-- by string 91, as the theorem says
pub example_starts : Starts (calling_after before) (last_stop (calling_after before) (heard_since before ++ [])) ((heard_since before ++ []) ++ 3 ∷ [])
unfolding conversion kind_of row_at row commanded route sound_string sound_signal sound_stand_in endings limit onspace onreturn filter stand_in ending_codes listens motor_after latest size matches signal starts while_off hearing
example_starts = ((example.on [] 3 refl).only (record { off = refl; on = refl })).1
