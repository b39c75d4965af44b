-- The example is a session, call by call by computation, so the demands hold of it.
-- Assumes nothing.
use mathlib.Core.Path.{◌≡◌, refl}
use mathlib.Core.List.{[], ◌∷◌}
use Rattle.code.specs.Rows.{row_at}
use Rattle.code.specs.Kinds.{kind_of}
use Rattle.code.specs.Convert.{conversion}
use Rattle.message.specs.Message.{digits}
use Rattle.settings.specs.Table.{row, sound_string, sound_stand_in, sound_settings, sound_connection, sound_calling, is_signal}
use Rattle.settings.specs.Options.{endings, limit, onspace, onreturn, filter, reports, stand_in, ending_codes}
use Rattle.settings.specs.Command.{commanded}
use Rattle.motor.specs.Motor.{sound_motor}
use Rattle.step.specs.Hear.{listens, motor_after, told_of}
use Rattle.step.specs.Route.{route}
use Rattle.step.specs.State.{fresh_box}
use Rattle.spelling.specs.Spelling.{spells, spelt, state_of}
use Rattle.demands.specs.Lent.{sent_all}
use Rattle.onboard.specs.OneCall.{Promised}
use Rattle.onboard.specs.Session.{as_exchanges, Session, Demanded}
use Rattle.onboard.specs.Example.{opened, short, again, dropped, calls}
use Rattle.onboard.proofs.Session.{session_demanded}

opened_promised : Promised opened
unfolding spells spelt state_of conversion kind_of row_at digits sound_string row route sound_stand_in sound_settings sound_calling is_signal sound_motor sound_connection commanded endings limit onspace onreturn filter reports stand_in ending_codes listens motor_after told_of
opened_promised = record { answer = refl; bytes = refl; told = refl; one = refl; two = refl }

short_promised : Promised short
unfolding spells spelt state_of conversion kind_of row_at digits sound_string row route sound_stand_in sound_settings sound_calling is_signal sound_motor sound_connection commanded endings limit onspace onreturn filter reports stand_in ending_codes listens motor_after told_of
short_promised = record { answer = refl; bytes = refl; told = refl; one = refl; two = refl }

again_promised : Promised again
unfolding spells spelt state_of conversion kind_of row_at digits sound_string row route sound_stand_in sound_settings sound_calling is_signal sound_motor sound_connection commanded endings limit onspace onreturn filter reports stand_in ending_codes listens motor_after told_of
again_promised = record { answer = refl; bytes = refl; told = refl; one = refl; two = refl }

dropped_promised : Promised dropped
unfolding spells spelt state_of conversion kind_of row_at digits sound_string row route sound_stand_in sound_settings sound_calling is_signal sound_motor sound_connection commanded endings limit onspace onreturn filter reports stand_in ending_codes listens motor_after told_of
dropped_promised = record { answer = refl; bytes = refl; told = refl; one = refl; two = refl }

pub example_session : Session (spelt fresh_box) calls
unfolding spelt
example_session = ((refl, opened_promised), ((refl, short_promised), ((refl, again_promised), ((refl, dropped_promised), tt))))

pub example_demanded : Demanded calls
example_demanded = session_demanded calls example_session

-- 31 16 16 21 27 23
pub example_sent : sent_all (as_exchanges calls) ≡ 31 ∷ 16 ∷ 16 ∷ 21 ∷ 27 ∷ 23 ∷ []
example_sent = refl
