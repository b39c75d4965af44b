-- The box whose record stays unknown fails demand 2, by computing what it sends for one input.
-- Assumes nothing.
use mathlib.Core.Path.{refl}
use mathlib.Core.List.{[]}
use borrow.Author.Tests.{eqb-false}
use Rattle.code.specs.Rows.{row_at}
use Rattle.code.specs.Kinds.{kind_of}
use Rattle.code.specs.Convert.{conversion}
use Rattle.message.specs.Message.{digits}
use Rattle.settings.specs.Table.{row, sound_string, sound_stand_in, sound_settings, sound_connection, sound_calling, is_signal}
use Rattle.settings.specs.Options.{endings, limit, onspace, onreturn, filter, reports, stand_in, ending_codes}
use Rattle.motor.specs.Motor.{sound_motor}
use Rattle.step.specs.Hear.{listens, motor_after, told_of}
use Rattle.step.specs.Route.{route}
use Rattle.settings.specs.Command.{commanded}
use Rattle.demands.specs.Names.{Host}
use Rattle.demands.specs.ExactCodes.{ExactCodes}
use Rattle.demands.specs.Forgetful.{forgetful, ready, spaces, paper, Vanishes}

-- endings vanish
pub vanishes : Vanishes
unfolding conversion kind_of row_at digits sound_string row route sound_stand_in sound_settings sound_calling is_signal sound_motor sound_connection commanded endings limit onspace onreturn filter reports stand_in ending_codes listens motor_after told_of
vanishes = record { due = refl; sent = refl }

-- twelve codes are written where the fold gives seventeen
pub forgetful_fails : ExactCodes forgetful → ⊥
unfolding conversion kind_of row_at digits sound_string row route sound_stand_in sound_settings sound_calling is_signal sound_motor sound_connection commanded endings limit onspace onreturn filter reports stand_in ending_codes listens motor_after told_of
forgetful_fails h = eqb-false 12 17 refl (h Host ready spaces paper []).count_first
