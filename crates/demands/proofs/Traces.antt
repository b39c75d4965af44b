-- The starred traces pass, by one computation.
-- Assumes nothing.
use mathlib.Core.Path.{◌≡◌, refl}
use mathlib.Core.Bool.{true}
use Rattle.code.specs.Rows.{row_at}
use Rattle.code.specs.Kinds.{kind_of}
use Rattle.code.specs.Convert.{conversion}
use Rattle.message.specs.Message.{digits}
use Rattle.settings.specs.Table.{row, sound_string, sound_stand_in, sound_settings, sound_connection, sound_calling, is_signal}
use Rattle.settings.specs.Options.{endings, limit, onspace, onreturn, filter, reports, stand_in, ending_codes}
use Rattle.motor.specs.Motor.{sound_motor}
use Rattle.step.specs.Hear.{listens, motor_after, told_of}
use Rattle.step.specs.Route.{route}
use Rattle.settings.specs.Command.{commanded}
use Rattle.demands.specs.Traces.{traces, passes}

-- all ten starred lines, and one more
pub traces_pass : passes traces ≡ true
unfolding traces conversion kind_of row_at digits sound_string row route sound_stand_in sound_settings sound_calling is_signal sound_motor sound_connection commanded endings limit onspace onreturn filter reports stand_in ending_codes listens motor_after told_of
traces_pass = refl
