-- `motor::is_sound` meets its contract: its two tests are the definition's.
use Rattle.motor.specs.Motor.{sound_motor}
use Rattle.motor.proofs.is_sound.Goals as goal

pub returns : goal.returns
unfolding sound_motor
returns c = rw (c.is_word.ensures, c.sound_run.ensures)
