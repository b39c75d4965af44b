-- `motor::hear` meets its contract: the code is heard, and the motor turned by all that is heard then.
use Rattle.motor.specs.Motor.{hearing}
use Rattle.motor.proofs.hear.Goals as goal

pub returns : goal.returns
unfolding hearing
returns c = rw (c.turned.ensures, c.heard_with-heard.ensures)
