-- `motor::Listener::hears` meets its contract: the string at the place is the one that is matched.
use Rattle.motor.specs.Motor.{signal}
use Rattle.motor.proofs.Listener.hears.Goals as goal

pub returns : goal.returns
unfolding signal
returns c = c.matches.ensures
