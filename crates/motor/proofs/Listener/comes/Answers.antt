-- `motor::Listener::comes` meets its contract: its two tests are the definition's.
use Rattle.motor.specs.Motor.{comes, signal}
use Rattle.motor.proofs.Listener.comes.Goals as goal

pub returns : goal.returns
unfolding comes signal
returns c = rw (c.hears.ensures, c.size.ensures.0)
