-- `motor::matches` meets its contract: its two tests are the definition's.
use Rattle.motor.specs.Motor.{matches}
use Rattle.motor.proofs.matches.Goals as goal

pub returns : goal.returns
unfolding matches
returns c = rw (c.latest.ensures, c.size.ensures.0)
