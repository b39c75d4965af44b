-- `motor::Listener::while_on` meets its contract: its test is the definition's.
use Rattle.motor.specs.Motor.{while_on}
use Rattle.motor.proofs.Listener.while_on.Goals as goal

pub returns-then-hears : goal.returns-then-hears
unfolding while_on
returns-then-hears c = simp (rw c.hears.ensures at c.if-hears.true)

pub returns-else-hears : goal.returns-else-hears
unfolding while_on
returns-else-hears c = simp (rw c.hears.ensures at c.if-hears.false)
