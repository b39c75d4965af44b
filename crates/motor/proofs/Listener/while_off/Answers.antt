-- `motor::Listener::while_off` meets its contract: its test is the definition's.
use Rattle.motor.specs.Motor.{while_off}
use Rattle.motor.proofs.Listener.while_off.Goals as goal

pub returns-then-hears : goal.returns-then-hears
unfolding while_off
returns-then-hears c = simp (rw c.hears.ensures at c.if-hears.true)

pub returns-else-hears : goal.returns-else-hears
unfolding while_off
returns-else-hears c = simp (rw c.hears.ensures at c.if-hears.false)
