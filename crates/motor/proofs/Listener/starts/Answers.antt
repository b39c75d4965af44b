-- `motor::Listener::starts` meets its contract: each case of the code is one of the definition.
use Rattle.std.proofs.Common.{tests, rules}
use Rattle.motor.specs.Motor.{starts, signal}
use Rattle.motor.proofs.Listener.starts.Goals as goal

pub returns-in-2 : goal.returns-in-2
unfolding starts signal
returns-in-2 c = rw c.in-2.is c.hears.ensures

pub returns-in-4 : goal.returns-in-4
unfolding starts signal
returns-in-4 c = rw c.in-4.is c.comes.ensures

pub returns-in-5 : goal.returns-in-5
unfolding starts signal
returns-in-5 c = rw c.in-5.is c.comes-in-5.ensures

pub returns-in-6 : goal.returns-in-6
unfolding starts signal
returns-in-6 c = rw (c.in-6.is, c.comes-in-6.ensures, c.comes-in-6-2.ensures)

pub returns-in_default : goal.returns-in_default
unfolding starts signal
returns-in_default c = search (tests, rules)
