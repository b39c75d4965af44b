-- `motor::latest` meets its contract. The loop's invariant: what is left of the codes heard holds the last ones asked for.
use Rattle.std.proofs.Common.{◌≡◌, ◌-◌}
use Rattle.motor.specs.Motor.{without, latest}
use Rattle.motor.proofs.latest.Given as goal

abbrev pub invariant-loop : goal.invariant-loop
invariant-loop l = latest l.fn.n l.fn.heard ≡ without (8 - l.counter) l.rest
