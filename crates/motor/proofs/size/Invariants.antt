-- `motor::size` meets its contract. The loop's invariant: the codes counted and those left are the string's.
use Rattle.motor.proofs.Walks.{Counted}
use Rattle.motor.proofs.size.Given as goal

abbrev pub invariant-loop-n : goal.invariant-loop-n
invariant-loop-n l = Counted l.string l.n l.rest
