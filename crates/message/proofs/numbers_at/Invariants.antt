-- The invariant: what is left, read from the state reached, gives what all of it does.
use Rattle.std.proofs.Common.{◌≡◌, drop}
use Rattle.message.specs.declared.Scan.TheVariants.{Opening}
use Rattle.message.specs.Scan.{numbers_from}
use Rattle.message.proofs.numbers_at.Given as goal

abbrev pub invariant-loop-k : goal.invariant-loop-k
invariant-loop-k l = numbers_from Opening 0 l.s ≡ numbers_from l.st l.k (drop l.k l.s)
