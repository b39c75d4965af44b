-- `words::arguments::number` meets its contract. The invariant: what remains gives, from here, the number that all give.
use Rattle.std.proofs.Common.{◌≡◌, drop}
use Rattle.words.specs.Arguments.{number}
use Rattle.words.proofs.arguments.number.Given as goal

abbrev pub invariant-loop-b : goal.invariant-loop-b
invariant-loop-b l = number 0 l.s ≡ number l.n (drop l.b-index l.s)
