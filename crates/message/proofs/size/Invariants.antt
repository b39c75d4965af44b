-- The invariant: what is counted and the numbers that are left make up the message.
use Rattle.std.proofs.Common.{◌≡◌, ◌+◌, length, drop}
use Rattle.message.specs.Message.{numbers, framed}
use Rattle.message.proofs.size.Given as goal

abbrev pub invariant-loop-v : goal.invariant-loop-v
invariant-loop-v l = length (framed l.ns) ≡ l.n + length (numbers (drop l.v-index l.ns))
