-- The invariant: the numbers so far are put from `at` on, and the next place is `k`.
use Rattle.std.proofs.Common.{take}
use Rattle.message.specs.Message.{marked}
use Rattle.message.specs.Made.{Put}
use Rattle.message.proofs.put_numbers.Given as goal

abbrev pub invariant-loop-n : goal.invariant-loop-n
invariant-loop-n l = Put l.initial.out l.at (marked l.mark (take l.n-index l.ns)) l.out l.k
