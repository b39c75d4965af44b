-- `vectors::read_full` meets its contract. The invariant: what came is no more than there is room for.
use Rattle.std.proofs.Common.{length, ◌-◌, ◌≤◌}
use Rattle.vectors.proofs.read_full.Given as goal

abbrev pub invariant-loop-more : goal.invariant-loop-more
invariant-loop-more g l = l.n ≤ length l.s

abbrev pub decreases-loop-more : goal.decreases-loop-more
decreases-loop-more g l = length l.s - l.n
