-- `logsheet::Sheet::feed_all` ends: each call that goes on takes something off the rest.
use Rattle.std.proofs.Common.{length}
use Rattle.logsheet.proofs.Sheet.feed_all.Given as goal

abbrev pub decreases-loop-rest : goal.decreases-loop-rest
decreases-loop-rest g l = length l.rest
