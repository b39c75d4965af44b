-- `spelling::save::put_calling` meets its contract: the strings so far stand one after another.
use mathlib.Core.Path.{◌≡◌}
use Rattle.std.proofs.Common.{rules}
use Rattle.spelling.proofs.save.put_calling.Goals as goal

pub returns : goal.returns
returns c = let e : c.loop-i.i ≡ 5 = search rules in rw e at c.loop-i.invariant
