-- `spelling::save::put_calling` meets its contract: the strings so far stand one after another.
use lib.ListN.{set}
use mathlib.Core.Path.{◌≡◌}
use Rattle.spelling.specs.Spelling.{puts}
use Rattle.spelling.proofs.Places.{first_signals}
use Rattle.spelling.proofs.save.put_calling.Given as goal

abbrev pub invariant-loop-i : goal.invariant-loop-i
invariant-loop-i l = l.bytes ≡ puts (set l.fn.bytes 39 l.k.power) 64 (first_signals l.k l.i)
