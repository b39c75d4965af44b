-- The invariant: the earliest message from here on is the earliest of all.
use Rattle.std.proofs.Common.{◌≡◌, drop}
use Rattle.message.specs.Scan.{located, located_from}
use Rattle.message.proofs.locate.Given as goal

abbrev pub invariant-loop-i : goal.invariant-loop-i
invariant-loop-i l = located l.s ≡ located_from l.i (drop l.i l.s)
