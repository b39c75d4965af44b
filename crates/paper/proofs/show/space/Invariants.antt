-- `paper::show::space` meets its contract. The invariant: what is passed has spaces in it, and what remains is as it was.
use Rattle.std.proofs.Common.{◌≡◌, ◌++◌, map, take, drop}
use Rattle.paper.specs.Show.{inked}
use Rattle.paper.proofs.show.space.Given as goal

abbrev pub invariant-loop-x : goal.invariant-loop-x
invariant-loop-x l = l.row ≡ map inked (take l.x-index l.initial.row) ++ drop l.x-index l.initial.row
