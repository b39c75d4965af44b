-- `convert::look_up` meets its contract. The invariant: the capital has not stood in the rows yet.
use Rattle.std.proofs.Common.{◌≢◌}
use Rattle.std.specs.List.{AllWithin}
use Rattle.convert.proofs.look_up.Given as goal

abbrev pub invariant-loop-place : goal.invariant-loop-place
invariant-loop-place l = AllWithin (λ y. y ≢ l.capital) l.table 0 l.place
