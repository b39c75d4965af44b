-- `settings::string::opens` meets its contract. The loop's invariant: the codes left in the word open as all do.
use Rattle.settings.specs.Table.{opens}
use Rattle.settings.proofs.Strings.{Left}
use Rattle.settings.proofs.string.opens.Given as goal

abbrev pub invariant-loop-rest : goal.invariant-loop-rest
invariant-loop-rest l = Left opens l.n l.rest

abbrev pub decreases-loop-rest : goal.decreases-loop-rest
decreases-loop-rest l = l.rest
