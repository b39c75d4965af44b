-- `settings::string::padded` meets its contract. The loop's invariant: the codes left in the word are padded if all are.
use Rattle.settings.specs.Table.{padded}
use Rattle.settings.proofs.Strings.{Left}
use Rattle.settings.proofs.string.padded.Given as goal

abbrev pub invariant-loop-rest : goal.invariant-loop-rest
invariant-loop-rest l = Left padded l.n l.rest

abbrev pub decreases-loop-rest : goal.decreases-loop-rest
decreases-loop-rest l = l.rest
