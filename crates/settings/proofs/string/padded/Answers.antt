-- `settings::string::padded` meets its contract. The loop's invariant: the codes left in the word are padded if all are.
use borrow.Author.Tests.{eq-eqb}
use Rattle.settings.specs.Table.{padded}
use Rattle.settings.proofs.Strings.{all_left, padded_end}
use Rattle.settings.proofs.string.padded.Goals as goal

pub loop-rest-init : goal.loop-rest-init
loop-rest-init c = all_left padded c.args.n c.requires

pub returns : goal.returns
returns c =
    let l = c.loop-rest in
    padded_end c.args.n l.rest l.invariant (eq-eqb _ 0 c.loop-rest-test.false)
