-- `settings::string::opens` meets its contract. The loop's invariant: the codes left in the word open as all do.
use mathlib.Core.Path.{sym, ◌∙◌}
use Rattle.settings.specs.Table.{opens}
use Rattle.settings.proofs.Strings.{all_left, opens_on, opens_end}
use Rattle.settings.proofs.string.opens.Goals as goal

pub loop-rest-init : goal.loop-rest-init
loop-rest-init c = all_left opens c.args.n c.requires

pub loop-rest-preserved : goal.loop-rest-preserved
loop-rest-preserved c =
    let l = c.loop-rest in
    opens_on c.args.n l.rest l.invariant (sym c.early.ensures ∙ c.loop-rest-test.true)

pub returns : goal.returns
returns c =
    let l = c.loop-rest in
    opens_end c.args.n l.rest l.invariant (sym c.early.ensures ∙ c.loop-rest-test.false)
