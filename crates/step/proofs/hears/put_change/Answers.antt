-- `step::hears::put_change` meets its contract: the message is laid out where there is a change.
use borrow.Author.Tests.{ne_eqb}
use Rattle.step.proofs.Hearing.{laid_change}
use Rattle.step.proofs.hears.put_change.Goals as goal

pub returns : goal.returns
returns c =
    let a = c.args in
    laid_change a.port a.before a.after a.out.now _ _ c.requires.0 c.requires.1 (ne_eqb a.before a.after c.if-before-after.false) c.requires.2 c.put.ensures
