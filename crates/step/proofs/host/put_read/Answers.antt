-- `step::host::put_read` meets its contract: a finished command is obeyed, and all else is text.
use Rattle.step.specs.State.{with_reader}
use Rattle.step.proofs.Hearing.{hosted_said}
use Rattle.step.proofs.host.put_read.Goals as goal

pub returns : goal.returns
returns c =
    let a = c.args in
    rw (hosted_said (with_reader a.s a.x.reader) a.s.reader.values a.x.out c.in_default.not-Finished) (rw (c.text.ensures, c.by.ensures) at c.put_text.ensures)
