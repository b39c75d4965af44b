-- `step::answers::put_answer` meets its contract: the command does what its definition says.
use Rattle.settings.proofs.Written.{commanded_lasts}
use Rattle.step.proofs.answers.put_answer.Goals as goal

pub with_stored-state-requires : goal.with_stored-state-requires
with_stored-state-requires c =
    let a = c.args in
    rw (c.run-o.ensures, c.setup.ensures) (commanded_lasts a.s.settings a.s.calling a.s.connection a.v a.count a.fields)
