-- `settings::Setup::run` meets its contract: where nothing is wrong it succeeds as `succeeded` says, and any other is refused.
use mathlib.Core.Path.{sym, ◌∙◌}
use Rattle.settings.proofs.Accept.{success, refusal}
use Rattle.settings.proofs.Setup.run.Goals as goal

pub returns-in-Ok : goal.returns-in-Ok
returns-in-Ok c =
    let a = c.args in
    rw (c.succeed.ensures, c.row.ensures) (sym (success a.self.settings a.self.calling a.self.connection a.verb a.count a.fields (rw c.row.ensures at (sym c.check.ensures ∙ c.in-Ok.is))))

pub returns-in-Err : goal.returns-in-Err
returns-in-Err c =
    let a = c.args in
    rw c.refuse.ensures (sym (refusal a.self.settings a.self.calling a.self.connection a.verb a.count a.fields c.in-Err.fault (rw c.row.ensures at (sym c.check.ensures ∙ c.in-Err.is))))
