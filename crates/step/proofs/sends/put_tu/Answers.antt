-- `step::sends::put_tu` meets its contract: a code is printed or dropped, by its route.
use mathlib.Core.Path.{refl}
use Rattle.step.specs.Names.{Tu}
use Rattle.step.specs.Route.{route}
use Rattle.step.specs.Step.{carried}
use Rattle.step.proofs.Bytes.{offers_none}
use Rattle.step.proofs.Sent.{as_tu}
use Rattle.step.proofs.Ways.{tu_printed}
use Rattle.step.proofs.sends.put_tu.Goals as goal

pub returns-then-prints : goal.returns-then-prints
returns-then-prints c =
    let a = c.args in
    rw (tu_printed (route a.s.connection Tu) a.s a.c, ← c.prints.ensures, c.if-prints.true)
    (as_tu (carried a.s a.c) a.line.now a.host.now _ _ _ (rw (c.case.ensures, c.next.ensures) at c.put_asked.ensures))

pub returns-else-prints : goal.returns-else-prints
returns-else-prints c =
    let a = c.args in
    rw (tu_printed (route a.s.connection Tu) a.s a.c, ← c.prints.ensures, c.if-prints.false, c.nothing.ensures) (offers_none Tu a.s a.line.now a.host.now refl refl)
