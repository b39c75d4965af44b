-- `step::sends::put_text` meets its contract: text is printed or dropped, by its route.
use mathlib.Core.Path.{refl}
use Rattle.step.specs.Names.{Host}
use Rattle.step.specs.Route.{route}
use Rattle.step.proofs.Bytes.{offers_none}
use Rattle.step.proofs.Hearing.{sends_none}
use Rattle.step.proofs.Ways.{text_printed}
use Rattle.step.proofs.sends.put_text.Goals as goal

pub returns-then-prints : goal.returns-then-prints
returns-then-prints c =
    let a = c.args in
    rw (text_printed a.s.settings (route a.s.connection Host) a.bytes.now, ← c.prints.ensures, c.if-prints.true) c.put_asked.ensures

pub returns-else-prints : goal.returns-else-prints
returns-else-prints c =
    let a = c.args in
    rw (text_printed a.s.settings (route a.s.connection Host) a.bytes.now, ← c.prints.ensures, c.if-prints.false, sends_none a.s, c.nothing.ensures)
    (offers_none Host a.s a.line.now a.host.now refl refl)
