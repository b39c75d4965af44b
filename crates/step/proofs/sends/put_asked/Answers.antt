-- `step::sends::put_asked` meets its contract: the codes made are those of what the bytes ask for, and the motor hears it.
use mathlib.Core.Path.{refl}
use Rattle.step.proofs.Sent.{asked_put}
use Rattle.step.proofs.sends.put_asked.Goals as goal

pub returns : goal.returns
returns c =
    let a = c.args in
    asked_put a.s a.asks a.bytes.now _ _ c.send-x.result c.hear-h.result a.line.now a.host.now _ _ _ refl c.requires c.send-x.ensures c.hear-h.ensures c.put_both.ensures
