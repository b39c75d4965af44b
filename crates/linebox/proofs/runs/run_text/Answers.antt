-- `linebox::runs::run_text` meets its contract: text with nothing held is a run of plain bytes.
use Rattle.linebox.proofs.PlainText.{text_none, text_runs}
use Rattle.linebox.proofs.runs.run_text.Goals as goal

pub returns-then-x-eq0 : goal.returns-then-x-eq0
returns-then-x-eq0 c =
    let a = c.args in
    rw c.unmoved.ensures (text_none a.s c.requires.0 c.requires.1 c.requires.2 c.requires.3 a.input.now a.line.now _ c.send-x.result c.send-x.ensures c.if-x-eq0.true)

pub returns : goal.returns
returns c =
    let a = c.args in
    rw c.idle.ensures (text_runs a.s c.requires.0 c.requires.1 c.requires.2 c.requires.3 a.input.now a.line.now _ c.send-x.result c.send-x.ensures c.if-x-eq0.false)
