-- `linebox::runs::run_codes` meets its contract: codes up to 31 are a run of plain bytes.
use Rattle.linebox.proofs.PlainText.{codes_run}
use Rattle.linebox.proofs.runs.run_codes.Goals as goal

pub returns : goal.returns
returns c =
    let a = c.args in
    rw c.case.ensures (codes_run a.s c.requires.0 c.requires.1 c.requires.2 a.codes.now a.line.now _ c.send-x.result c.send-x.ensures)
