-- `sender::Record::put_code` meets its contract: a code that depends on case may be led, and any other followed.
use mathlib.Core.Path.{sym, ◌∙◌}
use Rattle.laws.specs.Written.{Filled}
use Rattle.sender.specs.Code.{send_as}
use Rattle.sender.proofs.After.{record_after}
use Rattle.sender.proofs.Shifted.{cased, uncased}
use Rattle.sender.proofs.Record.put_code.Goals.{in-Char, in_default}
use Rattle.sender.proofs.Record.put_code.Goals as goal

pub returns : goal.returns
returns c =
    let a = c.args in
    let m = c.match-k in
    let f : Filled a.out.now m.out (send_as a.o a.self.case a.w.case a.w.code) m.count =
    elim m.branch [
      | in-Char w ↦ rw (w.out-is, w.count-is, cased a.o a.self.case a.w.case a.w.code a.k _ c.requires.0 w.in-Char.is) w.put_led-count.ensures
      | in_default w ↦ rw (w.out-is, w.count-is, uncased a.o a.self.case a.w.case a.w.code a.k c.requires.0 w.in_default.not-Char) w.put_followed-count.ensures
    ] in
    record { held = c.after.ensures ∙ rw c.requires.0 (sym (record_after a.o a.self a.w.case a.w.code)); places = f }
