-- `take` of `linebox::calls::HostBytes` meets its contract. The invariant: the bytes taken and what they wrote stand before what the rest gives; the
-- state stays sound.
use Rattle.std.proofs.Common.{length}
use Rattle.linebox.specs.Names.{Host}
use Rattle.linebox.proofs.Turns.{Reached}
use Rattle.linebox.proofs.calls.HostBytesInput.take.Given as goal

abbrev pub invariant-loop-rest : goal.invariant-loop-rest
invariant-loop-rest l = Reached Host l.initial.state l.input l.initial.line l.initial.host l.state l.rest l.line l.host l.one l.two

abbrev pub decreases-loop-rest : goal.decreases-loop-rest
decreases-loop-rest l = length l.rest
