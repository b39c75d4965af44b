-- `take` of `linebox::calls::TuCodes` meets its contract. The invariant: the bytes taken and what they wrote stand before what the rest gives; the
-- state stays sound.
use Rattle.std.proofs.Common.{length}
use Rattle.linebox.specs.Names.{Tu}
use Rattle.linebox.proofs.Turns.{Reached}
use Rattle.linebox.proofs.calls.TuCodesInput.take.Given as goal

abbrev pub invariant-loop-rest : goal.invariant-loop-rest
invariant-loop-rest l = Reached Tu l.initial.state l.codes l.initial.line l.initial.host l.state l.rest l.line l.host l.one l.two

abbrev pub decreases-loop-rest : goal.decreases-loop-rest
decreases-loop-rest l = length l.rest
