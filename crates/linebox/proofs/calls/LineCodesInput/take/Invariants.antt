-- `take` of `linebox::calls::LineCodes` meets its contract. The invariant: the codes taken and what they wrote stand before what the rest gives;
-- the state stays sound.
use Rattle.std.proofs.Common.{drop}
use Rattle.linebox.specs.Names.{Line}
use Rattle.linebox.proofs.Turns.{Reached}
use Rattle.linebox.proofs.calls.LineCodesInput.take.Given as goal

abbrev pub invariant-loop-taken : goal.invariant-loop-taken
invariant-loop-taken l = Reached Line l.initial.state l.codes l.initial.host l.initial.tu l.state (drop l.taken l.codes) l.host l.tu l.one l.two
