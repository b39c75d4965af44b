-- `judgement::Page::run` meets its contract. The invariant: what remains of the codes gives, from here, what all of them give.
use Rattle.std.proofs.Common.{◌≡◌, drop}
use Rattle.judgement.specs.Page.{run_from}
use Rattle.judgement.proofs.Page.run.Given as goal

abbrev pub invariant-loop-i : goal.invariant-loop-i
invariant-loop-i l = run_from 0 l.initial.self l.codes ≡ run_from l.i-counter l.self (drop l.i-counter l.codes)
