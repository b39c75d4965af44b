-- `word::pack` meets its contract. The loop's invariant: the codes behind those that are left are packed.
use Rattle.word.proofs.Packs.{Packs}
use Rattle.word.proofs.pack.Given as goal

abbrev pub invariant-loop-c : goal.invariant-loop-c
invariant-loop-c l = Packs l.fn.cs l.c-iterator.iter.rest.now l.n
