-- `entries::text::decode` meets its contract. The invariant: the whole outcome is what is written so far and what the rest of the
-- text is decoded to.
use Rattle.entries.proofs.Decoding.{Decodes}
use Rattle.entries.proofs.text.decode.Given as goal

abbrev pub invariant-loop-k : goal.invariant-loop-k
invariant-loop-k l = Decodes l.form l.s l.initial.out l.out l.rest l.k
