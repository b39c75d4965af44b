-- One thing put after another.
-- Assumes nothing.
use Prim.Native.Nat.{ℕ, ◌+◌, ◌≤◌}
use mathlib.Core.Path.{◌∙◌}
use mathlib.Core.List.{List, ◌++◌}
use native.Mathlib.Nat.{add_assoc}
use lib.ListN.{length, length-append}
use Rattle.laws.proofs.Tail.{written_more}
use Rattle.message.specs.Made.{Put}

-- what is put next follows what was put
pub put_next : (old new out more out' : List ℕ) (at k k' : ℕ) → at + length new ≤ length old → Put old at new out k → Put out k more out' k' → Put old at (new ++ more) out' k'
put_next old new out more out' at k k' fits p q =
    record {
      place = rw (q.place, p.place, length-append, add_assoc);
      contents = q.contents ∙ rw (p.contents, p.place) (written_more old at new fits more);
    }
