-- No output as the whole of a byte's output.
-- Assumes nothing.
use Prim.Native.Nat.{ℕ}
use mathlib.Core.Path.{◌≡◌}
use mathlib.Core.List.{List, []}
use lib.Dec.{leb-zero}
use lib.ListN.{length}
use Rattle.std.specs.Prelude.{Ok}
use Rattle.step.specs.Names.{State, Stream}
use Rattle.step.specs.Step.{quiet}
use Rattle.step.specs.Byte.{first_of, second_of, Offers, nothing}

pub offers_none : (t : Stream) (s : State) (old₁ old₂ : List ℕ) → first_of t (quiet s) ≡ [] → second_of t (quiet s) ≡ [] → Offers t (quiet s) old₁ old₂ old₁ old₂ (Ok (nothing s))
offers_none t s old₁ old₂ e f = record {
  gives = rw (e, f, leb-zero (length old₁), leb-zero (length old₂));
  one = rw (e, f, leb-zero (length old₁), leb-zero (length old₂));
  two = rw (e, f, leb-zero (length old₁), leb-zero (length old₂));
}
