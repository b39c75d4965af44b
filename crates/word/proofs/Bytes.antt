-- The eight bytes of a number are those of the library's `to_le_bytes`, and the number of eight bytes is that of its `from_le_bytes`.
-- Assumes nothing.
use Prim.Native.Nat.{ℕ}
use mathlib.Core.Path.{◌≡◌}
use mathlib.Core.List.{List, [], ◌∷◌}
use native.Mathlib.Nat.{div-div-eq-div-mul}
use native.Mathlib.Omega.{arith}
use lib.ListN.{length}
use Rattle.std.specs.Int.{w64, to_le_bytes, from_le_bytes}
use Rattle.word.specs.Word.{number_by, bytes_of}

pub bytes_little : (n : ℕ) → bytes_of n ≡ to_le_bytes w64 n
bytes_little n = simp div-div-eq-div-mul

pub number_little : (bs : List ℕ) → length bs ≡ 8 → number_by 256 bs ≡ from_le_bytes w64 bs
number_little [] l = absurd (omega arith)
number_little (a ∷ []) l = absurd (omega arith)
number_little (a ∷ b ∷ []) l = absurd (omega arith)
number_little (a ∷ b ∷ c ∷ []) l = absurd (omega arith)
number_little (a ∷ b ∷ c ∷ d ∷ []) l = absurd (omega arith)
number_little (a ∷ b ∷ c ∷ d ∷ e ∷ []) l = absurd (omega arith)
number_little (a ∷ b ∷ c ∷ d ∷ e ∷ f ∷ []) l = absurd (omega arith)
number_little (a ∷ b ∷ c ∷ d ∷ e ∷ f ∷ g ∷ []) l = absurd (omega arith)
number_little (a ∷ b ∷ c ∷ d ∷ e ∷ f ∷ g ∷ h ∷ []) l = omega arith
number_little (a ∷ b ∷ c ∷ d ∷ e ∷ f ∷ g ∷ h ∷ x ∷ bs) l = absurd (omega arith)
