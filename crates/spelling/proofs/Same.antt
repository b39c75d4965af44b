-- Bytes compared one by one, and bytes that spell a state.
-- Assumes nothing.
use Prim.Native.Nat.{ℕ}
use mathlib.Core.Path.{◌≡◌, refl}
use mathlib.Core.Bool.{true}
use mathlib.Core.List.{List, [], ◌∷◌}
use lib.Dec.{eqb}
use Rattle.std.specs.Cmp.Lexicographic.{pointwise}
use Rattle.laws.specs.Same.{same}
use Rattle.laws.proofs.Same.{same_eq}
use Rattle.spelling.specs.Spelling.{spelt, state_of, spells}

-- the library's comparison of lists is that one
pub as_same : (xs ys : List ℕ) → pointwise eqb xs ys ≡ same xs ys
as_same [] [] = refl
as_same [] (y ∷ ys) = refl
as_same (x ∷ xs) [] = refl
as_same (x ∷ xs) (y ∷ ys) = rw (as_same xs ys)

-- bytes that spell a state are its spelling
pub its_spelling : (b : List ℕ) → spells b ≡ true → b ≡ spelt (state_of b)
unfolding spells
its_spelling b h = same_eq b (spelt (state_of b)) h
