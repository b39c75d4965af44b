-- Lists compared element by element are the same exactly if they are equal.
-- Assumes nothing.
use Prim.Native.Nat.{ℕ}
use mathlib.Core.Path.{◌≡◌, refl}
use mathlib.Core.Bool.{Bool, true, false, false≢true}
use mathlib.Core.List.{List, [], ◌∷◌}
use borrow.Author.Tests.{eqb-true, eq-eqb}
use lib.Dec.{T, eqb}
use Rattle.laws.specs.Same.{same}
use Rattle.std.proofs.lemmas.Bool.{and_parts}

pub same_eq : (xs ys : List ℕ) → same xs ys ≡ true → xs ≡ ys
same_eq [] [] h = refl
same_eq [] (y ∷ ys) h = absurd (false≢true h)
same_eq (x ∷ xs) [] h = absurd (false≢true h)
same_eq (x ∷ xs) (y ∷ ys) h =
    let b = and_parts (eqb x y) (same xs ys) h in
    rw (eqb-true x y b.0, same_eq xs ys b.1)

pub same_self : (xs : List ℕ) → same xs xs ≡ true
same_self [] = refl
same_self (x ∷ xs) = rw (eq-eqb x x refl) (same_self xs)

-- where a table's test says so
pub same_tested : (xs ys : List ℕ) → T (same xs ys) → xs ≡ ys
same_tested xs ys t = go (same xs ys) refl t
  where
    go : (b : Bool) → same xs ys ≡ b → T b → xs ≡ ys
    go true e u = same_eq xs ys e
    go false e u = absurd u
