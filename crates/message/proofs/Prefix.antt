-- A word compared with the front of a text, and what the comparison says.
-- Assumes nothing.
use Prim.Native.Nat.{ℕ}
use mathlib.Core.Path.{◌≡◌, refl, ap}
use mathlib.Core.Bool.{Bool, true, false, ◌&&◌}
use mathlib.Core.List.{List, [], ◌∷◌, ◌++◌}
use borrow.Author.Tests.{eqb-true}
use lib.Dec.{eqb}
use lib.ListN.{length, drop}
use Rattle.message.specs.Scan.{prefix}

-- a word that stands at the front is the front
pub prefix_front : (w s : List ℕ) → prefix w s ≡ true → s ≡ w ++ drop (length w) s
prefix_front [] s e = refl
prefix_front (x ∷ w) [] e = let z : ◌≡◌ {A = Bool} false true = e in cc
prefix_front (x ∷ w) (y ∷ s) e = go (eqb y x) refl e (prefix_front w s)
  where
    go : (b : Bool) → eqb y x ≡ b → b && prefix w s ≡ true → (prefix w s ≡ true → s ≡ w ++ drop (length w) s) → y ∷ s ≡ x ∷ w ++ drop (length w) s
    go true d t rest = rw (eqb-true y x d) (ap (λ (l : List ℕ). x ∷ l) (rest t))
    go false d t rest = cc
