-- A rule of a table, at all of its entries, from one test that antt computes over the whole table.
-- Assumes nothing.
use mathlib.Core.Path.{◌≡◌, refl, ◌∙◌, subst, sym}
use mathlib.Core.Bool.{Bool, true, false, ◌&&◌}
use mathlib.Core.List.{List, [], ◌∷◌}
use Prim.Native.Nat.{ℕ, zero, suc, ◌+◌, ◌<◌}
use native.Mathlib.Nat.{add-zero, zero-add, add-suc, suc-add, le_of_suc-le-suc, not-suc-le-zero}
use native.Mathlib.Omega.{arith}
use borrow.Author.Tests.{ltb-true, ltb-false}
use lib.Dec.{T, ltb}
use lib.ListN.{length, get_or}

and_left : (a b : Bool) → T (a && b) → T a
and_left true b t = tt
and_left false b t = t

and_right : (a b : Bool) → T (a && b) → T b
and_right true b t = t
and_right false b t = absurd t

module _ {A : Type 0} (none : A) (f : ℕ → A → Bool) where
  -- the test passes at each entry and its place, counted from i
  abbrev pub every : ℕ → List A → Bool
  every i [] = true
  every i (x ∷ xs) = f i x && every (suc i) xs

  from : (xs : List A) (i : ℕ) → T (every i xs) → (k : ℕ) → k < length xs → T (f (i + k) (get_or xs k none))
  from [] i t k h = absurd (not-suc-le-zero h)
  from (x ∷ xs) i t zero h = subst (λ (m : ℕ). T (f m x)) (sym (add-zero i)) (and_left (f i x) (every (suc i) xs) t)
  from (x ∷ xs) i t (suc k) h =
      subst (λ (m : ℕ). T (f m (get_or xs k none))) (suc-add i k ∙ sym (add-suc i k))
      (from xs (suc i) (and_right (f i x) (every (suc i) xs) t) k (le_of_suc-le-suc h))

  pub at : (xs : List A) → T (every 0 xs) → (k : ℕ) → k < length xs → T (f k (get_or xs k none))
  at xs t k h = subst (λ (m : ℕ). T (f m (get_or xs k none))) (zero-add k) (from xs 0 t k h)

-- the test passes at each number below n
abbrev pub upto : (ℕ → Bool) → ℕ → Bool
upto f zero = true
upto f (suc n) = f n && upto f n

pub below : (f : ℕ → Bool) (n : ℕ) → T (upto f n) → (k : ℕ) → k < n → T (f k)
below f zero t k h = absurd (not-suc-le-zero h)
below f (suc n) t k h = go (ltb k n) refl (below f n (and_right (f n) (upto f n) t) k)
  where
    go : (b : Bool) → ltb k n ≡ b → (k < n → T (f k)) → T (f k)
    go true e rest = rest (ltb-true k n e)
    go false e rest =
        let s : k ≡ n = omega (arith, ltb-false k n e) in
        rw s (and_left (f n) (upto f n) t)
