-- A list walked place by place, by a function that goes down it; and the sum of those that are left from a place on.
-- Assumes nothing.
use Prim.Native.Nat.{ℕ, zero, suc, ◌+◌, ◌-◌, ◌≤◌, ◌<◌}
use mathlib.Core.Path.{◌≡◌, refl, ap, ◌∙◌}
use mathlib.Core.List.{List, [], ◌∷◌, ◌++◌}
use native.Mathlib.Omega.{arith}
use native.Mathlib.Numerals.{add-one}
use lib.ListN.{length, get_or, take, drop, drop_of_length-le}
use lib.Seq.{drop-cons}
use Rattle.settings.specs.Command.{sum}

module _ {A : Type 0} (f : List ℕ → A) (xs : List ℕ) (i : ℕ) (a : A) where
  -- at a place of the list
  pub at : i < length xs → a ≡ f (drop i xs) → a ≡ f (get_or xs i 0 ∷ drop (i + 1) xs)
  at h e = rw (add-one, ← drop-cons xs i 0 h) e

  -- past its end
  pub past : length xs ≤ i → a ≡ f (drop i xs) → a ≡ f []
  past h e = rw (drop_of_length-le xs h) at e

-- n elements from a place on, one by one
abbrev pub spread : ℕ → ℕ → List ℕ → List ℕ
spread i zero xs = []
spread i (suc n) xs = get_or xs i 0 ∷ spread (suc i) n xs

-- a list is its elements
pub spread_all : (n i : ℕ) (xs : List ℕ) → length xs ≡ i + n → drop i xs ≡ spread i n xs
spread_all zero i xs e = drop_of_length-le xs {i = i} (omega (arith, e))
spread_all (suc n) i xs e = drop-cons xs i 0 (omega (arith, e)) ∙ ap (λ (l : List ℕ). get_or xs i 0 ∷ l) (spread_all n (suc i) xs (omega (arith, e)))

-- of eleven, eight from the third on and the last
pub last_of : (xs : List ℕ) → length xs ≡ 11 → take 8 (drop 2 xs) ++ get_or xs 10 0 ∷ [] ≡ drop 2 xs
last_of xs e = rw (spread_all 9 2 xs e)

-- none of the first five
pub past_five : (n : ℕ) → (n ≡ 0 → ⊥) → (n ≡ 1 → ⊥) → (n ≡ 2 → ⊥) → (n ≡ 3 → ⊥) → (n ≡ 4 → ⊥) → 5 ≤ n
past_five zero a b c d e = absurd (a refl)
past_five (suc zero) a b c d e = absurd (b refl)
past_five (suc (suc zero)) a b c d e = absurd (c refl)
past_five (suc (suc (suc zero))) a b c d e = absurd (d refl)
past_five (suc (suc (suc (suc zero)))) a b c d e = absurd (e refl)
past_five (suc (suc (suc (suc (suc n))))) a b c d e = omega arith

-- the sum of what is left of the first n
abbrev pub left : ℕ → ℕ → List ℕ → ℕ
left n i fields = sum (take (n - i) (drop i fields))
