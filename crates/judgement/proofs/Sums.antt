-- Sums over the places below a bound.
-- Assumes nothing.
use Prim.Native.Nat.{ℕ, zero, suc, ◌+◌, ◌<◌}
use mathlib.Core.Path.{◌≡◌, refl}
use mathlib.Core.Bool.{Bool, true, false, cond}
use mathlib.Core.List.{List, [], ◌∷◌}
use native.Mathlib.Omega.{arith}
use lib.Dec.{eqb}
use lib.ListN.{length, get_or}
use borrow.Author.Tests.{eqb-true, eqb-false, ne_eqb}
use Rattle.judgement.specs.Line.{count_of}

pub sum : ℕ → (ℕ → ℕ) → ℕ
sum zero h = 0
sum (suc n) h = h n + sum n h

abbrev pub one : Bool → ℕ
one b = cond b 1 0

pub sum_add : (k : ℕ) (g h : ℕ → ℕ) → sum k (λ n. g n + h n) ≡ sum k g + sum k h
unfolding sum
sum_add zero g h = refl
sum_add (suc k) g h = omega (arith, sum_add k g h)

pub sum_same : (k : ℕ) (g h : ℕ → ℕ) → ((n : ℕ) → n < k → g n ≡ h n) → sum k g ≡ sum k h
unfolding sum
sum_same zero g h e = refl
sum_same (suc k) g h e = omega (arith, e k (omega arith), sum_same k g h (λ n l. e n (omega arith)))

pub sum_none : (k : ℕ) (g : ℕ → ℕ) → ((n : ℕ) → n < k → g n ≡ 0) → sum k g ≡ 0
unfolding sum
sum_none zero g e = refl
sum_none (suc k) g e = omega (arith, e k (omega arith), sum_none k g (λ n l. e n (omega arith)))

-- all but one are none
pub sum_pick : (k : ℕ) (g : ℕ → ℕ) (m : ℕ) → m < k → sum k (λ n. cond (eqb m n) (g n) 0) ≡ g m
unfolding sum
sum_pick zero g m l = absurd (omega arith)
sum_pick (suc k) g m l = go (eqb m k) refl (sum_pick k g m)
  where
    other : (n : ℕ) → (m ≡ n → ⊥) → cond (eqb m n) (g n) 0 ≡ 0
    other n d = rw (ne_eqb m n d)

    go : (b : Bool) → eqb m k ≡ b → (m < k → sum k (λ n. cond (eqb m n) (g n) 0) ≡ g m) → cond (eqb m k) (g k) 0 + sum k (λ n. cond (eqb m n) (g n) 0) ≡ g m
    go true e rest =
        let s : m ≡ k = eqb-true m k e in
        let here : cond (eqb m k) (g k) 0 ≡ g m = rw (e, s) in
        omega (arith, here, sum_none k (λ n. cond (eqb m n) (g n) 0) (λ n h. other n (λ q. omega arith)))
    go false e rest = omega (arith, other k (eqb-false m k e), rest (omega (arith, eqb-false m k e)))

sum_shift : (k : ℕ) (h : ℕ → ℕ) → sum (suc k) h ≡ h 0 + sum k (λ n. h (suc n))
unfolding sum
sum_shift zero h = refl
sum_shift (suc k) h = omega (arith, sum_shift k h)

-- a count over a list, as a sum over its places
pub count_sum : (v : ℕ) (xs : List ℕ) → count_of v xs ≡ sum (length xs) (λ n. one (eqb (get_or xs n 0) v))
unfolding sum
count_sum v [] = refl
count_sum v (x ∷ xs) = omega (arith, count_sum v xs, sum_shift (length xs) (λ n. one (eqb (get_or (x ∷ xs) n 0) v)))
