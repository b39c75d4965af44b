-- The digits of a number by how many there are.
-- Assumes nothing.
use Prim.Native.Nat.{ℕ, ◌/◌, ◌%◌, ◌≤◌, ◌<◌}
use mathlib.Core.Path.{◌≡◌, refl}
use mathlib.Core.Bool.{Bool, true, false, cond}
use mathlib.Core.List.{[], ◌∷◌}
use native.Mathlib.Omega.{arith}
use borrow.Author.Tests.{lt-ltb, le-ltb, ltb-true, ltb-false}
use lib.Dec.{ltb}
use lib.ListN.{length}
use Rattle.message.specs.Message.{digit, digits}

pub one_digit : (n : ℕ) → n < 10 → digits n ≡ digit n ∷ []
unfolding digits
one_digit n h = rw (lt-ltb n 10 h)

pub two_digits : (n : ℕ) → 10 ≤ n → n < 100 → digits n ≡ digit (n / 10) ∷ digit (n % 10) ∷ []
unfolding digits
two_digits n l h = rw (le-ltb n 10 l, lt-ltb n 100 h)

-- at most three
pub digits_few : (n : ℕ) → length (digits n) ≤ 3
unfolding digits
digits_few n = go (ltb n 10) (ltb n 100)
  where
    go : (a b : Bool) → length (cond a (digit n ∷ []) (cond b (digit (n / 10) ∷ digit (n % 10) ∷ []) (digit (n / 100) ∷ digit (n / 10 % 10) ∷ digit (n % 10) ∷ []))) ≤ 3
    go true b = omega arith
    go false true = omega arith
    go false false = omega arith

-- below 100 at most two
pub digits_two : (n : ℕ) → n < 100 → length (digits n) ≤ 2
digits_two n h = go (ltb n 10) refl
  where
    go : (a : Bool) → ltb n 10 ≡ a → length (digits n) ≤ 2
    go true e = rw (one_digit n (ltb-true n 10 e)) (omega arith)
    go false e = rw (two_digits n (ltb-false n 10 e) h) (omega arith)
