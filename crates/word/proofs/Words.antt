-- Numbers and their digits stand for each other one to one, to any base; so do strings and words.
-- Assumes nothing.
use Prim.Native.Nat.{ℕ, zero, suc, ◌-◌, ◌/◌, ◌%◌, ◌^◌, ◌<◌, ◌≤◌}
use mathlib.Core.Path.{◌≡◌, refl, ap, subst}
use mathlib.Core.Bool.{true}
use mathlib.Core.List.{List, [], ◌∷◌}
use native.Mathlib.Nat.{pow-suc, pow-succ', mod-lt, mod-eq_of_lt, div-eq_of_lt, add-mul-mod_self_left, add-mul-div_left, mod-add-div, div-lt_iff_lt-mul, zero-add, mul-suc, mul-le-mul_left, pow-zero}
use native.Mathlib.Omega.{arith}
use borrow.Author.Tests.{ltb-true, lt-ltb}
use lib.Dec.{ltb}
use lib.ListN.{length}
use Rattle.std.proofs.lemmas.Bool.{and_parts}
use Rattle.word.specs.Word.{digits_by, number_by, all_below, unpacked, packed, is_word, bytes_of}

module _ (base : ℕ) (some : 0 < base) where
  -- as many digits as asked for
  pub digits_length : (k n : ℕ) → length (digits_by base k n) ≡ k
  digits_length zero n = refl
  digits_length (suc k) n = ap suc (digits_length k (n / base))

  -- none
  pub digits_none : (k n : ℕ) → k ≤ 0 → digits_by base k n ≡ []
  digits_none zero n h = refl
  digits_none (suc k) n h = absurd (omega (arith, h))

  -- the lowest one, and the others above it
  pub digits_more : (k n : ℕ) → 0 < k → digits_by base k n ≡ n % base ∷ digits_by base (k - 1) (n / base)
  digits_more zero n h = absurd (omega (arith, h))
  digits_more (suc k) n h = let e : suc k - 1 ≡ k = omega arith in rw e

  -- each below the base
  pub digits_below : (k n : ℕ) → all_below base (digits_by base k n) ≡ true
  digits_below zero n = refl
  digits_below (suc k) n = rw (lt-ltb (n % base) base (mod-lt n some), digits_below k (n / base))

  -- digits, made a number and taken again
  pub digits_number : (ds : List ℕ) → all_below base ds ≡ true → digits_by base (length ds) (number_by base ds) ≡ ds
  digits_number [] h = refl
  digits_number (d ∷ ds) h =
      let b = and_parts (ltb d base) (all_below base ds) h in
      let l = ltb-true d base b.0 in
      let n = number_by base ds in
      rw (add-mul-mod_self_left d base n, mod-eq_of_lt l, add-mul-div_left d n some, div-eq_of_lt l, zero-add n, digits_number ds b.1)

  -- without its lowest digit a number has one fewer
  pub fewer : (k n : ℕ) → n < base ^ suc k → n / base < base ^ k
  fewer k n h = (div-lt_iff_lt-mul some).1 (subst (λ (m : ℕ). n < m) (pow-suc base k) h)

  -- a number that has no further digit, taken apart and made again
  pub number_digits : (k n : ℕ) → n < base ^ k → number_by base (digits_by base k n) ≡ n
  number_digits zero n h = omega (arith, h, pow-zero base)
  number_digits (suc k) n h = rw (number_digits k (n / base) (fewer k n h)) (mod-add-div n base)

  -- so many digits make no greater number
  pub number_below : (ds : List ℕ) → all_below base ds ≡ true → number_by base ds < base ^ length ds
  number_below [] h = omega (arith, pow-zero base)
  number_below (d ∷ ds) h =
      let b = and_parts (ltb d base) (all_below base ds) h in
      let n = number_by base ds in
      omega (arith, ltb-true d base b.0, pow-succ' base (length ds), mul-suc base n, mul-le-mul_left base (number_below ds b.1))

-- Strings and words.

-- eight codes, packed and taken apart, are themselves
pub codes_packed : (cs : List ℕ) → length cs ≡ 8 → all_below 32 cs ≡ true → unpacked (packed cs) ≡ cs
codes_packed cs e h = subst (λ (k : ℕ). digits_by 32 k (packed cs) ≡ cs) e (digits_number 32 (omega arith) cs h)

-- a word, taken apart and packed, is itself
pub packed_codes : (n : ℕ) → is_word n ≡ true → packed (unpacked n) ≡ n
packed_codes n h = number_digits 32 (omega arith) 8 n (ltb-true n 1099511627776 h)

-- eight codes make a word
pub below : (cs : List ℕ) → length cs ≡ 8 → all_below 32 cs ≡ true → is_word (packed cs) ≡ true
below cs e h = lt-ltb (packed cs) 1099511627776 (subst (λ (k : ℕ). packed cs < 32 ^ k) e (number_below 32 (omega arith) cs h))

-- a number of 64 bits, its bytes taken and made a number again
pub bytes_back : (n : ℕ) → n < 18446744073709551616 → number_by 256 (bytes_of n) ≡ n
bytes_back n h = number_digits 256 (omega arith) 8 n h
