-- The loops over a word: what is left of it after some of its codes stands for what is asked of the whole.
-- Assumes nothing.
use Prim.Native.Nat.{ℕ, suc, ◌+◌, ◌-◌, ◌/◌, ◌<◌, ◌≤◌}
use mathlib.Core.Path.{◌≡◌, refl, sym, ap, ◌∙◌}
use native.Mathlib.Omega.{arith}
use borrow.Author.Tests.{eq-eqb, ne_eqb}
use Rattle.motor.specs.Motor.{without, latest, size_in, size}

-- What is left of the codes heard, from the oldest on.

pub all_heard : (n heard : ℕ) → latest n heard ≡ without (8 - n) heard
unfolding latest
all_heard n heard = refl

pub fewer_heard : (x i rest : ℕ) → i < 8 → x ≡ without (8 - i) rest → x ≡ without (8 - (i + 1)) (rest / 32)
fewer_heard x i rest h e = let s : 8 - i ≡ suc (8 - (i + 1)) = omega arith in e ∙ ap (λ (j : ℕ). without j rest) s

pub last_heard : (x i rest : ℕ) → 8 ≤ i → x ≡ without (8 - i) rest → rest ≡ x
last_heard x i rest h e = let s : 8 - i ≡ 0 = omega arith in sym (e ∙ ap (λ (j : ℕ). without j rest) s)

-- The codes of a string that are counted, and those that are left.

pub record Counted (string n rest : ℕ) : Type 0 where
  pub within : n ≤ 8
  pub whole : size string ≡ n + size_in (8 - n) rest

pub none_counted : (string : ℕ) → Counted string 0 string
unfolding size
none_counted string = record { within = omega arith; whole = omega arith }

module _ (string n rest : ℕ) (c : Counted string n rest) where
  pub one_counted : n < 8 → (rest ≡ 0 → ⊥) → Counted string (n + 1) (rest / 32)
  one_counted h z =
      let s : 8 - n ≡ suc (8 - (n + 1)) = omega arith in
      let e : size_in (8 - n) rest ≡ suc (size_in (8 - (n + 1)) (rest / 32)) = ap (λ (j : ℕ). size_in j rest) s ∙ rw (ne_eqb rest 0 z) in
      record { within = omega arith; whole = omega (arith, c.whole) }

  pub none_left : n < 8 → rest ≡ 0 → n ≡ size string
  none_left h z =
      let s : 8 - n ≡ suc (8 - (n + 1)) = omega arith in
      let e : size_in (8 - n) rest ≡ 0 = ap (λ (j : ℕ). size_in j rest) s ∙ rw (eq-eqb rest 0 z) in
      omega (arith, c.whole)

  pub all_counted : 8 ≤ n → n ≡ size string
  all_counted h =
      let s : 8 - n ≡ 0 = omega arith in
      let e : size_in (8 - n) rest ≡ 0 = ap (λ (j : ℕ). size_in j rest) s in
      omega (arith, c.whole)
