-- A field's digits, of any count, are reduced to a byte.
-- Assumes nothing.
use Prim.Native.Nat.{ℕ, ◌+◌, ◌*◌, ◌-◌, ◌%◌, ◌/◌, ◌≤◌, ◌<◌}
use mathlib.Core.Path.{◌≡◌, refl, sym}
use mathlib.Core.Bool.{true}
use mathlib.Core.List.{List, [], ◌∷◌}
use native.Mathlib.Nat.{add-mul-mod_self_right, div-add-mod'}
use native.Mathlib.Omega.{arith}
use borrow.Author.Tests.{leb-true, ne_eqb}
use lib.Dec.{leb}
use lib.ListN.{length, set}
use lib.Seq.{get_or-set_same, set-set}
use Rattle.command.specs.Names.{Verb, Form, Empty, Digits}
use Rattle.command.specs.Read.{is_digit, in_field, grown, added, digit, read}
use Rattle.command.specs.Decimal.{all_digits, number}
use Rattle.command.specs.Reads.{after}
use Rattle.std.proofs.lemmas.Bool.{and_parts}

pub digit_least : (b : ℕ) → is_digit b ≡ true → 48 ≤ b
digit_least b h = leb-true 48 b (and_parts (leb 48 b) (leb b 57) h).0

-- the digit rule does not look at what was reduced away
pub grown_mod : (n b : ℕ) → grown (n % 256) b ≡ (n * 10 + (b - 48)) % 256
grown_mod n b =
    let e : n * 10 + (b - 48) ≡ n % 256 * 10 + (b - 48) + n / 256 * 10 * 256 = omega (arith, div-add-mod' n 256) in
    sym (rw e (add-mul-mod_self_right (n % 256 * 10 + (b - 48)) (n / 256 * 10) 256))

-- a digit ends nothing and opens nothing
read_digit : (v : Verb) (f : Form) (last : ℕ) (values : List ℕ) (b : ℕ) → is_digit b ≡ true → read (in_field v f last values).reader b ≡ digit v f last values b
read_digit v f last values b h =
    let l : 48 ≤ b = digit_least b h in
    simp (ne_eqb b 13 (λ e. omega arith), ne_eqb b 10 (λ e. omega arith), ne_eqb b 47 (λ e. omega arith), ne_eqb b 44 (λ e. omega arith), h)

module _ (v : Verb) (last : ℕ) (values : List ℕ) (inside : last < length values) where
  turn : (f : Form) (n b : ℕ) → is_digit b ≡ true → digit v f last (set values last (n % 256)) b ≡ added v last (set values last (n % 256)) b → (read (in_field v f last (set values last (n % 256))).reader b).reader ≡ (in_field v Digits last (set values last ((n * 10 + (b - 48)) % 256))).reader
  turn f n b h e = rw (read_digit v f last (set values last (n % 256)) b h, e, get_or-set_same values last (n % 256) 0 inside, set-set values last, grown_mod n b)

  run : (n : ℕ) (bs : List ℕ) → all_digits bs ≡ true → after (in_field v Digits last (set values last (n % 256))).reader bs ≡ (in_field v Digits last (set values last (number n bs % 256))).reader
  run n [] h = refl
  run n (b ∷ bs) h =
      let p = and_parts (is_digit b) (all_digits bs) h in
      rw (turn Digits n b p.0 refl) (run (n * 10 + (b - 48)) bs p.1)

  -- a field that was just opened, after a run of digits, holds their number modulo 256
  pub digits_read : (b : ℕ) (bs : List ℕ) → all_digits (b ∷ bs) ≡ true → after (in_field v Empty last (set values last 0)).reader (b ∷ bs) ≡ (in_field v Digits last (set values last (number 0 (b ∷ bs) % 256))).reader
  digits_read b bs h =
      let p = and_parts (is_digit b) (all_digits bs) h in
      rw (turn Empty 0 b p.0 refl) (run (0 * 10 + (b - 48)) bs p.1)
