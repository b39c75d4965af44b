-- Numbers after a mark each, from one of them on, and how long they are; and a message.
-- Assumes nothing.
use Prim.Native.Nat.{ℕ, ◌+◌, ◌*◌, ◌≤◌, ◌<◌}
use mathlib.Core.Path.{◌≡◌, refl, ap}
use mathlib.Core.List.{List, [], ◌∷◌, ◌++◌, append_assoc, append-nil}
use native.Mathlib.Numerals.{add-one}
use native.Mathlib.Omega.{arith}
use lib.ListN.{length, get_or, take, drop, take-append-drop, length-append}
use lib.Seq.{drop-cons, take-suc}
use Rattle.message.specs.Message.{digits, marked, numbers, framed}
use Rattle.message.proofs.Digits.{digits_few}

module _ (m : ℕ) where
  pub next_number : (ns : List ℕ) (i : ℕ) → i < length ns → marked m (drop i ns) ≡ (m ∷ digits (get_or ns i 0)) ++ marked m (drop (i + 1) ns)
  next_number ns i h = rw (drop-cons ns i 0 h, add-one)

  pub next_length : (ns : List ℕ) (i : ℕ) → i < length ns → length (marked m (drop i ns)) ≡ length (m ∷ digits (get_or ns i 0)) + length (marked m (drop (i + 1) ns))
  next_length ns i h = rw (next_number ns i h) (length-append (m ∷ digits (get_or ns i 0)) (marked m (drop (i + 1) ns)))

  pub marked_append : (ms ns : List ℕ) → marked m (ms ++ ns) ≡ marked m ms ++ marked m ns
  marked_append [] ns = refl
  marked_append (n ∷ ms) ns = rw (marked_append ms ns, append_assoc)

  pub one_more : (ns : List ℕ) (i : ℕ) → i < length ns → marked m (take (i + 1) ns) ≡ marked m (take i ns) ++ (m ∷ digits (get_or ns i 0))
  one_more ns i h = rw (add-one, take-suc ns i 0 h, marked_append, append-nil)

  -- the numbers before one, and that one, are part of all
  pub part_length : (ns : List ℕ) (i : ℕ) → i < length ns → length (marked m (take i ns)) + length (m ∷ digits (get_or ns i 0)) ≤ length (marked m ns)
  part_length ns i h =
      let e : marked m ns ≡ marked m (take i ns) ++ marked m (drop i ns) = rw (← marked_append, take-append-drop) in
      omega (arith, simp length-append at (ap length e), next_length ns i h)

  -- each number takes at most four places
  pub marked_few : (ns : List ℕ) → length (marked m ns) ≤ 4 * length ns
  marked_few [] = omega arith
  marked_few (n ∷ ns) = simp length-append (omega (arith, marked_few ns, digits_few n))

pub framed_length : (ns : List ℕ) → length (framed ns) ≡ 8 + length (numbers ns)
framed_length ns = simp length-append (omega arith)

-- a message of n numbers takes at most 8 + 4 n bytes
pub framed_few : (ns : List ℕ) → length (framed ns) ≤ 8 + 4 * length ns
framed_few ns = omega (arith, framed_length ns, marked_few 44 ns)
