-- A buffer whose tail is lent, written at its front and given back.
-- Assumes nothing.
use Prim.Native.Nat.{ℕ, ◌+◌, ◌-◌, ◌≤◌}
use mathlib.Core.Path.{◌≡◌, sym}
use mathlib.Core.List.{List, [], ◌++◌, append_assoc, append-nil}
use native.Mathlib.Nat.{add_assoc, add-zero, zero-add, sub-zero, le_of_eq}
use native.Mathlib.Omega.{arith}
use borrow.Rule.Slice.PartMut.{put_mid, mid_of}
use lib.ListN.{length, take, drop, length-append, length-drop, drop_of_length-le, take-append-drop}
use lib.Seq.{length-take-le, take_at, drop_at, drop-drop, take_all}
use Rattle.laws.specs.Written.{written, fronted}

-- a part that starts at the start
pub from_start : (xs : List ℕ) (n : ℕ) → take (n - 0) xs ≡ take n xs
from_start xs n = rw sub-zero

-- a part that ends at the end
pub to_end : (xs : List ℕ) (n : ℕ) → take (length xs - n) (drop n xs) ≡ drop n xs
to_end xs n = take_all (length xs - n) (drop n xs) (le_of_eq (length-drop n xs))

-- nothing written
pub written_none : (old : List ℕ) (at : ℕ) → old ≡ written old at []
written_none old at = rw add-zero (sym (take-append-drop at old))

-- the tail from `k`, lent and come back with `new` at its front
pub lent : (xs ys : List ℕ) (k : ℕ) (new : List ℕ) → ys ≡ fronted (mid_of k (length xs - k) xs) new → put_mid k (length xs - k) xs ys ≡ written xs k new
lent xs ys k new e =
    let none : drop (length xs - k) (drop k xs) ≡ [] = drop_of_length-le _ (le_of_eq (length-drop k xs)) in
    rw (e, to_end xs k, none, append-nil, drop-drop)

module _ (old : List ℕ) (at : ℕ) (new : List ℕ) (fits : at + length new ≤ length old) where
  front : length (take at old ++ new) ≡ at + length new
  front = let l : length (take at old) ≡ at = length-take-le at old (omega arith) in rw (length-append, l)

  head : take (at + length new) (written old at new) ≡ take at old ++ new
  head = rw (← append_assoc) (take_at (take at old ++ new) _ _ front)

  tail : drop (at + length new) (written old at new) ≡ drop (at + length new) old
  tail = rw (← append_assoc) (drop_at (take at old ++ new) _ _ front)

  -- writing on from where the writing ended
  pub written_more : (more : List ℕ) → written (written old at new) (at + length new) more ≡ written old at (new ++ more)
  written_more more =
      let t : drop (at + length new + length more) (written old at new) ≡ drop (at + length new + length more) old = rw (← drop-drop (length more) (at + length new) (written old at new), tail, drop-drop) in
      rw (head, t) (simp (length-append, append_assoc, add_assoc))

  pub length_written : length (written old at new) ≡ length old
  length_written =
      let l : length (take at old) ≡ at = length-take-le at old (omega arith) in
      simp (length-append, l, length-drop) (omega arith)

-- what was written at the front is written on
pub fronted_more : (old p more : List ℕ) → length p ≤ length old → written (fronted old p) (length p) more ≡ fronted old (p ++ more)
fronted_more old p more h = simp zero-add at (written_more old 0 p (rw zero-add h) more)

pub length_fronted : (old p : List ℕ) → length p ≤ length old → length (fronted old p) ≡ length old
length_fronted old p h = rw (length-append, length-drop) (omega arith)
