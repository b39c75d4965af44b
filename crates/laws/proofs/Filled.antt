-- A lent buffer, after one byte's output more at its free part.
-- Assumes nothing.
use Prim.Native.Nat.{ℕ, ◌+◌, ◌-◌, ◌≤◌}
use mathlib.Core.Path.{◌≡◌, refl, sym, ap, ◌∙◌}
use mathlib.Core.List.{List, [], ◌++◌}
use native.Mathlib.Omega.{arith}
use native.Mathlib.Nat.{zero-add}
use borrow.Rule.Slice.PartMut.{put_mid, mid_of}
use lib.ListN.{length, length-append, length-drop}
use lib.Seq.{sets, sets-eq, length-sets}
use Rattle.laws.specs.Written.{fronted, Filled}
use Rattle.laws.proofs.Tail.{to_end, written_none, lent, fronted_more, length_fronted}

-- the part still free
pub free_length : (xs : List ℕ) (k : ℕ) → length (mid_of k (length xs - k) xs) ≡ length xs - k
free_length xs k = rw (to_end xs k) (length-drop k xs)

pub filled_more : (old now p f ys : List ℕ) (k : ℕ) → Filled old now p k → length f ≤ length old - k → ys ≡ fronted (mid_of k (length now - k) now) f
    → Filled old (put_mid k (length now - k) now ys) (p ++ f) (k + length f)
filled_more old now p f ys k h fits e =
    let m : put_mid k (length now - k) now ys ≡ fronted old (p ++ f) = lent now ys k f e ∙ rw (h.places, h.count) (fronted_more old p f (omega (arith, h.count, h.room))) in
    let l : length (p ++ f) ≡ length p + length f = length-append p f in
    record {
      count = omega (arith, h.count);
      room = omega (arith, h.room);
      same_length = ap length m ∙ length_fronted old (p ++ f) (omega (arith, h.count, h.room));
      places = m;
    }

-- a free part that comes back as it was
pub unfilled : (now ys : List ℕ) (k : ℕ) → ys ≡ mid_of k (length now - k) now → put_mid k (length now - k) now ys ≡ now
unfilled now ys k e = lent now ys k [] e ∙ sym (written_none now k)

-- nothing written yet
pub filled_none : (old : List ℕ) → Filled old old [] 0
filled_none old = record { count = refl; room = omega arith; same_length = refl; places = refl }

-- what a callee wrote at the front of the free part
pub filled_on : (old now p f ys : List ℕ) (k m : ℕ) → Filled old now p k → Filled (mid_of k (length now - k) now) ys f m → Filled old (put_mid k (length now - k) now ys) (p ++ f) (k + m)
filled_on old now p f ys k m h i =
    let fits : length f ≤ length old - k = omega (arith, i.count, i.room, free_length now k, h.same_length) in
    rw i.count (filled_more old now p f ys k h fits i.places)

-- elements stored one by one from the start
pub filled_sets : (old new : List ℕ) → length new ≤ length old → Filled old (sets old 0 new) new (length new)
filled_sets old new h = record { count = refl; room = h; same_length = length-sets old 0 new; places = rw zero-add at (sets-eq new old 0 (rw zero-add h)) }
