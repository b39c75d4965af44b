-- What the finder's answer has to be.
use Rattle.std.specs.Prelude.{ℕ, ◌+◌, ◌≤◌, ◌≡◌, Option, Some, None, MatchOption, List, length, take, drop}
use Rattle.std.specs.Borrow.{Bor}
use Rattle.message.specs.declared.Place.{Place}
use Rattle.message.specs.Find.{NoMessage, Earliest}
use Rattle.message.specs.Scan.{located}

-- it is the computed place: none exactly if no message stands anywhere, and otherwise the earliest one's
pub record Located (s : List ℕ) (p : Option Place) : Type 0 where
  pub computed : p ≡ located s
  pub answer : MatchOption p (NoMessage s) (λ q. (q.start + q.len ≤ length s) × Earliest s q.start q.len)

-- where the stretch starts and how long it is; where there is none, it is empty, at the start of all
abbrev pub start_of : Option Place → ℕ
start_of None = 0
start_of (Some p) = p.start

abbrev pub len_of : Option Place → ℕ
len_of None = 0
len_of (Some p) = p.len

-- the bytes of that stretch
abbrev pub found : List ℕ → List ℕ
found s = take (len_of (located s)) (drop (start_of (located s)) s)

-- the part r of the caller's slice s is that very stretch: in the slice's own block of memory, at the stretch's first place, as long
-- as the stretch, and with its bytes
pub record HandsBack (s r : Bor (List ℕ)) : Type 0 where
  pub block : r.ref_ptr.0 ≡ s.ref_ptr.0
  pub place : r.ref_ptr.1 ≡ start_of (located s.now) + s.ref_ptr.1
  pub long : length r.now ≡ len_of (located s.now)
  pub bytes : r.now ≡ found s.now
