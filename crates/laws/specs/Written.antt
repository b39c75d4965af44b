-- A buffer with something written from a place on.
use Rattle.std.specs.Prelude.{ℕ, ◌+◌, ◌≤◌, ◌≡◌, List, ◌++◌, length, take, drop}

-- the buffer `old` with `new` written from `at`; the places before and after keep what they had
abbrev pub written : List ℕ → ℕ → List ℕ → List ℕ
written old at new = take at old ++ (new ++ drop (at + length new) old)

-- written at its front
abbrev pub fronted : List ℕ → List ℕ → List ℕ
fronted old new = new ++ drop (length new) old

-- a buffer with `new` at its front, of which k places are written
pub record Filled (old now new : List ℕ) (k : ℕ) : Type 0 where
  pub count : k ≡ length new
  pub room : k ≤ length old
  pub same_length : length now ≡ length old
  pub places : now ≡ fronted old new
