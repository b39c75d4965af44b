-- What the finder gives to C.
use Rattle.std.specs.Prelude.{ℕ, ◌≡◌, Option, Some, None, List, [], ◌∷◌, get_or}
use Rattle.message.specs.declared.Place.{Place}
use Rattle.message.specs.Find.{NoMessage, Earliest}
use Rattle.message.specs.Scan.{located}

-- 1 if a message was found
abbrev pub found_byte : Option Place → ℕ
found_byte None = 0
found_byte (Some p) = 1

-- its start and length, both 0 where there is none
abbrev pub found_at : Option Place → List ℕ
found_at None = 0 ∷ 0 ∷ []
found_at (Some p) = p.start ∷ p.len ∷ []

-- the computed answer: 0 exactly if no message stands anywhere, and 1 with the earliest one's start and length
pub record Finds (s at : List ℕ) (r : ℕ) : Type 0 where
  pub answer : r ≡ found_byte (located s)
  pub places : at ≡ found_at (located s)
  pub none : r ≡ 0 → NoMessage s
  pub some : r ≡ 1 → Earliest s (get_or at 0 0) (get_or at 1 0)
