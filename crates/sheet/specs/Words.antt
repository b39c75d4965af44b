-- Numbers as a log sheet has them.
use Rattle.std.specs.Prelude.{ℕ, ◌/◌, ◌≡◌, Bool, cond, Option, List, [], leb, length}
use Rattle.std.specs.Bool.{then_some}
use Rattle.laws.specs.Written.{fronted}
use Rattle.message.specs.Message.{marked}

-- numbers in decimal, each after a space
abbrev pub words : List ℕ → List ℕ
words ns = marked 32 ns

-- there are four places for each number
abbrev pub has_room : List ℕ → List ℕ → Bool
has_room ns old = leb (length ns) (length old / 4)

-- what is spelt into a buffer: all of it, or nothing where there are less than four places for each number
abbrev pub spelt : List ℕ → List ℕ → List ℕ
spelt ns old = cond (has_room ns old) (words ns) []

pub record Spells (ns old new : List ℕ) (count : Option ℕ) : Type 0 where
  pub counted : count ≡ then_some (has_room ns old) (length (spelt ns old))
  pub places : new ≡ fronted old (spelt ns old)
