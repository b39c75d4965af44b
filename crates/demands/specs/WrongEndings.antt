-- What might go out for a `K` with an ending due, and demand 3 shuts out.
use Rattle.std.specs.Prelude.{ℕ, List, [], ◌∷◌}

-- an ending that prints an `A` too
abbrev pub prints_more : List ℕ
prints_more = 8 ∷ 8 ∷ 2 ∷ 31 ∷ 31 ∷ 3 ∷ 15 ∷ []

-- one without the two LTRS that give the carriage time to return
abbrev pub filtered : List ℕ
filtered = 8 ∷ 8 ∷ 2 ∷ 15 ∷ []

-- the right one, which is wrong with 49 off
abbrev pub ended : List ℕ
ended = 8 ∷ 8 ∷ 2 ∷ 31 ∷ 31 ∷ 15 ∷ []
