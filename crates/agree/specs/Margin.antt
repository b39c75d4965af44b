-- What the margin asks of the marks on the paper.
use Rattle.std.specs.Prelude.{ℕ, ◌<◌, List, [], ◌∷◌}
use Rattle.agree.specs.Names.{Mark, Option, Some, None}

-- what lands, lands below the limit
abbrev pub LandsBelow : ℕ → Option ℕ → Type 0
LandsBelow limit None = Unit {0}
LandsBelow limit (Some n) = n < limit

-- every one of many marks
abbrev pub Below : ℕ → List Mark → Type 0
Below limit [] = Unit {0}
Below limit (m ∷ ms) = LandsBelow limit m.lands × Below limit ms
