-- Ten places for the numbers of an answer.
use Rattle.std.specs.Prelude.{ℕ, ◌-◌, List, ◌++◌, length, replicate}

-- the numbers, and 0 in the places after them
abbrev pub filled : List ℕ → List ℕ
filled ns = ns ++ replicate (10 - length ns) 0
