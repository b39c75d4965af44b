-- What is shown of a line of the paper.
use Rattle.std.specs.Prelude.{ℕ, ◌+◌, Bool, cond, ◌||◌, List, [], ◌∷◌, ◌==◌, nat_lt, Option, Some, None}
use Rattle.std.specs.Option.{option_map_or}
use Rattle.judgement.specs.declared.Line.{Line}
use Rattle.paper.specs.declared.show.Stretch.{Stretch}

-- anything was struck
abbrev pub marked : Line → Bool
marked l = nat_lt 0 l.landed || nat_lt 0 l.strays

-- how many places a row has up to its last character: n where none stands from place i on
abbrev pub size_from : ℕ → ℕ → List ℕ → ℕ
size_from n i [] = n
size_from n i (x ∷ xs) = size_from (cond (x == 0) n (i + 1)) (i + 1) xs

-- a space where nothing was struck
abbrev pub inked : ℕ → ℕ
inked x = cond (x == 0) 32 x

-- a row as it is printed
abbrev pub spaced : List ℕ → List ℕ
spaced [] = []
spaced (x ∷ xs) = inked x ∷ spaced xs

-- a stretch with one place more
abbrev pub longer : Option Stretch → ℕ → Option Stretch
longer s i = Some (record { from = option_map_or (λ (x : Stretch). x.from) s i; to = i })

-- the stretch after a place that stands so, of those that stand as v: another kind ends it, and a bare place does not
abbrev pub after_place : Option Stretch → ℕ → ℕ → ℕ → Option Stretch
after_place s i stand v = cond (stand == v) (longer s i) (cond (stand == 0) s None)
