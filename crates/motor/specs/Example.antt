-- Two calls that meet the premises: the factory's strings under setting 4, and strings 92 and 93 alike.
use Rattle.std.specs.Prelude.{ℕ, suc, cond, List, [], ◌∷◌}
use Rattle.std.specs.Bool.{beq}
use Rattle.word.specs.Word.{packed}
use Rattle.settings.specs.Table.{factory_calling}
use Rattle.motor.specs.Names.{Calling, Motor}
use Rattle.motor.specs.Motor.{hearing, resting, is_on}

-- string 93, and string 91
abbrev pub five : List ℕ
five = 4 ∷ 4 ∷ 4 ∷ 4 ∷ 4 ∷ 8 ∷ 8 ∷ 2 ∷ []

-- string 94
abbrev pub own : List ℕ
own = 16 ∷ 16 ∷ 21 ∷ 14 ∷ 24 ∷ 12 ∷ 12 ∷ []

-- string 92
abbrev pub end : List ℕ
end = 2 ∷ 12 ∷ 12 ∷ 12 ∷ 12 ∷ []

-- string 95
abbrev pub every : List ℕ
every = 17 ∷ 14 ∷ 17 ∷ 14 ∷ []

-- the factory's strings, and setting 4
abbrev pub factory : Calling
factory = record { strings = factory_calling.strings; power = 4 }

-- strings 92 and 93 are the same two codes, string 94 is one code, and the others are empty
abbrev pub alike : Calling
alike = record { strings = 0 ∷ packed (2 ∷ 12 ∷ []) ∷ packed (2 ∷ 12 ∷ []) ∷ packed (16 ∷ []) ∷ 0 ∷ []; power = 4 }

-- the codes on which the motor changes, counted on from n
abbrev pub changes_from : Calling → Motor → ℕ → List ℕ → List ℕ
changes_from k m n [] = []
changes_from k m n (c ∷ cs) =
    cond (beq (is_on m.run) (is_on (hearing k m c).run)) (changes_from k (hearing k m c) (suc n) cs)
    (suc n ∷ changes_from k (hearing k m c) (suc n) cs)

-- counted from 1
abbrev pub changes : Calling → List ℕ → List ℕ
changes k cs = changes_from k resting 0 cs
