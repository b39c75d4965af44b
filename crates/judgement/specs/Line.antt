-- A line of the paper, from one line feed to the next: what stands at each place, and what cannot be placed. A place struck
-- once holds that character; struck again it is struck over.
use Rattle.std.specs.Prelude.{Option, Some, None, ℕ, min, ◌+◌, ◌-◌, Bool, true, false, cond, List, [], ◌∷◌, get_or, set, replicate, eqb}
use Rattle.judgement.specs.Names.{Verdict, Strike, Tally, Line, Spot, At, From}
use Rattle.judgement.specs.Names.verdict
use Rattle.judgement.specs.Verdict.{number_of}

-- counts stay at the largest number of 64 bits
abbrev pub plus : ℕ → ℕ → ℕ
plus a b = min 0xffff_ffff_ffff_ffff (a + b)

abbrev pub bare : Line
bare = record { ink = replicate 256 0; stand = replicate 256 0; drift = replicate 256 0; landed = 0; strays = 0 }

-- how a sign is shown: `~` (126) where it cannot be known
abbrev pub ink_of : Option ℕ → ℕ
ink_of None = 126
ink_of (Some x) = x

-- the first strike stands as it is; with another it is struck over
abbrev pub stand_after : ℕ → Verdict → ℕ
stand_after was v = cond (eqb was 0) (number_of v) 3

-- what is seen of one character, or of more
abbrev pub seen : ℕ → ℕ → ℕ → ℕ
seen was ink more = cond (eqb was 0) ink more

-- struck over is shown as `*` (42), and two that may be at one place as `~`
abbrev pub strike_at : Option Spot → Line → ℕ → Verdict → Line
strike_at None l ink v = l
strike_at (Some (At n)) l ink v = record { ink = set l.ink n (seen (get_or l.stand n 0) ink 42); stand = set l.stand n (stand_after (get_or l.stand n 0) v); drift = l.drift; landed = plus l.landed 1; strays = l.strays }
strike_at (Some (From n)) l ink v = record { ink = l.ink; stand = l.stand; drift = set l.drift n (seen (get_or l.drift n 0) ink 126); landed = l.landed; strays = plus l.strays 1 }

abbrev pub strike : Line → Strike → Line
strike l s = strike_at s.lands l (ink_of s.sign) s.own

-- How it stands in the end.

-- a place struck again is struck over; a character that may be there as well leaves the others unknown
abbrev pub final_at : ℕ → ℕ → Verdict → Verdict
final_at stand strays v = cond (eqb stand 3) verdict.Over (cond (eqb strays 0) v verdict.Unknown)

abbrev pub final : Line → Option Spot → Verdict → Verdict
final l None v = v
final l (Some (At n)) v = final_at (get_or l.stand n 0) l.strays v
final l (Some (From n)) v = verdict.Unknown

-- how a place stands in the end, by number; 0 where nothing was struck
abbrev pub standing : ℕ → ℕ → ℕ
standing strays stand = cond (eqb stand 0) 0 (cond (eqb stand 3) 3 (cond (eqb strays 0) stand 4))

abbrev pub standings : ℕ → List ℕ → List ℕ
standings strays [] = []
standings strays (x ∷ xs) = standing strays x ∷ standings strays xs

-- how many places stand so
abbrev pub count_of : ℕ → List ℕ → ℕ
count_of v [] = 0
count_of v (x ∷ xs) = cond (eqb x v) 1 0 + count_of v xs

-- places that hold one character
abbrev pub alone : Line → ℕ
alone l = count_of 1 l.stand + count_of 2 l.stand + count_of 4 l.stand

abbrev pub none : Tally
none = record { kept = 0; turned = 0; over = 0; unknown = 0 }

-- what landed and stands in no place alone is struck over
abbrev pub tally_by : Bool → Line → Tally
tally_by true l = record { kept = count_of 1 l.stand; turned = count_of 2 l.stand; over = l.landed - alone l; unknown = count_of 4 l.stand }
tally_by false l = record { kept = 0; turned = 0; over = l.landed - alone l; unknown = plus (alone l) l.strays }

abbrev pub tally_of : Line → Tally
tally_of l = tally_by (eqb l.strays 0) l

abbrev pub plus_tally : Tally → Tally → Tally
plus_tally a b = record { kept = plus a.kept b.kept; turned = plus a.turned b.turned; over = plus a.over b.over; unknown = plus a.unknown b.unknown }
