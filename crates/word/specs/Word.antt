-- A number's digits to any base, and a string: eight codes of five bits in one number.
use Rattle.std.specs.Prelude.{ℕ, zero, suc, ◌+◌, ◌*◌, ◌/◌, ◌%◌, Bool, true, ◌&&◌, List, [], ◌∷◌, ltb}

-- so many digits of a number, lowest first
abbrev pub digits_by : ℕ → ℕ → ℕ → List ℕ
digits_by base zero n = []
digits_by base (suc k) n = n % base ∷ digits_by base k (n / base)

-- the number that has these digits
abbrev pub number_by : ℕ → List ℕ → ℕ
number_by base [] = 0
number_by base (d ∷ ds) = d + base * number_by base ds

-- digits are below the base
abbrev pub all_below : ℕ → List ℕ → Bool
all_below base [] = true
all_below base (d ∷ ds) = ltb d base && all_below base ds

-- a string's eight codes, the first one lowest in its number
abbrev pub unpacked : ℕ → List ℕ
unpacked n = digits_by 32 8 n

-- the number of a string's codes
abbrev pub packed : List ℕ → ℕ
packed cs = number_by 32 cs

-- below 2^40: the upper 24 of 64 bits are zero
abbrev pub is_word : ℕ → Bool
is_word n = ltb n 1099511627776

-- the eight bytes of a number, lowest first
abbrev pub bytes_of : ℕ → List ℕ
bytes_of n = digits_by 256 8 n
