-- The table of ids: parameters, ranges and factory values.
use Rattle.std.specs.Prelude.{ℕ, suc, Bool, true, false, cond, ◌&&◌, ◌||◌, List, [], ◌∷◌, eqb, leb, length, get_or, take, Some, None}
-- std's Option goes by `Maybe` here: `Option` is the record of a setting below
use Rattle.std.specs.Prelude.{Option as Maybe}
use Rattle.code.specs.Convert.{conversion}
use Rattle.word.specs.Word.{all_below, unpacked, packed, is_word}
use Rattle.settings.specs.Names.{Conversion, Nothing, Free, Cased, Verb, Write, Read, Other, Settings, Calling, Connection, Home, Version, Linked, Unlinked, Value, String, Power, Signal, Factory, Nowhere, Row}

-- Ranges of the parameters.

-- from one number to another
abbrev pub between : ℕ → ℕ → ℕ → Bool
between low high n = leb low n && leb n high

-- 60, 66, 75 or 100 words a minute
abbrev pub is_speed : ℕ → Bool
is_speed n = eqb n 60 || (eqb n 66 || (eqb n 75 || eqb n 100))

-- the motor power mode: 0, 2, or 4 to 6
abbrev pub is_power : ℕ → Bool
is_power n = eqb n 0 || (eqb n 2 || between 4 6 n)

-- codes are 0 to 31
abbrev pub all_codes : List ℕ → Bool
all_codes cs = all_below 32 cs

-- all are 0
abbrev pub all_zero : List ℕ → Bool
all_zero [] = true
all_zero (c ∷ cs) = eqb c 0 && all_zero cs

-- a string ends at its first 0; all after it must be 0
abbrev pub padded : List ℕ → Bool
padded [] = true
padded (c ∷ cs) = cond (eqb c 0) (all_zero cs) (padded cs)

-- what may stand before the first 8
abbrev pub early : ℕ → Bool
early c = eqb c 2 || (eqb c 27 || eqb c 31)

-- it holds an 8, and before the first 8 only 2, 27 or 31
abbrev pub opens : List ℕ → Bool
opens [] = false
opens (c ∷ cs) = eqb c 8 || (early c && opens cs)

-- the rules of string 90
unfoldable pub sound_string : List ℕ → Bool
sound_string cs = all_codes cs && (padded cs && opens cs)

-- the rules of strings 91 to 95
unfoldable pub sound_signal : List ℕ → Bool
sound_signal cs = all_codes cs && padded cs

-- the parameters of an id are in its range; a port counts from 1
abbrev pub in_range : Home → List ℕ → Bool
in_range Version ps = true
in_range (Linked last) ps = between 1 last (get_or ps 0 0) && is_speed (get_or ps 1 0)
in_range Unlinked ps = true
in_range (Value place low high) ps = between low high (get_or ps 0 0)
in_range String ps = sound_string (take 8 ps)
in_range Power ps = is_power (get_or ps 0 0)
in_range (Signal place) ps = sound_signal (take 8 ps)
in_range Factory ps = true
in_range Nowhere ps = true

-- The table.

-- an option, which has one value: its id, its least and its greatest value, and its factory value
pub record Option : Type 0 where
  pub number : ℕ
  pub low : ℕ
  pub high : ℕ
  pub factory : ℕ

-- a line of the options
abbrev option : ℕ → ℕ → ℕ → ℕ → Option
option n low high f = record { number = n; low = low; high = high; factory = f }

-- the options, in the order in which the settings hold their values
abbrev pub options : List Option
options =
    option 49 0 1 0
    ∷ option 50 10 80 72
    ∷ option 70 0 1 0
    ∷ option 71 0 1 0
    ∷ option 72 0 1 0
    ∷ option 74 0 1 0
    ∷ option 77 0 126 0
    ∷ []

-- which option has this id
abbrev pub option_place : List Option → ℕ → ℕ
option_place [] n = 0
option_place (x ∷ xs) n = cond (eqb n x.number) 0 (suc (option_place xs n))

-- the value of an option
abbrev pub value_of : Settings → ℕ → ℕ
value_of o n = get_or o.values (option_place options n) 0

-- a line of the others
abbrev is : ℕ → Home → Bool → Bool → Row
is n home written read = record { number = n; home = home; written = written; read = read }

-- the other ids: where their values are, and whether they can be written and read
abbrev pub others : List Row
others =
    is 0 Version false true
    ∷ is 1 (Linked 4) true true
    ∷ is 4 (Linked 3) true false
    ∷ is 10 Unlinked true false
    ∷ is 11 Unlinked true false
    ∷ is 53 Power true true
    ∷ is 90 String true true
    ∷ is 91 (Signal 0) true true
    ∷ is 92 (Signal 1) true true
    ∷ is 93 (Signal 2) true true
    ∷ is 94 (Signal 3) true true
    ∷ is 95 (Signal 4) true true
    ∷ is 250 Factory true false
    ∷ []

-- an option can be written and read, and its value has the next place
abbrev pub rows_from : ℕ → List Option → List Row
rows_from place [] = others
rows_from place (x ∷ xs) = is x.number (Value place x.low x.high) true true ∷ rows_from (suc place) xs

-- an id that the table does not have
abbrev pub undefined : Row
undefined = is 0 Nowhere false false

-- the first row with that number
abbrev pub seek : List Row → ℕ → Row
seek [] n = undefined
seek (r ∷ rs) n = cond (eqb n r.number) r (seek rs n)

-- the row of an id
unfoldable pub row : ℕ → Row
row n = seek (rows_from 0 options) n

-- it names the connection
abbrev pub is_connection : Home → Bool
is_connection Version = false
is_connection (Linked last) = true
is_connection Unlinked = true
is_connection (Value place low high) = false
is_connection String = false
is_connection Power = false
is_connection (Signal place) = false
is_connection Factory = false
is_connection Nowhere = false

-- how many values it has
abbrev pub width : Home → ℕ
width Version = 4
width (Linked last) = 2
width Unlinked = 0
width (Value place low high) = 1
width String = 8
width Power = 1
width (Signal place) = 8
width Factory = 0
width Nowhere = 0

-- so many parameters, if the command can be given at all
abbrev pub takes_if : Bool → ℕ → Maybe ℕ
takes_if true n = Some n
takes_if false n = None

-- how many parameters a command of this type has: a write all values, a read none
abbrev pub taken_by : Verb → Row → Maybe ℕ
taken_by Write r = takes_if r.written (width r.home)
taken_by Read r = takes_if r.read 0
taken_by Other r = None

-- Factory settings.

-- each option's factory value
abbrev pub factory_values : List Option → List ℕ
factory_values [] = []
factory_values (x ∷ xs) = x.factory ∷ factory_values xs

-- and CR CR LF LTRS LTRS for string 90
abbrev pub factory : Settings
factory = record { values = factory_values options; string = packed (8 ∷ 8 ∷ 2 ∷ 31 ∷ 31 ∷ 0 ∷ 0 ∷ 0 ∷ []) }

-- strings 91 to 95; the motor power mode is 0
abbrev pub factory_calling : Calling
factory_calling = record {
  strings =
      packed (4 ∷ 4 ∷ 4 ∷ 4 ∷ 4 ∷ 8 ∷ 8 ∷ 2 ∷ [])
      ∷ packed (2 ∷ 12 ∷ 12 ∷ 12 ∷ 12 ∷ 0 ∷ 0 ∷ 0 ∷ [])
      ∷ packed (4 ∷ 4 ∷ 4 ∷ 4 ∷ 4 ∷ 8 ∷ 8 ∷ 2 ∷ [])
      ∷ packed (16 ∷ 16 ∷ 21 ∷ 14 ∷ 24 ∷ 12 ∷ 12 ∷ 0 ∷ [])
      ∷ packed (17 ∷ 14 ∷ 17 ∷ 14 ∷ 0 ∷ 0 ∷ 0 ∷ 0 ∷ [])
      ∷ [];
  power = 0;
}

-- Sound: every setting, the motor power mode and the connection in the table's ranges, the strings by their rules.

-- a value for each option, in its range
abbrev pub all_in : List Option → List ℕ → Bool
all_in [] [] = true
all_in [] (v ∷ vs) = false
all_in (x ∷ xs) [] = false
all_in (x ∷ xs) (v ∷ vs) = between x.low x.high v && all_in xs vs

-- there is a code
abbrev pub has_code : Conversion → Bool
has_code Nothing = false
has_code (Free c) = true
has_code (Cased case c) = true

-- 0, or from 33 on (the row of 77 ends at 126) with a code
abbrev pub is_stand_in : ℕ → Bool
is_stand_in b = eqb b 0 || (leb 33 b && has_code (conversion b))

-- option 77 is such a value
unfoldable pub sound_stand_in : Settings → Bool
sound_stand_in s = is_stand_in (value_of s 77)

-- and string 90 a word, its eight codes by its rules
unfoldable pub sound_settings : Settings → Bool
sound_settings s = all_in options s.values && (sound_stand_in s && (is_word s.string && sound_string (unpacked s.string)))

-- a word whose eight codes end at the first 0
unfoldable pub is_signal : ℕ → Bool
is_signal n = is_word n && padded (unpacked n)

-- each is
abbrev pub all_signals : List ℕ → Bool
all_signals [] = true
all_signals (n ∷ ns) = is_signal n && all_signals ns

-- the motor power mode in its range, and five such strings
unfoldable pub sound_calling : Calling → Bool
sound_calling k = is_power k.power && (eqb (length k.strings) 5 && all_signals k.strings)

-- port and speed are in the mode's range, and 0 where it has none
abbrev pub sound_link : Home → ℕ → ℕ → Bool
sound_link Version port speed = false
sound_link (Linked last) port speed = between 1 last port && is_speed speed
sound_link Unlinked port speed = eqb port 0 && eqb speed 0
sound_link (Value place low high) port speed = false
sound_link String port speed = false
sound_link Power port speed = false
sound_link (Signal place) port speed = false
sound_link Factory port speed = false
sound_link Nowhere port speed = false

-- the mode is an id that writes a connection
unfoldable pub sound_connection : Connection → Bool
sound_connection c = sound_link (row c.mode).home c.port c.speed
