-- The motor: the last codes heard, the strings they are held against, and what turns it on and off.
use Rattle.std.specs.Prelude.{ℕ, zero, suc, ◌+◌, ◌*◌, ◌-◌, ◌/◌, ◌%◌, min, Bool, true, false, cond, ◌&&◌, ◌||◌, List, [], ◌∷◌, eqb, ltb, leb, get_or}
use Rattle.word.specs.Word.{is_word}
use Rattle.motor.specs.Names.{Calling, Motor, Run, Off, Called, On}

-- What was heard.

-- one more code of five bits: the oldest of eight goes, the new one stands above the others
abbrev pub heard_with : ℕ → ℕ → ℕ
heard_with heard c = heard / 32 + 34359738368 * (c % 32)

-- without the k oldest codes
abbrev pub without : ℕ → ℕ → ℕ
without zero heard = heard
without (suc k) heard = without k (heard / 32)

-- the last n of eight
unfoldable pub latest : ℕ → ℕ → ℕ
latest n heard = without (8 - n) heard

-- A string's codes.

-- up to the last that is not 0, of so many at most
abbrev pub size_in : ℕ → ℕ → ℕ
size_in zero n = 0
size_in (suc k) n = cond (eqb n 0) 0 (suc (size_in k (n / 32)))

-- how many codes a string has
unfoldable pub size : ℕ → ℕ
size string = size_in 8 string

-- the last codes heard are the string's; an empty string never matches
unfoldable pub matches : ℕ → ℕ → Bool
matches string heard = ltb 0 string && eqb (latest (size string) heard) string

-- it matches, and all its codes come among the last n
unfoldable pub comes : ℕ → ℕ → ℕ → Bool
comes string heard n = matches string heard && leb (size string) n

-- the strings in their order: 0 is string 91, 4 is string 95
unfoldable pub signal : Calling → ℕ → ℕ
signal k place = get_or k.strings place 0

-- What turns the motor on and off.

-- the motor power mode says what starts it; n codes were heard since the first string 93 that counts, 0 where there is none
unfoldable pub starts : Calling → ℕ → ℕ → Bool
starts k heard n =
    cond (eqb k.power 2) (matches (signal k 0) heard)
    (cond (eqb k.power 4) (comes (signal k 3) heard n)
    (cond (eqb k.power 5) (comes (signal k 4) heard n)
    (cond (eqb k.power 6) (comes (signal k 3) heard n || comes (signal k 4) heard n)
    false)))

-- one code later, staying at 8
abbrev pub later : ℕ → ℕ
later n = min 8 (n + 1)

-- string 92 stops it
unfoldable pub while_on : Calling → ℕ → Run
while_on k heard = cond (matches (signal k 1) heard) Off On

-- string 93 is the first that counts
unfoldable pub while_off : Calling → ℕ → Run
while_off k heard = cond (matches (signal k 2) heard) (Called 0) Off

-- starts are looked for only while it is off, stops only while it is on
abbrev pub turned : Calling → ℕ → Run → Run
turned k heard Off = cond (starts k heard 0) On (while_off k heard)
turned k heard (Called n) = cond (starts k heard (later n)) On (Called (later n))
turned k heard On = while_on k heard

-- the motor after one more code
unfoldable pub hearing : Calling → Motor → ℕ → Motor
hearing k m c = let h = heard_with m.heard c in record { heard = h; run = turned k h m.run }

-- and after several
abbrev pub hearing_all : Calling → Motor → List ℕ → Motor
hearing_all k m [] = m
hearing_all k m (c ∷ cs) = hearing_all k (hearing k m c) cs

-- off, and nothing heard
abbrev pub resting : Motor
resting = record { heard = 0; run = Off }

-- it runs
abbrev pub is_on : Run → Bool
is_on Off = false
is_on (Called n) = false
is_on On = true

-- the count is at most 8
abbrev pub sound_run : Run → Bool
sound_run Off = true
sound_run (Called n) = leb n 8
sound_run On = true

-- eight codes heard, and a count of at most 8
unfoldable pub sound_motor : Motor → Bool
sound_motor m = is_word m.heard && sound_run m.run
