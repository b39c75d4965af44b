-- The state as 128 bytes: each field at its offset, and what bytes spell.
use Rattle.std.specs.Prelude.{ℕ, zero, suc, ◌+◌, ◌-◌, ◌%◌, Bool, true, false, cond, List, [], ◌∷◌, ◌++◌, eqb, get_or, set, replicate}
use Rattle.laws.specs.Same.{same}
use Rattle.word.specs.Word.{number_by, bytes_of}
use Rattle.spelling.specs.Names.{Case, Letters, Figures, Verb, Write, Read, Other, Form, Empty, Digits, Ex, Stage, Text, Swallow, Held, Begun, Lettered, Typed, Fields, Discard, Reader, Settings, Connection, Calling, Sender, Run, Off, Called, On, Motor, State, Option, Some, None}

-- n elements from place i on
abbrev pub part : List ℕ → ℕ → ℕ → List ℕ
part xs i zero = []
part xs i (suc n) = get_or xs i 0 ∷ part xs (suc i) n

-- Fields as bytes.

abbrev pub bit : Bool → ℕ
bit false = 0
bit true = 1

abbrev pub case_byte : Case → ℕ
case_byte Letters = 1
case_byte Figures = 2

abbrev pub known_byte : Option Case → ℕ
known_byte None = 0
known_byte (Some case) = case_byte case

abbrev pub last_byte : Option Case → ℕ
last_byte shift = known_byte shift

abbrev pub verb_byte : Verb → ℕ
verb_byte Other = 0
verb_byte Write = 1
verb_byte Read = 2

abbrev pub form_byte : Form → ℕ
form_byte Empty = 0
form_byte Digits = 1
form_byte Ex = 2

-- the byte of each option, in the table's order: 49, 50, 70, 71, 72, 74, 77
abbrev pub offsets : List ℕ
offsets = 0 ∷ 1 ∷ 2 ∷ 3 ∷ 4 ∷ 5 ∷ 41 ∷ []

-- the values from place i on, each at its offset
abbrev pub sets_at : List ℕ → List ℕ → ℕ → List ℕ → List ℕ
sets_at b [] i vs = b
sets_at b (o ∷ os) i vs = sets_at (set b o (get_or vs i 0)) os (suc i) vs

-- 6 to 13: string 90's number, lowest byte first
abbrev pub string_bytes : Settings → List ℕ
string_bytes o = bytes_of o.string

-- 14 to 16: the connection's mode, port and speed
abbrev pub connection_bytes : Connection → List ℕ
connection_bytes c = c.mode ∷ c.port ∷ c.speed ∷ []

-- 18 and 19: whether the column is known, and the column
abbrev pub column_bytes : Option ℕ → List ℕ
column_bytes None = 0 ∷ 0 ∷ []
column_bytes (Some n) = 1 ∷ n ∷ []

-- 17 to 20: the record, and the last item
abbrev pub sender_bytes : Sender → List ℕ
sender_bytes x = known_byte x.held.case ∷ column_bytes x.held.column ++ last_byte x.last ∷ []

-- 23 to 26: the command reader's stage, and what it knows of the command
abbrev pub stage_bytes : Stage → List ℕ
stage_bytes Text = 0 ∷ 0 ∷ 0 ∷ 0 ∷ []
stage_bytes Swallow = 1 ∷ 0 ∷ 0 ∷ 0 ∷ []
stage_bytes Held = 2 ∷ 0 ∷ 0 ∷ 0 ∷ []
stage_bytes Begun = 3 ∷ 0 ∷ 0 ∷ 0 ∷ []
stage_bytes (Lettered small t) = 4 ∷ bit small ∷ bit t ∷ 0 ∷ []
stage_bytes (Typed v) = 5 ∷ verb_byte v ∷ 0 ∷ 0 ∷ []
stage_bytes (Fields v f last) = 6 ∷ verb_byte v ∷ form_byte f ∷ last ∷ []
stage_bytes Discard = 7 ∷ 0 ∷ 0 ∷ 0 ∷ []

-- 23 to 37: the command reader, the fields it has read last
abbrev pub reader_bytes : Reader → List ℕ
reader_bytes r = stage_bytes r.stage ++ part r.values 0 11

-- 44 and 45: whether the motor runs, and one more than the codes since the first string 93 that counts, as a byte
abbrev pub run_bytes : Run → List ℕ
run_bytes Off = 0 ∷ 0 ∷ []
run_bytes (Called n) = 0 ∷ (n + 1) % 256 ∷ []
run_bytes On = 1 ∷ 0 ∷ []

-- 56 to 63: the codes heard as one number, lowest byte first
abbrev pub heard_bytes : Motor → List ℕ
heard_bytes m = bytes_of m.heard

-- one of strings 91 to 95 by its place: its number, lowest byte first
abbrev pub signal_bytes : Calling → ℕ → List ℕ
signal_bytes k place = bytes_of (get_or k.strings place 0)

-- 64 to 103: all of them
abbrev pub signals_bytes : Calling → List ℕ
signals_bytes k = signal_bytes k 0 ++ (signal_bytes k 1 ++ (signal_bytes k 2 ++ (signal_bytes k 3 ++ signal_bytes k 4)))

-- 38 to 127, where no option is: 39 is the motor power mode, and a byte that no field has is 0
abbrev pub rest_bytes : Calling → Motor → List ℕ
rest_bytes k m = 0 ∷ k.power ∷ replicate 4 0 ++ (run_bytes m.run ++ (replicate 10 0 ++ (heard_bytes m ++ (signals_bytes k ++ replicate 24 0))))

-- all but the options; 21 and 22 are the reading cases
abbrev pub besides : State → List ℕ
besides s = replicate 6 0 ++ (string_bytes s.settings ++ (connection_bytes s.connection ++ (sender_bytes s.sender ++ (case_byte s.reading ∷ case_byte s.incoming ∷ reader_bytes s.reader ++ rest_bytes s.calling s.motor))))

-- the whole state
unfoldable pub spelt : State → List ℕ
spelt s = sets_at (besides s) offsets 0 s.settings.values

-- Bytes as fields. A byte that no field's value has reads as some value: it is the spelling that tells.

abbrev pub case_of : ℕ → Case
case_of n = cond (eqb n 1) Letters Figures

abbrev pub known_of : ℕ → Option Case
known_of n = cond (eqb n 0) None (Some (case_of n))

abbrev pub column_of : ℕ → ℕ → Option ℕ
column_of is n = cond (eqb is 1) (Some n) None

abbrev pub last_of : ℕ → Option Case
last_of n = known_of n

abbrev pub verb_of : ℕ → Verb
verb_of n = cond (eqb n 1) Write (cond (eqb n 2) Read Other)

abbrev pub form_of : ℕ → Form
form_of n = cond (eqb n 1) Digits (cond (eqb n 2) Ex Empty)

-- the bytes at offsets
abbrev pub pick : List ℕ → List ℕ → List ℕ
pick b [] = []
pick b (o ∷ os) = get_or b o 0 ∷ pick b os

-- the number of eight bytes from place i on
abbrev pub word_at : List ℕ → ℕ → ℕ
word_at b i = number_by 256 (part b i 8)

-- the options by their offsets, string 90's number from 6 on
abbrev pub settings_of : List ℕ → Settings
settings_of b = record { values = pick b offsets; string = word_at b 6 }

-- mode, port and speed
abbrev pub connection_of : List ℕ → Connection
connection_of b = record { mode = get_or b 14 0; port = get_or b 15 0; speed = get_or b 16 0 }

abbrev pub sender_of : List ℕ → Sender
sender_of b = record { held = record { case = known_of (get_or b 17 0); column = column_of (get_or b 18 0) (get_or b 19 0) }; last = last_of (get_or b 20 0) }

-- the stages that the first byte alone tells
abbrev pub plain_stage : ℕ → Stage
plain_stage n = cond (eqb n 0) Text (cond (eqb n 1) Swallow (cond (eqb n 2) Held (cond (eqb n 3) Begun Discard)))

abbrev pub stage_of : ℕ → ℕ → ℕ → ℕ → Stage
stage_of n x y z = cond (eqb n 4) (Lettered (eqb x 1) (eqb y 1)) (cond (eqb n 5) (Typed (verb_of x)) (cond (eqb n 6) (Fields (verb_of x) (form_of y) z) (plain_stage n)))

abbrev pub reader_of : List ℕ → Reader
reader_of b = record { stage = stage_of (get_or b 23 0) (get_or b 24 0) (get_or b 25 0) (get_or b 26 0); values = part b 27 11 }

-- strings 91 to 95, their bytes from place i on
abbrev pub signals_of : List ℕ → ℕ → List ℕ
signals_of b i = word_at b i ∷ word_at b (i + 8) ∷ word_at b (i + 16) ∷ word_at b (i + 24) ∷ word_at b (i + 32) ∷ []

-- the strings from 64 on, the motor power mode at 39
abbrev pub calling_of : List ℕ → Calling
calling_of b = record { strings = signals_of b 64; power = get_or b 39 0 }

abbrev pub run_of : ℕ → ℕ → Run
run_of on n = cond (eqb on 1) On (cond (eqb n 0) Off (Called (n - 1)))

abbrev pub motor_of : List ℕ → Motor
motor_of b = record { heard = word_at b 56; run = run_of (get_or b 44 0) (get_or b 45 0) }

unfoldable pub state_of : List ℕ → State
state_of b = record {
  settings = settings_of b;
  connection = connection_of b;
  sender = sender_of b;
  reading = case_of (get_or b 21 0);
  incoming = case_of (get_or b 22 0);
  reader = reader_of b;
  calling = calling_of b;
  motor = motor_of b;
}

-- What bytes spell.

-- bytes spell the state that they read as if they are its spelling, to the last byte
unfoldable pub spells : List ℕ → Bool
spells b = same b (spelt (state_of b))

-- elements written one after another from a place on
abbrev pub puts : List ℕ → ℕ → List ℕ → List ℕ
puts b i [] = b
puts b i (x ∷ xs) = puts (set b i x) (suc i) xs
