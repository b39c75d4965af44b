-- What one host byte does to the command reader, and what it makes.
use Rattle.std.specs.Prelude.{ℕ, ◌+◌, ◌*◌, ◌-◌, ◌%◌, min, ◌≡◌, Bool, true, false, cond, ◌&&◌, ◌||◌, List, [], ◌∷◌, eqb, leb, get_or, set}
use Rattle.command.specs.Names.{Verb, Write, Read, Other, Form, Empty, Digits, Ex, Stage, Text, Swallow, Held, Begun, Lettered, Typed, Fields, Discard, Reader, Out, Nothing, One, Two, Finished, Step}

-- no field uses a place
abbrev pub unused : List ℕ
unused = 0 ∷ 0 ∷ 0 ∷ 0 ∷ 0 ∷ 0 ∷ 0 ∷ 0 ∷ 0 ∷ 0 ∷ 0 ∷ []

-- the reader at a stage in which no field is read
abbrev pub at : Stage → Out → Step
at stage out = record { reader = record { stage = stage; values = unused }; out = out }

-- in a field: its type, its form, which it is, and all fields so far
abbrev pub in_field : Verb → Form → ℕ → List ℕ → Step
in_field v f last values = record { reader = record { stage = Fields v f last; values = values }; out = Nothing }

-- with nothing held: a `/` is held, any other byte is text
abbrev pub afresh : ℕ → Step
afresh b = cond (eqb b 47) (at Held Nothing) (at Text (One b))

-- with a `/` held: `.` begins a command; otherwise the `/` is text, and the byte is treated afresh
abbrev pub released : ℕ → Step
released b = cond (eqb b 46) (at Begun Nothing) (cond (eqb b 47) (at Held (One 47)) (at Text (Two b)))

-- CR or LF
abbrev pub ends : ℕ → Bool
ends b = eqb b 13 || eqb b 10

-- an LF directly after a CR that ended a command is swallowed
abbrev pub over : ℕ → Stage
over b = cond (eqb b 13) Swallow Text

-- in a command: CR or LF ends it, and a `/` anywhere ends it silently and is held anew
abbrev pub inside : ℕ → Out → Step → Step
inside b finished other = cond (ends b) (at (over b) finished) (cond (eqb b 47) (at Held Nothing) other)

-- from low to high
abbrev pub within : ℕ → ℕ → ℕ → Bool
within low high b = leb low b && leb b high

-- a to z
abbrev pub is_small : ℕ → Bool
is_small b = within 97 122 b

-- A to Z
abbrev pub is_capital : ℕ → Bool
is_capital b = within 65 90 b

-- the same letter in both cases
abbrev pub is_letter : ℕ → ℕ → Bool
is_letter letter b = eqb b letter || eqb b (letter + 32)

-- T and W, or T and R
abbrev pub verb : Bool → ℕ → Verb
verb true b = cond (is_letter 87 b) Write (cond (is_letter 82 b) Read Other)
verb false b = Other

-- the first letter
abbrev pub first : ℕ → Step
first b = cond (is_small b || is_capital b) (at (Lettered (is_small b) (is_letter 84 b)) Nothing) (at Discard Nothing)

-- a letter in the case of type that the first had
abbrev pub alike : Bool → ℕ → Bool
alike small b = cond small (is_small b) (is_capital b)

-- the second, in the same case
abbrev pub second : Bool → Bool → ℕ → Step
second small t b = cond (alike small b) (at (Typed (verb t b)) Nothing) (at Discard Nothing)

-- 0 to 9
abbrev pub is_digit : ℕ → Bool
is_digit b = within 48 57 b

-- a comma opens a field, which is 0 while nothing stands in it; past the eleventh they are too many
abbrev pub opened : Verb → ℕ → List ℕ → Step
opened v last values = in_field v Empty (min 11 (last + 1)) (set values (last + 1) 0)

-- a number with one digit more, reduced to a byte
abbrev pub grown : ℕ → ℕ → ℕ
grown n b = (n * 10 + (b - 48)) % 256

-- the field being read, with one digit more
abbrev pub added : Verb → ℕ → List ℕ → ℕ → Step
added v last values b = in_field v Digits last (set values last (grown (get_or values last 0) b))

-- digits of any count, and none after X
abbrev pub digit : Verb → Form → ℕ → List ℕ → ℕ → Step
digit v Empty last values b = added v last values b
digit v Digits last values b = added v last values b
digit v Ex last values b = at Discard Nothing

-- X alone is 255
abbrev pub ex : Verb → Form → ℕ → List ℕ → Step
ex v Empty last values = in_field v Ex last (set values last 255)
ex v Digits last values = at Discard Nothing
ex v Ex last values = at Discard Nothing

-- a comma, a digit, or X; any other byte has the command discarded
abbrev pub field : Verb → Form → ℕ → List ℕ → ℕ → Step
field v f last values b = cond (eqb b 44) (opened v last values) (cond (is_digit b) (digit v f last values b) (cond (eqb b 88) (ex v f last values) (at Discard Nothing)))

-- fewer than two fields are silently discarded, and twelve stand for too many
abbrev pub finish : Verb → ℕ → Out
finish v last = cond (eqb last 0) Nothing (Finished v (min 12 (last + 1)))

-- after the two letters, a comma opens the first field
abbrev pub typed : Verb → ℕ → Step
typed v b = cond (eqb b 44) (in_field v Empty 0 unused) (at Discard Nothing)

-- with nothing held, after a CR that ended a command
abbrev pub swallowed : ℕ → Step
swallowed b = cond (eqb b 10) (at Text Nothing) (afresh b)

-- one byte at each stage
abbrev pub read_at : Stage → List ℕ → ℕ → Step
read_at Text values b = afresh b
read_at Swallow values b = swallowed b
read_at Held values b = released b
read_at Begun values b = inside b Nothing (first b)
read_at (Lettered small t) values b = inside b Nothing (second small t b)
read_at (Typed v) values b = inside b Nothing (typed v b)
read_at (Fields v f last) values b = inside b (finish v last) (field v f last values b)
read_at Discard values b = inside b Nothing (at Discard Nothing)

-- one byte
abbrev pub read : Reader → ℕ → Step
read r b = read_at r.stage r.values b

-- nothing held
abbrev pub idle : Reader
idle = record { stage = Text; values = unused }

-- no further than twelve fields, the twelfth standing for too many
abbrev pub sound_stage : Stage → Bool
sound_stage Text = true
sound_stage Swallow = true
sound_stage Held = true
sound_stage Begun = true
sound_stage (Lettered small t) = true
sound_stage (Typed v) = true
sound_stage (Fields v f last) = leb last 11
sound_stage Discard = true

-- the text that a byte made
abbrev pub text_of : Out → List ℕ
text_of Nothing = []
text_of (One b) = b ∷ []
text_of (Two b) = 47 ∷ b ∷ []
text_of (Finished v count) = []

-- The same by the stage alone.

-- with nothing held: nothing for a `/`, or else the byte
abbrev pub text_afresh : ℕ → List ℕ
text_afresh b = cond (eqb b 47) [] (b ∷ [])

-- nothing for the LF of a command's CR LF; after a held `/`, nothing for `.`, or else that `/` and what the byte is afresh; in a
-- command nothing
abbrev pub text_at : Stage → ℕ → List ℕ
text_at Text b = text_afresh b
text_at Swallow b = cond (eqb b 10) [] (text_afresh b)
text_at Held b = cond (eqb b 46) [] (47 ∷ text_afresh b)
text_at Begun b = []
text_at (Lettered small t) b = []
text_at (Typed v) b = []
text_at (Fields v f last) b = []
text_at Discard b = []

-- one byte, and its text by the stage
pub record ByteRead (r : Reader) (b : ℕ) (s : Step) : Type 0 where
  pub gives : s ≡ read r b
  pub text : text_of s.out ≡ text_at r.stage b

-- a byte that made nothing
abbrev pub is_nothing : Out → Bool
is_nothing Nothing = true
is_nothing (One b) = false
is_nothing (Two b) = false
is_nothing (Finished v count) = false
