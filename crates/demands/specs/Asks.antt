-- What is asked for, by the command reader, the code, option 77 and the incoming reading case alone.
use Rattle.std.specs.Prelude.{ℕ, Bool, true, false, cond, ◌||◌, List, [], ◌∷◌, ◌++◌, eqb}
use Rattle.code.specs.Rows.{row_at}
use Rattle.code.specs.Kinds.{kind_of}
use Rattle.code.specs.Convert.{capital, conversion}
use Rattle.command.specs.Read.{read, text_of}
use Rattle.settings.specs.Table.{has_code}
use Rattle.settings.specs.Options.{stand_in}
use Rattle.step.specs.Step.{Event}
use Rattle.demands.specs.Names.{Case, Kind, Still, Space, Return, Shift, Char, Settings, Connection, State, Stream, Host, Line, Tu}

-- Host text.

-- SO and SI ask for a shift
abbrev pub is_request : ℕ → Bool
is_request b = eqb b 14 || eqb b 15

-- a byte with a code asks for itself, letters in capitals; a shift has nothing to print
abbrev pub itself : ℕ → List ℕ
itself b = cond (has_code (conversion b)) (cond (is_request b) [] (capital b ∷ [])) []

-- while option 77 is set, the stand-in stands for each byte without a code
abbrev pub replaced : Settings → ℕ → ℕ
replaced o b = cond (has_code (conversion b) || eqb (stand_in o) 0) b (stand_in o)

-- text after this replacement
abbrev pub text_byte : Settings → ℕ → List ℕ
text_byte o b = itself (replaced o b)

abbrev pub text_bytes : Settings → List ℕ → List ℕ
text_bytes o [] = []
text_bytes o (b ∷ bs) = text_byte o b ++ text_bytes o bs

-- in mode 1; by the mode itself and not by the box's route, which this is to be held against
abbrev pub host_asks : Settings → Connection → List ℕ → List ℕ
host_asks o k bs = cond (eqb k.mode 1) (text_bytes o bs) []

-- TU codes.

abbrev pub is_shift : Kind → Bool
is_shift Still = false
is_shift Space = false
is_shift Return = false
is_shift (Shift to) = true
is_shift (Char bell) = false

-- what a code reads as in a case; a shift has nothing to print
abbrev pub code_in : Case → ℕ → List ℕ
code_in case c = cond (is_shift (kind_of c)) [] (row_at case c ∷ [])

-- in mode 4, under the incoming reading case
abbrev pub tu_asks : Connection → Case → ℕ → List ℕ
tu_asks k case c = cond (eqb k.mode 4) (code_in case c) []

-- One byte of a stream; nothing else is asked for.

abbrev pub asks_by : Stream → State → ℕ → List ℕ
asks_by Host s b = host_asks s.settings s.connection (text_of (read s.reader b).out)
asks_by Line s c = []
asks_by Tu s c = tu_asks s.connection s.incoming c

abbrev pub asks : State → Event → List ℕ
asks s e = asks_by e.stream s e.byte
