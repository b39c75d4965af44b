-- Calls that meet every premise of reading back, from a fresh box: cut inside the connection command and inside text, with a line
-- code, SO, SI and bytes without a code between; 70 is on at the connection, and off before the second figure after a space; 77 is set
-- between two bytes without a code; a second connection and its text come in the last call.
use Rattle.std.specs.Prelude.{ℕ, List, [], ◌∷◌, ◌++◌, replicate}
use Rattle.step.specs.State.{fresh_box}
use Rattle.step.specs.Step.{step, Event, run}
use Rattle.linebox.specs.Ends.{events}
use Rattle.demands.specs.Names.{State, Stream, Host, Line}
use Rattle.demands.specs.Lent.{Lent}
use Rattle.demands.specs.Traces.{write, mode1, on70, dash77}

-- with so much room in the first buffer
abbrev giving : Stream → ℕ → List ℕ → Lent
giving t room bytes = record { stream = t; bytes = bytes; one = replicate room 0; two = replicate 200 0 }

-- 70,1,0
abbrev off70 : List ℕ
off70 = write ++ 55 ∷ 48 ∷ 44 ∷ 49 ∷ 44 ∷ 48 ∷ 13 ∷ []

-- ` `, SO, `2`; ` 3`, SI, `~`, `bC`; and, with the stand-in `-`, `~` again
abbrev more : List ℕ
more = 32 ∷ 14 ∷ 50 ∷ []

abbrev last : List ℕ
last = 32 ∷ 51 ∷ 15 ∷ 126 ∷ 98 ∷ 67 ∷ []

abbrev dashed : List ℕ
dashed = dash77 ++ 126 ∷ []

-- `DEF`
abbrev others : List ℕ
others = 68 ∷ 69 ∷ 70 ∷ []

-- the fourth stops for want of room before the second space
abbrev pub calls : List Lent
calls =
    giving Host 0 (on70 ++ write ++ 49 ∷ 44 ∷ 50 ∷ [])
    ∷ giving Host 20 (44 ∷ 49 ∷ 44 ∷ 54 ∷ 48 ∷ 13 ∷ 10 ∷ 97 ∷ 49 ∷ [])
    ∷ giving Line 20 (27 ∷ [])
    ∷ giving Host 4 (more ++ off70 ++ last)
    ∷ giving Host 20 (last ++ dashed ++ mode1 ++ others)
    ∷ []

-- the bytes that they take: up to the CR that connects, that CR, up to the next connection command, and the others
abbrev pub before : List Event
before = events Host (on70 ++ write ++ 49 ∷ 44 ∷ 50 ∷ 44 ∷ 49 ∷ 44 ∷ 54 ∷ 48 ∷ [])

abbrev pub joining : Event
joining = record { stream = Host; byte = 13 }

abbrev pub after : List Event
after = events Host (10 ∷ 97 ∷ 49 ∷ []) ++ events Line (27 ∷ []) ++ events Host (more ++ off70 ++ last ++ dashed)

abbrev pub later : List Event
later = events Host (mode1 ++ others)

abbrev pub connected : State
connected = (step Host (run fresh_box before) 13).state

-- the codes sent: for `after`, and for `later`
abbrev pub codes : List ℕ
codes = 31 ∷ 3 ∷ 27 ∷ 23 ∷ 4 ∷ 31 ∷ 27 ∷ 19 ∷ 4 ∷ 1 ∷ 31 ∷ 25 ∷ 14 ∷ 27 ∷ 3 ∷ []

abbrev pub last_codes : List ℕ
last_codes = 31 ∷ 9 ∷ 1 ∷ 13 ∷ []

-- what reads back: `A1 2 3BC-`
abbrev pub text : List ℕ
text = 65 ∷ 49 ∷ 32 ∷ 50 ∷ 32 ∷ 51 ∷ 66 ∷ 67 ∷ 45 ∷ []

-- what an operator types after the connection, FIGS 1 SP Q, and what the host gets: `1 Q`
abbrev pub typed : List ℕ
typed = 27 ∷ 23 ∷ 4 ∷ 23 ∷ []

abbrev pub typed_text : List ℕ
typed_text = 49 ∷ 32 ∷ 81 ∷ []
