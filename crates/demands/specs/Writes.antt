-- When a byte writes an id: it finishes a command that does, without error.
use Rattle.std.specs.Prelude.{ℕ, Bool, true, false, ◌&&◌, ◌||◌, List, [], ◌∷◌, ◌++◌, eqb, get_or, is_ok}
use Rattle.command.specs.Read.{read}
use Rattle.settings.specs.Command.{wrong}
use Rattle.step.specs.Step.{Event}
use Rattle.demands.specs.Names.{Verb, Write, Read, Other, Out, Nothing, One, Two, Finished, State, Stream, Host, Line, Tu}

-- it is one of them
abbrev pub among : List ℕ → ℕ → Bool
among [] n = false
among (id ∷ ids) n = eqb n id || among ids n

-- TW alone of the types of a command
abbrev pub is_write : Verb → Bool
is_write Write = true
is_write Read = false
is_write Other = false

-- a command of these fields writes one of these ids: nothing is wrong with it, it is a write, and the first field is such an id
abbrev pub writes_in : List ℕ → State → Verb → ℕ → List ℕ → Bool
writes_in ids s v count fields = is_ok (wrong s.settings s.calling s.connection v count fields) && (is_write v && among ids (get_or fields 0 0))

-- what the command reader made of a byte does
abbrev pub writing : List ℕ → State → Out → Bool
writing ids s Nothing = false
writing ids s (One b) = false
writing ids s (Two b) = false
writing ids s (Finished v count) = writes_in ids s v count s.reader.values

-- commands come in host bytes alone
abbrev pub writes_by : List ℕ → Stream → State → ℕ → Bool
writes_by ids Host s b = writing ids s (read s.reader b).out
writes_by ids Line s c = false
writes_by ids Tu s c = false

-- with this byte
abbrev pub writes : List ℕ → State → Event → Bool
writes ids s e = writes_by ids e.stream s e.byte

-- the ids that write a connection
abbrev pub connection_ids : List ℕ
connection_ids = 1 ∷ 4 ∷ 10 ∷ 11 ∷ []

-- a connection command succeeds
abbrev pub connects : State → Event → Bool
connects s e = writes connection_ids s e

-- the ids that turn the motor off without a message: those, 53, 91 to 95, and 250
abbrev pub forgetting_ids : List ℕ
forgetting_ids = connection_ids ++ 53 ∷ 91 ∷ 92 ∷ 93 ∷ 94 ∷ 95 ∷ 250 ∷ []

-- what was heard is forgotten
abbrev pub forgets : State → Event → Bool
forgets s e = writes forgetting_ids s e
