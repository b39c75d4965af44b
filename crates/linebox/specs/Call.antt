-- How a call ends: its answer, what it took, the state, and what it wrote to each lent buffer in the order lent.
use Rattle.std.specs.Prelude.{ℕ, suc, ◌+◌, ◌-◌, ◌≤◌, ◌≡◌, Bool, true, false, cond, ◌&&◌, List, [], ◌∷◌, ◌++◌, ltb, length, drop}
use Rattle.laws.specs.Written.{fronted, Filled}
use Rattle.linebox.specs.Names.{Connection, State, Stream, Host, Line, Tu, Answer, All, NoRoom, NoCode, Unsound, Ran, Called}
use Rattle.step.specs.State.{sound}
use Rattle.step.specs.Step.{Step, step}
pub use Rattle.step.specs.Byte.{first_of, second_of, fits}

-- the numbers of the answers
abbrev pub number_of : Answer → ℕ
number_of All = 0
number_of NoRoom = 1
number_of NoCode = 2
number_of Unsound = 3

-- the streams whose bytes have to be codes, whatever the mode
abbrev pub is_coded : Stream → Connection → Bool
is_coded Host c = false
is_coded Line c = true
is_coded Tu c = true

-- the next byte of a code stream is over 31
abbrev pub refuses : Stream → State → ℕ → Bool
refuses t s b = is_coded t s.connection && ltb 31 b

-- what a call does: its answer by the paper's number, how many bytes it took, the state after them, and what it wrote to each buffer
pub record Done : Type 0 where
  pub answer : ℕ
  pub taken : ℕ
  pub state : State
  pub first : List ℕ
  pub second : List ℕ

-- nothing more is taken
abbrev pub stopped : ℕ → State → Done
stopped answer s = record { answer = answer; taken = 0; state = s; first = []; second = [] }

-- one byte taken, and then the others
abbrev pub onward : Stream → Step → Done → Done
onward t x d = record { answer = d.answer; taken = suc d.taken; state = d.state; first = first_of t x ++ d.first; second = second_of t x ++ d.second }

-- n bytes taken, with p and q written, before the rest
abbrev pub before : ℕ → List ℕ → List ℕ → Done → Done
before n p q d = record { answer = d.answer; taken = n + d.taken; state = d.state; first = p ++ d.first; second = q ++ d.second }

-- from a sound state, with this room in the two buffers: 0 when all bytes are taken, 1 when the next byte's whole output does not fit
-- one of them, 2 when the next byte of a code stream is over 31
abbrev pub taking : Stream → State → List ℕ → ℕ → ℕ → Done
taking t s [] a b = stopped 0 s
taking t s (x ∷ xs) a b =
    cond (refuses t s x) (stopped 2 s)
    (cond (fits t (step t s x) a b)
    (onward t (step t s x) (taking t (step t s x).state xs (a - length (first_of t (step t s x))) (b - length (second_of t (step t s x)))))
    (stopped 1 s))

-- answer 3 comes before all: the state handed in is not sound
abbrev pub call : Stream → State → List ℕ → ℕ → ℕ → Done
call t s xs a b = cond (sound s) (taking t s xs a b) (stopped 3 s)

-- what the caller is told of it: the answer's number, how many bytes were taken and how many were written to each buffer, the state
pub record Told : Type 0 where
  pub answer : ℕ
  pub taken : ℕ
  pub first : ℕ
  pub second : ℕ
  pub state : State

-- by the definition
abbrev pub called : Done → Told
called d = record { answer = d.answer; taken = d.taken; first = length d.first; second = length d.second; state = d.state }

-- by the code, whose answer has its number
abbrev pub told : Called → Told
told r = record { answer = number_of r.answer; taken = r.taken; first = r.first; second = r.second; state = r.state }

-- what the code gives
abbrev pub ended_at : Answer → ℕ → ℕ → ℕ → State → Called
ended_at answer taken first second s = record { answer = answer; taken = taken; first = first; second = second; state = s }

-- a run of bytes that write to the first buffer alone: they stand before what the rest gives, whatever room the second has
pub record Runs (t : Stream) (s : State) (input old now : List ℕ) (r : Ran) : Type 0 where
  pub new : List ℕ
  pub within : r.taken ≤ length input
  pub kept : sound r.state ≡ true
  pub places : Filled old now new r.count
  pub rest : (room : ℕ) → taking t s input (length old) room ≡ before r.taken new [] (taking t r.state (drop r.taken input) (length old - r.count) room)

-- A whole call: what it tells is the definition's, and each buffer is the old one with what was written at its front.
pub record Calls (d : Done) (old₁ old₂ now₁ now₂ : List ℕ) (r : Called) : Type 0 where
  pub gives : told r ≡ called d
  pub one : now₁ ≡ fronted old₁ d.first
  pub two : now₂ ≡ fronted old₂ d.second
