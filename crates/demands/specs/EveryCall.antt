-- Demand 1: how a call ends, said of the bytes taken and the rest, over what one byte does and over lengths.
use Rattle.std.specs.Prelude.{ℕ, zero, suc, ◌-◌, ◌≡◌, Bool, true, false, List, [], ◌∷◌, ◌++◌, length}
use Rattle.step.specs.State.{sound}
use Rattle.step.specs.Step.{step}
use Rattle.linebox.specs.Call.{refuses, fits}
use Rattle.linebox.specs.Ends.{state_after, firsts_of, seconds_of}
use Rattle.demands.specs.Names.{State, Stream}
use Rattle.demands.specs.Box.{Result, Box}
use Rattle.demands.specs.ExactCodes.{Wrote}

-- A byte x, after the bytes `before` that were taken from state s, with a and b places lent.

-- it is a byte over 31 of a code stream
abbrev pub no_code : Stream → State → List ℕ → ℕ → Bool
no_code t s before x = refuses t (state_after t s before) x

-- its whole output fits the parts of the buffers still free
abbrev pub has_room : Stream → State → ℕ → ℕ → List ℕ → ℕ → Bool
has_room t s a b before x = fits t (step t (state_after t s before) x) (a - length (firsts_of t s before)) (b - length (seconds_of t s before))

-- it is taken
pub record Goes (t : Stream) (s : State) (a b : ℕ) (before : List ℕ) (x : ℕ) : Type 0 where
  pub code : no_code t s before x ≡ false
  pub room : has_room t s a b before x ≡ true

-- P exactly if Q
pub record Exactly (P Q : Type 0) : Type 0 where
  pub only : P → Q
  pub then : Q → P

-- there is a next byte, and this holds of it
abbrev pub Next : (ℕ → Type 0) → List ℕ → Type 0
Next P [] = ⊥
Next P (x ∷ rest) = P x

-- the condition of the answer with a number, of the bytes taken and the rest
abbrev pub Condition : Stream → State → ℕ → ℕ → List ℕ → List ℕ → ℕ → Type 0
-- 0: all bytes are taken
Condition t s a b taken rest zero = (sound s ≡ true) × (rest ≡ [])
-- 1: the next byte's whole output does not fit one of the buffers
Condition t s a b taken rest (suc zero) = (sound s ≡ true) × Next (λ x. (no_code t s taken x ≡ false) × (has_room t s a b taken x ≡ false)) rest
-- 2: the next byte of a code stream is over 31; room is not looked at
Condition t s a b taken rest (suc (suc zero)) = (sound s ≡ true) × Next (λ x. no_code t s taken x ≡ true) rest
-- 3: the state handed in is not sound
Condition t s a b taken rest (suc (suc (suc zero))) = sound s ≡ false
-- there is no other
Condition t s a b taken rest (suc (suc (suc (suc n)))) = ⊥

-- the input is split into bytes taken and the rest, and the answer is the one for that split
pub record Splits (t : Stream) (s : State) (xs : List ℕ) (a b w : ℕ) (taken rest : List ℕ) : Type 0 where
  pub whole : xs ≡ taken ++ rest
  -- every byte taken goes, after those before it
  pub each : (before : List ℕ) (x : ℕ) (others : List ℕ) → taken ≡ before ++ (x ∷ others) → Goes t s a b before x
  -- from a state that is not sound nothing is taken
  pub nothing : sound s ≡ false → taken ≡ []
  -- each number is the answer exactly when its condition holds
  pub answer : (n : ℕ) → Exactly (w ≡ n) (Condition t s a b taken rest n)

-- what a call gives: everything follows the bytes taken
pub record Ended (t : Stream) (s : State) (xs one two : List ℕ) (r : Result) : Type 0 where
  pub taken : List ℕ
  pub rest : List ℕ
  pub splits : Splits t s xs (length one) (length two) r.gives.answer taken rest
  pub count : r.gives.taken ≡ length taken
  pub state : r.gives.state ≡ state_after t s taken
  pub wrote : Wrote t s taken one two r

-- each call, any state, any input, any buffers
abbrev pub EveryCall : Box → Type 0
EveryCall box = (t : Stream) (s : State) (xs one two : List ℕ) → Ended t s xs one two (box t s xs one two)
