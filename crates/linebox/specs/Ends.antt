-- How a call ends, said of the bytes it took: the fold over them, and the condition of each answer.
use Rattle.std.specs.Prelude.{ℕ, zero, suc, ◌+◌, ◌-◌, ◌<◌, ◌≡◌, Bool, true, false, not, List, [], ◌∷◌, ◌++◌, eqb, length, get_or, take, drop}
use Rattle.linebox.specs.Names.{State, Stream}
use Rattle.step.specs.State.{sound}
use Rattle.step.specs.Step.{Step, step, Event, run, steps}
use Rattle.linebox.specs.Call.{first_of, second_of, refuses, fits, Done, call}

-- bytes of one stream
abbrev pub events : Stream → List ℕ → List Event
events t [] = []
events t (b ∷ bs) = record { stream = t; byte = b } ∷ events t bs

-- what steps give, all of it in order
abbrev pub outputs : (Step → List ℕ) → List Step → List ℕ
outputs f [] = []
outputs f (x ∷ xs) = f x ++ outputs f xs

-- the state after bytes, and what they give to each buffer
abbrev pub state_after : Stream → State → List ℕ → State
state_after t s xs = run s (events t xs)

abbrev pub firsts_of : Stream → State → List ℕ → List ℕ
firsts_of t s xs = outputs (first_of t) (steps s (events t xs))

abbrev pub seconds_of : Stream → State → List ℕ → List ℕ
seconds_of t s xs = outputs (second_of t) (steps s (events t xs))

-- the outcome with that answer and the first n bytes taken
abbrev pub outcome : Stream → State → List ℕ → ℕ → ℕ → Done
outcome t s xs w n = record { answer = w; taken = n; state = state_after t s (take n xs); first = firsts_of t s (take n xs); second = seconds_of t s (take n xs) }

-- The next byte, when the first n are taken.

-- it is a byte over 31 of a code stream
abbrev pub refuses_at : Stream → State → List ℕ → ℕ → Bool
refuses_at t s xs n = refuses t (state_after t s (take n xs)) (get_or xs n 0)

-- its whole output fits the parts of the buffers still free
abbrev pub fits_at : Stream → State → List ℕ → ℕ → ℕ → ℕ → Bool
fits_at t s xs a b n = fits t (step t (state_after t s (take n xs)) (get_or xs n 0)) (a - length (firsts_of t s (take n xs))) (b - length (seconds_of t s (take n xs)))

-- Exactly when each answer comes.

-- the state handed in is sound with each but 3
abbrev pub from_sound : ℕ → Bool
from_sound w = not (eqb w 3)

-- of the bytes taken and the next one, for the answers 0, 1, 2 and 3; there is no other
abbrev pub When : Stream → State → List ℕ → ℕ → ℕ → ℕ → ℕ → Type 0
When t s xs a b n zero = n ≡ length xs
When t s xs a b n (suc zero) = (n < length xs) × ((refuses_at t s xs n ≡ false) × (fits_at t s xs a b n ≡ false))
When t s xs a b n (suc (suc zero)) = (n < length xs) × (refuses_at t s xs n ≡ true)
When t s xs a b n (suc (suc (suc zero))) = n ≡ 0
When t s xs a b n (suc (suc (suc (suc w)))) = ⊥

-- a byte is taken that is not refused and whose output fits
pub record Takes (t : Stream) (s : State) (xs : List ℕ) (a b n : ℕ) : Type 0 where
  pub accepts : refuses_at t s xs n ≡ false
  pub fits : fits_at t s xs a b n ≡ true

-- the state, each byte taken, and the next one
pub record Ends (t : Stream) (s : State) (xs : List ℕ) (a b w n : ℕ) : Type 0 where
  pub state : sound s ≡ from_sound w
  pub before : (i : ℕ) → i < n → Takes t s xs a b i
  pub next : When t s xs a b n w

-- Many calls.

-- one of them: how many of the bytes not yet taken it is given, and the room in each buffer
pub record Cut : Type 0 where
  pub bytes : ℕ
  pub first : ℕ
  pub second : ℕ

-- what they took, left and wrote together
pub record Fed : Type 0 where
  pub taken : ℕ
  pub state : State
  pub first : List ℕ
  pub second : List ℕ

-- a call, and then the others
abbrev pub joined : Done → Fed → Fed
joined d f = record { taken = d.taken + f.taken; state = f.state; first = d.first ++ f.first; second = d.second ++ f.second }

-- each goes on at the first byte not taken
abbrev pub feeding : Stream → State → List ℕ → List Cut → Fed
feeding t s xs [] = record { taken = 0; state = s; first = []; second = [] }
feeding t s xs (c ∷ cs) =
    let d = call t s (take c.bytes xs) c.first c.second in
    joined d (feeding t d.state (drop d.taken xs) cs)

-- the fold over all bytes
abbrev pub fed : Stream → State → List ℕ → Fed
fed t s xs = record { taken = length xs; state = state_after t s xs; first = firsts_of t s xs; second = seconds_of t s xs }
