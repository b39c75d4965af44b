-- A box that demand 2 shuts out: its record stays unknown, and so endings vanish.
use Rattle.std.specs.Prelude.{ℕ, ◌-◌, ◌≡◌, cond, List, [], ◌∷◌, ◌++◌, length, replicate}
use Rattle.sender.specs.Record.{unknown}
use Rattle.step.specs.State.{fresh_box, sound, with_sender}
use Rattle.step.specs.Step.{Step, step}
use Rattle.linebox.specs.Call.{first_of, second_of, refuses, fits, Done, stopped, onward, call}
use Rattle.linebox.specs.Ends.{firsts_of}
use Rattle.demands.specs.Names.{State, Stream, Host}
use Rattle.demands.specs.Box.{Box, resulting}
use Rattle.demands.specs.Traces.{endings_on}

abbrev pub forgetting : State → State
forgetting s = with_sender s (record { held = unknown; last = s.sender.last })

-- a byte does what it should, from a record that is unknown, and leaves it unknown
abbrev pub forget_step : Stream → State → ℕ → Step
forget_step t s b = let x = step t (forgetting s) b in record { state = forgetting x.state; line = x.line; host = x.host; tu = x.tu }

-- all else is as it should be
abbrev pub forget_taking : Stream → State → List ℕ → ℕ → ℕ → Done
forget_taking t s [] a b = stopped 0 s
forget_taking t s (x ∷ xs) a b =
    let y = forget_step t s x in
    cond (refuses t s x) (stopped 2 s)
    (cond (fits t y a b)
    (onward t y (forget_taking t y.state xs (a - length (first_of t y)) (b - length (second_of t y))))
    (stopped 1 s))

abbrev pub forgetful : Box
forgetful t s xs one two = resulting (cond (sound s) (forget_taking t s xs (length one) (length two)) (stopped 3 s)) one two

-- Where it goes wrong: in mode 1 with limit 10 and 49 on, a return and eleven spaces.

abbrev pub ready : State
ready = (call Host fresh_box endings_on 0 200).state

abbrev pub spaces : List ℕ
spaces = 13 ∷ replicate 11 32

abbrev pub paper : List ℕ
paper = replicate 20 0

-- the ending is due before the last space, and vanishes
pub record Vanishes : Type 0 where
  pub due : firsts_of Host ready spaces ≡ 8 ∷ replicate 10 4 ++ 8 ∷ 8 ∷ 2 ∷ 31 ∷ 31 ∷ 4 ∷ []
  pub sent : (forgetful Host ready spaces paper []).first ≡ (8 ∷ replicate 11 4) ++ replicate 8 0
