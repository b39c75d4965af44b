-- A box: any three calls over the state.
use Rattle.std.specs.Prelude.{ℕ, List, length}
use Rattle.laws.specs.Written.{fronted}
use Rattle.linebox.specs.Call.{Done, Told, call, called}
use Rattle.demands.specs.Names.{State, Stream}

-- what a call gives: its answer's number, counts and state, and the two lent buffers after it
pub record Result : Type 0 where
  pub gives : Told
  pub first : List ℕ
  pub second : List ℕ

-- one call for each stream: a state, the input, and the two lent buffers
abbrev pub Box : Type 0
Box = Stream → State → List ℕ → List ℕ → List ℕ → Result

-- a call that wrote what it did to the fronts of the buffers
abbrev pub resulting : Done → List ℕ → List ℕ → Result
resulting d one two = record { gives = called d; first = fronted one d.first; second = fronted two d.second }

-- our box, as its calls promise
abbrev pub ours : Box
ours t s xs one two = resulting (call t s xs (length one) (length two)) one two
