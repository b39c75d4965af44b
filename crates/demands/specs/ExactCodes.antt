-- Demand 2, of any box: what a call writes is what the bytes that it counts as taken give.
use Rattle.std.specs.Prelude.{◌≡◌, List, ℕ, length, take}
use Rattle.laws.specs.Written.{fronted}
use Rattle.linebox.specs.Ends.{firsts_of, seconds_of}
use Rattle.demands.specs.Names.{State, Stream}
use Rattle.demands.specs.Box.{Result, Box}

-- How many were written to each buffer, and each place of it: a host call's line and host bytes, a line call's host and TU bytes,
-- a TU call's line bytes are those of the fold over the bytes taken.
pub record Wrote (t : Stream) (s : State) (taken one two : List ℕ) (r : Result) : Type 0 where
  pub count_first : r.gives.first ≡ length (firsts_of t s taken)
  pub count_second : r.gives.second ≡ length (seconds_of t s taken)
  pub first : r.first ≡ fronted one (firsts_of t s taken)
  pub second : r.second ≡ fronted two (seconds_of t s taken)

abbrev pub ExactCodes : Box → Type 0
ExactCodes box = (t : Stream) (s : State) (xs one two : List ℕ) → Wrote t s (take (box t s xs one two).gives.taken xs) one two (box t s xs one two)
