-- The boxes that the demands shut out.
use Rattle.std.specs.Prelude.{ℕ, List, [], length, take}
use Rattle.laws.specs.Written.{fronted}
use Rattle.linebox.specs.Call.{stopped}
use Rattle.demands.specs.Box.{Result, Box, resulting, ours}

-- always stops, with any answer
abbrev pub stops : ℕ → Box
stops w t s xs one two = resulting (stopped w s) one two

-- Our box's results, with a part changed.

-- these codes written to the first buffer
abbrev pub writing : List ℕ → List ℕ → Result → Result
writing cs one r = record {
  gives = record { answer = r.gives.answer; taken = r.gives.taken; first = length cs; second = r.gives.second; state = r.gives.state };
  first = fronted one cs;
  second = r.second;
}

-- so many bytes said to be taken, and written
abbrev pub telling : ℕ → ℕ → Result → Result
telling n m r = record {
  gives = record { answer = r.gives.answer; taken = n; first = m; second = r.gives.second; state = r.gives.state };
  first = r.first;
  second = r.second;
}

-- sends the same codes always
abbrev pub same_codes : List ℕ → Box
same_codes cs t s xs one two = writing cs one (ours t s xs one two)

-- sends nothing
abbrev pub silent : Box
silent = same_codes []

-- handles the first byte and merely takes the others
abbrev pub first_only : Box
first_only t s xs one two = let r = ours t s (take 1 xs) one two in telling (length xs) r.gives.first r

-- makes up how many bytes it took
abbrev pub miscounts : ℕ → Box
miscounts n t s xs one two = let r = ours t s xs one two in telling n r.gives.first r

-- makes up how many it wrote
abbrev pub miswrites : ℕ → Box
miswrites m t s xs one two = let r = ours t s xs one two in telling r.gives.taken m r
