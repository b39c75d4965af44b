-- Calls one after the other: what each was given and what it gave, and what they took, sent and left together.
use Rattle.std.specs.Prelude.{ℕ, List, [], ◌∷◌, ◌++◌, length, take, replicate}
use Rattle.step.specs.Step.{Step, step, Event, steps}
use Rattle.linebox.specs.Ends.{events, outputs}
use Rattle.demands.specs.Names.{Settings, State, Stream, Host, Line, Tu}
use Rattle.demands.specs.Box.{Result, Box}

-- all codes that events send to the line
abbrev pub lines : State → List Event → List ℕ
lines s es = outputs (λ (x : Step). x.line) (steps s es)

-- the settings in force for each of these codes: those before the byte that sent it
abbrev pub in_force : State → List Event → List Settings
in_force s [] = []
in_force s (e ∷ es) = let x = step e.stream s e.byte in replicate (length x.line) s.settings ++ in_force x.state es

-- what a call is given: bytes of a stream, and the two lent buffers
pub record Lent : Type 0 where
  pub stream : Stream
  pub bytes : List ℕ
  pub one : List ℕ
  pub two : List ℕ

-- and what it gave, whatever its answer
pub record Exchange : Type 0 where
  pub lent : Lent
  pub gave : Result

-- the bytes that it counts as taken
abbrev pub took : Exchange → List Event
took m = events m.lent.stream (take m.gave.gives.taken m.lent.bytes)

-- the codes that it wrote to the line buffer: a host and a TU call are lent it first, a line call is lent none
abbrev pub sent_by : Stream → Result → List ℕ
sent_by Host r = take r.gives.first r.first
sent_by Line r = []
sent_by Tu r = take r.gives.first r.first

-- many calls: the bytes taken, the codes sent, and the state that the last one left
abbrev pub took_all : List Exchange → List Event
took_all [] = []
took_all (m ∷ ms) = took m ++ took_all ms

abbrev pub sent_all : List Exchange → List ℕ
sent_all [] = []
sent_all (m ∷ ms) = sent_by m.lent.stream m.gave ++ sent_all ms

abbrev pub left : State → List Exchange → State
left s [] = s
left s (m ∷ ms) = left m.gave.gives.state ms

-- calls of a box, each handed the state that the last one left
abbrev pub exchanges : Box → State → List Lent → List Exchange
exchanges box s [] = []
exchanges box s (g ∷ gs) =
    let r = box g.stream s g.bytes g.one g.two in
    record { lent = g; gave = r } ∷ exchanges box r.gives.state gs
