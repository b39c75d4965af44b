-- Calls that meet demand 1, one after the other, are the fold over the bytes that they took; so what they send reads back and prints.
-- Assumes nothing.
use Prim.Native.Nat.{ℕ}
use mathlib.Core.Path.{◌≡◌, refl, sym, ap, ◌∙◌}
use mathlib.Core.List.{List, [], ◌∷◌, ◌++◌}
use Rattle.step.specs.State.{fresh_box}
use Rattle.step.specs.Step.{Event, run}
use Rattle.linebox.specs.Ends.{events, firsts_of}
use Rattle.demands.specs.Names.{State, Stream, Host, Line, Tu}
use Rattle.demands.specs.Box.{Result, Box, ours}
use Rattle.demands.specs.EveryCall.{EveryCall, Ended}
use Rattle.demands.specs.Lent.{lines, Lent, Exchange, took, sent_by, took_all, sent_all, left, exchanges}
use Rattle.demands.specs.ReadingBack.{ReadsBack, ReadingBack}
use Rattle.demands.specs.Printing.{Prints, Printing}
use Rattle.demands.proofs.Sessions.{run_append, lines_append, line_none}
use Rattle.demands.proofs.OurBox.{front, ours_every_call}
use Rattle.demands.proofs.ReadingBack.{lines_read_back}
use Rattle.demands.proofs.Printing.{lines_print}

sends_by : (t : Stream) (s : State) (xs one two : List ℕ) (r : Result) (h : Ended t s xs one two r) → sent_by t r ≡ lines s (events t h.taken)
sends_by Host s xs one two r h = front r.first (firsts_of Host s h.taken) _ r.gives.first h.wrote.first h.wrote.count_first
sends_by Line s xs one two r h = sym (line_none s h.taken)
sends_by Tu s xs one two r h = front r.first (firsts_of Tu s h.taken) _ r.gives.first h.wrote.first h.wrote.count_first

-- each call meets demand 1 from the state that the last one left
abbrev pub Meets : State → List Exchange → Type 0
Meets s [] = Unit {0}
Meets s (m ∷ ms) = Ended m.lent.stream s m.lent.bytes m.lent.one m.lent.two m.gave × Meets m.gave.gives.state ms

took_taken : (s : State) (m : Exchange) (h : Ended m.lent.stream s m.lent.bytes m.lent.one m.lent.two m.gave) → took m ≡ events m.lent.stream h.taken
took_taken s m h = ap (events m.lent.stream) (front m.lent.bytes h.taken h.rest m.gave.gives.taken h.splits.whole h.count)

-- all codes sent are those of the bytes taken
all_sent : (s : State) (ms : List Exchange) → Meets s ms → sent_all ms ≡ lines s (took_all ms)
all_sent s [] met = refl
all_sent s (m ∷ ms) met =
    let h = met.0 in
    let t = m.lent.stream in
    let es = events t h.taken in
    let rest = took_all ms in
    ap (λ (u : List ℕ). sent_by t m.gave ++ u) (all_sent m.gave.gives.state ms met.1)
    ∙ ap (λ (u : List ℕ). u ++ lines m.gave.gives.state rest) (sends_by t s m.lent.bytes m.lent.one m.lent.two m.gave h)
    ∙ ap (λ (q : State). lines s es ++ lines q rest) h.state
    ∙ sym (lines_append s es rest)
    ∙ ap (λ (u : List Event). lines s (u ++ rest)) (sym (took_taken s m h))

-- and the state that the last call left is that of the bytes taken
left_run : (s : State) (ms : List Exchange) → Meets s ms → left s ms ≡ run s (took_all ms)
left_run s [] met = refl
left_run s (m ∷ ms) met =
    let h = met.0 in
    let rest = took_all ms in
    left_run m.gave.gives.state ms met.1
    ∙ ap (λ (q : State). run q rest) h.state
    ∙ sym (run_append s (events m.lent.stream h.taken) rest)
    ∙ ap (λ (es : List Event). run s (es ++ rest)) (sym (took_taken s m h))

-- So what they send reads back, however the bytes were cut and whatever the buffers' sizes, and prints.
pub meets_reads_back : (s : State) (ms : List Exchange) → Meets s ms → ReadsBack s (took_all ms) (sent_all ms)
meets_reads_back s ms met = rw (all_sent s ms met) (lines_read_back s (took_all ms))

pub meets_prints : (ms : List Exchange) → Meets fresh_box ms → Prints (took_all ms) (sent_all ms) (left fresh_box ms)
meets_prints ms met = rw (all_sent fresh_box ms met, left_run fresh_box ms met) (lines_print (took_all ms))

-- Demands 2 and 3 of every box that meets demand 1.
module _ (box : Box) (every : EveryCall box) where
  box_meets : (s : State) (gs : List Lent) → Meets s (exchanges box s gs)
  box_meets s [] = tt
  box_meets s (g ∷ gs) = (every g.stream s g.bytes g.one g.two, box_meets (box g.stream s g.bytes g.one g.two).gives.state gs)

  pub box_reads_back : ReadingBack box
  box_reads_back start gs = meets_reads_back start (exchanges box start gs) (box_meets start gs)

  pub box_prints : Printing box
  box_prints gs = meets_prints (exchanges box fresh_box gs) (box_meets fresh_box gs)

pub ours_reads_back : ReadingBack ours
ours_reads_back = box_reads_back ours ours_every_call

-- Every character asked for prints as itself, in order, and nothing else but endings; a case on record is the printer's and a column
-- on record its count; after the first return, with 49 on, what lands lands below the limit.
pub ours_prints : Printing ours
ours_prints = box_prints ours ours_every_call
