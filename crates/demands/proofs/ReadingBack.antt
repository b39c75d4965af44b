-- Reading back: the reader of a code is a printer whose own habits are the options in force when it was sent, so the record agrees
-- with it and what was sent reads as it was asked for.
-- Assumes nothing.
use Prim.Native.Nat.{ℕ}
use lib.Dec.{eqb}
use mathlib.Core.Path.{◌≡◌, refl, sym, ap, ◌∙◌}
use mathlib.Core.Bool.{Bool, true, false, cond, false≢true}
use mathlib.Core.List.{List, [], ◌∷◌, ◌++◌, append_assoc}
use lib.ListN.{length, take, drop, replicate}
use lib.Seq.{take_at, drop_at}
use Rattle.code.specs.Kinds.{kind_of}
use Rattle.command.specs.Read.{read, text_of}
use Rattle.command.specs.Reads.{made}
use Rattle.settings.specs.Options.{onspace, onreturn, reports}
use Rattle.printer.specs.Printer.{unshifted, hear_case, hear, hears, from, mark_as, prints_as, prints, prints_all}
use Rattle.sender.specs.Reading.{unshifted_by, read_case}
use Rattle.sender.specs.Item.{items, after_items, fresh}
use Rattle.agree.specs.Agrees.{Agrees, ObeysAt, Obeys}
use Rattle.agree.proofs.Agreement.{agreement, unknown_agrees}
use Rattle.agree.proofs.Folds.{items_noted}
use Rattle.step.specs.Route.{route}
use Rattle.step.specs.State.{with_reader, with_reading}
use Rattle.step.specs.Step.{Step, read_as, hosted, line_step, step, Event, run}
use Rattle.linebox.specs.Ends.{events, firsts_of, Cut, Fed, feeding}
use Rattle.settings.proofs.Written.{commanded_keeps}
use Rattle.linebox.proofs.Cutting.{cutting}
use Rattle.step.proofs.Ways.{lined_touches, tued_touches}
use Rattle.demands.specs.Names.{Case, Kind, Still, Space, Return, Shift, Char, Settings, Connection, ToHost, Printer, Reader, Out, Nothing, One, Two, Finished, State, Stream, Host, Line, Tu}
use Rattle.demands.specs.Writes.{connection_ids, writing, writes_by}
use Rattle.demands.specs.Items.{items_of}
use Rattle.demands.specs.Asks.{code_in, text_bytes, asks_by, asks}
use Rattle.demands.specs.Lent.{lines, in_force}
use Rattle.demands.specs.Printing.{characters_of}
use Rattle.demands.specs.Whole.{asks_all}
use Rattle.demands.specs.ReadingBack.{under, read_back, host_byte, host_bytes, host_force, texts, plain_text, AllPlain, Joins, ReadsBack}
use Rattle.demands.proofs.Writes.{connected_by}
use Rattle.demands.proofs.Sending.{line_items, sender_items}
use Rattle.demands.proofs.Sessions.{lines_append}
use Rattle.demands.proofs.Reading.{items_read}
use Rattle.demands.proofs.Stretches.{characters_append, items_printed, plain_printed}

-- A printer whose own habits are the options in force.

abbrev follower : Settings → Case → ℕ → Printer
follower o case n = from case n (onspace o) (onreturn o)

-- obeys these options
module _ (o : Settings) where
  obeys_at : (case : Case) (n : ℕ) (k : Kind) → ObeysAt o (follower o case n) k
  obeys_at case n Still = tt
  obeys_at case n Space = λ h. h
  obeys_at case n Return = λ h. h
  obeys_at case n (Shift to) = tt
  obeys_at case n (Char bell) = tt

  obeys_own : (case : Case) (n : ℕ) (cs : List ℕ) → Obeys o (follower o case n) cs
  obeys_own case n [] = tt
  obeys_own case n (c ∷ cs) = let q = hear (follower o case n) c in (obeys_at case n (kind_of c), obeys_own q.case q.count cs)

-- and is the box's own reader of line codes: it goes to the same case
unshifted_alike : (on : Bool) (case : Case) → unshifted_by on case ≡ unshifted on case
unshifted_alike true case = refl
unshifted_alike false case = refl

case_heard : (o : Settings) (case : Case) (n : ℕ) (k : Kind) → read_case o case k ≡ hear_case (follower o case n) k
case_heard o case n Still = refl
case_heard o case n Space = unshifted_alike (onspace o) case
case_heard o case n Return = unshifted_alike (onreturn o) case
case_heard o case n (Shift to) = refl
case_heard o case n (Char bell) = refl

-- and prints what is read
read_printed : (case : Case) (n : ℕ) (k : Kind) (c : ℕ) → read_as false case k c ≡ characters_of (prints_as k (mark_as k case n c))
read_printed case n Still c = refl
read_printed case n Space c = refl
read_printed case n Return c = refl
read_printed case n (Shift to) c = refl
read_printed case n (Char bell) c = refl

to_host : (k : Connection) → k.mode ≡ 1 → route k Line ≡ ToHost
unfolding route
to_host k e = rw e

one_read : (o : Settings) → reports o ≡ false → (r : State) (n : ℕ) → r.connection.mode ≡ 1 → (c : ℕ) → let p = follower o r.reading n in
    line_step (under o r) c ≡ record { state = with_reading (under o r) (hear p c).case; line = []; host = characters_of (prints p c); tu = [] }
one_read o off r n e c =
    rw (to_host r.connection e, off, case_heard o r.reading n (kind_of c), read_printed r.reading n (kind_of c) c) refl

follower_reads : (s : State) (n : ℕ) (cs : List ℕ) → s.connection.mode ≡ 1 → reports s.settings ≡ false → firsts_of Line s cs ≡ characters_of (prints_all (follower s.settings s.reading n) cs)
follower_reads s n [] e off = refl
follower_reads s n (c ∷ cs) e off =
    let p = follower s.settings s.reading n in
    ap (λ (x : Step). x.host ++ firsts_of Line x.state cs) (one_read s.settings off s n e c)
    ∙ ap (λ (u : List ℕ). characters_of (prints p c) ++ u) (follower_reads (with_reading s (hear p c).case) (hear p c).count cs e off)
    ∙ sym (characters_append (prints p c) (prints_all (hear p c) cs))

-- What the host gets of codes typed in mode 1 is what the operator's printer prints, if it unshifts as 70 and 71 say.
pub typed_reads : (s : State) (p : Printer) (cs : List ℕ) → s.connection.mode ≡ 1 → reports s.settings ≡ false
    → p.case ≡ s.reading → p.onspace ≡ onspace s.settings → p.onreturn ≡ onreturn s.settings → firsts_of Line s cs ≡ characters_of (prints_all p cs)
typed_reads s p cs e off case space return =
    follower_reads s p.count cs e off
    ∙ ap (λ (q : Printer). characters_of (prints_all q cs)) (rw (← case, ← space, ← return) refl)

-- Codes sent under the same settings, and others after them: if every reader in the case that the first ones leave reads `text` of the
-- others, then all of them read as what the printer prints of the first, and `text`.
module _ (o : Settings) (off : reports o ≡ false) (os : List Settings) (rest text : List ℕ) where
  stretch_reads : (cs : List ℕ) (r : State) (n : ℕ) → r.connection.mode ≡ 1
      → ((q : State) → q.connection.mode ≡ 1 → q.reading ≡ (hears (follower o r.reading n) cs).case → read_back q os rest ≡ text)
      → read_back r (replicate (length cs) o ++ os) (cs ++ rest) ≡ characters_of (prints_all (follower o r.reading n) cs) ++ text
  stretch_reads [] r n e after = after r e refl
  stretch_reads (c ∷ cs) r n e after =
      let p = follower o r.reading n in
      ap (λ (x : Step). x.host ++ read_back x.state (replicate (length cs) o ++ os) (cs ++ rest)) (one_read o off r n e c)
      ∙ ap (λ (u : List ℕ). characters_of (prints p c) ++ u) (stretch_reads cs (with_reading (under o r) (hear p c).case) (hear p c).count e after)
      ∙ rw (characters_append (prints p c) (prints_all (hear p c) cs), append_assoc)

-- Plain events: what is read of them is what they ask for, by any reader that stands as the record says.
plain_reads : (s : State) (es : List Event) (r : State) (n : ℕ) → r.connection.mode ≡ 1 → Agrees s.sender.held (follower s.settings r.reading n) → AllPlain s es
    → read_back r (in_force s es) (lines s es) ≡ asks_all s es
plain_reads s [] r n e a h = refl
plain_reads s (x ∷ es) r n e a h =
    let o = s.settings in
    let p = follower o r.reading n in
    let ws = items_of s x in
    let d = step x.stream s x.byte in
    let obeys : Obeys o p (items o s.sender ws) = obeys_own o r.reading n (items o s.sender ws) in
    let one : characters_of (prints_all p d.line) ≡ asks s x =
    plain_printed o h.0.endings p d.line (asks s x) (rw (line_items s x, ← items_read s x) (items_printed o s.sender p ws obeys a)) in
    let after : d.state.sender ≡ after_items o s.sender ws = sender_items s x ∙ ap (λ (b : Bool). cond b fresh (after_items o s.sender ws)) h.0.stays in
    let heard : Agrees d.state.sender.held (hears p d.line) = rw (after, items_noted o s.sender ws, line_items s x) (agreement o s.sender.held p (items o s.sender ws) obeys a) in
    stretch_reads o h.0.reports (in_force d.state es) (lines d.state es) (asks_all d.state es) d.line r n e
    (λ q f same. plain_reads d.state es q (hears p d.line).count f (record { case = rw same heard.case; column = heard.column }) h.1)
    ∙ ap (λ (u : List ℕ). u ++ asks_all d.state es) one

-- Mode 1 stays.

hosted_stays : (s : State) (r : Reader) (out : Out) → writing connection_ids s out ≡ false → (hosted (with_reader s r) s.reader.values out).state.connection ≡ s.connection
hosted_stays s r Nothing h = refl
hosted_stays s r (One b) h = refl
hosted_stays s r (Two b) h = refl
hosted_stays s r (Finished v count) h = commanded_keeps s.settings s.calling s.connection v count s.reader.values (connected_by s v count s.reader.values ∙ h)

stays_by : (t : Stream) (s : State) (b : ℕ) → writes_by connection_ids t s b ≡ false → (step t s b).state.connection ≡ s.connection
stays_by Host s b h = hosted_stays s (read s.reader b).reader (read s.reader b).out h
stays_by Line s b h = ap (λ (x : State). x.connection) (lined_touches (route s.connection Line) s b)
stays_by Tu s b h = ap (λ (x : State). x.connection) (tued_touches (route s.connection Tu) s b)

-- The reader of commands moves by host bytes alone.

hosted_reader : (s : State) (fields : List ℕ) (out : Out) → (hosted s fields out).state.reader ≡ s.reader
hosted_reader s fields Nothing = refl
hosted_reader s fields (One b) = refl
hosted_reader s fields (Two b) = refl
hosted_reader s fields (Finished v count) = refl

-- What plain events ask for is their text.

host_bytes_law : (xs : List ℕ) → host_bytes (events Host xs) ≡ xs
host_bytes_law [] = refl
host_bytes_law (x ∷ xs) = ap (λ (r : List ℕ). x ∷ r) (host_bytes_law xs)

asks_text : (s : State) (es : List Event) → s.connection.mode ≡ 1 → AllPlain s es → asks_all s es ≡ plain_text s es
asks_text s [] e h = refl
asks_text s (x ∷ es) e h = go x.stream x.byte (asks_text (step x.stream s x.byte).state es (ap (λ (k : Connection). k.mode) (stays_by x.stream s x.byte h.0.stays) ∙ e) h.1)
  where
    -- the rest, whatever the command reader holds
    later : (t : Stream) (b : ℕ) → Reader → List ℕ
    later t b q = texts (host_force (step t s b).state es) (made q (host_bytes es))

    go : (t : Stream) (b : ℕ) → asks_all (step t s b).state es ≡ plain_text (step t s b).state es
        → asks_by t s b ++ asks_all (step t s b).state es ≡ texts (replicate (length (host_byte t b)) s.settings ++ host_force (step t s b).state es) (made s.reader (host_byte t b ++ host_bytes es))
    go Host b rest =
        let r = read s.reader b in
        let own = text_bytes s.settings (text_of r.out) in
        let same : (step Host s b).state.reader ≡ r.reader = hosted_reader (with_reader s r.reader) s.reader.values r.out in
        ap (λ (m : ℕ). cond (eqb m 1) own [] ++ asks_all (step Host s b).state es) e ∙ ap (λ (u : List ℕ). own ++ u) (rest ∙ ap (later Host b) same)
    go Line b rest = rest ∙ ap (later Line b) (ap (λ (x : State). x.reader) (lined_touches (route s.connection Line) s b))
    go Tu b rest =
        ap (λ (m : ℕ). cond (eqb m 4) (code_in s.incoming b) [] ++ asks_all (step Tu s b).state es) e
        ∙ rest
        ∙ ap (later Tu b) (ap (λ (x : State). x.reader) (tued_touches (route s.connection Tu) s b))

-- A connection command that succeeds sends nothing.

hosted_silent : (s : State) (r : Reader) (out : Out) → writing connection_ids s out ≡ true → (hosted (with_reader s r) s.reader.values out).line ≡ []
hosted_silent s r Nothing h = absurd (false≢true h)
hosted_silent s r (One b) h = absurd (false≢true h)
hosted_silent s r (Two b) h = absurd (false≢true h)
hosted_silent s r (Finished v count) h = refl

silent_by : (t : Stream) (s : State) (b : ℕ) → writes_by connection_ids t s b ≡ true → (step t s b).line ≡ []
silent_by Host s b h = hosted_silent s (read s.reader b).reader (read s.reader b).out h
silent_by Line s b h = absurd (false≢true h)
silent_by Tu s b h = absurd (false≢true h)

module _ (s : State) (e : Event) (j : Joins s e) where
  abbrev joined : State
  joined = (step e.stream s e.byte).state

  joined_agrees : (p : Printer) → Agrees joined.sender.held p
  joined_agrees p = rw (sender_items s e ∙ ap (λ (b : Bool). cond b fresh (after_items s.settings s.sender (items_of s e))) j.connects) (unknown_agrees p)

  -- From the state that a successful mode 1 connection command hands back, whatever came before it: any plain events after it,
  -- line and TU codes among the host bytes too. The box's own reading of all codes sent is the convertible text in capitals
  -- without its shift requests.
  pub reads_back : (es : List Event) → AllPlain joined es → read_back joined (in_force joined es) (lines joined es) ≡ plain_text joined es
  reads_back es h = plain_reads joined es joined 0 j.mode1 (joined_agrees (follower joined.settings joined.reading 0)) h ∙ asks_text joined es j.mode1 h

  -- The same of one host stream, cut into calls in any way and with any rooms, each going on at the first byte not taken.
  pub cut_reads_back : (xs : List ℕ) (cs : List Cut) → AllPlain joined (events Host xs) → (feeding Host joined xs cs).taken ≡ length xs
      → read_back joined (in_force joined (events Host xs)) (feeding Host joined xs cs).first ≡ texts (host_force joined (events Host xs)) (made joined.reader xs)
  cut_reads_back xs cs h all =
      ap (λ (f : Fed). read_back joined (in_force joined (events Host xs)) f.first) (cutting Host joined xs cs all)
      ∙ reads_back (events Host xs) h
      ∙ ap (λ (bs : List ℕ). texts (host_force joined (events Host xs)) (made joined.reader bs)) (host_bytes_law xs)

-- What any bytes send, from any state on, reads back.
pub lines_read_back : (start : State) (es : List Event) → ReadsBack start es (lines start es)
lines_read_back start es before e after later split j h =
    let s = run start before in
    let x = step e.stream s e.byte in
    let now = lines x.state after in
    let os = in_force x.state after in
    let rest = lines (run x.state after) later in
    let all : lines start es ≡ lines start before ++ (now ++ rest) =
    ap (lines start) split
    ∙ lines_append start before (e ∷ (after ++ later))
    ∙ ap (λ (u : List ℕ). lines start before ++ (u ++ lines x.state (after ++ later))) (silent_by e.stream s e.byte j.connects)
    ∙ ap (λ (u : List ℕ). lines start before ++ u) (lines_append x.state after later) in
    ap (λ (u : List ℕ). read_back x.state os (take (length now) (drop (length (lines start before)) u))) all
    ∙ ap (λ (u : List ℕ). read_back x.state os (take (length now) u)) (drop_at (lines start before) (now ++ rest) (length (lines start before)) refl)
    ∙ ap (read_back x.state os) (take_at now rest (length now) refl)
    ∙ reads_back s e j after h
