-- What a byte sends is its items, and unless it connects the sender is theirs after it.
-- Assumes nothing.
use Prim.Native.Nat.{ℕ}
use mathlib.Core.Path.{◌≡◌, refl, ap}
use mathlib.Core.Bool.{cond}
use Rattle.command.specs.Read.{read, text_of}
use Rattle.sender.specs.Item.{items, after_items, fresh}
use Rattle.step.specs.Route.{route}
use Rattle.step.specs.State.{with_reader}
use Rattle.step.specs.Step.{text, hosted, tued, step, Event}
use Rattle.step.proofs.Ways.{lined_touches}
use Rattle.step.proofs.Hearing.{text_none}
use Rattle.demands.specs.Names.{Reader, Out, Nothing, One, Two, Finished, Route, Dropped, ToPrinter, ToHost, ToTu, Sender, State, Stream, Host, Line, Tu}
use Rattle.demands.specs.Writes.{connection_ids, writing, writes_by, connects}
use Rattle.demands.specs.Items.{carried_to, items_by, items_of}
use Rattle.demands.proofs.Sessions.{lined_none}
use Rattle.demands.proofs.Writes.{connected_by}

module _ (s : State) where
  abbrev after_by : Stream → ℕ → Sender
  after_by t b = after_items s.settings s.sender (items_by t s b)

  hosted_line : (r : Reader) (out : Out) → (hosted (with_reader s r) s.reader.values out).line ≡ items s.settings s.sender (text s.settings (route s.connection Host) (text_of out))
  hosted_line r Nothing = rw (text_none s.settings (route s.connection Host))
  hosted_line r (One b) = refl
  hosted_line r (Two b) = refl
  hosted_line r (Finished v count) = rw (text_none s.settings (route s.connection Host))

  hosted_sender : (r : Reader) (out : Out) → (hosted (with_reader s r) s.reader.values out).state.sender ≡ cond (writing connection_ids s out) fresh (after_items s.settings s.sender (text s.settings (route s.connection Host) (text_of out)))
  hosted_sender r Nothing = rw (text_none s.settings (route s.connection Host))
  hosted_sender r (One b) = refl
  hosted_sender r (Two b) = refl
  hosted_sender r (Finished v count) = rw (text_none s.settings (route s.connection Host), connected_by s v count s.reader.values)

  tued_line : (k : Route) (c : ℕ) → (tued k s c).line ≡ items s.settings s.sender (carried_to k s c)
  tued_line Dropped c = refl
  tued_line ToPrinter c = refl
  tued_line ToHost c = refl
  tued_line ToTu c = refl

  tued_sender : (k : Route) (c : ℕ) → (tued k s c).state.sender ≡ after_items s.settings s.sender (carried_to k s c)
  tued_sender Dropped c = refl
  tued_sender ToPrinter c = refl
  tued_sender ToHost c = refl
  tued_sender ToTu c = refl

  line_by : (t : Stream) (b : ℕ) → (step t s b).line ≡ items s.settings s.sender (items_by t s b)
  line_by Host b = hosted_line (read s.reader b).reader (read s.reader b).out
  line_by Line b = lined_none (route s.connection Line) s b
  line_by Tu b = tued_line (route s.connection Tu) b

  sender_by : (t : Stream) (b : ℕ) → (step t s b).state.sender ≡ cond (writes_by connection_ids t s b) fresh (after_by t b)
  sender_by Host b = hosted_sender (read s.reader b).reader (read s.reader b).out
  sender_by Line b = ap (λ (y : State). y.sender) (lined_touches (route s.connection Line) s b)
  sender_by Tu b = tued_sender (route s.connection Tu) b

  -- its items go to the line
  pub line_items : (e : Event) → (step e.stream s e.byte).line ≡ items s.settings s.sender (items_of s e)
  line_items e = line_by e.stream e.byte

  -- a connection forgets the record and the last item
  pub sender_items : (e : Event) → (step e.stream s e.byte).state.sender ≡ cond (connects s e) fresh (after_items s.settings s.sender (items_of s e))
  sender_items e = sender_by e.stream e.byte
