-- What is asked for does not depend on what the sender holds.
-- Assumes nothing.
use Prim.Native.Nat.{ℕ}
use mathlib.Core.Path.{◌≡◌, refl, ap, ◌∙◌}
use mathlib.Core.List.{List, [], ◌∷◌, ◌++◌}
use Rattle.command.specs.Read.{read}
use Rattle.step.specs.Route.{route}
use Rattle.step.specs.State.{with_reader, with_sender}
use Rattle.step.specs.Hear.{motor_after}
use Rattle.step.specs.Step.{hosted, lined, tued, step, Event}
use Rattle.demands.specs.Names.{Reader, Out, Nothing, One, Two, Finished, Route, Dropped, ToPrinter, ToHost, ToTu, Sender, State, Stream, Host, Line, Tu}
use Rattle.demands.specs.Asks.{asks_by}
use Rattle.demands.specs.Whole.{asks_all}

module _ (s : State) (x : Sender) where
  hosted_apart : (r : Reader) (out : Out) → let y = (hosted (with_reader (with_sender s x) r) s.reader.values out).state in y ≡ with_sender (hosted (with_reader s r) s.reader.values out).state y.sender
  unfolding motor_after
  hosted_apart r Nothing = refl
  hosted_apart r (One b) = refl
  hosted_apart r (Two b) = refl
  hosted_apart r (Finished v count) = refl

  lined_apart : (k : Route) (c : ℕ) → let y = (lined k (with_sender s x) c).state in y ≡ with_sender (lined k s c).state y.sender
  lined_apart Dropped c = refl
  lined_apart ToPrinter c = refl
  lined_apart ToHost c = refl
  lined_apart ToTu c = refl

  tued_apart : (k : Route) (c : ℕ) → let y = (tued k (with_sender s x) c).state in y ≡ with_sender (tued k s c).state y.sender
  unfolding motor_after
  tued_apart Dropped c = refl
  tued_apart ToPrinter c = refl
  tued_apart ToHost c = refl
  tued_apart ToTu c = refl

  -- a byte leaves the same state, but for the sender
  step_apart : (t : Stream) (b : ℕ) → let y = (step t (with_sender s x) b).state in y ≡ with_sender (step t s b).state y.sender
  step_apart Host b = hosted_apart (read s.reader b).reader (read s.reader b).out
  step_apart Line b = lined_apart (route s.connection Line) b
  step_apart Tu b = tued_apart (route s.connection Tu) b

  asks_apart : (t : Stream) (b : ℕ) → asks_by t (with_sender s x) b ≡ asks_by t s b
  asks_apart Host b = refl
  asks_apart Line b = refl
  asks_apart Tu b = refl

-- whatever it holds
pub asked_apart : (s : State) (x : Sender) (es : List Event) → asks_all (with_sender s x) es ≡ asks_all s es
asked_apart s x [] = refl
asked_apart s x (e ∷ es) =
    let y = (step e.stream (with_sender s x) e.byte).state in
    let z = (step e.stream s e.byte).state in
    ap (λ (q : State). asks_by e.stream (with_sender s x) e.byte ++ asks_all q es) (step_apart s x e.stream e.byte)
    ∙ ap (λ (cs : List ℕ). cs ++ asks_all (with_sender z y.sender) es) (asks_apart s x e.stream e.byte)
    ∙ ap (λ (cs : List ℕ). asks_by e.stream s e.byte ++ cs) (asked_apart z y.sender es)
