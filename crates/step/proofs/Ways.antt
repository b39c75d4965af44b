-- What a byte does, by the route that its stream has.
-- Assumes nothing.
use Prim.Native.Nat.{ℕ}
use mathlib.Core.Path.{◌≡◌, refl, sym}
use mathlib.Core.Bool.{cond}
use mathlib.Core.List.{List, []}
use Rattle.step.specs.Names.{Settings, State, Route, Dropped, ToPrinter, ToHost, ToTu, Text}
use Rattle.step.specs.Route.{is_printer}
use Rattle.step.specs.State.{with_sender, with_reading, with_incoming, with_motor}
use Rattle.step.specs.Hear.{asked_by}
use Rattle.step.specs.Step.{quiet, text, lined, carried, tued}
use Rattle.step.proofs.Hearing.{text_asked}

-- text and TU codes by whether their route is to the printer
pub text_printed : (o : Settings) (k : Route) (bs : List ℕ) → text o k bs ≡ cond (is_printer k) (asked_by o Text bs) []
text_printed o Dropped bs = refl
text_printed o ToPrinter bs = sym (text_asked o bs)
text_printed o ToHost bs = refl
text_printed o ToTu bs = refl

pub tu_printed : (k : Route) (s : State) (c : ℕ) → tued k s c ≡ cond (is_printer k) (carried s c) (quiet s)
tu_printed Dropped s c = refl
tu_printed ToPrinter s c = refl
tu_printed ToHost s c = refl
tu_printed ToTu s c = refl

-- a line code changes the reading case alone
pub lined_touches : (k : Route) (s : State) (c : ℕ) → (lined k s c).state ≡ with_reading s (lined k s c).state.reading
lined_touches Dropped s c = refl
lined_touches ToPrinter s c = refl
lined_touches ToHost s c = refl
lined_touches ToTu s c = refl

-- a TU code the incoming case, the sender and the motor
pub tued_touches : (k : Route) (s : State) (c : ℕ) → (tued k s c).state ≡ with_motor (with_sender (with_incoming s (tued k s c).state.incoming) (tued k s c).state.sender) (tued k s c).state.motor
tued_touches Dropped s c = refl
tued_touches ToPrinter s c = refl
tued_touches ToHost s c = refl
tued_touches ToTu s c = refl
