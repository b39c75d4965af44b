-- The example meets every premise: obedience is tested code by code, and the test computes.
-- Assumes nothing.
use Prim.Native.Nat.{ℕ, suc}
use mathlib.Core.Path.{◌≡◌, refl, ap, ◌∙◌}
use mathlib.Core.Bool.{Bool, true, false, cond, ◌&&◌, false≢true}
use mathlib.Core.List.{List, [], ◌∷◌}
use Rattle.std.proofs.lemmas.Bool.{and_parts}
use Rattle.code.specs.Rows.{row_at}
use Rattle.code.specs.Kinds.{kind_of}
use Rattle.code.specs.Convert.{conversion}
use Rattle.message.specs.Message.{digits}
use Rattle.settings.specs.Table.{row, sound_string, sound_stand_in, sound_settings, sound_connection, sound_calling, is_signal}
use Rattle.settings.specs.Command.{commanded}
use Rattle.settings.specs.Options.{endings, limit, onspace, onreturn, filter, reports, stand_in, ending_codes}
use Rattle.printer.specs.Printer.{hear, hears}
use Rattle.agree.specs.Agrees.{ObeysAt, Obeys}
use Rattle.motor.specs.Motor.{sound_motor}
use Rattle.step.specs.Hear.{listens, motor_after, told_of}
use Rattle.step.specs.Route.{route}
use Rattle.step.specs.State.{fresh_box}
use Rattle.step.specs.Step.{step, Event}
use Rattle.demands.specs.Names.{Kind, Still, Space, Return, Shift, Char, Settings, Printer, State}
use Rattle.demands.specs.Box.{ours}
use Rattle.demands.specs.Lent.{took_all, sent_all, exchanges}
use Rattle.demands.specs.Writes.{connects}
use Rattle.demands.specs.Story.{Scene, start, does, turned, Obedient}
use Rattle.demands.specs.Printing.{Holds}
use Rattle.demands.specs.Whole.{own_of, asks_all}
use Rattle.demands.specs.Example.{calls, bytes, first, joining, codes, asked}
use Rattle.demands.proofs.Lent.{ours_prints}
use Rattle.demands.proofs.Whole.{own_prints}

-- Obedience as a test.

abbrev implies : Bool → Bool → Bool
implies x y = cond x y true

implied : (x y : Bool) → implies x y ≡ true → x ≡ true → y ≡ true
implied true y h e = h
implied false y h e = absurd (false≢true e)

abbrev obey_at : Settings → Printer → Kind → Bool
obey_at o p Still = true
obey_at o p Space = implies p.onspace (onspace o)
obey_at o p Return = implies p.onreturn (onreturn o)
obey_at o p (Shift to) = true
obey_at o p (Char bell) = true

obeys_at : (o : Settings) (p : Printer) (k : Kind) → obey_at o p k ≡ true → ObeysAt o p k
obeys_at o p Still h = tt
obeys_at o p Space h = implied p.onspace (onspace o) h
obeys_at o p Return h = implied p.onreturn (onreturn o) h
obeys_at o p (Shift to) h = tt
obeys_at o p (Char bell) h = tt

abbrev obey : Settings → Printer → List ℕ → Bool
obey o p [] = true
obey o p (c ∷ cs) = obey_at o p (kind_of c) && obey o (hear p c) cs

obeys : (o : Settings) (p : Printer) (cs : List ℕ) → obey o p cs ≡ true → Obeys o p cs
obeys o p [] h = tt
obeys o p (c ∷ cs) h = let t = and_parts (obey_at o p (kind_of c)) (obey o (hear p c) cs) h in (obeys_at o p (kind_of c) t.0, obeys o (hear p c) cs t.1)

abbrev obey_all : (ℕ → Printer) → ℕ → State → Printer → List Event → Bool
obey_all joining n s p [] = true
obey_all joining n s p (e ∷ es) =
    let x = step e.stream s e.byte in
    obey s.settings p x.line && obey_all joining (suc n) x.state (cond (connects s e) (joining n) (hears p x.line)) es

obedient : (joining : ℕ → Printer) (n : ℕ) (x : Scene) (es : List Event) → obey_all joining n x.state x.printer es ≡ true → Obedient joining n x es
obedient joining n x [] h = tt
obedient joining n x (e ∷ es) h =
    let y = turned x e (joining n) in
    let q = and_parts (obey x.state.settings x.printer (does x e).line) (obey_all joining (suc n) y.state y.printer es) h in
    (obeys x.state.settings x.printer (does x e).line q.0, obedient joining (suc n) y es q.1)

-- The example.

-- what its calls write to the line buffers
pub example_codes : sent_all (exchanges ours fresh_box calls) ≡ codes
unfolding conversion kind_of row_at digits sound_string row route sound_stand_in sound_settings sound_calling is_signal sound_motor sound_connection commanded endings limit onspace onreturn filter reports stand_in ending_codes listens motor_after told_of
example_codes = refl

-- the bytes that its calls take
pub example_bytes : took_all (exchanges ours fresh_box calls) ≡ bytes
unfolding conversion kind_of row_at digits sound_string row route sound_stand_in sound_settings sound_calling is_signal sound_motor sound_connection commanded endings limit onspace onreturn filter reports stand_in ending_codes listens motor_after told_of
example_bytes = refl

-- its printers are obedient
example_test : obey_all joining 0 fresh_box first bytes ≡ true
unfolding conversion kind_of row_at digits sound_string row route sound_stand_in sound_settings sound_calling is_signal sound_motor sound_connection commanded endings limit onspace onreturn filter reports stand_in ending_codes listens motor_after told_of
example_test = refl

pub example_obedient : Obedient joining 0 (start first) (took_all (exchanges ours fresh_box calls))
example_obedient = rw example_bytes (obedient joining 0 (start first) bytes example_test)

-- so demand 3 holds of it
pub example : Holds joining 0 (start first) (took_all (exchanges ours fresh_box calls))
example = (ours_prints calls).holds first joining example_obedient

-- and what is printed beside its two endings is what it asks for
pub example_asked : asks_all fresh_box bytes ≡ asked
unfolding conversion kind_of row_at digits sound_string row route sound_stand_in sound_settings sound_calling is_signal sound_motor sound_connection commanded endings limit onspace onreturn filter reports stand_in ending_codes listens motor_after told_of
example_asked = refl

pub example_own : own_of joining 0 (start first) (took_all (exchanges ours fresh_box calls)) example ≡ asked
example_own = own_prints joining 0 (start first) (took_all (exchanges ours fresh_box calls)) example ∙ ap (asks_all fresh_box) example_bytes ∙ example_asked
