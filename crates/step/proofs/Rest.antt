-- From a fresh box the reading case is letters unless line codes go to the host, and the incoming case unless TU codes go to the printer; the motor is off where nothing
-- is heard; and a byte that sends line codes changes no setting.
-- Assumes nothing.
use Prim.Native.Nat.{ℕ}
use mathlib.Core.Path.{◌≡◌, refl, sym, ap, subst, ◌∙◌}
use mathlib.Core.Bool.{Bool, true, false, cond, true≢false}
use mathlib.Core.List.{List, [], ◌∷◌}
use Rattle.command.specs.Read.{read}
use Rattle.settings.specs.Command.{commanded}
use Rattle.settings.specs.Laws.{Lasts}
use Rattle.settings.proofs.Written.{Keeps, commanded_keeps, commanded_lasts}
use Rattle.code.specs.Kinds.{kind_of}
use Rattle.sender.specs.Reading.{read_case}
use Rattle.sender.specs.Item.{wanted}
use Rattle.motor.specs.Motor.{resting}
use Rattle.step.specs.Names.{Case, Letters, Settings, Connection, Wanted, Route, Dropped, ToPrinter, ToHost, ToTu, Stored, Out, Nothing, One, Two, Finished, State, Stream, Host, Line, Tu}
use Rattle.step.specs.Route.{route, is_printer}
use Rattle.step.specs.State.{fresh_box, with_reader, with_incoming, with_stored}
use Rattle.step.specs.Hear.{listens, motor_after}
use Rattle.step.specs.Step.{text, hosted, lined, tued, step, Event, run}
use Rattle.step.specs.Laws.{heeds, Rested}
use Rattle.step.proofs.Hearing.{none_heard, deaf_motor}
use Rattle.step.proofs.Ways.{lined_touches, tued_touches}

-- The motor at rest.

-- where nothing is heard, what is asked for leaves the motor as it was
module _ (s : State) (e : heeds s.calling s.connection ≡ false) where
  text_dropped : (o : Settings) (k : Route) (bs : List ℕ) → is_printer k ≡ false → text o k bs ≡ []
  text_dropped o Dropped bs h = refl
  text_dropped o ToPrinter bs h = absurd (true≢false h)
  text_dropped o ToHost bs h = refl
  text_dropped o ToTu bs h = refl

  text_unheard : (bs : List ℕ) → motor_after s (text s.settings (route s.connection Host) bs) ≡ s.motor
  text_unheard bs = go (listens s.calling s.connection) refl (is_printer (route s.connection Host)) refl
    where
      go : (a : Bool) → listens s.calling s.connection ≡ a → (b : Bool) → is_printer (route s.connection Host) ≡ b
          → motor_after s (text s.settings (route s.connection Host) bs) ≡ s.motor
      go false f b g = deaf_motor s (text s.settings (route s.connection Host) bs) f
      go true f true g = absurd (true≢false (rw (f, g) at e))
      go true f false g = rw (text_dropped s.settings (route s.connection Host) bs g) (none_heard s)

  code_unheard : (ws : List Wanted) → route s.connection Tu ≡ ToPrinter → motor_after s ws ≡ s.motor
  code_unheard ws f = go (listens s.calling s.connection) refl (is_printer (route s.connection Host)) refl
    where
      go : (a : Bool) → listens s.calling s.connection ≡ a → (b : Bool) → is_printer (route s.connection Host) ≡ b → motor_after s ws ≡ s.motor
      go false g b h = deaf_motor s ws g
      go true g true h = absurd (true≢false (rw (g, h) at e))
      go true g false h = absurd (true≢false (rw (g, h, f) at e))

-- All at rest.

stored_rested : (s : State) (t : Stored) → Keeps s.connection t → Lasts s.calling s.connection t → Rested s → Rested (with_stored s t)
stored_rested s t k h r = record {
  reading = settled (λ c. route c Line ≡ ToHost) s.reading r.reading t.connected refl;
  incoming = settled (λ c. route c Tu ≡ ToPrinter) s.incoming r.incoming t.connected refl;
  motor = stopped t.forgets refl;
}
  where
    settled : (P : Connection → Type 0) (case : Case) → ((P s.connection → ⊥) → case ≡ Letters) → (b : Bool) → t.connected ≡ b → (P t.connection → ⊥) → cond b Letters case ≡ Letters
    settled P case h true e f = refl
    settled P case h false e f = h (λ p. f (subst P (sym (k e)) p))

    stopped : (b : Bool) → t.forgets ≡ b → heeds t.calling t.connection ≡ false → cond b resting s.motor ≡ resting
    stopped true e f = refl
    stopped false e f = r.motor (rw ((h e).1, (h e).2) at f)

hosted_rested : (s : State) (fields : List ℕ) (out : Out) → Rested s → Rested (hosted s fields out).state
hosted_rested s fields Nothing r = r
hosted_rested s fields (One b) r = record { reading = r.reading; incoming = r.incoming; motor = λ e. text_unheard s e (b ∷ []) ∙ r.motor e }
hosted_rested s fields (Two b) r = record { reading = r.reading; incoming = r.incoming; motor = λ e. text_unheard s e (47 ∷ b ∷ []) ∙ r.motor e }
hosted_rested s fields (Finished v count) r =
    let k = s.calling in
    let c = s.connection in
    stored_rested s (commanded s.settings k c v count fields).stored (commanded_keeps s.settings k c v count fields) (commanded_lasts s.settings k c v count fields) r

lined_rested : (k : Route) (s : State) (c : ℕ) → route s.connection Line ≡ k → Rested s → Rested (lined k s c).state
lined_rested Dropped s c e r = r
lined_rested ToPrinter s c e r = r
lined_rested ToHost s c e r = record { reading = λ h. absurd (h e); incoming = r.incoming; motor = r.motor }
lined_rested ToTu s c e r = r

tued_rested : (k : Route) (s : State) (c : ℕ) → route s.connection Tu ≡ k → Rested s → Rested (tued k s c).state
tued_rested Dropped s c e r = r
tued_rested ToPrinter s c e r = record {
  reading = r.reading;
  incoming = λ h. absurd (h e);
  motor = λ f. code_unheard (with_incoming s (read_case s.settings s.incoming (kind_of c))) f (wanted s.incoming c ∷ []) e ∙ r.motor f;
}
tued_rested ToHost s c e r = r
tued_rested ToTu s c e r = r

step_rested : (t : Stream) (s : State) (b : ℕ) → Rested s → Rested (step t s b).state
step_rested Host s b r = hosted_rested (with_reader s (read s.reader b).reader) s.reader.values (read s.reader b).out (record { reading = r.reading; incoming = r.incoming; motor = r.motor })
step_rested Line s b r = lined_rested (route s.connection Line) s b refl r
step_rested Tu s b r = tued_rested (route s.connection Tu) s b refl r

run_rested : (s : State) (es : List Event) → Rested s → Rested (run s es)
run_rested s [] r = r
run_rested s (e ∷ es) r = run_rested (step e.stream s e.byte).state es (step_rested e.stream s e.byte r)

-- a reading case of figures outside its mode, or a motor that runs where nothing is heard, cannot be reached from a fresh box
pub fresh_rested : (es : List Event) → Rested (run fresh_box es)
fresh_rested es = run_rested fresh_box es (record { reading = λ h. refl; incoming = λ h. refl; motor = λ h. refl })

-- What sends line codes.

-- commands answer to the host alone
hosted_keep : (s : State) (fields : List ℕ) (out : Out) → ((hosted s fields out).line ≡ [] → ⊥) → (hosted s fields out).state.settings ≡ s.settings
hosted_keep s fields Nothing n = refl
hosted_keep s fields (One b) n = refl
hosted_keep s fields (Two b) n = refl
hosted_keep s fields (Finished v count) n = absurd (n refl)

-- a byte that sends line codes changes no setting
pub sends_keep : (t : Stream) (s : State) (b : ℕ) → ((step t s b).line ≡ [] → ⊥) → (step t s b).state.settings ≡ s.settings
sends_keep Host s b n = hosted_keep (with_reader s (read s.reader b).reader) s.reader.values (read s.reader b).out n
sends_keep Line s b n = ap (λ (x : State). x.settings) (lined_touches (route s.connection Line) s b)
sends_keep Tu s b n = ap (λ (x : State). x.settings) (tued_touches (route s.connection Tu) s b)
