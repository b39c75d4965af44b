-- From a fresh box the motor is that of the codes heard since the last forgetting, so what turns it on and off is what the motor's own theorems say of that list.
-- Assumes nothing.
use Prim.Native.Nat.{ℕ, suc, ◌+◌, ◌<◌, ◌≤◌}
use mathlib.Core.Path.{◌≡◌, refl, sym, ap, ◌∙◌}
use mathlib.Core.Bool.{Bool, true, false, cond, false≢true}
use mathlib.Core.List.{List, [], ◌∷◌, ◌++◌, append-nil, append_assoc}
use native.Mathlib.Omega.{arith}
use borrow.Author.Tests.{lt-ltb}
use lib.Dec.{eqb, ltb, lit≤}
use lib.ListN.{length}
use Rattle.std.proofs.lemmas.Bool.{and_parts}
use Rattle.word.specs.Word.{all_below}
use Rattle.code.specs.declared.Conversion.{Conversion}
use Rattle.code.specs.declared.Conversion.TheVariants as conversion
use Rattle.code.specs.Rows.{letters, figures}
use Rattle.code.specs.Kinds.{kind_of, dependent}
use Rattle.code.specs.Convert.{capital, found, seek, conversion as conversionOf}
use Rattle.command.specs.Read.{read, text_of}
use Rattle.settings.specs.Options.{stand_in}
use Rattle.settings.proofs.Written.{commanded_lasts}
use Rattle.sender.specs.Item.{or_else, standing, spoken, wanted_of, wanted_text}
use Rattle.motor.specs.Motor.{hearing_all, resting}
use Rattle.motor.proofs.Calling.{sound_signals}
use Rattle.motor.proofs.Turning.{started, starting, stopped_by, stopping}
use Rattle.step.specs.Route.{route}
use Rattle.step.specs.State.{fresh_box, with_reader}
use Rattle.step.specs.Hear.{listens, codes_asked, changes, motor_after, told_of}
use Rattle.step.specs.Step.{text, hosted, tued, step, Event, run}
use Rattle.step.proofs.Stays.{sound_parts, sound_run, fresh_sound}
use Rattle.step.proofs.Ways.{lined_touches}
use Rattle.step.proofs.Hearing.{none_heard, text_none, hearing_append, codes_append}
use Rattle.demands.specs.Names.{Case, Letters, Figures, Calling, Settings, Reader, Out, Nothing, One, Two, Finished, Route, Dropped, ToPrinter, ToHost, ToTu, Wanted, State, Stream, Host, Line, Tu}
use Rattle.demands.specs.Items.{carried_to, items_by, items_of}
use Rattle.demands.specs.Writes.{forgetting_ids, writing, writes_by, forgets}
use Rattle.demands.specs.Station.{hears, heard_from, heard_since, CodedBy, Coded, calling_after, Stationed, talks, Tells}
use Rattle.demands.proofs.Writes.{forgets_by}

-- One byte.

module _ (s : State) where
  abbrev none : text s.settings (route s.connection Host) [] ≡ []
  none = text_none s.settings (route s.connection Host)

  hosted_motor : (r : Reader) (out : Out) → (hosted (with_reader s r) s.reader.values out).state.motor ≡ cond (writing forgetting_ids s out) resting (motor_after s (text s.settings (route s.connection Host) (text_of out)))
  unfolding motor_after
  hosted_motor r Nothing = rw none (sym (none_heard s))
  hosted_motor r (One b) = refl
  hosted_motor r (Two b) = refl
  hosted_motor r (Finished v count) = rw (none, none_heard s, forgets_by s v count s.reader.values)

  hosted_calling : (r : Reader) (out : Out) → writing forgetting_ids s out ≡ false → (hosted (with_reader s r) s.reader.values out).state.calling ≡ s.calling
  hosted_calling r Nothing e = refl
  hosted_calling r (One b) e = refl
  hosted_calling r (Two b) e = refl
  hosted_calling r (Finished v count) e = (commanded_lasts s.settings s.calling s.connection v count s.reader.values (forgets_by s v count s.reader.values ∙ e)).1

  tued_motor : (k : Route) (c : ℕ) → (tued k s c).state.motor ≡ motor_after s (carried_to k s c)
  unfolding motor_after
  tued_motor Dropped c = sym (none_heard s)
  tued_motor ToPrinter c = refl
  tued_motor ToHost c = sym (none_heard s)
  tued_motor ToTu c = sym (none_heard s)

  tued_calling : (k : Route) (c : ℕ) → (tued k s c).state.calling ≡ s.calling
  tued_calling Dropped c = refl
  tued_calling ToPrinter c = refl
  tued_calling ToHost c = refl
  tued_calling ToTu c = refl

  motor_by : (t : Stream) (b : ℕ) → (step t s b).state.motor ≡ cond (writes_by forgetting_ids t s b) resting (motor_after s (items_by t s b))
  motor_by Host b = hosted_motor (read s.reader b).reader (read s.reader b).out
  motor_by Line b = ap (λ (x : State). x.motor) (lined_touches (route s.connection Line) s b) ∙ sym (none_heard s)
  motor_by Tu b = tued_motor (route s.connection Tu) b

  calling_by : (t : Stream) (b : ℕ) → writes_by forgetting_ids t s b ≡ false → (step t s b).state.calling ≡ s.calling
  calling_by Host b e = hosted_calling (read s.reader b).reader (read s.reader b).out e
  calling_by Line b e = ap (λ (x : State). x.calling) (lined_touches (route s.connection Line) s b)
  calling_by Tu b e = tued_calling (route s.connection Tu) b

  -- what is asked for is heard after what was
  heard_on : (ws : List Wanted) (hs : List ℕ) → s.motor ≡ hearing_all s.calling resting hs
      → motor_after s ws ≡ hearing_all s.calling resting (hs ++ cond (listens s.calling s.connection) (codes_asked ws) [])
  unfolding motor_after
  heard_on ws hs e = go (listens s.calling s.connection)
    where
      go : (b : Bool) → cond b (hearing_all s.calling s.motor (codes_asked ws)) s.motor ≡ hearing_all s.calling resting (hs ++ cond b (codes_asked ws) [])
      go true = rw e (sym (hearing_append s.calling resting hs (codes_asked ws)))
      go false = rw (append-nil hs) e

-- Many bytes.

-- one byte leaves the motor that of the codes heard
motor_on : (s : State) (e : Event) (hs : List ℕ) → s.motor ≡ hearing_all s.calling resting hs
    → let next = (step e.stream s e.byte).state in next.motor ≡ hearing_all next.calling resting (cond (forgets s e) [] (hs ++ hears s e))
motor_on s e hs h = go (forgets s e) refl
  where
    next : State
    next = (step e.stream s e.byte).state

    go : (b : Bool) → forgets s e ≡ b → next.motor ≡ hearing_all next.calling resting (cond b [] (hs ++ hears s e))
    go true f = rw f at (motor_by s e.stream e.byte)
    go false f =
        rw f at (motor_by s e.stream e.byte)
        ∙ heard_on s (items_of s e) hs h
        ∙ ap (λ (k : Calling). hearing_all k resting (hs ++ hears s e)) (sym (calling_by s e.stream e.byte f))

motor_from : (es : List Event) (s : State) (hs : List ℕ) → s.motor ≡ hearing_all s.calling resting hs → (run s es).motor ≡ hearing_all (run s es).calling resting (heard_from s hs es)
motor_from [] s hs h = h
motor_from (e ∷ es) s hs h = motor_from es (step e.stream s e.byte).state (cond (forgets s e) [] (hs ++ hears s e)) (motor_on s e hs h)

-- All that is heard are codes.

abbrev Below : Conversion → Type 0
Below x = all_below 32 (codes_asked (wanted_of x)) ≡ true

found_below : (case : Case) (c : ℕ) → c < 32 → Below (found case c)
found_below case c h = go (dependent (kind_of c))
  where
    go : (b : Bool) → Below (cond b (conversion.Cased case c) (conversion.Free c))
    go true = rw (lt-ltb c 32 h)
    go false = rw (lt-ltb c 32 h)

seek_below : (case : Case) (i : ℕ) (xs : List ℕ) (b : ℕ) (other : Conversion) → i + length xs ≤ 32 → Below other → Below (seek case i xs b other)
seek_below case i [] b other h o = o
seek_below case i (x ∷ xs) b other h o = go (eqb x b) (seek_below case (suc i) xs b other (omega (arith, h)) o)
  where
    go : (t : Bool) → Below (seek case (suc i) xs b other) → Below (cond t (found case i) (seek case (suc i) xs b other))
    go true r = found_below case i (omega (arith, h))
    go false r = r

conversion_below : (b : ℕ) → Below (conversionOf b)
unfolding conversionOf
conversion_below b = seek_below Letters 0 letters (capital b) (seek Figures 0 figures (capital b) conversion.Nothing) (lit≤ tt) (seek_below Figures 0 figures (capital b) conversion.Nothing (lit≤ tt) refl)

else_below : (x other : Conversion) → Below x → Below other → Below (or_else x other)
else_below conversion.Nothing other h o = o
else_below (conversion.Free c) other h o = h
else_below (conversion.Cased case c) other h o = h

standing_below : (o : Settings) → Below (standing o)
standing_below o = go (eqb (stand_in o) 0)
  where
    go : (b : Bool) → Below (cond b conversion.Nothing (conversionOf (stand_in o)))
    go true = refl
    go false = conversion_below (stand_in o)

both_below : (xs ys : List ℕ) → all_below 32 xs ≡ true → all_below 32 ys ≡ true → all_below 32 (xs ++ ys) ≡ true
both_below [] ys h k = k
both_below (x ∷ xs) ys h k = let b = and_parts (ltb x 32) (all_below 32 xs) h in rw (b.0, both_below xs ys b.1 k)

text_below : (o : Settings) (bs : List ℕ) → all_below 32 (codes_asked (wanted_text o bs)) ≡ true
text_below o [] = refl
text_below o (b ∷ bs) =
    rw (codes_append (wanted_of (spoken o b)) (wanted_text o bs))
    (both_below (codes_asked (wanted_of (spoken o b))) (codes_asked (wanted_text o bs)) (else_below (conversionOf b) (standing o) (conversion_below b) (standing_below o)) (text_below o bs))

routed_below : (o : Settings) (k : Route) (bs : List ℕ) → all_below 32 (codes_asked (text o k bs)) ≡ true
routed_below o Dropped bs = refl
routed_below o ToPrinter bs = text_below o bs
routed_below o ToHost bs = refl
routed_below o ToTu bs = refl

carried_below : (k : Route) (s : State) (c : ℕ) → c < 32 → all_below 32 (codes_asked (carried_to k s c)) ≡ true
carried_below Dropped s c h = refl
carried_below ToPrinter s c h = rw (lt-ltb c 32 h)
carried_below ToHost s c h = refl
carried_below ToTu s c h = refl

items_below : (t : Stream) (s : State) (b : ℕ) → CodedBy t b → all_below 32 (codes_asked (items_by t s b)) ≡ true
items_below Host s b h = routed_below s.settings (route s.connection Host) (text_of (read s.reader b).out)
items_below Line s b h = refl
items_below Tu s b h = carried_below (route s.connection Tu) s b h

hears_below : (s : State) (e : Event) → CodedBy e.stream e.byte → all_below 32 (hears s e) ≡ true
hears_below s e h = go (listens s.calling s.connection)
  where
    go : (b : Bool) → all_below 32 (cond b (codes_asked (items_of s e)) []) ≡ true
    go true = items_below e.stream s e.byte h
    go false = refl

heard_below : (es : List Event) (s : State) (hs : List ℕ) → Coded es → all_below 32 hs ≡ true → all_below 32 (heard_from s hs es) ≡ true
heard_below [] s hs c h = h
heard_below (e ∷ es) s hs c h = heard_below es (step e.stream s e.byte).state (cond (forgets s e) [] (hs ++ hears s e)) c.1 (go (forgets s e))
  where
    go : (b : Bool) → all_below 32 (cond b [] (hs ++ hears s e)) ≡ true
    go true = refl
    go false = both_below hs (hears s e) h (hears_below s e c.0)

-- From a fresh box.

module _ (es : List Event) (coded : Coded es) where
  abbrev k : Calling
  k = calling_after es

  below : (others : List ℕ) (c : ℕ) → all_below 32 (others ++ c ∷ []) ≡ true → all_below 32 ((heard_since es ++ others) ++ c ∷ []) ≡ true
  below others c h = rw (append_assoc (heard_since es) others (c ∷ [])) (both_below (heard_since es) (others ++ c ∷ []) (heard_below es fresh_box [] coded refl) h)

  pub fresh_stationed : Stationed es
  fresh_stationed =
      let g = sound_signals k (sound_parts (run fresh_box es) (sound_run fresh_box es fresh_sound)).held.calling in
      let hs : List ℕ → List ℕ = λ others. heard_since es ++ others in
      record {
        motor = motor_from es fresh_box [] refl;
        on = λ others c h. record { only = λ t. (t.off, started k g (hs others) c (below others c h) t); then = λ t. starting k g (hs others) c (below others c h) t.0 t.1 };
        off = λ others c h. record { only = λ t. (t.on, stopped_by k g (hs others) c (below others c h) t); then = λ t. stopping k g (hs others) c (below others c h) t.0 t.1 };
      }

-- What the host is told.

module _ (s : State) where
  told_heard : (ws : List Wanted) → told_of s ws ≡ changes s.calling s.connection.port s.motor (cond (listens s.calling s.connection) (codes_asked ws) [])
  unfolding told_of
  told_heard ws = go (listens s.calling s.connection)
    where
      go : (b : Bool) → cond b (changes s.calling s.connection.port s.motor (codes_asked ws)) [] ≡ changes s.calling s.connection.port s.motor (cond b (codes_asked ws) [])
      go true = refl
      go false = refl

  none_told : [] ≡ changes s.calling s.connection.port s.motor (cond (listens s.calling s.connection) (codes_asked []) [])
  none_told = go (listens s.calling s.connection)
    where
      go : (b : Bool) → [] ≡ changes s.calling s.connection.port s.motor (cond b (codes_asked []) [])
      go true = refl
      go false = refl

  hosted_told : (r : Reader) (out : Out) → talks out ≡ true
      → (hosted (with_reader s r) s.reader.values out).host ≡ changes s.calling s.connection.port s.motor (cond (listens s.calling s.connection) (codes_asked (text s.settings (route s.connection Host) (text_of out))) [])
  unfolding told_of
  hosted_told r Nothing h = rw (none s) none_told
  hosted_told r (One b) h = told_heard (text s.settings (route s.connection Host) (b ∷ []))
  hosted_told r (Two b) h = told_heard (text s.settings (route s.connection Host) (47 ∷ b ∷ []))
  hosted_told r (Finished v count) h = absurd (false≢true h)

  tued_told : (k : Route) (c : ℕ) → (tued k s c).host ≡ changes s.calling s.connection.port s.motor (cond (listens s.calling s.connection) (codes_asked (carried_to k s c)) [])
  unfolding told_of
  tued_told Dropped c = none_told
  tued_told ToPrinter c = told_heard (carried_to ToPrinter s c)
  tued_told ToHost c = none_told
  tued_told ToTu c = none_told

  pub byte_tells : (b : ℕ) → Tells s b
  byte_tells b = record { text = hosted_told (read s.reader b).reader (read s.reader b).out; code = tued_told (route s.connection Tu) b }
