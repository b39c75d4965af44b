-- What is heard of one byte's items, and of none.
-- Assumes nothing.
use Prim.Native.Nat.{ℕ, suc, ◌+◌, ◌*◌, ◌<◌, ◌≤◌}
use mathlib.Core.Path.{◌≡◌, refl, sym, ap, subst, ◌∙◌}
use mathlib.Core.Bool.{Bool, true, false, cond, not}
use mathlib.Core.List.{List, [], ◌∷◌, ◌++◌, append-nil}
use native.Mathlib.Omega.{arith}
use native.Mathlib.Nat.{le_of_eq, zero-add}
use borrow.Author.Tests.{ltb-true, lt-ltb, eq-eqb}
use lib.Dec.{eqb, ltb}
use lib.ListN.{length, length-append}
use Rattle.std.specs.Int.{from_bool}
use Rattle.std.proofs.lemmas.Bool.{and_parts}
use Rattle.laws.proofs.Either.{either_way}
use Rattle.laws.specs.Written.{fronted, Filled}
use Rattle.laws.proofs.Tail.{length_fronted}
use Rattle.message.specs.Message.{digits}
use Rattle.message.specs.Made.{Put}
use Rattle.motor.specs.Motor.{hearing, hearing_all, is_on}
use Rattle.sender.specs.Item.{wanted_of, wanted_by, wanted_text}
use Rattle.command.specs.Read.{text_of}
use Rattle.command.specs.declared.Verb.{Verb}
use Rattle.command.specs.declared.Out.TheVariants as out
use Rattle.step.specs.Names.{Calling, Settings, Route, Dropped, ToPrinter, ToHost, ToTu, Out, One, Two, Finished, Wanted, Motor, State, Host, Text, Heard}
use Rattle.step.specs.Route.{route}
use Rattle.code.specs.declared.Conversion.{Conversion}
use Rattle.code.specs.declared.Conversion.TheVariants.{Nothing, Free, Cased}
use Rattle.step.specs.Hear.{listens, codes_asked, powered, change, changes, motor_after, told_of, asked_by, Hears}
use Rattle.step.specs.Step.{sends, quiet, text, hosted}

-- Nothing asked for is nothing heard.

pub none_heard : (s : State) → motor_after s [] ≡ s.motor
unfolding motor_after
none_heard s = either_way (listens s.calling s.connection) s.motor

none_told : (s : State) → told_of s [] ≡ []
unfolding told_of
none_told s = either_way (listens s.calling s.connection) []

pub sends_none : (s : State) → sends s [] ≡ quiet s
sends_none s = rw (none_heard s, none_told s)

pub text_none : (o : Settings) (k : Route) → text o k [] ≡ []
text_none o Dropped = refl
text_none o ToPrinter = refl
text_none o ToHost = refl
text_none o ToTu = refl

-- what is no finished command is text, of no byte, one or two
pub hosted_said : (s : State) (fields : List ℕ) (out : Out) → ((v : Verb) (n : ℕ) → out ≡ Finished v n → ⊥) → hosted s fields out ≡ sends s (text s.settings (route s.connection Host) (text_of out))
hosted_said s fields out.Nothing h = rw (text_none s.settings (route s.connection Host)) (sym (sends_none s))
hosted_said s fields (One b) h = refl
hosted_said s fields (Two b) h = refl
hosted_said s fields (Finished v n) h = absurd (h v n refl)

-- While nothing is heard.

module _ (s : State) (ws : List Wanted) (e : listens s.calling s.connection ≡ false) where
  pub deaf_motor : motor_after s ws ≡ s.motor
  unfolding motor_after
  deaf_motor = rw e

  pub deaf_told : told_of s ws ≡ []
  unfolding told_of
  deaf_told = rw e

-- Two items.

-- first some, then others
pub hearing_append : (k : Calling) (m : Motor) (xs ys : List ℕ) → hearing_all k m (xs ++ ys) ≡ hearing_all k (hearing_all k m xs) ys
hearing_append k m [] ys = refl
hearing_append k m (x ∷ xs) ys = hearing_append k (hearing k m x) xs ys

pub codes_append : (xs ys : List Wanted) → codes_asked (xs ++ ys) ≡ codes_asked xs ++ codes_asked ys
codes_append [] ys = refl
codes_append (x ∷ xs) ys = ap (λ (cs : List ℕ). x.code ∷ cs) (codes_append xs ys)

-- a motor as it was is no change
same_told : (port n : ℕ) → change port n n ≡ []
same_told port n = rw (eq-eqb n n refl)

-- what one item changes, before what the others do
item_changes : (k : Calling) (port : ℕ) (m : Motor) (x : Conversion) (cs : List ℕ)
    → changes k port m (codes_asked (wanted_of x) ++ cs) ≡ change port (powered m) (powered (hearing_all k m (codes_asked (wanted_of x)))) ++ changes k port (hearing_all k m (codes_asked (wanted_of x))) cs
item_changes k port m Nothing cs = rw (same_told port (powered m))
item_changes k port m (Free c) cs = refl
item_changes k port m (Cased case c) cs = refl

-- on or off is one digit
pub few_powered : (m : Motor) → powered m < 10
few_powered m = go (is_on m.run)
  where
    go : (b : Bool) → from_bool b < 10
    go true = omega arith
    go false = omega arith

pub few_port : (s : State) → listens s.calling s.connection ≡ true → s.connection.port < 10
unfolding listens
few_port s e = omega (arith, ltb-true s.connection.port 4 (and_parts (not (eqb s.calling.power 0)) (ltb s.connection.port 4) e).1)

module _ (s : State) (x y : Conversion) (e : listens s.calling s.connection ≡ true) where
  abbrev k : Calling
  k = s.calling

  abbrev then : Motor
  then = hearing_all k s.motor (codes_asked (wanted_of x))

  abbrev last : Motor
  last = hearing_all k then (codes_asked (wanted_of y))

  pub both_motor : last ≡ motor_after s (wanted_of x ++ wanted_of y)
  unfolding motor_after
  both_motor = rw (e, codes_append (wanted_of x) (wanted_of y)) (sym (hearing_append k s.motor (codes_asked (wanted_of x)) (codes_asked (wanted_of y))))

  pub both_told : change s.connection.port (powered s.motor) (powered then) ++ change s.connection.port (powered then) (powered last) ≡ told_of s (wanted_of x ++ wanted_of y)
  unfolding told_of
  both_told =
      let port = s.connection.port in
      let ys = codes_asked (wanted_of y) in
      let f : changes k port then ys ≡ change port (powered then) (powered last) = ap (λ (cs : List ℕ). changes k port then cs) (sym (append-nil ys)) ∙ item_changes k port then y [] ∙ append-nil _ in
      rw (e, codes_append (wanted_of x) (wanted_of y)) (sym (item_changes k port s.motor x ys ∙ ap (λ (cs : List ℕ). change port (powered s.motor) (powered then) ++ cs) f))

  -- two items heard, where there are any; the three numbers of what is told have one digit each
  abbrev pub heard_both : Heard
  heard_both = record { motor = last; port = s.connection.port; was = powered s.motor; between = powered then; after = powered last; one_digit = (few_port s e, few_powered then, few_powered last) }

  pub heard_both_law : Hears s (wanted_of x ++ wanted_of y) heard_both
  heard_both_law = record { motor = both_motor; tells = both_told }

-- Text asks as text.

pub text_asked : (o : Settings) (bs : List ℕ) → asked_by o Text bs ≡ wanted_text o bs
text_asked o [] = refl
text_asked o (b ∷ bs) = ap (λ (ws : List Wanted). wanted_by o Text b ++ ws) (text_asked o bs)

-- The message of a change.

-- three numbers of one digit each
pub change_long : (port before after : ℕ) → port < 10 → after < 10 → eqb before after ≡ false → length (change port before after) ≡ 17
unfolding digits
change_long port before after p q e = rw (e, lt-ltb port 10 p, lt-ltb after 10 q)

pub change_short : (port before after : ℕ) → port < 10 → after < 10 → length (change port before after) ≤ 17
change_short port before after p q = go (eqb before after) refl
  where
    go : (b : Bool) → eqb before after ≡ b → length (change port before after) ≤ 17
    go true e = rw e (omega arith)
    go false e = le_of_eq (change_long port before after p q e)

-- what is put at the front of a buffer that has room for it
put_filled : (new old now : List ℕ) (n : ℕ) → length new ≤ length old → Put old 0 new now n → Filled old now new n
put_filled new old now n h m =
    let c : n ≡ length new = rw zero-add at m.place in
    let d : now ≡ fronted old new = rw zero-add at m.contents in
    record { count = c; room = omega (arith, c, h); same_length = ap length d ∙ length_fronted old new h; places = d }

-- the message with its two digits
abbrev laid : ℕ → ℕ → List ℕ
laid port after = 13 ∷ 10 ∷ 45 ∷ 46 ∷ 84 ∷ 67 ∷ 44 ∷ 50 ∷ 48 ∷ 44 ∷ 50 ∷ 44 ∷ (48 + port) ∷ 44 ∷ (48 + after) ∷ 13 ∷ 10 ∷ []

change_laid : (port before after : ℕ) → port < 10 → after < 10 → eqb before after ≡ false → laid port after ≡ change port before after
unfolding digits
change_laid port before after p q e = rw (e, lt-ltb port 10 p, lt-ltb after 10 q)

pub laid_change : (port before after : ℕ) (old now : List ℕ) (n : ℕ) → port < 10 → after < 10 → eqb before after ≡ false → length (change port before after) ≤ length old
    → Put old 0 (laid port after) now n → Filled old now (change port before after) n
laid_change port before after old now n p q e h m =
    let u = change_laid port before after p q e in
    put_filled (change port before after) old now n h (subst (λ (xs : List ℕ). Put old 0 xs now n) u m)

-- How much the host is told: a message for each item at most.

changes_few : (k : Calling) (port : ℕ) (m : Motor) (cs : List ℕ) → port < 10 → length (changes k port m cs) ≤ 17 * length cs
changes_few k port m [] p = omega arith
changes_few k port m (c ∷ cs) p =
    let one = change port (powered m) (powered (hearing k m c)) in
    let rest = changes k port (hearing k m c) cs in
    omega (arith, length-append one rest, change_short port (powered m) (powered (hearing k m c)) p (few_powered (hearing k m c)), changes_few k port (hearing k m c) cs p)

codes_length : (ws : List Wanted) → length (codes_asked ws) ≡ length ws
codes_length [] = refl
codes_length (w ∷ ws) = ap suc (codes_length ws)

pub told_few : (s : State) (ws : List Wanted) → length (told_of s ws) ≤ 17 * length ws
unfolding told_of
told_few s ws = go (listens s.calling s.connection) refl
  where
    go : (b : Bool) → listens s.calling s.connection ≡ b → length (cond b (changes s.calling s.connection.port s.motor (codes_asked ws)) []) ≤ 17 * length ws
    go true e = omega (arith, changes_few s.calling s.connection.port s.motor (codes_asked ws) (few_port s e), codes_length ws)
    go false e = omega arith
