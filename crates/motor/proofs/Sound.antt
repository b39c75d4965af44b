-- A sound motor stays sound: one more code leaves eight, and the count stays at 8.
-- Assumes nothing.
use Prim.Native.Nat.{ℕ}
use mathlib.Core.Path.{◌≡◌, refl}
use mathlib.Core.Bool.{Bool, true, false, cond}
use mathlib.Core.List.{List, [], ◌∷◌}
use native.Mathlib.Omega.{arith}
use borrow.Author.Tests.{ltb-true, lt-ltb, le-leb}
use Rattle.std.proofs.lemmas.Bool.{and_parts}
use Rattle.word.specs.Word.{is_word}
use Rattle.motor.specs.Names.{Calling, Motor, Run, Off, Called, On}
use Rattle.motor.specs.Motor.{heard_with, matches, signal, starts, later, while_on, while_off, turned, hearing, hearing_all, resting, sound_run, sound_motor}
use Rattle.motor.proofs.Heard.{heard_below}

-- a test between two sound ones
either_sound : (b : Bool) (x y : Run) → sound_run x ≡ true → sound_run y ≡ true → sound_run (cond b x y) ≡ true
either_sound true x y p q = p
either_sound false x y p q = q

-- the count stays at 8, whatever it was
turned_sound : (k : Calling) (heard : ℕ) (r : Run) → sound_run (turned k heard r) ≡ true
unfolding while_on while_off
turned_sound k heard Off = either_sound (starts k heard 0) On (cond (matches (signal k 2) heard) (Called 0) Off) refl (either_sound (matches (signal k 2) heard) (Called 0) Off refl refl)
turned_sound k heard (Called n) = either_sound (starts k heard (later n)) On (Called (later n)) refl (le-leb (later n) 8 (omega arith))
turned_sound k heard On = either_sound (matches (signal k 1) heard) Off On refl refl

pub resting_sound : sound_motor resting ≡ true
unfolding sound_motor
resting_sound = refl

-- one more code
pub hearing_sound : (k : Calling) (m : Motor) (c : ℕ) → sound_motor m ≡ true → sound_motor (hearing k m c) ≡ true
unfolding sound_motor hearing
hearing_sound k m c h =
    let b = and_parts (is_word m.heard) (sound_run m.run) h in
    let w : is_word (heard_with m.heard c) ≡ true = lt-ltb (heard_with m.heard c) 1099511627776 (heard_below m.heard c (ltb-true m.heard 1099511627776 b.0)) in
    rw w (turned_sound k (heard_with m.heard c) m.run)

-- and several
pub all_sound : (k : Calling) (cs : List ℕ) (m : Motor) → sound_motor m ≡ true → sound_motor (hearing_all k m cs) ≡ true
all_sound k [] m h = h
all_sound k (c ∷ cs) m h = all_sound k cs (hearing k m c) (hearing_sound k m c h)
