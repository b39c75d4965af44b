-- Spelling a state and reading it back gives the state, and each state has one spelling.
-- Assumes nothing.
use Prim.Native.Nat.{ℕ, ◌<◌}
use mathlib.Core.Path.{◌≡◌, refl, ap, ◌∙◌}
use mathlib.Core.Bool.{true}
use mathlib.Core.List.{List, ◌∷◌}
use native.Mathlib.Omega.{arith}
use borrow.Author.Tests.{ltb-true}
use lib.ListN.{length, get_or}
use Rattle.settings.specs.Table.{options}
use Rattle.word.specs.Word.{number_by, is_word}
use Rattle.word.proofs.Words.{bytes_back}
use Rattle.settings.proofs.Held.{length_in, values_in, string_word, five_strings, each_word}
use Rattle.motor.specs.Motor.{sound_run, sound_motor}
use Rattle.step.specs.State.{sound}
use Rattle.step.proofs.Stays.{sound_parts}
use Rattle.spelling.specs.Names.{Calling, Motor, State}
use Rattle.spelling.specs.Spelling.{string_bytes, heard_bytes, signal_bytes, signals_bytes, spelt, column_of, stage_of, word_at, signals_of, run_of, state_of, spells, part}
use Rattle.spelling.proofs.Parts.{Has, two, eight, eight_heard, forty, two_run, four, laid}
use Rattle.spelling.specs.Back.{case_back, known_back, column_back, stage_back, run_back, all}
use Rattle.std.proofs.lemmas.Bool.{and_parts}
use Rattle.laws.proofs.Same.{same_self}
use Rattle.spelling.proofs.Same.{its_spelling}

cons : {x y : ℕ} {xs ys : List ℕ} → x ≡ y → xs ≡ ys → x ∷ xs ≡ y ∷ ys
cons p q = rw (p, q)

-- five strings, each by its bytes
signals_back : (k : Calling) → length k.strings ≡ 5 → ((i : ℕ) → get_or k.strings i 0 < 18446744073709551616) → signals_of (signals_bytes k) 0 ≡ k.strings
signals_back k l h = cons (back 0) (cons (back 1) (cons (back 2) (cons (back 3) (cons (back 4) refl)))) ∙ all k.strings 5 l
  where
    back : (i : ℕ) → number_by 256 (signal_bytes k i) ≡ get_or k.strings i 0
    back i = bytes_back (get_or k.strings i 0) (h i)

-- what the types say is all but enough: the arrays' lengths, words of 64 bits, and a count that one more leaves a byte
pub record Formed (s : State) : Type 0 where
  pub seven : length s.settings.values ≡ 7
  pub word : s.settings.string < 18446744073709551616
  pub eleven : length s.reader.values ≡ 11
  pub five : length s.calling.strings ≡ 5
  pub words : (i : ℕ) → get_or s.calling.strings i 0 < 18446744073709551616
  pub heard : s.motor.heard < 18446744073709551616
  pub run : sound_run s.motor.run ≡ true

state_back : (s : State) → Formed s → state_of (spelt s) ≡ s
unfolding state_of spelt
state_back s h =
    let l = s.sender.held.column in
    let g = s.reader.stage in
    let k = s.calling in
    let m = s.motor in
    go (string_bytes s.settings) _ _ _ (heard_bytes m) (signals_bytes k) (eight s.settings) (two l) (four g) (two_run m.run) (eight_heard m) (forty k) (bytes_back s.settings.string h.word) (column_back l) (stage_back g) (run_back m.run h.run) (bytes_back m.heard h.heard) (signals_back k h.five h.words) (all _ 7 h.seven) (all _ 11 h.eleven)
  where
    go : (x y z r v w : List ℕ) → Has 8 x → Has 2 y → Has 4 z → Has 2 r → Has 8 v → Has 40 w → word_at x 0 ≡ s.settings.string → column_of (get_or y 0 0) (get_or y 1 0) ≡ s.sender.held.column → stage_of (get_or z 0 0) (get_or z 1 0) (get_or z 2 0) (get_or z 3 0) ≡ s.reader.stage → run_of (get_or r 0 0) (get_or r 1 0) ≡ s.motor.run → word_at v 0 ≡ s.motor.heard → signals_of w 0 ≡ s.calling.strings → part s.settings.values 0 7 ≡ s.settings.values → part s.reader.values 0 11 ≡ s.reader.values → state_of (laid s x y z r v w) ≡ s
    go x y z r v w e f g i j k n q t o p u a b = rw (← e, ← f, ← g, ← i, ← j, ← k) (simp (n, q, t, o, p, u, a, b, known_back, case_back))

-- a state of the box's form, spelt and read back
pub read_back : (s : State) → Formed s → (spells (spelt s) ≡ true) × (state_of (spelt s) ≡ s)
unfolding spells
read_back s f = (rw (state_back s f) (same_self (spelt s)), state_back s f)

word_fits : (n : ℕ) → is_word n ≡ true → n < 18446744073709551616
word_fits n h = omega (arith, ltb-true n 1099511627776 h)

motor_fits : (m : Motor) → sound_motor m ≡ true → (m.heard < 18446744073709551616) × (sound_run m.run ≡ true)
unfolding sound_motor
motor_fits m h = let b = and_parts (is_word m.heard) (sound_run m.run) h in (word_fits m.heard b.0, b.1)

-- a sound state is of that form
pub sound_formed : (s : State) → sound s ≡ true → Formed s
sound_formed s h =
    let p = sound_parts s h in
    let m = motor_fits s.motor p.motor in
    record {
      seven = length_in options s.settings.values (values_in s.settings p.held.settings);
      word = word_fits s.settings.string (string_word s.settings p.held.settings);
      eleven = p.eleven;
      five = five_strings s.calling p.held.calling;
      words = λ (i : ℕ). word_fits (get_or s.calling.strings i 0) (each_word s.calling p.held.calling i);
      heard = m.0;
      run = m.1;
    }

-- so no such state's spelling is refused
pub none_refused : (b : List ℕ) (s : State) → Formed s → b ≡ spelt s → spells b ≡ true
none_refused b s f e = rw e (read_back s f).0

-- bytes that spell a state are the one spelling of it
pub one_spelling : (b : List ℕ) (s : State) → spells b ≡ true → state_of b ≡ s → b ≡ spelt s
one_spelling b s h e = its_spelling b h ∙ ap spelt e
