-- Values held for options, and the five strings of a call: each in its range; one that is set in range leaves them so.
-- Assumes nothing.
use Prim.Native.Nat.{ℕ, zero, suc, ◌<◌}
use mathlib.Core.Path.{◌≡◌, refl, ap}
use mathlib.Core.Bool.{true, ◌&&◌, false≢true}
use mathlib.Core.List.{List, [], ◌∷◌}
use native.Mathlib.Omega.{arith}
use borrow.Author.Tests.{eqb-true}
use lib.Dec.{eqb, lit≤}
use lib.ListN.{length, get_or, set}
use Rattle.word.specs.Word.{unpacked, is_word}
use Rattle.std.proofs.lemmas.Bool.{and_parts}
use Rattle.settings.specs.Names.{Settings, Calling}
use Rattle.settings.specs.Table.{between, Option, options, all_in, padded, is_power, sound_stand_in, sound_string, sound_settings, is_signal, all_signals, sound_calling}
use Rattle.settings.specs.Options.{limit, ending_codes}
use Rattle.settings.proofs.Rows.{low_at, high_at}

-- as many values as options
pub length_in : (xs : List Option) (vs : List ℕ) → all_in xs vs ≡ true → length vs ≡ length xs
length_in [] [] h = refl
length_in [] (v ∷ vs) h = absurd (false≢true h)
length_in (x ∷ xs) [] h = absurd (false≢true h)
length_in (x ∷ xs) (v ∷ vs) h = ap suc (length_in xs vs (and_parts (between x.low x.high v) (all_in xs vs) h).1)

-- each in its range
pub value_in : (xs : List Option) (vs : List ℕ) (i : ℕ) → all_in xs vs ≡ true → i < length xs → between (low_at xs i) (high_at xs i) (get_or vs i 0) ≡ true
value_in [] vs i h l = absurd (omega (arith, l))
value_in (x ∷ xs) [] i h l = absurd (false≢true h)
value_in (x ∷ xs) (v ∷ vs) zero h l = (and_parts (between x.low x.high v) (all_in xs vs) h).0
value_in (x ∷ xs) (v ∷ vs) (suc i) h l = value_in xs vs i (and_parts (between x.low x.high v) (all_in xs vs) h).1 (omega (arith, l))

-- another value in its range
pub set_in : (xs : List Option) (vs : List ℕ) (i n : ℕ) → all_in xs vs ≡ true → between (low_at xs i) (high_at xs i) n ≡ true → all_in xs (set vs i n) ≡ true
set_in [] [] i n h r = refl
set_in [] (v ∷ vs) i n h r = absurd (false≢true h)
set_in (x ∷ xs) [] i n h r = absurd (false≢true h)
set_in (x ∷ xs) (v ∷ vs) zero n h r = rw (r, (and_parts (between x.low x.high v) (all_in xs vs) h).1)
set_in (x ∷ xs) (v ∷ vs) (suc i) n h r =
    let b = and_parts (between x.low x.high v) (all_in xs vs) h in
    rw (b.0, set_in xs vs i n b.1 r)

-- it is read back
pub set_get : (vs : List ℕ) (i n : ℕ) → i < length vs → get_or (set vs i n) i 0 ≡ n
set_get [] i n l = absurd (omega (arith, l))
set_get (v ∷ vs) zero n l = refl
set_get (v ∷ vs) (suc i) n l = set_get vs i n (omega (arith, l))

-- the line ending has eight codes
pub eight_codes : (s : Settings) → length (ending_codes s) ≡ 8
unfolding ending_codes
eight_codes s = refl

-- Sound settings.

module _ (s : Settings) (h : sound_settings s ≡ true) where
  tests : (all_in options s.values ≡ true) × ((sound_stand_in s ≡ true) × ((is_word s.string && sound_string (unpacked s.string)) ≡ true))
  unfolding sound_settings
  tests =
      let b = and_parts (all_in options s.values) (sound_stand_in s && (is_word s.string && sound_string (unpacked s.string))) h in
      (b.0, and_parts (sound_stand_in s) (is_word s.string && sound_string (unpacked s.string)) b.1)

  -- a value for each option, in its range
  pub values_in : all_in options s.values ≡ true
  values_in = tests.0

  -- the stand-in is sound
  pub stand_in_sound : sound_stand_in s ≡ true
  stand_in_sound = tests.1.0

  -- string 90 is a word, its codes by their rules
  pub string_in : (is_word s.string && sound_string (unpacked s.string)) ≡ true
  string_in = tests.1.1

  -- its upper bits are zero
  pub string_word : is_word s.string ≡ true
  string_word = (and_parts (is_word s.string) (sound_string (unpacked s.string)) string_in).0

  -- the line ending is by its rules
  pub ending_sound : sound_string (ending_codes s) ≡ true
  unfolding ending_codes
  ending_sound = (and_parts (is_word s.string) (sound_string (unpacked s.string)) string_in).1

  -- the limit is in its range
  pub limit_in : between 10 80 (limit s) ≡ true
  unfolding limit
  limit_in = value_in options s.values 1 values_in (lit≤ tt)

-- The strings of a call.

-- each is by its rules, and so is 0, which stands for those that there are not
pub signal_in : (ns : List ℕ) (i : ℕ) → all_signals ns ≡ true → is_signal (get_or ns i 0) ≡ true
unfolding is_signal
signal_in [] i h = refl
signal_in (m ∷ ms) zero h = (and_parts (is_signal m) (all_signals ms) h).0
signal_in (m ∷ ms) (suc i) h = signal_in ms i (and_parts (is_signal m) (all_signals ms) h).1

-- another by its rules
pub set_signals : (ns : List ℕ) (i n : ℕ) → all_signals ns ≡ true → is_signal n ≡ true → all_signals (set ns i n) ≡ true
set_signals [] i n h r = refl
set_signals (m ∷ ms) zero n h r = rw (r, (and_parts (is_signal m) (all_signals ms) h).1)
set_signals (m ∷ ms) (suc i) n h r =
    let b = and_parts (is_signal m) (all_signals ms) h in
    rw (b.0, set_signals ms i n b.1 r)

-- Sound calling.

module _ (k : Calling) (h : sound_calling k ≡ true) where
  parts : (is_power k.power ≡ true) × ((eqb (length k.strings) 5 ≡ true) × (all_signals k.strings ≡ true))
  unfolding sound_calling
  parts =
      let b = and_parts (is_power k.power) (eqb (length k.strings) 5 && all_signals k.strings) h in
      (b.0, and_parts (eqb (length k.strings) 5) (all_signals k.strings) b.1)

  -- the motor power mode is in its range
  pub power_in : is_power k.power ≡ true
  power_in = parts.0

  -- there are five strings
  pub five_strings : length k.strings ≡ 5
  five_strings = eqb-true (length k.strings) 5 parts.1.0

  -- each by its rules
  pub signals_in : all_signals k.strings ≡ true
  signals_in = parts.1.1

  -- the upper bits of each are zero
  pub each_word : (i : ℕ) → is_word (get_or k.strings i 0) ≡ true
  unfolding is_signal
  each_word i = (and_parts (is_word (get_or k.strings i 0)) (padded (unpacked (get_or k.strings i 0))) (signal_in k.strings i signals_in)).0
