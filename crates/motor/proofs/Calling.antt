-- Where calling is sound, its strings are by their rules.
-- Assumes nothing.
use Prim.Native.Nat.{ℕ}
use mathlib.Core.Path.{◌≡◌}
use mathlib.Core.Bool.{true}
use lib.ListN.{get_or}
use Rattle.std.proofs.lemmas.Bool.{and_parts}
use Rattle.word.specs.Word.{unpacked, is_word}
use Rattle.settings.specs.Table.{padded, is_signal, sound_calling}
use Rattle.settings.proofs.Held.{signal_in, signals_in}
use Rattle.motor.specs.Names.{Calling}
use Rattle.motor.specs.Motor.{signal}
use Rattle.motor.specs.Turning.{Signals}

pub sound_signals : (k : Calling) → sound_calling k ≡ true → Signals k
unfolding is_signal signal
sound_signals k h = record { word = λ i. (parts i).0; rule = λ i. (parts i).1 }
  where
    parts : (i : ℕ) → (is_word (get_or k.strings i 0) ≡ true) × (padded (unpacked (get_or k.strings i 0)) ≡ true)
    parts i = and_parts (is_word (get_or k.strings i 0)) (padded (unpacked (get_or k.strings i 0))) (signal_in k.strings i (signals_in k h))
