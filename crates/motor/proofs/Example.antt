-- The examples compute: what starts the motor, what stops it, and what does not count.
-- Assumes nothing.
use mathlib.Core.Path.{◌≡◌, refl}
use mathlib.Core.Bool.{true}
use mathlib.Core.List.{[], ◌∷◌, ◌++◌}
use Rattle.settings.specs.Table.{is_signal, sound_calling}
use Rattle.motor.specs.Motor.{latest, size, matches, comes, signal, starts, while_on, while_off, hearing}
use Rattle.motor.specs.Turning.{Starts}
use Rattle.motor.specs.Example.{five, own, end, every, factory, alike, changes}
use Rattle.motor.proofs.Calling.{sound_signals}
use Rattle.motor.proofs.Turning.{started}

-- both are sound
pub factory_sound : sound_calling factory ≡ true
unfolding sound_calling is_signal
factory_sound = refl

pub alike_sound : sound_calling alike ≡ true
unfolding sound_calling is_signal
alike_sound = refl

-- string 94 alone does nothing; after string 93 it starts the motor on its last code, and string 92 stops it on its own
pub factory_changes : changes factory (own ++ (five ++ (own ++ (every ++ end)))) ≡ 22 ∷ 31 ∷ []
unfolding latest size matches comes signal starts while_on while_off hearing
factory_changes = refl

-- such a start, by what starts a motor
pub factory_starts : Starts factory 0 (five ++ own)
unfolding latest size matches comes signal starts while_on while_off hearing
factory_starts = started factory (sound_signals factory factory_sound) (five ++ 16 ∷ 16 ∷ 21 ∷ 14 ∷ 24 ∷ 12 ∷ []) 12 refl (record { off = refl; on = refl })

-- the codes on which string 92 stops the motor end string 93 too: it does not count, so string 94 does not start the motor until
-- string 93 has come again
pub alike_changes : changes alike (2 ∷ 12 ∷ 16 ∷ 2 ∷ 12 ∷ 16 ∷ 2 ∷ 12 ∷ 16 ∷ []) ≡ 3 ∷ 5 ∷ 9 ∷ []
unfolding latest size matches comes signal starts while_on while_off hearing
alike_changes = refl
