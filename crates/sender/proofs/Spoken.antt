-- Option 77: while it is set every byte of text has a code, and while it is 0 a byte has its own or none.
-- Assumes nothing.
use Prim.Native.Nat.{ℕ}
use mathlib.Core.Path.{◌≡◌, refl}
use mathlib.Core.Bool.{Bool, true, false, ◌&&◌, ◌||◌}
use lib.Dec.{eqb, leb}
use borrow.Author.Tests.{eq-eqb, ne_eqb}
use Rattle.std.proofs.lemmas.Bool.{and_parts}
use Rattle.code.specs.Convert.{conversion}
use Rattle.settings.specs.Table.{has_code, sound_stand_in, sound_settings}
use Rattle.settings.specs.Options.{stand_in}
use Rattle.settings.proofs.Held.{stand_in_sound}
use Rattle.sender.specs.Names.{Conversion, Nothing, Free, Cased, Settings}
use Rattle.sender.specs.Item.{standing, or_else, spoken}

-- what a test of two parts says where its first part fails
second : (a b : Bool) → a ≡ false → (a || b) ≡ true → b ≡ true
second a b e h = rw e at h

-- the stand-in of sound settings has a code
stand_in_coded : (o : Settings) → sound_settings o ≡ true → (stand_in o ≡ 0 → ⊥) → has_code (standing o) ≡ true
unfolding sound_stand_in stand_in
stand_in_coded o h n =
    let e = ne_eqb (stand_in o) 0 n in
    let p = second (eqb (stand_in o) 0) (leb 33 (stand_in o) && has_code (conversion (stand_in o))) e (stand_in_sound o h) in
    rw e (and_parts (leb 33 (stand_in o)) (has_code (conversion (stand_in o))) p).1

either_coded : (x other : Conversion) → has_code other ≡ true → has_code (or_else x other) ≡ true
either_coded Nothing other h = h
either_coded (Free c) other h = refl
either_coded (Cased case c) other h = refl

-- with 77 set no byte is nothing on the line
pub spoken_some : (o : Settings) → sound_settings o ≡ true → (stand_in o ≡ 0 → ⊥) → (b : ℕ) → has_code (spoken o b) ≡ true
spoken_some o h n b = either_coded (conversion b) (standing o) (stand_in_coded o h n)

alone : (x : Conversion) → or_else x Nothing ≡ x
alone Nothing = refl
alone (Free c) = refl
alone (Cased case c) = refl

-- with 77 at 0 a byte without a code is nothing, as ever
pub spoken_own : (o : Settings) → stand_in o ≡ 0 → (b : ℕ) → spoken o b ≡ conversion b
spoken_own o e b = rw (eq-eqb (stand_in o) 0 e) (alone (conversion b))
