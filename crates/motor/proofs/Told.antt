-- What a motor that is off knows of string 93: where the first one after the last stop ended, counted back up to 8 codes.
-- A string has at most eight codes, so nothing is lost by that.
-- Assumes nothing.
use Prim.Native.Nat.{ℕ, suc, ◌+◌, ◌-◌, ◌<◌, ◌≤◌, min}
use mathlib.Core.Path.{◌≡◌, refl, sym, ap, ◌∙◌}
use mathlib.Core.Bool.{Bool, true, false, true≢false, false≢true}
use native.Mathlib.Omega.{arith}
use borrow.Author.Tests.{leb-true, leb-false}
use lib.Dec.{leb}
use Rattle.motor.specs.Names.{Run, Off, Called, On}
use Rattle.motor.specs.Motor.{later, is_on}

-- of n codes heard, `ends` says on which a string 93 ended, and `stop` which was the last stop: one counts
pub record Counts (ends : ℕ → Bool) (stop n p : ℕ) : Type 0 where
  pub after : stop < p
  pub within : p ≤ n
  pub ended : ends p ≡ true

-- the first that counts ended j codes ago, and j stays at 8
pub record First (ends : ℕ → Bool) (stop n j : ℕ) : Type 0 where
  pub place : ℕ
  pub counts : Counts ends stop n place
  pub first : (m : ℕ) → Counts ends stop n m → place ≤ m
  pub ago : j ≡ min 8 (n - place)

-- what the motor knows of it
pub data Told (ends : ℕ → Bool) (stop n : ℕ) : Run → Type 0 where
  off : ((m : ℕ) → Counts ends stop n m → ⊥) → Told ends stop n Off
  called : (j : ℕ) → First ends stop n j → Told ends stop n (Called j)
  on : Told ends stop n On

-- One code more.

module _ (ends : ℕ → Bool) (n : ℕ) where
  -- a stop leaves nothing that counts, not even a string 93 that ended on its own code
  pub afresh : Told ends (suc n) (suc n) Off
  afresh = off (λ m c. omega (arith, c.after, c.within))

  module _ (stop : ℕ) where
    -- what counts ended on the new code, or on one before
    split : {A : Type 0} (m : ℕ) → Counts ends stop (suc n) m → (Counts ends stop n m → A) → (m ≡ suc n → A) → A
    split {A} m c old new = go (leb m n) refl
      where
        go : (b : Bool) → leb m n ≡ b → A
        go true e = old (record { after = c.after; within = leb-true m n e; ended = c.ended })
        go false e = new (omega (arith, leb-false m n e, c.within))

    -- what counted counts on
    kept : (m : ℕ) → Counts ends stop n m → Counts ends stop (suc n) m
    kept m c = record { after = c.after; within = omega (arith, c.within); ended = c.ended }

    pub still_off : Told ends stop n Off → ends (suc n) ≡ false → Told ends stop (suc n) Off
    still_off (off f) e = off (λ m c. split m c (λ d. f m d) (λ w. false≢true (sym e ∙ (ap ends (sym w) ∙ c.ended))))

    pub newly_called : stop ≤ n → Told ends stop n Off → ends (suc n) ≡ true → Told ends stop (suc n) (Called 0)
    newly_called s (off f) e =
        called 0
        (record {
          place = suc n;
          counts = record { after = omega arith; within = omega arith; ended = e };
          first = λ m c. split m c (λ d. absurd (f m d)) (λ w. omega arith);
          ago = omega arith;
        })

    pub still_called : (j : ℕ) → Told ends stop n (Called j) → Told ends stop (suc n) (Called (later j))
    still_called j (called i c) =
        called (later j)
        (record {
          place = c.place;
          counts = kept c.place c.counts;
          first = λ m d. split m d (λ x. c.first m x) (λ w. omega (arith, c.counts.within));
          ago = omega (arith, c.ago, c.counts.within);
        })

-- A string that matches on the next code.

-- how many codes were heard since
abbrev pub since : Run → ℕ
since Off = 0
since (Called j) = later j
since On = 0

-- all its codes come after a string 93 that counts
pub record Behind (ends : ℕ → Bool) (stop n size : ℕ) : Type 0 where
  pub place : ℕ
  pub after : stop < place
  pub ended : ends place ≡ true
  pub room : place + size ≤ suc n

module _ (ends : ℕ → Bool) (stop n size : ℕ) (some : 0 < size) where
  pub within_reach : (r : Run) → Told ends stop n r → is_on r ≡ false → size ≤ since r → Behind ends stop n size
  within_reach Off t o l = absurd (omega arith)
  within_reach (Called j) (called i c) o l = record { place = c.place; after = c.counts.after; ended = c.counts.ended; room = omega (arith, c.ago, c.counts.within, l) }
  within_reach On t o l = absurd (true≢false o)

  pub reaches : (r : Run) → Told ends stop n r → is_on r ≡ false → size ≤ 8 → Behind ends stop n size → size ≤ since r
  reaches Off (off f) o few b = absurd (f b.place (record { after = b.after; within = omega (arith, b.room); ended = b.ended }))
  reaches (Called j) (called i c) o few b =
      let p : c.place ≤ b.place = c.first b.place (record { after = b.after; within = omega (arith, b.room); ended = b.ended }) in
      omega (arith, p, c.ago, c.counts.within, b.room)
  reaches On t o few b = absurd (true≢false o)
