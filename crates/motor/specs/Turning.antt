-- What turns the motor on and off, in all the codes heard since the last forgetting.
use Rattle.std.specs.Prelude.{ℕ, zero, suc, ◌<◌, ◌≡◌, Bool, true, false, cond, not, ◌&&◌, List, [], ◌∷◌, ◌++◌, ◌⊎◌, length, take}
use Rattle.word.specs.Word.{unpacked, is_word}
use Rattle.settings.specs.Table.{padded}
use Rattle.motor.specs.Names.{Calling, Run}
use Rattle.motor.specs.Motor.{signal, hearing_all, resting, is_on}
use Rattle.motor.specs.Matching.{string_codes, EndsWith}

-- strings 91 to 95 by their rules; the places after them hold the empty string
pub record Signals (k : Calling) : Type 0 where
  pub word : (i : ℕ) → is_word (signal k i) ≡ true
  pub rule : (i : ℕ) → padded (unpacked (signal k i)) ≡ true

-- whether it runs after these codes
abbrev pub run_after : Calling → List ℕ → Run
run_after k hs = (hearing_all k resting hs).run

-- it is on after them
abbrev pub on_after : Calling → List ℕ → Bool
on_after k hs = is_on (run_after k hs)

-- of the first n codes, the last on which it went from on to off, counted from 1; 0 where there is none
abbrev pub stop_in : Calling → List ℕ → ℕ → ℕ
stop_in k hs zero = 0
stop_in k hs (suc n) = cond (on_after k (take n hs) && not (on_after k (take (suc n) hs))) (suc n) (stop_in k hs n)

-- the last stop
abbrev pub last_stop : Calling → List ℕ → ℕ
last_stop k hs = stop_in k hs (length hs)

-- the codes heard end with those of a string, all of which come after a string 93 that ended on a later code than the last stop
pub record Answers (k : Calling) (stop : ℕ) (cs hs : List ℕ) : Type 0 where
  pub call : List ℕ
  pub between : List ℕ
  pub whole : hs ≡ call ++ (between ++ cs)
  pub some : cs ≡ [] → ⊥
  pub called : EndsWith (string_codes (signal k 2)) call
  pub later : stop < length call

-- setting 2 starts on string 91, settings 4, 5 and 6 on string 94, on string 95 or on either, after string 93
pub data Starts (k : Calling) (stop : ℕ) (hs : List ℕ) : Type 0 where
  by91 : k.power ≡ 2 → EndsWith (string_codes (signal k 0)) hs → Starts k stop hs
  by94 : (k.power ≡ 4) ⊎ (k.power ≡ 6) → Answers k stop (string_codes (signal k 3)) hs → Starts k stop hs
  by95 : (k.power ≡ 5) ⊎ (k.power ≡ 6) → Answers k stop (string_codes (signal k 4)) hs → Starts k stop hs

-- it is off, and the next code turns it on
pub record TurnsOn (k : Calling) (hs : List ℕ) (c : ℕ) : Type 0 where
  pub off : on_after k hs ≡ false
  pub on : on_after k (hs ++ c ∷ []) ≡ true

-- it is on, and the next code turns it off
pub record TurnsOff (k : Calling) (hs : List ℕ) (c : ℕ) : Type 0 where
  pub on : on_after k hs ≡ true
  pub off : on_after k (hs ++ c ∷ []) ≡ false
