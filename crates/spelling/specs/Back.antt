-- Each part of a state is read back from its bytes.
-- Assumes nothing.
use Prim.Native.Nat.{ℕ, zero, suc, ◌+◌, ◌-◌, ◌<◌}
use mathlib.Core.Path.{◌≡◌, refl}
use mathlib.Core.Bool.{Bool, true, false}
use mathlib.Core.List.{List, [], ◌∷◌}
use native.Mathlib.Nat.{mod-eq_of_lt}
use native.Mathlib.Omega.{arith}
use borrow.Author.Tests.{leb-true, ne_eqb}
use lib.Dec.{eqb}
use lib.ListN.{get_or, length}
use Rattle.motor.specs.Motor.{sound_run}
use Rattle.spelling.specs.Names.{Case, Letters, Figures, Verb, Write, Read, Other, Form, Empty, Digits, Ex, Stage, Text, Swallow, Held, Begun, Lettered, Typed, Fields, Discard, Run, Off, Called, On, Option, Some, None}
use Rattle.spelling.specs.Spelling.{part, bit, case_byte, known_byte, verb_byte, form_byte, column_bytes, stage_bytes, run_bytes, case_of, known_of, verb_of, form_of, column_of, stage_of, run_of}

bit_back : (b : Bool) → eqb (bit b) 1 ≡ b
bit_back true = refl
bit_back false = refl

pub case_back : (c : Case) → case_of (case_byte c) ≡ c
case_back Letters = refl
case_back Figures = refl

pub known_back : (k : Option Case) → known_of (known_byte k) ≡ k
known_back None = refl
known_back (Some Letters) = refl
known_back (Some Figures) = refl

pub column_back : (c : Option ℕ) → column_of (get_or (column_bytes c) 0 0) (get_or (column_bytes c) 1 0) ≡ c
column_back None = refl
column_back (Some n) = refl

pub verb_back : (v : Verb) → verb_of (verb_byte v) ≡ v
verb_back Write = refl
verb_back Read = refl
verb_back Other = refl

pub form_back : (f : Form) → form_of (form_byte f) ≡ f
form_back Empty = refl
form_back Digits = refl
form_back Ex = refl

pub stage_back : (s : Stage) → stage_of (get_or (stage_bytes s) 0 0) (get_or (stage_bytes s) 1 0) (get_or (stage_bytes s) 2 0) (get_or (stage_bytes s) 3 0) ≡ s
stage_back Text = refl
stage_back Swallow = refl
stage_back Held = refl
stage_back Begun = refl
stage_back (Lettered small t) = simp bit_back
stage_back (Typed v) = simp verb_back
stage_back (Fields v f last) = simp (verb_back, form_back)
stage_back Discard = refl

pub run_back : (r : Run) → sound_run r ≡ true → run_of (get_or (run_bytes r) 0 0) (get_or (run_bytes r) 1 0) ≡ r
run_back Off h = refl
run_back (Called n) h =
    let l : n + 1 < 256 = omega (arith, leb-true n 8 h) in
    let m : (n + 1 ≡ 0) → ⊥ = λ (e : n + 1 ≡ 0). omega (arith, e) in
    let d : n + 1 - 1 ≡ n = omega arith in
    rw (mod-eq_of_lt l, ne_eqb (n + 1) 0 m, d)
run_back On h = refl

-- a list is its part from 0 on, as long as it is
tail : (x : ℕ) (xs : List ℕ) (i n : ℕ) → part (x ∷ xs) (suc i) n ≡ part xs i n
tail x xs i zero = refl
tail x xs i (suc n) = rw (tail x xs (suc i) n)

whole : (xs : List ℕ) → part xs 0 (length xs) ≡ xs
whole [] = refl
whole (x ∷ xs) = rw (tail x xs 0 (length xs), whole xs)

pub all : (xs : List ℕ) (n : ℕ) → length xs ≡ n → part xs 0 n ≡ xs
all xs n e = rw e at (whole xs)
