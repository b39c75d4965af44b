-- A part of the bytes, written and read at its offset.
-- Assumes nothing.
use Prim.Native.Nat.{ℕ, zero, suc, ◌+◌, ◌≤◌, ◌<◌}
use mathlib.Core.Path.{◌≡◌, refl, sym, ◌∙◌}
use mathlib.Core.List.{List, [], ◌∷◌, ◌++◌, append_assoc}
use native.Mathlib.Omega.{arith}
use borrow.Rule.Slice.PartMut.{put_mid}
use lib.ListN.{length, set, take, drop}
use lib.Seq.{drop-cons}
use Rattle.std.proofs.lemmas.List.Edits.{sets, sets-eq, paste_all}
use Rattle.std.proofs.lemmas.Slice.{put_mid-paste}
use Rattle.spelling.specs.Names.{Calling}
use Rattle.spelling.specs.Spelling.{part, puts, signal_bytes}

sets_puts : (b : List ℕ) (i : ℕ) (xs : List ℕ) → sets b i xs ≡ puts b i xs
sets_puts b i [] = refl
sets_puts b i (x ∷ xs) = sets_puts (set b i x) (suc i) xs

-- what was written to n bytes from place i on
pub written : (b : List ℕ) (i n : ℕ) (xs : List ℕ) → n ≡ length xs → i + n ≤ length b → put_mid i n b xs ≡ puts b i xs
written b i n xs e h = put_mid-paste i n b xs xs n refl refl e ∙ paste_all b i xs n e ∙ rw (e, ← append_assoc) (sym (sets-eq xs b i (omega arith))) ∙ sets_puts b i xs

-- and what is read there
pub read : (b : List ℕ) (i n : ℕ) → i + n ≤ length b → take n (drop i b) ≡ part b i n
read b i zero h = refl
read b i (suc n) h = let l : i < length b = omega arith in rw (drop-cons b i 0 l) (rw (read b (suc i) n (omega arith)))

-- the bytes of the first so many of strings 91 to 95
abbrev pub first_signals : Calling → ℕ → List ℕ
first_signals k zero = []
first_signals k (suc n) = first_signals k n ++ signal_bytes k n
