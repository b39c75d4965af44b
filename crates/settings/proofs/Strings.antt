-- The rules of a string, asked of its word code by code: what is left of the word stands for the codes that are left.
-- Assumes nothing.
use Prim.Native.Nat.{ℕ, zero, suc, ◌/◌, ◌%◌, ◌^◌, ◌<◌}
use mathlib.Core.Path.{◌≡◌, refl, sym, ap, subst, ◌∙◌}
use mathlib.Core.Bool.{Bool, true, false, ◌&&◌, or-false, false≢true}
use mathlib.Core.List.{List, [], ◌∷◌}
use native.Mathlib.Nat.{pow-zero, mod-add-div, div-lt_self}
use native.Mathlib.Omega.{arith}
use borrow.Author.Tests.{eqb-true, eqb-false, eq-eqb, ne_eqb}
use lib.Dec.{eqb, ltb, lit≤}
use lib.ListN.{length}
use Rattle.std.specs.List.{list_all}
use Rattle.word.specs.Word.{digits_by, number_by, all_below, unpacked, packed, is_word, bytes_of}
use Rattle.word.proofs.Words.{digits_below, digits_number, fewer, codes_packed, below}
use Rattle.settings.specs.Table.{all_codes, all_zero, padded, early, opens, sound_string, sound_signal, is_signal, all_signals}

-- so many codes are left, and what is asked of all is asked of them
pub record Left (f : List ℕ → Bool) (n rest : ℕ) : Type 0 where
  pub k : ℕ
  pub small : rest < 32 ^ k
  pub same : f (unpacked n) ≡ f (digits_by 32 k rest)

pub all_left : (f : List ℕ → Bool) (n : ℕ) → n < 1099511627776 → Left f n n
all_left f n h = record { k = 8; small = h; same = refl }

-- none is left only of 0
none_left : (n : ℕ) → n < 32 ^ 0 → n ≡ 0
none_left n h = omega (arith, h, pow-zero 32)

-- a code that is not 0 is taken from a word that is not
pub falls : (n : ℕ) → (n % 32 ≡ 0 → ⊥) → n / 32 < n
falls n h = div-lt_self (go (eqb n 0) refl) (lit≤ tt)
  where
    go : (b : Bool) → eqb n 0 ≡ b → 0 < n
    go true e = absurd (h (rw (eqb-true n 0 e)))
    go false e = omega (arith, eqb-false n 0 e)

-- All after the first 0 are 0.

zeros : (k n : ℕ) → n < 32 ^ k → all_zero (digits_by 32 k n) ≡ eqb n 0
zeros zero n h = rw (none_left n h)
zeros (suc k) n h = rw (zeros k (n / 32) (fewer 32 (lit≤ tt) k n h)) (go (eqb (n % 32) 0) refl (eqb (n / 32) 0) refl)
  where
    go : (a : Bool) → eqb (n % 32) 0 ≡ a → (b : Bool) → eqb (n / 32) 0 ≡ b → a && b ≡ eqb n 0
    go true e true f = sym (eq-eqb n 0 (omega (arith, eqb-true (n % 32) 0 e, eqb-true (n / 32) 0 f, mod-add-div n 32)))
    go true e false f = sym (ne_eqb n 0 (λ z. eqb-false (n / 32) 0 f (rw z)))
    go false e b f = sym (ne_eqb n 0 (λ z. eqb-false (n % 32) 0 e (rw z)))

pub padded_on : (n rest : ℕ) → Left padded n rest → eqb (rest % 32) 0 ≡ false → Left padded n (rest / 32)
padded_on n rest l e = go l.k l.small l.same
  where
    go : (k : ℕ) → rest < 32 ^ k → padded (unpacked n) ≡ padded (digits_by 32 k rest) → Left padded n (rest / 32)
    go zero h s = absurd (eqb-false (rest % 32) 0 e (rw (none_left rest h)))
    go (suc k) h s = record { k = k; small = fewer 32 (lit≤ tt) k rest h; same = s ∙ rw e }

pub padded_end : (n rest : ℕ) → Left padded n rest → eqb (rest % 32) 0 ≡ true → eqb rest 0 ≡ padded (unpacked n)
padded_end n rest l e = go l.k l.small l.same
  where
    go : (k : ℕ) → rest < 32 ^ k → padded (unpacked n) ≡ padded (digits_by 32 k rest) → eqb rest 0 ≡ padded (unpacked n)
    go zero h s = sym (s ∙ sym (eq-eqb rest 0 (none_left rest h)))
    go (suc k) h s = sym (s ∙ rw e (rw e at (zeros (suc k) rest h)))

-- An 8, and before the first only what may stand there.

early_other : (c : ℕ) → early c ≡ true → eqb c 8 ≡ false
early_other c h = go (eqb c 8) refl
  where
    go : (b : Bool) → eqb c 8 ≡ b → b ≡ false
    go true e = absurd (false≢true (rw (eqb-true c 8 e) at h))
    go false e = refl

pub opens_on : (n rest : ℕ) → Left opens n rest → early (rest % 32) ≡ true → Left opens n (rest / 32)
opens_on n rest l e = go l.k l.small l.same
  where
    go : (k : ℕ) → rest < 32 ^ k → opens (unpacked n) ≡ opens (digits_by 32 k rest) → Left opens n (rest / 32)
    go zero h s = absurd (false≢true (rw (none_left rest h) at e))
    go (suc k) h s = record { k = k; small = fewer 32 (lit≤ tt) k rest h; same = s ∙ rw (early_other (rest % 32) e, e) }

pub opens_end : (n rest : ℕ) → Left opens n rest → early (rest % 32) ≡ false → eqb (rest % 32) 8 ≡ opens (unpacked n)
opens_end n rest l e = go l.k l.small l.same
  where
    go : (k : ℕ) → rest < 32 ^ k → opens (unpacked n) ≡ opens (digits_by 32 k rest) → eqb (rest % 32) 8 ≡ opens (unpacked n)
    go zero h s = sym (s ∙ rw (none_left rest h))
    go (suc k) h s = sym (s ∙ rw e (or-false (eqb (rest % 32) 8)))

-- Eight numbers and their word.

pub string_word : (cs : List ℕ) → length cs ≡ 8 → all_codes cs ≡ true → (is_word (packed cs) && (padded (unpacked (packed cs)) && opens (unpacked (packed cs)))) ≡ sound_string cs
unfolding sound_string
string_word cs l h = rw (below cs l h, h) (ap (λ (xs : List ℕ). padded xs && opens xs) (codes_packed cs l h))

pub signal_word : (cs : List ℕ) → length cs ≡ 8 → all_codes cs ≡ true → is_signal (packed cs) ≡ sound_signal cs
unfolding is_signal sound_signal
signal_word cs l h = rw (below cs l h, h) (ap padded (codes_packed cs l h))

-- a word's codes need no test
pub word_string : (n : ℕ) → (padded (unpacked n) && opens (unpacked n)) ≡ sound_string (unpacked n)
unfolding sound_string
word_string n = rw (digits_below 32 (lit≤ tt) 8 n)

-- a number made of bytes has them as its own
pub bytes_number : (bs : List ℕ) → all_below 256 bs ≡ true → length bs ≡ 8 → (n : ℕ) → n ≡ number_by 256 bs → bytes_of n ≡ bs
bytes_number bs h l n e = rw e (subst (λ (k : ℕ). digits_by 256 k (number_by 256 bs) ≡ bs) l (digits_number 256 (lit≤ tt) bs h))

-- Each of a list.

pub each_code : (cs : List ℕ) → list_all (λ c. ltb c 32) cs ≡ all_codes cs
each_code [] = refl
each_code (c ∷ cs) = rw (each_code cs)

pub each_signal : (ns : List ℕ) → list_all is_signal ns ≡ all_signals ns
each_signal [] = refl
each_signal (n ∷ ns) = rw (each_signal ns)
