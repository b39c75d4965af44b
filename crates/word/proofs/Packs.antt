-- Packing from the last code on: what is packed of the codes, and that it stays small.
-- Assumes nothing.
use Rattle.std.proofs.Common.{◌≡◌, ℕ, ◌+◌, ◌*◌, ◌^◌, ◌<◌, ◌≤◌, List, [], ◌∷◌, ◌++◌, length, refl, ◌∙◌, append_assoc, append-nil, length-append, arith, lit≤}
use Rattle.std.specs.List.{push}
use native.Mathlib.Nat.{pow-suc, pow-le-pow_right}
use Rattle.word.specs.Word.{packed}

-- the codes behind those that are left are packed; eight bytes, codes or not, take no more than 44 bits
pub record Packs (cs rest : List ℕ) (n : ℕ) : Type 0 where
  pub done : List ℕ
  pub whole : cs ≡ rest ++ done
  pub word : n ≡ packed done
  pub small : n + 9 ≤ 9 * 32 ^ length done

pub none_packed : (cs : List ℕ) → Packs cs cs 0
none_packed cs = record { done = []; whole = rw append-nil; word = refl; small = lit≤ tt }

module _ (cs rest : List ℕ) (c n : ℕ) (p : Packs cs (push rest c) n) where
  -- there is room for one code more
  pub room : length cs ≡ 8 → n < 288230376151711744
  room eight =
      let l : length cs ≡ length rest + 1 + length p.done = rw p.whole (simp length-append) in
      let h : length p.done ≤ 8 = omega arith in
      omega (arith, p.small, pow-le-pow_right {n = 32} (lit≤ tt) h)

  -- the code before them, below the others
  pub one_packed : (m : ℕ) → m ≡ c + 32 * n → m < 256 + 32 * n → Packs cs rest m
  one_packed m e b = record {
    done = c ∷ p.done;
    whole = p.whole ∙ append_assoc rest (c ∷ []) p.done;
    word = rw (← p.word) e;
    small = rw (pow-suc 32 (length p.done)) (omega (arith, b, p.small));
  }

pub all_packed : (cs rest : List ℕ) (n : ℕ) → length rest ≡ 0 → Packs cs rest n → n ≡ packed cs
all_packed cs [] n l p = rw (p.whole, ← p.word)
all_packed cs (x ∷ xs) n l p = absurd (omega arith)
