-- A buffer into which a text is decoded from its front on: before the loop, after one byte more, and at its two ends.
-- Assumes nothing.
use Rattle.std.proofs.Common.{ℕ, zero, suc, ◌+◌, ◌-◌, ◌≤◌, ◌<◌, ◌≡◌, refl, sym, ap, ◌∙◌, List, [], ◌∷◌, ◌++◌, arith, add-one, length, take, drop, set, length-set, take-append-drop}
use Rattle.laws.specs.Written.{fronted}
use Rattle.entries.specs.declared.text.Form.{Form}
use Rattle.entries.specs.Text.{first_piece, decoded}

-- the whole outcome is what is written up to k and what the rest of the text is decoded to
pub record Decodes (form : Form) (s old out rest : List ℕ) (k : ℕ) : Type 0 where
  pub same_length : length out ≡ length old
  pub count : length (decoded form s (length old)) ≡ k + length (decoded form rest (length old - k))
  pub places : fronted old (decoded form s (length old)) ≡ take k out ++ fronted (drop k out) (decoded form rest (length old - k))

module _ (form : Form) where
  step : (t : List ℕ) (n : ℕ) → 0 < length t → 0 < n → decoded form t n ≡ (first_piece form t).byte ∷ decoded form (drop (first_piece form t).width t) (n - 1)
  step t zero h g = absurd (omega arith)
  step [] (suc n) h g = absurd (omega arith)
  step (x ∷ xs) (suc n) h g = let z : suc n - 1 ≡ n = omega arith in rw z

  empty : (n : ℕ) → decoded form [] n ≡ []
  empty zero = refl
  empty (suc n) = refl

-- a byte stored at the next place
put : (out : List ℕ) (k v : ℕ) (p : List ℕ) → k < length out → take (suc k) (set out k v) ++ fronted (drop (suc k) (set out k v)) p ≡ take k out ++ fronted (drop k out) (v ∷ p)
put [] k v p h = absurd (omega arith)
put (x ∷ xs) zero v p h = refl
put (x ∷ xs) (suc k) v p h = ap (λ (l : List ℕ). x ∷ l) (put xs k v p (omega (arith, h)))

pub start : (form : Form) (s old : List ℕ) → Decodes form s old old s 0
start form s old = let z : length old - 0 ≡ length old = omega arith in record { same_length = refl; count = rw z (omega arith); places = rw z }

pub turn : (form : Form) (s old out rest : List ℕ) (k : ℕ) → Decodes form s old out rest k → 0 < length rest → k < length old → Decodes form s old (set out k (first_piece form rest).byte) (drop (first_piece form rest).width rest) (k + 1)
turn form s old out rest k h some room =
    let p = first_piece form rest in
    let less : length old - k - 1 ≡ length old - (k + 1) = omega arith in
    let e : decoded form rest (length old - k) ≡ p.byte ∷ decoded form (drop p.width rest) (length old - (k + 1)) = step form rest (length old - k) some (omega arith) ∙ rw less in
    let n = rw e at h.count in
    record {
      same_length = length-set out k p.byte ∙ h.same_length;
      count = omega (arith, n);
      places = (rw e at h.places) ∙ sym (rw (← add-one k) at (put out k p.byte (decoded form (drop p.width rest) (length old - (k + 1))) (omega (arith, h.same_length))));
    }

-- at the end of the text or of the buffer nothing is left to decode
module _ (form : Form) (s old out rest : List ℕ) (k : ℕ) (h : Decodes form s old out rest k) where
  ended : decoded form rest (length old - k) ≡ [] → (k ≡ length (decoded form s (length old))) × (out ≡ fronted old (decoded form s (length old)))
  ended e = (let n = rw e at h.count in omega (arith, n), sym ((rw e at h.places) ∙ take-append-drop k out))

  none : (t : List ℕ) → length t ≡ 0 → t ≡ []
  none [] g = refl
  none (x ∷ xs) g = absurd (omega arith)

  pub text_ends : length rest ≡ 0 → (k ≡ length (decoded form s (length old))) × (out ≡ fronted old (decoded form s (length old)))
  text_ends g = ended (rw (none rest g) (empty form (length old - k)))

  pub room_ends : length old ≤ k → (k ≡ length (decoded form s (length old))) × (out ≡ fronted old (decoded form s (length old)))
  room_ends g = ended (let z : length old - k ≡ 0 = omega arith in rw z)
