-- The finder hands back exactly what the maker put between its CR LF pairs, wherever no message stood before.
-- Assumes nothing.
use Prim.Native.Nat.{ℕ, suc, ◌+◌, ◌≤◌}
use mathlib.Core.Path.{◌≡◌, refl, ap, ◌∙◌}
use mathlib.Core.Bool.{Bool, true, false, cond, ◌&&◌}
use mathlib.Core.List.{List, [], ◌∷◌, ◌++◌, append_assoc}
use native.Mathlib.Omega.{arith}
use native.Mathlib.Nat.{zero-add}
use lib.Dec.{T, eqb}
use lib.ListN.{length, take, drop}
use lib.Seq.{drop-drop, take-append_seam, drop-append-add}
use Rattle.message.specs.declared.Scan.{Scan}
use Rattle.message.specs.declared.Scan.TheVariants.{Opening}
use Rattle.std.proofs.Common.{Option, Some, None, option_and_then}
use Rattle.message.specs.Message.{crlf, mark, numbers, body, framed, message}
use Rattle.message.specs.Find.{AllBytes, Counted, Earliest, NoMessage}
use Rattle.message.specs.Scan.{scan, prefix, numbers_from, message_at, placed, located_from, located}
use Rattle.message.specs.Located.{found}
use Rattle.message.proofs.Front.{front_of, at_front}
use Rattle.message.proofs.Right.{shift}

-- ---- what follows the next CR LF does not matter
lf_alike : (w x : List ℕ) → prefix (10 ∷ []) (w ++ (crlf ++ x)) ≡ prefix (10 ∷ []) (w ++ crlf)
lf_alike [] x = refl
lf_alike (b ∷ w) x = refl

numbers_alike : (st : Scan) (k : ℕ) (w x : List ℕ) → numbers_from st k (w ++ (crlf ++ x)) ≡ numbers_from st k (w ++ crlf)
numbers_alike st k [] x = refl
numbers_alike st k (b ∷ w) x = rw (lf_alike w x, go (scan st b) (λ y. numbers_alike y (suc k) w x))
  where
    go : (o : Option Scan) → ((y : Scan) → numbers_from y (suc k) (w ++ (crlf ++ x)) ≡ numbers_from y (suc k) (w ++ crlf))
        → option_and_then (λ y. numbers_from y (suc k) (w ++ (crlf ++ x))) o ≡ option_and_then (λ y. numbers_from y (suc k) (w ++ crlf)) o
    go None same = refl
    go (Some y) same = same y

-- a word with no CR in it
abbrev plain : List ℕ → Bool
plain [] = true
plain (a ∷ w) = cond (eqb 13 a) false (plain w)

-- the numbers after a word that has to stand at the front, if what is before it was right
abbrev after : Bool → List ℕ → List ℕ → Option ℕ
after ok w s = cond (ok && prefix w s) (numbers_from Opening 0 (drop (length w) s)) None

after_alike : (w p x : List ℕ) → T (plain w) → after true w (p ++ (crlf ++ x)) ≡ after true w (p ++ crlf)
after_alike [] p x t = numbers_alike Opening 0 p x
after_alike (a ∷ w) [] x t = go (eqb 13 a) t
  where
    go : (b : Bool) → T (cond b false (plain w)) → after b w (10 ∷ x) ≡ after b w (10 ∷ [])
    go true u = absurd u
    go false u = refl
after_alike (a ∷ w) (c ∷ p) x t = go (eqb c a) (eqb 13 a) t (after_alike w p x)
  where
    go : (b d : Bool) → T (cond d false (plain w)) → (T (plain w) → after true w (p ++ (crlf ++ x)) ≡ after true w (p ++ crlf)) → after b w (p ++ (crlf ++ x)) ≡ after b w (p ++ crlf)
    go b true u rest = absurd u
    go true false u rest = rest u
    go false false u rest = refl

front_alike : (c : ℕ) (p x : List ℕ) → message_at (c ∷ p ++ (crlf ++ x)) ≡ message_at (c ∷ p ++ crlf)
front_alike c p x = go (eqb c 13)
  where
    go : (b : Bool) → after b (10 ∷ mark) (p ++ (crlf ++ x)) ≡ after b (10 ∷ mark) (p ++ crlf)
    go true = after_alike (10 ∷ mark) p x tt
    go false = refl

-- ---- a message is passed over only where none stands
nothing_here : (s : List ℕ) → NoMessage s → message_at s ≡ None
nothing_here s none = go (message_at s) refl
  where
    go : (n : Option ℕ) → message_at s ≡ n → n ≡ None
    go None e = refl
    go (Some k) e =
        let f = front_of s k e in
        absurd (none 0 f.ns (record { bytes = f.bytes; counted = f.counted; rest = f.rest; spelt = f.spelt }))

module _ (ns q : List ℕ) (bytes : AllBytes ns) (counted : Counted ns) where
  passes : (i : ℕ) (p : List ℕ) → NoMessage (p ++ crlf) → located_from i (p ++ (framed ns ++ q)) ≡ Some (record { start = i + length p + 2; len = length (body ns) })
  passes i [] none =
      let a : i + 2 ≡ i + 0 + 2 = omega arith in
      let b : 4 + length (numbers ns) ≡ length (body ns) = omega arith in
      ap (λ (n : Option ℕ). placed i n (located_from (suc i) (drop 1 (framed ns ++ q)))) (at_front ns q bytes counted) ∙ rw (a, b)
  passes i (c ∷ p) none =
      let e : message_at (c ∷ p ++ (framed ns ++ q)) ≡ None = front_alike c p ((body ns ++ crlf) ++ q) ∙ nothing_here (c ∷ p ++ crlf) none in
      let a : suc i + length p + 2 ≡ i + suc (length p) + 2 = omega arith in
      ap (λ (n : Option ℕ). placed i n (located_from (suc i) (p ++ (framed ns ++ q)))) e
      ∙ (passes (suc i) p (λ j ms t. none (suc j) ms (shift c (p ++ crlf) j ms t)) ∙ rw a)

-- what stands between the two CR LF pairs
pub body_front : (ns q : List ℕ) → take (length (body ns)) (drop 2 (framed ns ++ q)) ≡ body ns
body_front ns q = ap (λ (l : List ℕ). take (length (body ns)) l) (append_assoc (body ns) crlf q) ∙ take-append_seam (body ns) (crlf ++ q)

-- the stretch of the earliest message is its bytes from the hyphen to the last digit
pub earliest_bytes : (s : List ℕ) (start len : ℕ) (e : Earliest s start len) → take len (drop start s) ≡ body e.ns
earliest_bytes s start len e = rw (e.after_crlf, ← drop-drop 2 e.place s, e.long, e.stands.spelt) (body_front e.ns e.stands.rest)

-- the maker's message, among any bytes
module _ (p q : List ℕ) (id : ℕ) (values : List ℕ) (none : NoMessage (p ++ crlf)) (bytes : AllBytes (id ∷ values)) (few : length values ≤ 255) where
  pub located_message : located (p ++ (message id values ++ q)) ≡ Some (record { start = length p + 2; len = length (body (id ∷ length values ∷ values)) })
  unfolding located
  located_message = passes (id ∷ length values ∷ values) q (bytes.0, (few, bytes.1)) refl 0 p none ∙ rw zero-add

  pub found_message : found (p ++ (message id values ++ q)) ≡ body (id ∷ length values ∷ values)
  found_message = rw (located_message, drop-append-add p (message id values ++ q) 2) (body_front (id ∷ length values ∷ values) q)
