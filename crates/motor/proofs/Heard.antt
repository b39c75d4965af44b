-- The codes heard last stand highest: without the others, what is kept is their number.
-- Assumes nothing.
use Prim.Native.Nat.{ℕ, zero, suc, ◌+◌, ◌*◌, ◌-◌, ◌/◌, ◌%◌, ◌^◌, ◌<◌, ◌≤◌}
use mathlib.Core.Path.{◌≡◌, refl, sym, ap, subst, ◌∙◌}
use mathlib.Core.Bool.{true}
use mathlib.Core.List.{List, [], ◌∷◌, ◌++◌}
use native.Mathlib.Nat.{pow-succ', mul_assoc, mul-add, mul_left_comm, zero-add, suc-add, add-zero, add-mul-div_left, mod-lt, mod-eq_of_lt}
use native.Mathlib.Omega.{arith}
use borrow.Author.Tests.{ltb-true}
use lib.Dec.{ltb, lit≤}
use lib.ListN.{length}
use Rattle.std.proofs.lemmas.Bool.{and_parts}
use Rattle.word.specs.Word.{all_below, packed}
use Rattle.word.proofs.Words.{fewer}
use Rattle.motor.specs.Motor.{heard_with, without, latest}
use Rattle.motor.specs.Matching.{heard_on, heard_of}

-- what stands above the codes that go stays above
carried : (j i x c : ℕ) → without j (x + 32 ^ (j + i) * c) ≡ without j x + 32 ^ i * c
carried zero i x c = ap (λ (m : ℕ). x + 32 ^ m * c) (zero-add i)
carried (suc j) i x c =
    let e : 32 ^ (suc j + i) * c ≡ 32 * (32 ^ (j + i) * c) = rw (suc-add j i, pow-succ' 32 (j + i)) (mul_assoc 32 (32 ^ (j + i)) c) in
    let d : (x + 32 ^ (suc j + i) * c) / 32 ≡ x / 32 + 32 ^ (j + i) * c = rw e (add-mul-div_left x (32 ^ (j + i) * c) (lit≤ tt)) in
    ap (λ (m : ℕ). without j m) d ∙ carried j i (x / 32) c

-- a number without some codes has so many fewer
lighter : (j i x : ℕ) → x < 32 ^ (j + i) → without j x < 32 ^ i
lighter zero i x h = subst (λ (m : ℕ). x < 32 ^ m) (zero-add i) h
lighter (suc j) i x h = lighter j i (x / 32) (fewer 32 (lit≤ tt) (j + i) x (subst (λ (m : ℕ). x < 32 ^ m) (suc-add j i) h))

-- one more code leaves eight
pub heard_below : (h c : ℕ) → h < 1099511627776 → heard_with h c < 1099511627776
heard_below h c a =
    let f : h / 32 < 34359738368 = fewer 32 (lit≤ tt) 7 h a in
    let g : c % 32 < 32 = mod-lt c (lit≤ tt) in
    omega (arith, f, g)

-- and so do several
all_below_law : (cs : List ℕ) (h : ℕ) → h < 1099511627776 → heard_on h cs < 1099511627776
all_below_law [] h a = a
all_below_law (c ∷ cs) h a = all_below_law cs (heard_with h c) (heard_below h c a)

-- first some, then others
pub heard_append : (xs ys : List ℕ) (h : ℕ) → heard_on h (xs ++ ys) ≡ heard_on (heard_on h xs) ys
heard_append [] ys h = refl
heard_append (x ∷ xs) ys h = heard_append xs ys (heard_with h x)

-- the codes heard last, above what is left of the others
heard_last : (cs : List ℕ) (h : ℕ) → length cs ≤ 8 → all_below 32 cs ≡ true → heard_on h cs ≡ without (length cs) h + 32 ^ (8 - length cs) * packed cs
heard_last [] h l b = omega arith
heard_last (c ∷ cs) h l b =
    let d = and_parts (ltb c 32) (all_below 32 cs) b in
    let five : c % 32 ≡ c = mod-eq_of_lt (ltb-true c 32 d.0) in
    let n = length cs in
    let p = packed cs in
    let seven : 7 ≡ n + (7 - n) = omega arith in
    let more : 8 - n ≡ suc (7 - n) = omega arith in
    let fewer : 8 - suc n ≡ 7 - n = omega arith in
    let one : without n (h / 32 + 32 ^ 7 * c) ≡ without n (h / 32) + 32 ^ (7 - n) * c = subst (λ (m : ℕ). without n (h / 32 + 32 ^ m * c) ≡ without n (h / 32) + 32 ^ (7 - n) * c) (sym seven) (carried n (7 - n) (h / 32) c) in
    let rest : 32 ^ (8 - n) * p ≡ 32 ^ (7 - n) * (32 * p) = rw (more, pow-succ' 32 (7 - n), mul_assoc 32 (32 ^ (7 - n)) p) (mul_left_comm 32 (32 ^ (7 - n)) p) in
    heard_last cs (heard_with h c) (omega arith) d.1 ∙ rw (five, fewer) (omega (arith, one, rest, mul-add (32 ^ (7 - n)) c (32 * p)))

-- the last n codes are those heard last
pub latest_heard : (before cs : List ℕ) → all_below 32 cs ≡ true → length cs ≤ 8 → latest (length cs) (heard_of (before ++ cs)) ≡ packed cs
unfolding latest
latest_heard before cs b l =
    let n = length cs in
    let h = heard_of before in
    let eight : 8 ≡ n + (8 - n) = omega arith in
    let old : without n h < 32 ^ (8 - n) = lighter n (8 - n) h (subst (λ (m : ℕ). h < 32 ^ m) eight (all_below_law before 0 (lit≤ tt))) in
    let gone : without (8 - n) (without n h) < 32 ^ 0 = lighter (8 - n) 0 (without n h) (subst (λ (m : ℕ). without n h < 32 ^ m) (sym (add-zero (8 - n))) old) in
    let whole : heard_of (before ++ cs) ≡ without n h + 32 ^ (8 - n + 0) * packed cs = heard_append before cs 0 ∙ heard_last cs h l b ∙ ap (λ (m : ℕ). without n h + 32 ^ m * packed cs) (sym (add-zero (8 - n))) in
    ap (λ (m : ℕ). without (8 - n) m) whole ∙ carried (8 - n) 0 (without n h) (packed cs) ∙ omega (arith, gone)
