-- A string matches exactly if the codes heard end with its codes, of which there are some.
-- Assumes nothing.
use Prim.Native.Nat.{ℕ, zero, suc, ◌+◌, ◌*◌, ◌-◌, ◌/◌, ◌%◌, ◌^◌, ◌<◌, ◌≤◌}
use mathlib.Core.Path.{◌≡◌, refl, sym, ap, subst, ◌∙◌}
use mathlib.Core.Bool.{Bool, true, false, cond}
use mathlib.Core.List.{List, [], ◌∷◌, ◌++◌}
use native.Mathlib.Nat.{mod-add-div}
use native.Mathlib.Omega.{arith}
use borrow.Author.Tests.{ltb-true, lt-ltb, leb-true, leb-false, eqb-true, eqb-false, eq-eqb}
use lib.Dec.{eqb, ltb, leb, lit≤}
use lib.ListN.{length, take, drop, replicate, length-drop, length-append, length-replicate, take-append-drop}
use Rattle.std.proofs.lemmas.Bool.{and_parts}
use Rattle.word.specs.Word.{digits_by, all_below, unpacked, packed}
use Rattle.word.proofs.Words.{digits_length, digits_below, digits_number, fewer, number_digits, packed_codes}
use Rattle.settings.specs.Table.{all_zero, padded}
use Rattle.motor.specs.Motor.{latest, size_in, size, matches}
use Rattle.motor.specs.Matching.{until_zero, string_codes, Ruled, heard_of, EndsWith}
use Rattle.motor.proofs.Heard.{latest_heard}

-- A string's codes: its number is theirs, none of them is 0, and there are as many as it has.

-- nothing but 0 makes 0
zeros_number : (ds : List ℕ) → all_zero ds ≡ true → packed ds ≡ 0
zeros_number [] h = refl
zeros_number (d ∷ ds) h =
    let b = and_parts (eqb d 0) (all_zero ds) h in
    omega (arith, eqb-true d 0 b.0, zeros_number ds b.1)

-- what stands after the first 0 makes no difference to the number
until_number : (ds : List ℕ) → padded ds ≡ true → packed (until_zero ds) ≡ packed ds
until_number [] h = refl
until_number (d ∷ ds) h = go (until_number ds) (eqb d 0) refl h
  where
    go : (padded ds ≡ true → packed (until_zero ds) ≡ packed ds) → (b : Bool) → eqb d 0 ≡ b → cond b (all_zero ds) (padded ds) ≡ true → packed (cond b [] (d ∷ until_zero ds)) ≡ packed (d ∷ ds)
    go rest true e h = sym (omega (arith, eqb-true d 0 e, zeros_number ds h))
    go rest false e h = ap (λ (m : ℕ). d + 32 * m) (rest h)

until_below : (ds : List ℕ) → all_below 32 ds ≡ true → all_below 32 (until_zero ds) ≡ true
until_below [] h = refl
until_below (d ∷ ds) h = let b = and_parts (ltb d 32) (all_below 32 ds) h in go b.0 (until_below ds b.1) (eqb d 0)
  where
    go : ltb d 32 ≡ true → all_below 32 (until_zero ds) ≡ true → (b : Bool) → all_below 32 (cond b [] (d ∷ until_zero ds)) ≡ true
    go l rest true = refl
    go l rest false = rw l rest

until_few : (ds : List ℕ) → length (until_zero ds) ≤ length ds
until_few [] = omega arith
until_few (d ∷ ds) = go (until_few ds) (eqb d 0)
  where
    go : length (until_zero ds) ≤ length ds → (b : Bool) → length (cond b [] (d ∷ until_zero ds)) ≤ length (d ∷ ds)
    go rest true = omega arith
    go rest false = omega arith

-- the first of them is not 0
until_first : (ds rest : List ℕ) → until_zero ds ≡ 0 ∷ rest → ⊥
until_first [] rest h = let z : ◌≡◌ {A = ℕ} 0 1 = cc in omega arith
until_first (d ∷ ds) rest h = go (eqb d 0) refl h
  where
    go : (b : Bool) → eqb d 0 ≡ b → cond b [] (d ∷ until_zero ds) ≡ 0 ∷ rest → ⊥
    go true e h = let z : ◌≡◌ {A = ℕ} 0 1 = cc in omega arith
    go false e h = eqb-false d 0 e (cc)

size_until : (k n : ℕ) → n < 32 ^ k → padded (digits_by 32 k n) ≡ true → size_in k n ≡ length (until_zero (digits_by 32 k n))
size_until zero n h p = refl
size_until (suc k) n h p = go (size_until k (n / 32) less) (eqb n 0) refl (eqb (n % 32) 0) refl p
  where
    less : n / 32 < 32 ^ k
    less = fewer 32 (lit≤ tt) k n h

    above : List ℕ
    above = digits_by 32 k (n / 32)

    go : (padded above ≡ true → size_in k (n / 32) ≡ length (until_zero above)) → (a : Bool) → eqb n 0 ≡ a → (b : Bool) → eqb (n % 32) 0 ≡ b
        → cond b (all_zero above) (padded above) ≡ true → cond a 0 (suc (size_in k (n / 32))) ≡ length (cond b [] (n % 32 ∷ until_zero above))
    go rest true e true f p = refl
    go rest true e false f p = absurd (eqb-false (n % 32) 0 f (rw (eqb-true n 0 e)))
    go rest false e true f p =
        let z : n / 32 ≡ 0 = sym (number_digits 32 (lit≤ tt) k (n / 32) less) ∙ zeros_number above p in
        absurd (eqb-false n 0 e (omega (arith, z, eqb-true (n % 32) 0 f, mod-add-div n 32)))
    go rest false e false f p = ap suc (rest p)

-- Lists of codes.

-- codes of the same number are the same
packed_same : (xs ys : List ℕ) → length xs ≡ length ys → all_below 32 xs ≡ true → all_below 32 ys ≡ true → packed xs ≡ packed ys → xs ≡ ys
packed_same xs ys l a b e =
    sym (digits_number 32 (lit≤ tt) xs a) ∙ ap (λ (k : ℕ). digits_by 32 k (packed xs)) l ∙ ap (λ (n : ℕ). digits_by 32 (length ys) n) e ∙ digits_number 32 (lit≤ tt) ys b

-- both parts of a list of codes
pub below_parts : (xs ys : List ℕ) → all_below 32 (xs ++ ys) ≡ true → (all_below 32 xs ≡ true) × (all_below 32 ys ≡ true)
below_parts [] ys h = (refl, h)
below_parts (x ∷ xs) ys h =
    let b = and_parts (ltb x 32) (all_below 32 (xs ++ ys)) h in
    let r = below_parts xs ys b.1 in
    (rw b.0 r.0, r.1)

-- BLANK heard before anything else makes no difference
blanks_heard : (j : ℕ) (hs : List ℕ) → heard_of (replicate j 0 ++ hs) ≡ heard_of hs
blanks_heard zero hs = refl
blanks_heard (suc j) hs = blanks_heard j hs

blanks_below : (j : ℕ) (hs : List ℕ) → all_below 32 hs ≡ true → all_below 32 (replicate j 0 ++ hs) ≡ true
blanks_below zero hs h = h
blanks_below (suc j) hs h = blanks_below j hs h

module _ (s : ℕ) (r : Ruled s) where
  codes_number : packed (string_codes s) ≡ s
  unfolding string_codes
  codes_number = until_number (unpacked s) r.rule ∙ packed_codes s r.word

  codes_below : all_below 32 (string_codes s) ≡ true
  unfolding string_codes
  codes_below = until_below (unpacked s) (digits_below 32 (lit≤ tt) 8 s)

  -- eight at most
  pub codes_few : length (string_codes s) ≤ 8
  unfolding string_codes
  codes_few = omega (arith, until_few (unpacked s), digits_length 32 (lit≤ tt) 8 s)

  -- as many as the string has
  pub size_codes : size s ≡ length (string_codes s)
  unfolding size string_codes
  size_codes = size_until 8 s (ltb-true s 1099511627776 r.word) r.rule

  -- the last codes heard are its number
  same_number : (hs : List ℕ) → matches s (heard_of hs) ≡ true → (0 < s) × (latest (length (string_codes s)) (heard_of hs) ≡ packed (string_codes s))
  unfolding matches
  same_number hs h =
      let b = and_parts (ltb 0 s) (eqb (latest (size s) (heard_of hs)) s) h in
      (ltb-true 0 s b.0, ap (λ (n : ℕ). latest n (heard_of hs)) (sym size_codes) ∙ eqb-true (latest (size s) (heard_of hs)) s b.1 ∙ sym codes_number)

  some_codes : 0 < s → string_codes s ≡ [] → ⊥
  some_codes l e = omega (arith, codes_number, ap packed e)

  above_zero : (string_codes s ≡ [] → ⊥) → 0 < s
  unfolding string_codes
  above_zero f = go (eqb s 0) refl
    where
      go : (t : Bool) → eqb s 0 ≡ t → 0 < s
      go true t = absurd (f (rw (eqb-true s 0 t)))
      go false t = omega (arith, eqb-false s 0 t)

  module _ (hs : List ℕ) (below : all_below 32 hs ≡ true) where
    -- as many codes were heard as the string has
    enough : length (string_codes s) ≤ length hs → latest (length (string_codes s)) (heard_of hs) ≡ packed (string_codes s) → hs ≡ take (length hs - length (string_codes s)) hs ++ string_codes s
    enough l e =
        let cs = string_codes s in
        let j = length hs - length cs in
        let whole : take j hs ++ drop j hs ≡ hs = take-append-drop j hs in
        let size : length (drop j hs) ≡ length cs = omega (arith, length-drop j hs) in
        let b = below_parts (take j hs) (drop j hs) (rw whole below) in
        let f : latest (length (drop j hs)) (heard_of (take j hs ++ drop j hs)) ≡ packed (drop j hs) = latest_heard (take j hs) (drop j hs) b.1 (omega (arith, size, codes_few)) in
        let g : latest (length cs) (heard_of hs) ≡ packed (drop j hs) = subst (λ (n : ℕ). latest n (heard_of hs) ≡ packed (drop j hs)) size (subst (λ (xs : List ℕ). latest (length (drop j hs)) (heard_of xs) ≡ packed (drop j hs)) whole f) in
        let same : drop j hs ≡ cs = packed_same (drop j hs) cs size b.1 codes_below (sym g ∙ e) in
        sym whole ∙ ap (λ (xs : List ℕ). take j hs ++ xs) same

    -- fewer were: the string would begin with 0
    scarce : (j : ℕ) → length (string_codes s) ≡ suc j + length hs → latest (length (string_codes s)) (heard_of hs) ≡ packed (string_codes s) → ⊥
    unfolding string_codes
    scarce j l e =
        let cs = string_codes s in
        let xs = replicate (suc j) 0 ++ hs in
        let size : length xs ≡ length cs = length-append (replicate (suc j) 0) hs ∙ ap (λ (n : ℕ). n + length hs) (length-replicate (suc j) 0) ∙ sym l in
        let f : latest (length xs) (heard_of xs) ≡ packed xs = latest_heard [] xs (blanks_below (suc j) hs below) (omega (arith, size, codes_few)) in
        let g : latest (length cs) (heard_of hs) ≡ packed xs = subst (λ (n : ℕ). latest n (heard_of hs) ≡ packed xs) size (subst (λ (m : ℕ). latest (length xs) m ≡ packed xs) (blanks_heard (suc j) hs) f) in
        let same : xs ≡ cs = packed_same xs cs size (blanks_below (suc j) hs below) codes_below (sym g ∙ e) in
        until_first (unpacked s) (replicate j 0 ++ hs) (sym same)

    -- a match: the codes heard end with the string's
    pub matched : matches s (heard_of hs) ≡ true → EndsWith (string_codes s) hs
    matched h = let b = same_number hs h in go b.0 b.1 (leb (length (string_codes s)) (length hs)) refl
      where
        go : 0 < s → latest (length (string_codes s)) (heard_of hs) ≡ packed (string_codes s) → (t : Bool) → leb (length (string_codes s)) (length hs) ≡ t → EndsWith (string_codes s) hs
        go l e true t = record { before = take (length hs - length (string_codes s)) hs; whole = enough (leb-true (length (string_codes s)) (length hs) t) e; some = some_codes l }
        go l e false t =
            let n = length (string_codes s) - suc (length hs) in
            let f : length (string_codes s) ≡ suc n + length hs = omega (arith, leb-false (length (string_codes s)) (length hs) t) in
            absurd (scarce n f e)

    -- they end with its codes: it matches
    pub matching : EndsWith (string_codes s) hs → matches s (heard_of hs) ≡ true
    unfolding matches
    matching w =
        let e : latest (size s) (heard_of hs) ≡ s = rw (size_codes, w.whole) (latest_heard w.before (string_codes s) codes_below codes_few ∙ codes_number) in
        rw (lt-ltb 0 s (above_zero w.some), eq-eqb (latest (size s) (heard_of hs)) s e)
