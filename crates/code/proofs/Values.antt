-- Laws of the conversion over all bytes and all codes, each by one computed test.
-- Assumes nothing.
use Prim.Native.Nat.{ℕ, zero, suc, ◌+◌, ◌<◌}
use mathlib.Core.Path.{◌≡◌, refl, sym, ◌∙◌}
use mathlib.Core.Bool.{Bool, true, false, cond, not, ◌&&◌, ◌||◌}
use lib.Dec.{T, eqb, ltb, leb, eqb→eq}
use Rattle.laws.proofs.Table.{upto, below}
use Rattle.code.specs.declared.Case.{Case}
use Rattle.code.specs.declared.Case.TheVariants.{Letters, Figures}
use Rattle.code.specs.declared.Conversion.{Conversion}
use Rattle.code.specs.declared.Conversion.TheVariants.{Nothing, Free, Cased}
use Rattle.code.specs.Rows.{row_at}
use Rattle.code.specs.Kinds.{kind_of, dependent}
use Rattle.code.specs.Convert.{capital, conversion, mark_of, code_of, case_of, mark_at, code_at}

-- The paper's mark and code tell conversions apart.

abbrev valued : ℕ → ℕ → Conversion
valued m c = cond (eqb m 45) Nothing (cond (eqb m 78) (Free c) (cond (eqb m 76) (Cased Letters c) (Cased Figures c)))

back : (x : Conversion) → valued (mark_of x) (code_of x) ≡ x
back Nothing = refl
back (Free c) = refl
back (Cased Letters c) = refl
back (Cased Figures c) = refl

abbrev pub same : Conversion → Conversion → Bool
same x y = eqb (mark_of x) (mark_of y) && eqb (code_of x) (code_of y)

same_by : (m n c d : ℕ) → T (eqb m n && eqb c d) → valued m c ≡ valued n d
same_by m n c d = go (eqb m n) refl
  where
    go : (b : Bool) → eqb m n ≡ b → T (b && eqb c d) → valued m c ≡ valued n d
    go true e t =
        let p : m ≡ n = eqb→eq m n (rw e tt) in
        let q : c ≡ d = eqb→eq c d t in
        rw (p, q)
    go false e t = absurd t

pub same_eq : (x y : Conversion) → T (same x y) → x ≡ y
same_eq x y t = sym (back x) ∙ same_by (mark_of x) (mark_of y) (code_of x) (code_of y) t ∙ back y

-- How many values have a code.

abbrev one : Conversion → ℕ
one Nothing = 0
one (Free c) = 1
one (Cased case c) = 1

pub coded : ℕ → ℕ
coded zero = 0
coded (suc b) = one (conversion b) + coded b

-- 84 of the 128 values have a code, and so 44 have none
pub eighty_four : coded 128 ≡ 84
unfolding coded conversion kind_of row_at
eighty_four = refl

-- Bytes 128 to 255 have none.

high_test : ℕ → Bool
high_test b = ltb b 128 || same (conversion b) Nothing

high_all : T (upto high_test 256)
unfolding high_test conversion kind_of row_at
high_all = tt

pub high : (b : ℕ) → (ltb b 128) ≡ false → b < 256 → conversion b ≡ Nothing
unfolding high_test
high b h l = same_eq (conversion b) Nothing (rw h at (below high_test 256 high_all b l))

-- The paper's mark and code of a byte are those by the rows.

-- two functions that agree on every byte
agreed : (f g : ℕ → ℕ) → T (upto (λ b. eqb (f b) (g b)) 256) → (b : ℕ) → b < 256 → f b ≡ g b
agreed f g t b l = eqb→eq (f b) (g b) (below (λ x. eqb (f x) (g x)) 256 t b l)

pub mark_right : (b : ℕ) → b < 256 → mark_of (conversion b) ≡ mark_at b
unfolding conversion kind_of row_at mark_at
mark_right = agreed (λ b. mark_of (conversion b)) mark_at tt

pub code_right : (b : ℕ) → b < 256 → code_of (conversion b) ≡ code_at b
unfolding conversion kind_of row_at code_at
code_right = agreed (λ b. code_of (conversion b)) code_at tt

-- Converting a value that is no shift request, and reading the code in its wanted case.

abbrev pub shift_request : ℕ → Bool
shift_request b = eqb b 14 || eqb b 15

back_test : ℕ → Bool
back_test b = same (conversion b) Nothing || (shift_request b || eqb (row_at (case_of (conversion b)) (code_of (conversion b))) (capital b))

back_all : T (upto back_test 256)
unfolding back_test conversion kind_of row_at
back_all = tt

-- gives the value in capitals
pub reads_back : (b : ℕ) → b < 256 → same (conversion b) Nothing ≡ false → shift_request b ≡ false → row_at (case_of (conversion b)) (code_of (conversion b)) ≡ capital b
unfolding back_test
reads_back b l h s = eqb→eq (row_at (case_of (conversion b)) (code_of (conversion b))) (capital b) (rw (h, s) at (below back_test 256 back_all b l))

-- Six codes do not depend on case: 0, 2, 4, 8, 27, 31. The other 26 do.

abbrev pub six : ℕ → Bool
six c = eqb c 0 || (eqb c 2 || (eqb c 4 || (eqb c 8 || (eqb c 27 || eqb c 31))))

abbrev alike? : Bool → Bool → Bool
alike? a b = cond a b (not b)

pub six_test : ℕ → Bool
six_test c = alike? (six c) (not (dependent (kind_of c)))

pub six_free : T (upto six_test 32)
unfolding six_test kind_of row_at
six_free = tt

-- Each of those 26 is the code of exactly one capital and one figure.

-- how many values below n, small letters aside, convert to x
abbrev pub times : Conversion → ℕ → ℕ
times x zero = 0
times x (suc b) = cond (same (conversion b) x && eqb (capital b) b) 1 0 + times x b

abbrev is_capital : ℕ → Bool
is_capital b = leb 65 b && leb b 90

abbrev once : Case → ℕ → Bool
once case c = same (conversion (row_at case c)) (Cased case c) && eqb (times (Cased case c) 128) 1

pub once_test : ℕ → Bool
once_test c = not (dependent (kind_of c)) || ((is_capital (row_at Letters c) && not (is_capital (row_at Figures c))) && (once Letters c && once Figures c))

pub each_once : T (upto once_test 32)
unfolding once_test conversion kind_of row_at
each_once = tt
