-- What holds of every code, by its kind.
-- Assumes nothing.
use Prim.Native.Nat.{ℕ, ◌≤◌, ◌<◌}
use mathlib.Core.Path.{◌≡◌, refl, sym, ap, ◌∙◌}
use mathlib.Core.Bool.{Bool, true, false, cond, not, ◌||◌, true≢false}
use lib.Dec.{T, eqb, eqb→eq}
use lib.ListN.{get_or, get_or-eq_default}
use borrow.Author.Tests.{eqb-true}
use Rattle.laws.proofs.Table.{upto, below}
use Rattle.code.specs.declared.Case.{Case}
use Rattle.code.specs.declared.Case.TheVariants.{Letters, Figures}
use Rattle.code.specs.declared.Kind.{Kind}
use Rattle.code.specs.declared.Kind.TheVariants.{Still, Space, Return, Shift, Char}
use Rattle.code.specs.Rows.{letters, figures, stands, row_at}
use Rattle.code.specs.Kinds.{kind_alike, kind_by, kind_of, shift, dependent, codes_of}

-- over 31 there is no character
pub no_code : (case : Case) (c : ℕ) → 32 ≤ c → row_at case c ≡ 0
unfolding row_at
no_code Letters c h = get_or-eq_default letters 0 h
no_code Figures c h = get_or-eq_default figures 0 h

-- 27 and 31 are the shifts
pub kind_shift : (to : Case) → kind_of (shift to) ≡ Shift to
unfolding kind_of row_at
kind_shift Letters = refl
kind_shift Figures = refl

alike_by : (x y : ℕ) → dependent (kind_by x y) ≡ false → x ≡ y
alike_by x y = go (eqb x y) refl
  where
    go : (b : Bool) → eqb x y ≡ b → dependent (cond b (kind_alike x) (Char (eqb y 7))) ≡ false → x ≡ y
    go true e h = eqb-true x y e
    go false e h = absurd (true≢false h)

-- a code that does not depend on case reads alike in both
pub alike : (c : ℕ) (a b : Case) → dependent (kind_of c) ≡ false → row_at a c ≡ row_at b c
unfolding kind_of
alike c Letters Letters h = refl
alike c Letters Figures h = alike_by (row_at Letters c) (row_at Figures c) h
alike c Figures Letters h = sym (alike_by (row_at Letters c) (row_at Figures c) h)
alike c Figures Figures h = refl

-- A code below 32 stands among the codes of a kind exactly if that is its kind.

first : Kind → ℕ
first k = get_or (codes_of k) 0 0

first_back : (k : Kind) → kind_of (first k) ≡ k
unfolding first kind_of row_at
first_back Still = refl
first_back Space = refl
first_back Return = refl
first_back (Shift Letters) = refl
first_back (Shift Figures) = refl
first_back (Char true) = refl
first_back (Char false) = refl

own_test : ℕ → Bool
own_test c = stands (codes_of (kind_of c)) c

all_own : T (upto own_test 32)
unfolding own_test kind_of row_at
all_own = tt

pub kind_codes : (c : ℕ) → c < 32 → T (stands (codes_of (kind_of c)) c)
unfolding own_test
kind_codes c l = below own_test 32 all_own c l

only_test : Kind → ℕ → Bool
only_test k c = not (stands (codes_of k) c) || eqb (first (kind_of c)) (first k)

all_only : (k : Kind) → T (upto (only_test k) 32)
unfolding only_test first kind_of row_at
all_only Still = tt
all_only Space = tt
all_only Return = tt
all_only (Shift Letters) = tt
all_only (Shift Figures) = tt
all_only (Char true) = tt
all_only (Char false) = tt

pub codes_kind : (k : Kind) (c : ℕ) → c < 32 → T (stands (codes_of k) c) → kind_of c ≡ k
unfolding only_test
codes_kind k c l t = go (stands (codes_of k) c) t (below (only_test k) 32 (all_only k) c l)
  where
    go : (b : Bool) → T b → T (not b || eqb (first (kind_of c)) (first k)) → kind_of c ≡ k
    go true t e = sym (first_back (kind_of c)) ∙ ap kind_of (eqb→eq (first (kind_of c)) (first k) e) ∙ first_back k
    go false t e = absurd t
