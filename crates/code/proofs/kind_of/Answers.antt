-- `code::kind_of` meets its contract: six codes have their kinds by computation, over 31 there is no character, and one test over
-- the other codes below 32 shows that each depends on case and that BELL is 5's.
use mathlib.Core.Path.{◌≡◌, refl}
use mathlib.Core.Bool.{Bool, true, false, not, cond, ◌||◌}
use Prim.Native.Nat.{ℕ, ◌<◌}
use mathlib.Core.Logic.{◌⊎◌, ⊎_elim}
use borrow.Author.Tests.{tests}
use borrow.Author.Rules.{rules}
use lib.Dec.{T, eqb}
use Rattle.laws.proofs.Table.{upto, below}
use Rattle.code.specs.declared.Case.TheVariants.{Letters, Figures}
use Rattle.code.specs.declared.Kind.{Kind}
use Rattle.code.specs.declared.Kind.TheVariants.{Still, Space, Return, Shift, Char}
use Rattle.code.specs.Rows.{row_at}
use Rattle.code.specs.Kinds.{kind_of}
use Rattle.code.proofs.Laws.{no_code}
use Rattle.code.proofs.Values.{six}
use Rattle.code.proofs.kind_of.Goals as goal

abbrev charred : Bool → Kind → Bool
charred b Still = false
charred b Space = false
charred b Return = false
charred b (Shift to) = false
charred b (Char bell) = cond b bell (not bell)

is_char : (b : Bool) (k : Kind) → T (charred b k) → Char b ≡ k
is_char true (Char true) t = refl
is_char false (Char false) t = refl
is_char false Still t = elim t [ ]
is_char false Space t = elim t [ ]
is_char false Return t = elim t [ ]
is_char false (Shift _) t = elim t [ ]
is_char false (Char true) t = elim t [ ]
is_char true Still t = elim t [ ]
is_char true Space t = elim t [ ]
is_char true Return t = elim t [ ]
is_char true (Shift _) t = elim t [ ]
is_char true (Char false) t = elim t [ ]

others : ℕ → Bool
others c = six c || charred (eqb c 5) (kind_of c)

all_others : T (upto others 32)
unfolding others kind_of row_at
all_others = tt

other : (c : ℕ) → c < 32 → six c ≡ false → Char (eqb c 5) ≡ kind_of c
unfolding others
other c l h = is_char (eqb c 5) (kind_of c) (rw h at (below others 32 all_others c l))

none : (c : ℕ) → 31 < c → Still ≡ kind_of c
unfolding kind_of
none c h = rw (no_code Letters c h, no_code Figures c h)

pub returns-in-4 : goal.returns-in-4
unfolding kind_of row_at
returns-in-4 c = rw c.in-4.is

pub returns-in-8 : goal.returns-in-8
unfolding kind_of row_at
returns-in-8 c = rw c.in-8.is

pub returns-in-27 : goal.returns-in-27
unfolding kind_of row_at
returns-in-27 c = rw c.in-27.is

pub returns-in-31 : goal.returns-in-31
unfolding kind_of row_at
returns-in-31 c = rw c.in-31.is

pub returns-in_default : goal.returns-in_default
returns-in_default c =
    let l : c.args.c < 32 = search (tests, rules) in
    let s : six c.args.c ≡ false = search (tests, rules) in
    other c.args.c l s

pub returns-in-0 : goal.returns-in-0
unfolding kind_of row_at
returns-in-0 c =
    let e : (c.args.c ≡ 0) ⊎ (c.args.c ≡ 2) = search (tests, rules) in
    ⊎_elim (λ z. rw z) (λ z. rw z) e

pub returns-in-0-2 : goal.returns-in-0-2
returns-in-0-2 c = none c.args.c (search (tests, rules))
