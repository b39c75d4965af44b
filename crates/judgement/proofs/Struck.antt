-- A place is struck over exactly if more than one code of the line is struck there. So between two returns nothing that lands
-- before the stop is struck over.
-- Assumes nothing.
use Prim.Native.Nat.{ℕ, ◌+◌, ◌≤◌, ◌<◌}
use mathlib.Core.Path.{◌≡◌, refl, sym, ◌∙◌}
use mathlib.Core.Bool.{Bool, true, false, cond, ◌||◌, true≢false}
use mathlib.Core.List.{List, [], ◌∷◌}
use native.Mathlib.Omega.{arith}
use lib.Dec.{eqb}
use lib.ListN.{length, get_or, set, length-set}
use lib.Seq.{get_or-set_same, get_or-set_other}
use borrow.Author.Tests.{eqb-true, eqb-false, ne_eqb}
use Rattle.std.specs.Prelude.{Option, Some, None}
use Rattle.code.specs.Kinds.{kind_of, strikes, moves}
use Rattle.printer.specs.Printer.{landing}
use Rattle.judgement.specs.Names.{Case, Letters, Figures, Kind, Still, Space, Return, Shift, Char, Printer, Spot, At, From, Verdict, Watch, Line}
use Rattle.judgement.specs.Stop.{prints_all_stop, hits, times, NoReturn}
use Rattle.judgement.specs.Watch.{shown_by, watch}
use Rattle.judgement.specs.Verdict.{number_of, own_char, own, lands_char, lands, strike_of}
use Rattle.judgement.specs.Line.{ink_of, stand_after, strike_at, strike}
use Rattle.judgement.specs.Struck.{line_of, lands_at, struck_at, stand_at, stands_at}
use Rattle.judgement.specs.Fits.{FitsCase, FitsSpot, Fits}
use Rattle.judgement.proofs.Fits.{fits}
use Rattle.judgement.proofs.Once.{prints_times, once}

-- One place of the line.

set_stand : (stand : List ℕ) (m n x : ℕ) → n < length stand → get_or (set stand m x) n 0 ≡ cond (eqb m n) x (get_or stand n 0)
set_stand stand m n x h = go (eqb m n) refl
  where
    go : (b : Bool) → eqb m n ≡ b → get_or (set stand m x) n 0 ≡ cond b x (get_or stand n 0)
    go true e = let s : m ≡ n = eqb-true m n e in rw s (get_or-set_same stand n x 0 h)
    go false e = get_or-set_other stand m n x 0 (λ s. eqb-false m n e (sym s))

same_there : (stand : List ℕ) (m n : ℕ) (v : Verdict) → cond (eqb m n) (stand_after (get_or stand m 0) v) (get_or stand n 0) ≡ cond (eqb m n) (stand_after (get_or stand n 0) v) (get_or stand n 0)
same_there stand m n v = go (eqb m n) refl
  where
    go : (b : Bool) → eqb m n ≡ b → cond b (stand_after (get_or stand m 0) v) (get_or stand n 0) ≡ cond b (stand_after (get_or stand n 0) v) (get_or stand n 0)
    go true e = let s : m ≡ n = eqb-true m n e in rw s
    go false e = refl

strike_at_law : (n : ℕ) (x : Option Spot) (l : Line) (ink : ℕ) (v : Verdict) → n < length l.stand → get_or (strike_at x l ink v).stand n 0 ≡ stand_at n x (get_or l.stand n 0) v
strike_at_law n None l ink v h = refl
strike_at_law n (Some (At m)) l ink v h = set_stand l.stand m n (stand_after (get_or l.stand m 0) v) h ∙ same_there l.stand m n v
strike_at_law n (Some (From m)) l ink v h = refl

pub strike_length : (x : Option Spot) (l : Line) (ink : ℕ) (v : Verdict) → length (strike_at x l ink v).stand ≡ length l.stand
strike_length None l ink v = refl
strike_length (Some (At m)) l ink v = simp length-set
strike_length (Some (From m)) l ink v = refl

-- each place of the line stands as its own strikes say
pub place_stands : (n : ℕ) (w : Watch) (l : Line) (cs : List ℕ) → n < length l.stand → get_or (line_of w l cs).stand n 0 ≡ stands_at n w (get_or l.stand n 0) cs
place_stands n w l [] h = refl
place_stands n w l (c ∷ cs) h =
    let s = strike_of w c in
    let k : n < length (strike l s).stand = omega (arith, h, strike_length s.lands l (ink_of s.sign) s.own) in
    place_stands n (watch w c) (strike l s) cs k ∙ rw (strike_at_law n (lands w (kind_of c)) l (ink_of s.sign) (own w (kind_of c)) h)

-- How often it is struck.

-- what is struck at a place is judged by itself: kept, turned or unknown
abbrev pub single : ℕ → Bool
single x = eqb x 1 || eqb x 2 || eqb x 4

single_own : (bell fell : Bool) (meant : Option Case) (s : Spot) (m : ℕ) → lands_char bell (shown_by fell meant) s ≡ Some (At m) → single (number_of (own_char bell meant fell)) ≡ true
single_own bell fell None s m e = refl
single_own bell fell (Some Letters) s m e = refl
single_own bell true (Some Figures) s m e = refl
single_own false false (Some Figures) s m e = refl
single_own true false (Some Figures) s m e = let z : true ≡ false = cc in absurd (true≢false z)

pub single_lands : (w : Watch) (k : Kind) (m : ℕ) → lands w k ≡ Some (At m) → single (number_of (own w k)) ≡ true
single_lands w Still m e = let z : true ≡ false = cc in absurd (true≢false z)
single_lands w Space m e = let z : true ≡ false = cc in absurd (true≢false z)
single_lands w Return m e = let z : true ≡ false = cc in absurd (true≢false z)
single_lands w (Shift to) m e = let z : true ≡ false = cc in absurd (true≢false z)
single_lands w (Char bell) m e = single_own bell w.fell w.meant w.spot m e

-- one code: it is struck at the place, and then the place stands by it, or it is not
hit_cases : (P : ℕ → ℕ → Type 0) (n was : ℕ) (w : Watch) (k : Kind) → ((v : ℕ) → single v ≡ true → P 1 (cond (eqb was 0) v 3)) → P 0 was → P (lands_at n (lands w k)) (stand_at n (lands w k) was (own w k))
hit_cases P n was w k hit none = go (lands w k) refl
  where
    there : (m : ℕ) (b : Bool) → lands w k ≡ Some (At m) → P (cond b 1 0) (cond b (stand_after was (own w k)) was)
    there m true e = hit (number_of (own w k)) (single_lands w k m e)
    there m false e = none

    go : (x : Option Spot) → lands w k ≡ x → P (lands_at n x) (stand_at n x was (own w k))
    go None e = none
    go (Some (At m)) e = there m (eqb m n) e
    go (Some (From m)) e = none

pub spoiled : (n : ℕ) (w : Watch) (cs : List ℕ) → stands_at n w 3 cs ≡ 3
spoiled n w [] = refl
spoiled n w (c ∷ cs) =
    let rest = spoiled n (watch w c) cs in
    hit_cases (λ t x. stands_at n (watch w c) x cs ≡ 3) n 3 w (kind_of c) (λ v s. rest) rest

single_bare : (x : ℕ) → single x ≡ true → eqb x 0 ≡ false
single_bare x h = ne_eqb x 0 (λ e. true≢false (sym (rw e at h)))

pub marked : (n was : ℕ) (w : Watch) (cs : List ℕ) → single was ≡ true → 1 ≤ struck_at n w cs → stands_at n w was cs ≡ 3
marked n was w [] s h = absurd (omega arith)
marked n was w (c ∷ cs) s h =
    hit_cases (λ t x. 1 ≤ t + struck_at n (watch w c) cs → stands_at n (watch w c) x cs ≡ 3) n was w (kind_of c)
    (λ v z l. rw (single_bare was s) (spoiled n (watch w c) cs))
    (λ l. marked n was (watch w c) cs s (omega arith))
    h

pub unmarked : (n was : ℕ) (w : Watch) (cs : List ℕ) → struck_at n w cs ≡ 0 → stands_at n w was cs ≡ was
unmarked n was w [] h = refl
unmarked n was w (c ∷ cs) h =
    hit_cases (λ t x. t + struck_at n (watch w c) cs ≡ 0 → stands_at n (watch w c) x cs ≡ was) n was w (kind_of c)
    (λ v z l. absurd (omega arith))
    (λ l. unmarked n was (watch w c) cs (omega arith))
    h

pub twice : (n : ℕ) (w : Watch) (cs : List ℕ) → 2 ≤ struck_at n w cs → stands_at n w 0 cs ≡ 3
twice n w [] h = absurd (omega arith)
twice n w (c ∷ cs) h =
    hit_cases (λ t x. 2 ≤ t + struck_at n (watch w c) cs → stands_at n (watch w c) x cs ≡ 3) n 0 w (kind_of c)
    (λ v z l. marked n v (watch w c) cs z (omega arith))
    (λ l. twice n (watch w c) cs (omega arith))
    h

just_once : (n : ℕ) (w : Watch) (cs : List ℕ) → struck_at n w cs ≡ 1 → single (stands_at n w 0 cs) ≡ true
just_once n w [] h = absurd (omega arith)
just_once n w (c ∷ cs) h =
    hit_cases (λ t x. t + struck_at n (watch w c) cs ≡ 1 → single (stands_at n (watch w c) x cs) ≡ true) n 0 w (kind_of c)
    (λ v z l. rw (unmarked n v (watch w c) cs (omega arith)) z)
    (λ l. just_once n (watch w c) cs (omega arith))
    h

-- From a line on which the place is bare: it is struck over exactly if it is struck more than once.

module _ (n : ℕ) (w : Watch) (l : Line) (cs : List ℕ) (h : n < length l.stand) (z : get_or l.stand n 0 ≡ 0) where
  from_bare : get_or (line_of w l cs).stand n 0 ≡ stands_at n w 0 cs
  from_bare = place_stands n w l cs h ∙ rw z

  pub over_if : 2 ≤ struck_at n w cs → get_or (line_of w l cs).stand n 0 ≡ 3
  over_if t = from_bare ∙ twice n w cs t

  pub over_only : get_or (line_of w l cs).stand n 0 ≡ 3 → 2 ≤ struck_at n w cs
  over_only o = go (eqb (struck_at n w cs) 0) (eqb (struck_at n w cs) 1) refl refl
    where
      three : stands_at n w 0 cs ≡ 3
      three = sym from_bare ∙ o

      go : (a b : Bool) → eqb (struck_at n w cs) 0 ≡ a → eqb (struck_at n w cs) 1 ≡ b → 2 ≤ struck_at n w cs
      go true b e f = let d : ◌≡◌ {A = ℕ} 0 3 = sym (unmarked n 0 w cs (eqb-true _ _ e)) ∙ three in absurd (omega arith)
      go false true e f = absurd (true≢false (sym (just_once n w cs (eqb-true _ _ f)) ∙ rw three))
      go false false e f = omega (arith, eqb-false (struck_at n w cs) 0 e, eqb-false (struck_at n w cs) 1 f)

-- Against the printer.

char_hits : (n m : ℕ) (bell : Bool) (k : Option Case) (case : Case) (s : Spot) → FitsCase k case → FitsSpot s m → lands_at n (lands_char bell k s) ≤ hits n (landing (strikes bell case) m)
char_hits n m false k case (At j) f e = rw e (omega arith)
char_hits n m false k case (From j) f e = omega arith
char_hits n m true None case (At j) f e = omega arith
char_hits n m true None case (From j) f e = omega arith
char_hits n m true (Some Letters) case (At j) f e = rw (e, ← f) (omega arith)
char_hits n m true (Some Letters) case (From j) f e = omega arith
char_hits n m true (Some Figures) case s f e = omega arith

kind_hits : {w : Watch} {p : Printer} {s : Case} (n : ℕ) (k : Kind) → Fits w p s → lands_at n (lands w k) ≤ hits n (landing (moves p.case k) p.count)
kind_hits n Still f = omega arith
kind_hits n Space f = omega arith
kind_hits n Return f = omega arith
kind_hits n (Shift to) f = omega arith
kind_hits {w} {p} {s} n (Char bell) f = char_hits n p.count bell (shown_by w.fell w.meant) p.case w.spot f.shown f.spot

-- what is judged to be struck at a place, the printer with a stop strikes there
pub struck_there : {w : Watch} {p : Printer} {s : Case} (n : ℕ) (cs : List ℕ) → Fits w p s → struck_at n w cs ≤ times n (prints_all_stop w.stop p cs)
struck_there n [] f = omega arith
struck_there {w} {p} {s} n (c ∷ cs) f = omega (arith, kind_hits n (kind_of c) f, struck_there {w = watch w c} n cs (fits c f), prints_times w.stop n p c cs)

-- between two returns what lands before the stop is not struck over
pub before_stop : {w : Watch} {p : Printer} {s : Case} (n : ℕ) (l : Line) (cs : List ℕ) → Fits w p s → NoReturn cs → n < w.stop → n < length l.stand → get_or l.stand n 0 ≡ 0 → get_or (line_of w l cs).stand n 0 ≡ 3 → ⊥
before_stop {w} {p} {s} n l cs f r b h z o = omega (arith, over_only n w l cs h z o, struck_there n cs f, once w.stop n p cs f.short r b)
