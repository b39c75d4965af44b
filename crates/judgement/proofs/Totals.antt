-- The tally of a line counts its codes' judgements: none is lost, and none is counted twice.
-- Assumes nothing.
use Prim.Native.Nat.{ℕ, ◌+◌, ◌*◌, ◌-◌, ◌≤◌, ◌<◌}
use mathlib.Core.Path.{◌≡◌, refl, sym, ◌∙◌}
use mathlib.Core.Bool.{Bool, true, false, cond, ◌||◌, true≢false}
use mathlib.Core.List.{List, [], ◌∷◌}
use mathlib.Core.Logic.{◌⊎◌, inl, inr}
use native.Mathlib.Omega.{arith}
use native.Mathlib.Nat.{zero-mul, one-mul, mul-zero, add-mul}
use lib.Dec.{eqb}
use lib.ListN.{length, get_or, get_or-replicate}
use borrow.Author.Tests.{eqb-true, eqb-false, eq-eqb}
use Rattle.std.specs.Prelude.{Option, Some, None}
use Rattle.code.specs.Kinds.{kind_of}
use Rattle.judgement.specs.Names.{Case, Letters, Figures, Kind, Still, Space, Return, Shift, Char, Printer, Spot, At, From, Verdict, Watch, Line, Tally, Page}
use Rattle.judgement.specs.Names.verdict
use Rattle.judgement.specs.Watch.{shown_by, watch}
use Rattle.judgement.specs.Verdict.{number_of, own_char, own, lands_char, lands, strike_of}
use Rattle.judgement.specs.Line.{plus, bare, ink_of, stand_after, strike_at, strike, final_at, final, standing, count_of, alone, tally_by, tally_of}
use Rattle.judgement.specs.Page.{feeds, page_after}
use Rattle.judgement.specs.Struck.{NoFeed, page_after_all, watches, line_of, lands_at, struck_at, stand_at, stands_at, judged}
use Rattle.judgement.specs.Fits.{FitsSpot, Fits}
use Rattle.judgement.proofs.Fits.{fits}
use Rattle.judgement.proofs.Struck.{single, single_lands, spoiled, marked, unmarked, twice, place_stands, strike_length}
use Rattle.judgement.proofs.Sums.{sum, one, sum_add, sum_same, sum_none, sum_pick, count_sum}

-- a code that does not feed
abbrev on_line : Page → ℕ → Page
on_line s c = record { watch = watch s.watch c; line = strike s.line (strike_of s.watch c); total = s.total }

-- A weight for each code that is struck at a place, by the place.

abbrev weigh : (ℕ → ℕ) → Option Spot → ℕ
weigh g None = 0
weigh g (Some (At m)) = g m
weigh g (Some (From m)) = 0

abbrev reached : (ℕ → ℕ) → Watch → List ℕ → ℕ
reached g w [] = 0
reached g w (c ∷ cs) = weigh g (lands w (kind_of c)) + reached g (watch w c) cs

abbrev Short : Option Spot → Type 0
Short None = Unit
Short (Some (At m)) = m < 256
Short (Some (From m)) = Unit

weigh_sum : (g : ℕ → ℕ) (x : Option Spot) → Short x → weigh g x ≡ sum 256 (λ n. lands_at n x * g n)
weigh_sum g None h = sym (sum_none 256 (λ n. 0 * g n) (λ n l. zero-mul (g n)))
weigh_sum g (Some (At m)) h = sym (sum_same 256 (λ n. one (eqb m n) * g n) (λ n. cond (eqb m n) (g n) 0) (λ n l. picked (eqb m n) (g n)) ∙ sum_pick 256 g m h)
  where
    picked : (b : Bool) (y : ℕ) → one b * y ≡ cond b y 0
    picked true y = one-mul y
    picked false y = zero-mul y
weigh_sum g (Some (From m)) h = sym (sum_none 256 (λ n. 0 * g n) (λ n l. zero-mul (g n)))

-- every place that is struck is within the stop

short_char : (bell : Bool) (k : Option Case) (s : Spot) (stop m : ℕ) → FitsSpot s m → m ≤ stop → stop < 256 → Short (lands_char bell k s)
short_char false k (At n) stop m e h l = omega arith
short_char false k (From n) stop m e h l = tt
short_char true None (At n) stop m e h l = tt
short_char true None (From n) stop m e h l = tt
short_char true (Some Letters) (At n) stop m e h l = omega arith
short_char true (Some Letters) (From n) stop m e h l = tt
short_char true (Some Figures) s stop m e h l = tt

short : {w : Watch} {p : Printer} {s : Case} (k : Kind) → Fits w p s → w.stop < 256 → Short (lands w k)
short Still f l = tt
short Space f l = tt
short Return f l = tt
short (Shift to) f l = tt
short {w} {p} {s} (Char bell) f l = short_char bell (shown_by w.fell w.meant) w.spot w.stop p.count f.spot f.short l

reached_sum : {w : Watch} {p : Printer} {s : Case} (g : ℕ → ℕ) (cs : List ℕ) → Fits w p s → w.stop < 256 → reached g w cs ≡ sum 256 (λ n. struck_at n w cs * g n)
reached_sum g [] f l = sym (sum_none 256 (λ n. 0 * g n) (λ n h. zero-mul (g n)))
reached_sum {w} {p} {s} g (c ∷ cs) f l =
    let x = lands w (kind_of c) in
    let a = weigh_sum g x (short (kind_of c) f l) in
    let b = reached_sum {w = watch w c} g cs (fits c f) l in
    let d = sum_add 256 (λ n. lands_at n x * g n) (λ n. struck_at n (watch w c) cs * g n) in
    let e = sum_same 256 (λ n. lands_at n x * g n + struck_at n (watch w c) cs * g n) (λ n. (lands_at n x + struck_at n (watch w c) cs) * g n) (λ n h. sym (add-mul (lands_at n x) (struck_at n (watch w c) cs) (g n))) in
    omega (arith, a, b, d, e)

-- The places that stand alone.

stood : (n : ℕ) (w : Watch) (cs : List ℕ) (v : ℕ) → eqb 0 v ≡ false → eqb 3 v ≡ false → one (eqb (stands_at n w 0 cs) v) ≡ struck_at n w cs * one (eqb (stands_at n w 0 cs) v)
stood n w cs v a b = go (eqb (struck_at n w cs) 0) (eqb (struck_at n w cs) 1) refl refl
  where
    go : (p q : Bool) → eqb (struck_at n w cs) 0 ≡ p → eqb (struck_at n w cs) 1 ≡ q → one (eqb (stands_at n w 0 cs) v) ≡ struck_at n w cs * one (eqb (stands_at n w 0 cs) v)
    go true q e d =
        let t : struck_at n w cs ≡ 0 = eqb-true _ _ e in
        rw (unmarked n 0 w cs t, a, t, zero-mul)
    go false true e d = let t : struck_at n w cs ≡ 1 = eqb-true _ _ d in rw (t, one-mul)
    go false false e d =
        let t : 2 ≤ struck_at n w cs = omega (arith, eqb-false (struck_at n w cs) 0 e, eqb-false (struck_at n w cs) 1 d) in
        rw (twice n w cs t, b, mul-zero)

line_length : (w : Watch) (l : Line) (cs : List ℕ) → length (line_of w l cs).stand ≡ length l.stand
line_length w l [] = refl
line_length w l (c ∷ cs) = line_length (watch w c) (strike l (strike_of w c)) cs ∙ strike_length (lands w (kind_of c)) l (ink_of (strike_of w c).sign) (own w (kind_of c))

-- a line on which nothing was struck
pub record Clean (l : Line) : Type 0 where
  pub size : length l.stand ≡ 256
  pub clear : (n : ℕ) → n < 256 → get_or l.stand n 0 ≡ 0
  pub landed : l.landed ≡ 0
  pub strays : l.strays ≡ 0

stands_from : (n : ℕ) (w : Watch) (l : Line) (cs : List ℕ) → Clean l → n < 256 → get_or (line_of w l cs).stand n 0 ≡ stands_at n w 0 cs
stands_from n w l cs k h = place_stands n w l cs (omega (arith, k.size)) ∙ rw (k.clear n h)

module _ {w : Watch} {p : Printer} {s : Case} (l : Line) (cs : List ℕ) (f : Fits w p s) (b : w.stop < 256) (k : Clean l) where
  abbrev stands_as : ℕ → ℕ → ℕ
  stands_as v n = one (eqb (get_or (line_of w l cs).stand n 0) v)

  count_right : (v : ℕ) → eqb 0 v ≡ false → eqb 3 v ≡ false → count_of v (line_of w l cs).stand ≡ reached (stands_as v) w cs
  count_right v x y =
      let n : length (line_of w l cs).stand ≡ 256 = line_length w l cs ∙ k.size in
      let same = sum_same 256 (stands_as v) (λ n. struck_at n w cs * stands_as v n) (λ n h. rw (stands_from n w l cs k h) (stood n w cs v x y)) in
      (rw n at (count_sum v (line_of w l cs).stand)) ∙ same ∙ sym (reached_sum (stands_as v) cs f b)

-- A code's judgement.

nowhere_char : (bell fell : Bool) (meant : Option Case) (s : Spot) → lands_char bell (shown_by fell meant) s ≡ None → own_char bell meant fell ≡ verdict.Nothing
nowhere_char false fell meant (At n) e = let z : true ≡ false = cc in absurd (true≢false z)
nowhere_char false fell meant (From n) e = let z : true ≡ false = cc in absurd (true≢false z)
nowhere_char true true meant (At n) e = let z : true ≡ false = cc in absurd (true≢false z)
nowhere_char true true meant (From n) e = let z : true ≡ false = cc in absurd (true≢false z)
nowhere_char true false None (At n) e = let z : true ≡ false = cc in absurd (true≢false z)
nowhere_char true false None (From n) e = let z : true ≡ false = cc in absurd (true≢false z)
nowhere_char true false (Some Letters) (At n) e = let z : true ≡ false = cc in absurd (true≢false z)
nowhere_char true false (Some Letters) (From n) e = let z : true ≡ false = cc in absurd (true≢false z)
nowhere_char true false (Some Figures) s e = refl

-- what is struck nowhere has nothing to print
pub nowhere : (w : Watch) (k : Kind) → lands w k ≡ None → own w k ≡ verdict.Nothing
nowhere w Still e = refl
nowhere w Space e = refl
nowhere w Return e = refl
nowhere w (Shift to) e = refl
nowhere w (Char bell) e = nowhere_char bell w.fell w.meant w.spot e

-- the place of a code that is struck stands by that code, or is struck over
outcome : (m was v : ℕ) (w : Watch) (cs : List ℕ) → single v ≡ true → (stands_at m w (cond (eqb was 0) v 3) cs ≡ v) ⊎ (stands_at m w (cond (eqb was 0) v 3) cs ≡ 3)
outcome m was v w cs z = go (eqb was 0) (eqb (struck_at m w cs) 0) refl
  where
    go : (a b : Bool) → eqb (struck_at m w cs) 0 ≡ b → (stands_at m w (cond a v 3) cs ≡ v) ⊎ (stands_at m w (cond a v 3) cs ≡ 3)
    go false b e = inr (spoiled m w cs)
    go true true e = inl (unmarked m v w cs (eqb-true _ _ e))
    go true false e = inr (marked m v w cs z (omega (arith, eqb-false (struck_at m w cs) 0 e)))

-- so its judgement is how the place stands
as_stands : (v : Verdict) (x strays : ℕ) → single (number_of v) ≡ true → (x ≡ number_of v) ⊎ (x ≡ 3) → number_of (final_at x strays v) ≡ standing strays x
as_stands v x strays z (inr e) = rw e
as_stands v x strays z (inl e) = rw e (go v (eqb strays 0) z)
  where
    go : (v : Verdict) (b : Bool) → single (number_of v) ≡ true → number_of (cond (eqb (number_of v) 3) verdict.Over (cond b v verdict.Unknown)) ≡ cond (eqb (number_of v) 0) 0 (cond (eqb (number_of v) 3) 3 (cond b (number_of v) 4))
    go verdict.Nothing b z = absurd (true≢false (sym z))
    go verdict.Kept true z = refl
    go verdict.Kept false z = refl
    go verdict.Turned true z = refl
    go verdict.Turned false z = refl
    go verdict.Over b z = refl
    go verdict.Unknown true z = refl
    go verdict.Unknown false z = refl

-- strays, by whether they count
abbrev drift : Bool → Option Spot → ℕ
drift b None = 0
drift b (Some (At m)) = 0
drift b (Some (From m)) = one b

abbrev drifting : Bool → Watch → List ℕ → ℕ
drifting b w [] = 0
drifting b w (c ∷ cs) = drift b (lands w (kind_of c)) + drifting b (watch w c) cs

-- a place that was struck
abbrev met : ℕ → Bool
met x = single x || eqb x 3

abbrev Met : (ℕ → ℕ) → Option Spot → Type 0
Met F None = Unit
Met F (Some (At m)) = met (F m) ≡ true
Met F (Some (From m)) = Unit

abbrev AllMet : (ℕ → ℕ) → Watch → List ℕ → Type 0
AllMet F w [] = Unit
AllMet F w (c ∷ cs) = Met F (lands w (kind_of c)) × AllMet F (watch w c) cs

met_of : (x v : ℕ) → single v ≡ true → (x ≡ v) ⊎ (x ≡ 3) → met x ≡ true
met_of x v z (inl e) = rw (e, z)
met_of x v z (inr e) = rw e

-- the line `l` is how the codes leave it, where each place stood as `was` says
abbrev Leave : Line → (ℕ → ℕ) → Watch → List ℕ → Type 0
Leave l was w cs = (n : ℕ) → n < 256 → get_or l.stand n 0 ≡ stands_at n w (was n) cs

there : (l : Line) (was : ℕ → ℕ) (w : Watch) (c : ℕ) (cs : List ℕ) (m : ℕ) → Leave l was w (c ∷ cs) → m < 256 → lands w (kind_of c) ≡ Some (At m) → (get_or l.stand m 0 ≡ number_of (own w (kind_of c))) ⊎ (get_or l.stand m 0 ≡ 3)
there l was w c cs m h b e =
    let q : get_or l.stand m 0 ≡ stands_at m (watch w c) (stand_after (was m) (own w (kind_of c))) cs = h m b ∙ rw (e, eq-eqb m m refl) in
    rw q (outcome m (was m) (number_of (own w (kind_of c))) (watch w c) cs (single_lands w (kind_of c) m e))

all_met : {w : Watch} {p : Printer} {s : Case} (l : Line) (was : ℕ → ℕ) (cs : List ℕ) → Fits w p s → w.stop < 256 → Leave l was w cs → AllMet (λ n. get_or l.stand n 0) w cs
all_met l was [] f b h = tt
all_met {w} {p} {s} l was (c ∷ cs) f b h = (go (lands w (kind_of c)) refl, all_met {w = watch w c} l (λ n. stand_at n (lands w (kind_of c)) (was n) (own w (kind_of c))) cs (fits c f) b h)
  where
    go : (x : Option Spot) → lands w (kind_of c) ≡ x → Met (λ n. get_or l.stand n 0) x
    go None e = tt
    go (Some (At m)) e = met_of _ (number_of (own w (kind_of c))) (single_lands w (kind_of c) m e) (there l was w c cs m h (rw e at (short (kind_of c) f b)) e)
    go (Some (From m)) e = tt

-- how many codes are judged so, by how their places stand
judged_by : {w : Watch} {p : Printer} {s : Case} (v : ℕ) (l : Line) (was : ℕ → ℕ) (cs : List ℕ) → eqb 0 v ≡ false → Fits w p s → w.stop < 256 → Leave l was w cs → judged v w l cs ≡ reached (λ n. one (eqb (standing l.strays (get_or l.stand n 0)) v)) w cs + drifting (eqb 4 v) w cs
judged_by v l was [] z f b h = refl
judged_by {w} {p} {s} v l was (c ∷ cs) z f b h = omega (arith, go (lands w (kind_of c)) refl, judged_by {w = watch w c} v l (λ n. stand_at n (lands w (kind_of c)) (was n) (own w (kind_of c))) cs z (fits c f) b h)
  where
    go : (x : Option Spot) → lands w (kind_of c) ≡ x → one (eqb (number_of (final l x (own w (kind_of c)))) v) ≡ weigh (λ n. one (eqb (standing l.strays (get_or l.stand n 0)) v)) x + drift (eqb 4 v) x
    go None e = rw (nowhere w (kind_of c) e, z)
    go (Some (At m)) e =
        let q = as_stands (own w (kind_of c)) (get_or l.stand m 0) l.strays (single_lands w (kind_of c) m e) (there l was w c cs m h (rw e at (short (kind_of c) f b)) e) in
        rw q (omega arith)
    go (Some (From m)) e = omega arith

-- sums over the codes

reached_add : (g h : ℕ → ℕ) (w : Watch) (cs : List ℕ) → reached (λ n. g n + h n) w cs ≡ reached g w cs + reached h w cs
reached_add g h w [] = refl
reached_add g h w (c ∷ cs) = omega (arith, both (lands w (kind_of c)), reached_add g h (watch w c) cs)
  where
    both : (x : Option Spot) → weigh (λ n. g n + h n) x ≡ weigh g x + weigh h x
    both None = refl
    both (Some (At m)) = refl
    both (Some (From m)) = refl

reached_same : (F g h : ℕ → ℕ) (w : Watch) (cs : List ℕ) → AllMet F w cs → ((m : ℕ) → met (F m) ≡ true → g m ≡ h m) → reached g w cs ≡ reached h w cs
reached_same F g h w [] a e = refl
reached_same F g h w (c ∷ cs) a e = omega (arith, alike (lands w (kind_of c)) a.0, reached_same F g h (watch w c) cs a.1 e)
  where
    alike : (x : Option Spot) → Met F x → weigh g x ≡ weigh h x
    alike None q = refl
    alike (Some (At m)) q = e m q
    alike (Some (From m)) q = refl

reached_none : (w : Watch) (cs : List ℕ) → reached (λ n. 0) w cs ≡ 0
reached_none w [] = refl
reached_none w (c ∷ cs) = omega (arith, zero_there (lands w (kind_of c)), reached_none (watch w c) cs)
  where
    zero_there : (x : Option Spot) → weigh (λ n. 0) x ≡ 0
    zero_there None = refl
    zero_there (Some (At m)) = refl
    zero_there (Some (From m)) = refl

drifting_none : (w : Watch) (cs : List ℕ) → drifting false w cs ≡ 0
drifting_none w [] = refl
drifting_none w (c ∷ cs) = omega (arith, still (lands w (kind_of c)), drifting_none (watch w c) cs)
  where
    still : (x : Option Spot) → drift false x ≡ 0
    still None = refl
    still (Some (At m)) = refl
    still (Some (From m)) = refl

-- What landed and what strayed.

abbrev most : ℕ
most = 0xffff_ffff_ffff_ffff

-- each code lands, strays, or does neither
parts : (w : Watch) (cs : List ℕ) → reached (λ n. 1) w cs + drifting true w cs ≤ length cs
parts w [] = omega arith
parts w (c ∷ cs) = omega (arith, part (lands w (kind_of c)), parts (watch w c) cs)
  where
    part : (x : Option Spot) → weigh (λ n. 1) x + drift true x ≤ 1
    part None = omega arith
    part (Some (At m)) = omega arith
    part (Some (From m)) = omega arith

strike_landed : (x : Option Spot) (l : Line) (ink : ℕ) (v : Verdict) → l.landed < most → (strike_at x l ink v).landed ≡ l.landed + weigh (λ n. 1) x
strike_landed None l ink v h = omega arith
strike_landed (Some (At m)) l ink v h = omega arith
strike_landed (Some (From m)) l ink v h = omega arith

strike_strays : (x : Option Spot) (l : Line) (ink : ℕ) (v : Verdict) → l.strays < most → (strike_at x l ink v).strays ≡ l.strays + drift true x
strike_strays None l ink v h = omega arith
strike_strays (Some (At m)) l ink v h = omega arith
strike_strays (Some (From m)) l ink v h = omega arith

landed_right : (w : Watch) (l : Line) (cs : List ℕ) → l.landed + length cs ≤ most → (line_of w l cs).landed ≡ l.landed + reached (λ n. 1) w cs
landed_right w l [] h = omega arith
landed_right w l (c ∷ cs) h =
    let x = lands w (kind_of c) in
    let ink = ink_of (strike_of w c).sign in
    let a = strike_landed x l ink (own w (kind_of c)) (omega arith) in
    let b = parts w (c ∷ []) in
    omega (arith, a, landed_right (watch w c) (strike l (strike_of w c)) cs (omega (arith, a, b)))

strays_right : (w : Watch) (l : Line) (cs : List ℕ) → l.strays + length cs ≤ most → (line_of w l cs).strays ≡ l.strays + drifting true w cs
strays_right w l [] h = omega arith
strays_right w l (c ∷ cs) h =
    let x = lands w (kind_of c) in
    let ink = ink_of (strike_of w c).sign in
    let a = strike_strays x l ink (own w (kind_of c)) (omega arith) in
    let b = parts w (c ∷ []) in
    omega (arith, a, strays_right (watch w c) (strike l (strike_of w c)) cs (omega (arith, a, b)))

-- How a place that was struck stands.

met_cases : (P : ℕ → Type 0) (x : ℕ) → met x ≡ true → P 1 → P 2 → P 4 → P 3 → P x
met_cases P x h a b c d = go (eqb x 1) (eqb x 2) (eqb x 4) (eqb x 3) refl refl refl refl h
  where
    go : (p q r s : Bool) → eqb x 1 ≡ p → eqb x 2 ≡ q → eqb x 4 ≡ r → eqb x 3 ≡ s → (p || q || r || s) ≡ true → P x
    go true q r s e f g i t = rw (eqb-true x 1 e) a
    go false true r s e f g i t = rw (eqb-true x 2 f) b
    go false false true s e f g i t = rw (eqb-true x 4 g) c
    go false false false true e f g i t = rw (eqb-true x 3 i) d
    go false false false false e f g i t = absurd (true≢false (sym t))

abbrev held : ℕ → ℕ
held x = one (eqb x 1) + one (eqb x 2) + one (eqb x 4)

each : (x : ℕ) → met x ≡ true → 1 ≡ held x + one (eqb x 3)
each x h = met_cases (λ y. 1 ≡ held y + one (eqb y 3)) x h refl refl refl refl

over_alike : (s x : ℕ) → met x ≡ true → one (eqb (standing s x) 3) ≡ one (eqb x 3)
over_alike s x h = go (eqb s 0) refl
  where
    go : (b : Bool) → eqb s 0 ≡ b → one (eqb (standing s x) 3) ≡ one (eqb x 3)
    go true e = met_cases (λ y. one (eqb (standing s y) 3) ≡ one (eqb y 3)) x h (rw e) (rw e) (rw e) refl
    go false e = met_cases (λ y. one (eqb (standing s y) 3) ≡ one (eqb y 3)) x h (rw e) (rw e) (rw e) refl

plain : (s x : ℕ) → eqb s 0 ≡ true → met x ≡ true → standing s x ≡ x
plain s x e h = met_cases (λ y. standing s y ≡ y) x h (rw e) (rw e) (rw e) refl

clouded : (s x : ℕ) → eqb s 0 ≡ false → met x ≡ true → one (eqb (standing s x) 4) ≡ held x
clouded s x e h = met_cases (λ y. one (eqb (standing s y) 4) ≡ held y) x h (rw e) (rw e) (rw e) refl

hidden : (s x v : ℕ) → eqb s 0 ≡ false → eqb 3 v ≡ false → eqb 4 v ≡ false → met x ≡ true → one (eqb (standing s x) v) ≡ 0
hidden s x v e a b h = met_cases (λ y. one (eqb (standing s y) v) ≡ 0) x h (rw (e, b)) (rw (e, b)) (rw (e, b)) (rw a)

-- The tally.

-- how many of a line's codes are judged so
abbrev pub counted : Watch → Line → List ℕ → Tally
counted w l cs = record { kept = judged 1 w l cs; turned = judged 2 w l cs; over = judged 3 w l cs; unknown = judged 4 w l cs }

module _ {w : Watch} {p : Printer} {s : Case} (l : Line) (cs : List ℕ) (f : Fits w p s) (b : w.stop < 256) (k : Clean l) (few : length cs ≤ most) where
  abbrev L : Line
  L = line_of w l cs

  abbrev F : ℕ → ℕ
  F n = get_or L.stand n 0

  leave : Leave L (λ n. 0) w cs
  leave n h = stands_from n w l cs k h

  all : AllMet F w cs
  all = all_met L (λ n. 0) cs f b leave

  judged_as : (v : ℕ) → eqb 0 v ≡ false → judged v w L cs ≡ reached (λ n. one (eqb (standing L.strays (F n)) v)) w cs + drifting (eqb 4 v) w cs
  judged_as v z = judged_by v L (λ n. 0) cs z f b leave

  singles : alone L ≡ reached (λ n. held (F n)) w cs
  singles =
      let c1 = count_right l cs f b k 1 refl refl in
      let c2 = count_right l cs f b k 2 refl refl in
      let c4 = count_right l cs f b k 4 refl refl in
      let a = reached_add (λ n. one (eqb (F n) 1)) (λ n. one (eqb (F n) 2)) w cs in
      let d = reached_add (λ n. one (eqb (F n) 1) + one (eqb (F n) 2)) (λ n. one (eqb (F n) 4)) w cs in
      omega (arith, c1, c2, c4, a, d)

  over_right : L.landed - alone L ≡ judged 3 w L cs
  over_right =
      let t = landed_right w l cs (omega (arith, k.landed)) in
      let e = reached_same F (λ n. 1) (λ n. held (F n) + one (eqb (F n) 3)) w cs all (λ m h. each (F m) h) in
      let a = reached_add (λ n. held (F n)) (λ n. one (eqb (F n) 3)) w cs in
      let o = reached_same F (λ n. one (eqb (standing L.strays (F n)) 3)) (λ n. one (eqb (F n) 3)) w cs all (λ m h. over_alike L.strays (F m) h) in
      omega (arith, t, k.landed, e, a, o, singles, judged_as 3 refl, drifting_none w cs)

  strayed : L.strays ≡ drifting true w cs
  strayed = omega (arith, strays_right w l cs (omega (arith, k.strays)), k.strays)

  -- no stray: a place that stands alone is one code judged so
  plain_right : (v : ℕ) → eqb 0 v ≡ false → eqb 3 v ≡ false → eqb L.strays 0 ≡ true → count_of v L.stand ≡ judged v w L cs
  plain_right v z y e =
      let o = reached_same F (λ n. one (eqb (standing L.strays (F n)) v)) (λ n. one (eqb (F n) v)) w cs all (λ m h. rw (plain L.strays (F m) e h)) in
      omega (arith, count_right l cs f b k v z y, o, judged_as v z, no_drift (eqb 4 v))
    where
      no_drift : (q : Bool) → drifting q w cs ≡ 0
      no_drift true = sym strayed ∙ eqb-true _ _ e
      no_drift false = drifting_none w cs

  -- a stray: nothing is sure to be kept or turned
  none_right : (v : ℕ) → eqb 0 v ≡ false → eqb 3 v ≡ false → eqb 4 v ≡ false → eqb L.strays 0 ≡ false → 0 ≡ judged v w L cs
  none_right v z y x e =
      let o = reached_same F (λ n. one (eqb (standing L.strays (F n)) v)) (λ n. 0) w cs all (λ m h. hidden L.strays (F m) v e y x h) in
      let d : drifting (eqb 4 v) w cs ≡ 0 = rw x (drifting_none w cs) in
      omega (arith, o, reached_none w cs, judged_as v z, d)

  unknown_right : eqb L.strays 0 ≡ false → plus (alone L) L.strays ≡ judged 4 w L cs
  unknown_right e =
      let o = reached_same F (λ n. one (eqb (standing L.strays (F n)) 4)) (λ n. held (F n)) w cs all (λ m h. clouded L.strays (F m) e h) in
      let h = reached_same F (λ n. 1) (λ n. held (F n) + one (eqb (F n) 3)) w cs all (λ m h. each (F m) h) in
      let a = reached_add (λ n. held (F n)) (λ n. one (eqb (F n) 3)) w cs in
      omega (arith, o, h, a, singles, strayed, judged_as 4 refl, parts w cs)

  -- the tally of a line counts the judgements of its codes
  pub tally_right : tally_of L ≡ counted w L cs
  tally_right = go (eqb L.strays 0) refl
    where
      go : (q : Bool) → eqb L.strays 0 ≡ q → tally_by q L ≡ counted w L cs
      go true e = rw (over_right, plain_right 1 refl refl e, plain_right 2 refl refl e, plain_right 4 refl refl e)
      go false e = rw (over_right, unknown_right e, ← none_right 1 refl refl refl e, ← none_right 2 refl refl refl e)

-- The page.

-- each line begins clean
pub bare_clean : Clean bare
bare_clean = record { size = refl; clear = λ n h. get_or-replicate 256 n 0 0 h; landed = refl; strays = refl }

-- codes that do not feed stay on the line
pub line_taken : (s : Page) (cs : List ℕ) → NoFeed cs → page_after_all s cs ≡ record { watch = watches s.watch cs; line = line_of s.watch s.line cs; total = s.total }
line_taken s [] h = refl
line_taken s (c ∷ cs) h = rw (one_taken s c h.0) (line_taken (on_line s c) cs h.1)
  where
    one_taken : (s : Page) (c : ℕ) → feeds c ≡ false → page_after s c ≡ on_line s c
    one_taken s c e = rw e
