-- The printer with a stop against the one without: it is in the same case, and stands and prints where the other does, but no
-- further than the stop. So with a stop that is never passed the two are the same.
-- Assumes nothing.
use Prim.Native.Nat.{ℕ, ◌≤◌, min}
use mathlib.Core.Path.{◌≡◌, refl, ap, ◌∙◌}
use mathlib.Core.Bool.{Bool, true, false}
use mathlib.Core.List.{List, [], ◌∷◌, ◌++◌}
use native.Mathlib.Omega.{arith}
use Rattle.code.specs.Kinds.{kind_of, strikes, moves}
use Rattle.printer.specs.Printer.{unshifted, hear_kind, hear, hears, advanced, from, landing, mark_as, prints_as, prints, prints_all}
use Rattle.judgement.specs.Names.{Kind, Still, Space, Return, Shift, Char, Printer, Case, Mark}
use Rattle.judgement.specs.Stop.{clip, hear_stop, hears_stop, prints_all_stop, clip_place, clip_mark, clip_marks, Within}

advanced_clip : (stop n : ℕ) (b : Bool) → min stop (advanced b (min stop n)) ≡ min stop (advanced b n)
advanced_clip stop n true = omega arith
advanced_clip stop n false = omega arith

at : (p : Printer) (case : Case) {m n : ℕ} → m ≡ n → from case m p.onspace p.onreturn ≡ from case n p.onspace p.onreturn
at p case e = ap (λ (n : ℕ). from case n p.onspace p.onreturn) e

kind_clip : (stop : ℕ) (p : Printer) (k : Kind) → clip stop (hear_kind (clip stop p) k) ≡ clip stop (hear_kind p k)
kind_clip stop p Still = at p p.case (advanced_clip stop p.count false)
kind_clip stop p Space = at p (unshifted p.onspace p.case) (advanced_clip stop p.count true)
kind_clip stop p Return = refl
kind_clip stop p (Shift to) = at p to (advanced_clip stop p.count false)
kind_clip stop p (Char bell) = at p p.case (advanced_clip stop p.count (strikes bell p.case))

hear_clip : (stop : ℕ) (p : Printer) (c : ℕ) → hear_stop stop (clip stop p) c ≡ clip stop (hear p c)
hear_clip stop p c = kind_clip stop p (kind_of c)

-- the printer with a stop stands where the other does, but no further than the stop
pub stands : (stop : ℕ) (p : Printer) (cs : List ℕ) → hears_stop stop (clip stop p) cs ≡ clip stop (hears p cs)
stands stop p [] = refl
stands stop p (c ∷ cs) = rw (hear_clip stop p c) (stands stop (hear p c) cs)

landing_clip : (stop n : ℕ) (b : Bool) → landing b (min stop n) ≡ clip_place stop (landing b n)
landing_clip stop n true = refl
landing_clip stop n false = refl

mark_clip : (stop : ℕ) (p : Printer) (k : Kind) (c : ℕ) → mark_as k p.case (min stop p.count) c ≡ clip_mark stop (mark_as k p.case p.count c)
mark_clip stop p k c = rw (landing_clip stop p.count (moves p.case k))

prints_as_law : (stop : ℕ) (k : Kind) (m : Mark) → prints_as k (clip_mark stop m) ≡ clip_marks stop (prints_as k m)
prints_as_law stop Still m = refl
prints_as_law stop Space m = refl
prints_as_law stop Return m = refl
prints_as_law stop (Shift to) m = refl
prints_as_law stop (Char bell) m = refl

prints_clip : (stop : ℕ) (p : Printer) (c : ℕ) → prints (clip stop p) c ≡ clip_marks stop (prints p c)
prints_clip stop p c = ap (prints_as (kind_of c)) (mark_clip stop p (kind_of c) c) ∙ prints_as_law stop (kind_of c) (mark_as (kind_of c) p.case p.count c)

marks_append : (stop : ℕ) (xs ys : List Mark) → clip_marks stop (xs ++ ys) ≡ clip_marks stop xs ++ clip_marks stop ys
marks_append stop [] ys = refl
marks_append stop (x ∷ xs) ys = ap (◌∷◌ (clip_mark stop x)) (marks_append stop xs ys)

-- and what it prints lands where the other's does, but no further than the stop
pub prints_there : (stop : ℕ) (p : Printer) (cs : List ℕ) → prints_all_stop stop (clip stop p) cs ≡ clip_marks stop (prints_all p cs)
prints_there stop p [] = refl
prints_there stop p (c ∷ cs) =
    let rest : prints_all_stop stop (hear_stop stop (clip stop p) c) cs ≡ clip_marks stop (prints_all (hear p c) cs) = rw (hear_clip stop p c) (prints_there stop (hear p c) cs) in
    rw (prints_clip stop p c, rest, marks_append stop (prints p c) (prints_all (hear p c) cs))

-- A stop that is never passed.

head : (stop : ℕ) (p : Printer) (cs : List ℕ) → Within stop p cs → p.count ≤ stop
head stop p [] h = h
head stop p (c ∷ cs) h = h.0

short : (stop : ℕ) (p : Printer) → p.count ≤ stop → clip stop p ≡ p
short stop p h = at p p.case (omega arith)

one : (stop : ℕ) (p : Printer) (c : ℕ) (cs : List ℕ) → Within stop (hear p c) cs → hear_stop stop p c ≡ hear p c
one stop p c cs h = short stop (hear p c) (head stop (hear p c) cs h)

pub same_stands : (stop : ℕ) (p : Printer) (cs : List ℕ) → Within stop p cs → hears_stop stop p cs ≡ hears p cs
same_stands stop p [] h = refl
same_stands stop p (c ∷ cs) h = rw (one stop p c cs h.1) (same_stands stop (hear p c) cs h.1)

pub same_prints : (stop : ℕ) (p : Printer) (cs : List ℕ) → Within stop p cs → prints_all_stop stop p cs ≡ prints_all p cs
same_prints stop p [] h = refl
same_prints stop p (c ∷ cs) h = rw (one stop p c cs h.1) (ap (◌++◌ (prints p c)) (same_prints stop (hear p c) cs h.1))
