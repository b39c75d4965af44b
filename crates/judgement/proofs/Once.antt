-- Between two returns, from any starting place: each place before the stop is struck at most once, and once the carriage is at
-- the stop all lands there.
-- Assumes nothing.
use Prim.Native.Nat.{ℕ, ◌+◌, ◌≤◌, ◌<◌, min}
use mathlib.Core.Path.{◌≡◌, refl, sym}
use mathlib.Core.Bool.{Bool, true, false, true≢false}
use mathlib.Core.List.{List, [], ◌∷◌, ◌++◌}
use native.Mathlib.Omega.{arith}
use lib.Dec.{eqb, ltb}
use borrow.Author.Tests.{eqb-true, ne_eqb, eq-eqb, ltb-true, ltb-false}
use Rattle.code.specs.Kinds.{kind_of, moves}
use Rattle.printer.specs.Printer.{hear, hear_count, advanced, landing, mark_as, prints_as, prints, prints_all}
use Rattle.judgement.specs.Names.{Kind, Still, Space, Return, Shift, Char, Printer, Case, Mark}
use Rattle.judgement.specs.Stop.{clip, hear_stop, prints_all_stop, Within, hits, times, returning, NoReturn}
use Rattle.judgement.proofs.Stop.{same_prints}

times_append : (n : ℕ) (xs ys : List Mark) → times n (xs ++ ys) ≡ times n xs + times n ys
times_append n [] ys = omega arith
times_append n (x ∷ xs) ys = omega (arith, times_append n xs ys)

-- what a code strikes, and where it leaves the carriage

struck : (n m : ℕ) (case : Case) (k : Kind) (c : ℕ) → times n (prints_as k (mark_as k case m c)) ≡ hits n (landing (moves case k) m)
struck n m case Still c = refl
struck n m case Space c = omega arith
struck n m case Return c = refl
struck n m case (Shift to) c = refl
struck n m case (Char bell) c = omega arith

left : (p : Printer) (k : Kind) → returning k ≡ false → hear_count p k ≡ advanced (moves p.case k) p.count
left p Still h = refl
left p Space h = refl
left p Return h = absurd (true≢false h)
left p (Shift to) h = refl
left p (Char bell) h = refl

-- a mark and the rest of what is printed
pub prints_times : (stop n : ℕ) (p : Printer) (c : ℕ) (cs : List ℕ) → times n (prints_all_stop stop p (c ∷ cs)) ≡ hits n (landing (moves p.case (kind_of c)) p.count) + times n (prints_all_stop stop (hear_stop stop p c) cs)
prints_times stop n p c cs =
    let a = times_append n (prints p c) (prints_all_stop stop (hear_stop stop p c) cs) in
    let b = struck n p.count p.case (kind_of c) c in
    omega (arith, a, b)

-- a place behind the carriage is not struck
missed : (n m : ℕ) → (m ≡ n → ⊥) → (b : Bool) → hits n (landing b m) ≡ 0
missed n m h true = rw (ne_eqb m n h)
missed n m h false = refl

gone : (stop m : ℕ) (b : Bool) → m ≤ stop → m ≤ min stop (advanced b m)
gone stop m true h = omega arith
gone stop m false h = omega arith

pub passed : (stop n : ℕ) (p : Printer) (cs : List ℕ) → p.count ≤ stop → NoReturn cs → n < p.count → times n (prints_all_stop stop p cs) ≡ 0
passed stop n p [] w r h = refl
passed stop n p (c ∷ cs) w r h =
    let e = left p (kind_of c) r.0 in
    let g = gone stop p.count (moves p.case (kind_of c)) w in
    let q = missed n p.count (λ s. omega arith) (moves p.case (kind_of c)) in
    let rest = passed stop n (hear_stop stop p c) cs (omega arith) r.1 (omega (arith, e, g)) in
    omega (arith, prints_times stop n p c cs, q, rest)

-- each place before the stop is struck at most once
pub once : (stop n : ℕ) (p : Printer) (cs : List ℕ) → p.count ≤ stop → NoReturn cs → n < stop → times n (prints_all_stop stop p cs) ≤ 1
once stop n p [] w r h = omega arith
once stop n p (c ∷ cs) w r h = go (moves p.case (kind_of c)) (eqb p.count n) refl (left p (kind_of c) r.0) (prints_times stop n p c cs) (once stop n (hear_stop stop p c) cs (omega arith) r.1 h)
  where
    go : (b d : Bool) → eqb p.count n ≡ d → hear_count p (kind_of c) ≡ advanced b p.count → times n (prints_all_stop stop p (c ∷ cs)) ≡ hits n (landing b p.count) + times n (prints_all_stop stop (hear_stop stop p c) cs) → times n (prints_all_stop stop (hear_stop stop p c) cs) ≤ 1 → times n (prints_all_stop stop p (c ∷ cs)) ≤ 1
    go false d q e s i = omega arith
    go true true q e s i =
        let here : p.count ≡ n = eqb-true p.count n q in
        let on : hits n (landing true p.count) ≡ 1 = rw q in
        let rest = passed stop n (hear_stop stop p c) cs (omega arith) r.1 (omega (arith, e)) in
        omega (arith, s, on, rest)
    go true false q e s i = let on : hits n (landing true p.count) ≡ 0 = rw q in omega (arith, s, on, i)

-- from any starting place
pub once_anywhere : (stop n : ℕ) (p : Printer) (cs : List ℕ) → NoReturn cs → n < stop → times n (prints_all_stop stop (clip stop p) cs) ≤ 1
once_anywhere stop n p cs r h = once stop n (clip stop p) cs (omega arith) r h

-- from the stop on all lands on the stop
pub later : (stop n : ℕ) (p : Printer) (cs : List ℕ) → p.count ≡ stop → NoReturn cs → (n ≡ stop → ⊥) → times n (prints_all_stop stop p cs) ≡ 0
later stop n p [] w r h = refl
later stop n p (c ∷ cs) w r h =
    let e = left p (kind_of c) r.0 in
    let g = gone stop p.count (moves p.case (kind_of c)) (omega arith) in
    let q = missed n p.count (λ s. h (omega arith)) (moves p.case (kind_of c)) in
    let rest = later stop n (hear_stop stop p c) cs (omega (arith, e, g)) r.1 h in
    omega (arith, prints_times stop n p c cs, q, rest)

-- The printer without a stop.

free_times : (n : ℕ) (p : Printer) (c : ℕ) (cs : List ℕ) → times n (prints_all p (c ∷ cs)) ≡ hits n (landing (moves p.case (kind_of c)) p.count) + times n (prints_all (hear p c) cs)
free_times n p c cs =
    let a = times_append n (prints p c) (prints_all (hear p c) cs) in
    let b = struck n p.count p.case (kind_of c) c in
    omega (arith, a, b)

next_count : (p : Printer) (k : Kind) (stop : ℕ) → p.count ≤ stop → (moves p.case k ≡ true → p.count < stop) → hear_count p k ≤ stop
next_count p k stop h m = go (returning k) refl
  where
    moved : (b : Bool) → moves p.case k ≡ b → advanced b p.count ≤ stop
    moved true e = omega (arith, m e)
    moved false e = h

    home : (k : Kind) → returning k ≡ true → hear_count p k ≤ stop
    home Still e = absurd (true≢false (sym e))
    home Space e = absurd (true≢false (sym e))
    home Return e = omega arith
    home (Shift to) e = absurd (true≢false (sym e))
    home (Char bell) e = absurd (true≢false (sym e))

    go : (b : Bool) → returning k ≡ b → hear_count p k ≤ stop
    go true e = home k e
    go false e = rw (left p k e) (moved (moves p.case k) refl)

under_within : (stop : ℕ) (p : Printer) (cs : List ℕ) → p.count ≤ stop → ((n : ℕ) → stop ≤ n → times n (prints_all p cs) ≡ 0) → Within stop p cs
under_within stop p [] h u = h
under_within stop p (c ∷ cs) h u = (h, under_within stop (hear p c) cs (next_count p (kind_of c) stop h short) (λ n l. omega (arith, free_times n p c cs, u n l)))
  where
    here : (b : Bool) → moves p.case (kind_of c) ≡ b → b ≡ true → hits p.count (landing (moves p.case (kind_of c)) p.count) ≡ 1
    here true e t = rw (e, eq-eqb p.count p.count refl)
    here false e t = absurd (true≢false (sym t))

    short : moves p.case (kind_of c) ≡ true → p.count < stop
    short e = go (ltb p.count stop) refl
      where
        go : (b : Bool) → ltb p.count stop ≡ b → p.count < stop
        go true q = ltb-true _ _ q
        go false q = absurd (omega (arith, free_times p.count p c cs, u p.count (ltb-false _ _ q), here (moves p.case (kind_of c)) refl e))

-- where nothing lands at the stop or past it, the printer with the stop prints as the one without
pub under_same : (stop : ℕ) (p : Printer) (cs : List ℕ) → p.count ≤ stop → ((n : ℕ) → stop ≤ n → times n (prints_all p cs) ≡ 0) → prints_all_stop stop p cs ≡ prints_all p cs
under_same stop p cs h u = same_prints stop p cs (under_within stop p cs h u)
