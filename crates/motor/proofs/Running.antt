-- The motor after each of the codes heard: it is on, or it knows of string 93 what `Told` says.
-- Assumes nothing.
use Prim.Native.Nat.{ℕ, zero, suc, ◌<◌, ◌≤◌}
use mathlib.Core.Path.{◌≡◌, refl, sym, ap, subst, ◌∙◌}
use mathlib.Core.Bool.{Bool, true, false, cond, not, ◌&&◌}
use mathlib.Core.List.{List, [], ◌∷◌, ◌++◌}
use native.Mathlib.Omega.{arith}
use lib.ListN.{length, take, get_or}
use lib.Seq.{take-suc, take-append-le}
use Rattle.motor.specs.Names.{Calling, Motor, Run, Off, Called, On}
use Rattle.motor.specs.Motor.{heard_with, matches, signal, starts, later, while_on, while_off, turned, hearing, hearing_all, resting, is_on}
use Rattle.motor.specs.Matching.{heard_on, heard_of}
use Rattle.motor.specs.Turning.{run_after, on_after, stop_in}
use Rattle.motor.proofs.Heard.{heard_append}
use Rattle.motor.proofs.Told.{Told, off, on, afresh, still_off, newly_called, still_called}

-- first some codes, then others
all_append : (k : Calling) (xs ys : List ℕ) (m : Motor) → hearing_all k m (xs ++ ys) ≡ hearing_all k (hearing_all k m xs) ys
all_append k [] ys m = refl
all_append k (x ∷ xs) ys m = all_append k xs ys (hearing k m x)

-- what is kept of the codes does not depend on the rest
kept_heard : (k : Calling) (hs : List ℕ) (m : Motor) → (hearing_all k m hs).heard ≡ heard_on m.heard hs
unfolding hearing
kept_heard k [] m = refl
kept_heard k (c ∷ cs) m = kept_heard k cs (hearing k m c)

-- one code more
pub run_next : (k : Calling) (hs : List ℕ) (c : ℕ) → run_after k (hs ++ c ∷ []) ≡ turned k (heard_of (hs ++ c ∷ [])) (run_after k hs)
unfolding hearing
run_next k hs c =
    ap (λ (m : Motor). m.run) (all_append k hs (c ∷ []) resting)
    ∙ ap (λ (h : ℕ). turned k h (run_after k hs)) (ap (λ (h : ℕ). heard_with h c) (kept_heard k hs resting) ∙ sym (heard_append hs (c ∷ []) 0))

-- what comes later changes no stop
pub stop_before : (k : Calling) (xs ys : List ℕ) (n : ℕ) → n ≤ length xs → stop_in k (xs ++ ys) n ≡ stop_in k xs n
stop_before k xs ys zero h = refl
stop_before k xs ys (suc n) h =
    let a : take n (xs ++ ys) ≡ take n xs = take-append-le n xs ys (omega arith) in
    let b : take (suc n) (xs ++ ys) ≡ take (suc n) xs = take-append-le (suc n) xs ys h in
    ap (λ (zs : List ℕ). cond (on_after k zs && not (on_after k (take (suc n) (xs ++ ys)))) (suc n) (stop_in k (xs ++ ys) n)) a
    ∙ ap (λ (zs : List ℕ). cond (on_after k (take n xs) && not (on_after k zs)) (suc n) (stop_in k (xs ++ ys) n)) b
    ∙ ap (λ (m : ℕ). cond (on_after k (take n xs) && not (on_after k (take (suc n) xs))) (suc n) m) (stop_before k xs ys n (omega arith))

-- on which codes a string 93 ended
abbrev pub ends_at : Calling → List ℕ → ℕ → Bool
ends_at k hs m = matches (signal k 2) (heard_of (take m hs))

-- whether it runs after the first n codes
abbrev run_at : Calling → List ℕ → ℕ → Run
run_at k hs n = run_after k (take n hs)

-- what it knows then
abbrev pub Knows : Calling → List ℕ → ℕ → Type 0
Knows k hs n = Told (ends_at k hs) (stop_in k hs n) n (run_at k hs n)

-- the same said of equal numbers
pub moved : (ends : ℕ → Bool) (s t n : ℕ) (q r : Run) → s ≡ t → q ≡ r → Told ends t n r → Told ends s n q
moved ends s t n q r a b w = subst (λ (x : ℕ). Told ends x n q) (sym a) (subst (λ (x : Run). Told ends t n x) (sym b) w)

module _ (k : Calling) (hs : List ℕ) where
  stop_most : (n : ℕ) → stop_in k hs n ≤ n
  stop_most zero = omega arith
  stop_most (suc n) = go (stop_most n) (on_after k (take n hs) && not (on_after k (take (suc n) hs)))
    where
      go : stop_in k hs n ≤ n → (b : Bool) → cond b (suc n) (stop_in k hs n) ≤ suc n
      go l true = omega arith
      go l false = omega arith

  module _ (n : ℕ) (l : n < length hs) where
    -- where it is known whether it ran, it is turned from there
    turn : (r : Run) → run_at k hs n ≡ r → run_at k hs (suc n) ≡ turned k (heard_of (take (suc n) hs)) r
    turn r e =
        subst (λ (xs : List ℕ). run_after k xs ≡ turned k (heard_of xs) (run_at k hs n)) (sym (take-suc hs n 0 l)) (run_next k (take n hs) (get_or hs n 0))
        ∙ ap (turned k (heard_of (take (suc n) hs))) e

    -- a motor that is off does not stop
    unstopped : (q r : Run) → run_at k hs n ≡ q → is_on q ≡ false → Told (ends_at k hs) (stop_in k hs n) (suc n) r → run_at k hs (suc n) ≡ r → Knows k hs (suc n)
    unstopped q r e o t f =
        let s : stop_in k hs (suc n) ≡ stop_in k hs n = ap (λ (b : Bool). cond (b && not (on_after k (take (suc n) hs))) (suc n) (stop_in k hs n)) (ap is_on e ∙ o) in
        moved (ends_at k hs) (stop_in k hs (suc n)) (stop_in k hs n) (suc n) (run_at k hs (suc n)) r s f t

    -- a stop
    stop_made : run_at k hs n ≡ On → run_at k hs (suc n) ≡ Off → stop_in k hs (suc n) ≡ suc n
    stop_made e f =
        ap (λ (b : Bool). cond (b && not (on_after k (take (suc n) hs))) (suc n) (stop_in k hs n)) (ap is_on e)
        ∙ ap (λ (b : Bool). cond (not b) (suc n) (stop_in k hs n)) (ap is_on f)

    from_on : run_at k hs n ≡ On → Knows k hs (suc n)
    unfolding while_on
    from_on e = go (matches (signal k 1) (heard_of (take (suc n) hs))) (turn On e)
      where
        go : (b : Bool) → run_at k hs (suc n) ≡ cond b Off On → Knows k hs (suc n)
        go true f = moved (ends_at k hs) (stop_in k hs (suc n)) (suc n) (suc n) (run_at k hs (suc n)) Off (stop_made e f) f (afresh (ends_at k hs) n)
        go false f = moved (ends_at k hs) (stop_in k hs (suc n)) (stop_in k hs (suc n)) (suc n) (run_at k hs (suc n)) On refl f on

    from_off : run_at k hs n ≡ Off → Told (ends_at k hs) (stop_in k hs n) n Off → Knows k hs (suc n)
    unfolding while_off
    from_off e t = go (starts k (heard_of (take (suc n) hs)) 0) (ends_at k hs (suc n)) refl (turn Off e)
      where
        go : (a b : Bool) → ends_at k hs (suc n) ≡ b → run_at k hs (suc n) ≡ cond a On (cond b (Called 0) Off) → Knows k hs (suc n)
        go true b d f = unstopped Off On e refl on f
        go false true d f = unstopped Off (Called 0) e refl (newly_called (ends_at k hs) n (stop_in k hs n) (stop_most n) t d) f
        go false false d f = unstopped Off Off e refl (still_off (ends_at k hs) n (stop_in k hs n) t d) f

    from_called : (j : ℕ) → run_at k hs n ≡ Called j → Told (ends_at k hs) (stop_in k hs n) n (Called j) → Knows k hs (suc n)
    from_called j e t = go (starts k (heard_of (take (suc n) hs)) (later j)) (turn (Called j) e)
      where
        go : (a : Bool) → run_at k hs (suc n) ≡ cond a On (Called (later j)) → Knows k hs (suc n)
        go true f = unstopped (Called j) On e refl on f
        go false f = unstopped (Called j) (Called (later j)) e refl (still_called (ends_at k hs) n (stop_in k hs n) j t) f

    one_more : (r : Run) → run_at k hs n ≡ r → Told (ends_at k hs) (stop_in k hs n) n r → Knows k hs (suc n)
    one_more Off e t = from_off e t
    one_more (Called j) e t = from_called j e t
    one_more On e t = from_on e

  -- after each code
  pub told_after : (n : ℕ) → n ≤ length hs → Knows k hs n
  told_after zero h = off (λ m c. omega (arith, c.after, c.within))
  told_after (suc n) h = one_more n h (run_at k hs n) refl (told_after n (omega arith))
