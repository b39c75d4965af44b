-- The motor goes on exactly by a start of its setting, while it is off, and off exactly by string 92, while it is on.
-- Assumes nothing.
use Prim.Native.Nat.{ℕ, suc, ◌+◌, ◌/◌, ◌<◌, ◌≤◌}
use mathlib.Core.Path.{◌≡◌, refl, sym, ap, ◌∙◌}
use mathlib.Core.Bool.{Bool, true, false, cond, not, ◌||◌, or-true, false≢true, true≢false}
use mathlib.Core.List.{List, [], ◌∷◌, ◌++◌, append_assoc}
use mathlib.Core.Logic.{◌⊎◌, inl, inr}
use native.Mathlib.Omega.{arith}
use borrow.Author.Tests.{ltb-true, leb-true, le-leb, eqb-true, not-false}
use lib.Dec.{eqb, ltb, leb}
use lib.ListN.{length, take, drop, length-append, take-append-drop}
use lib.Seq.{take-append_seam, take-append-le, length-take-le}
use Rattle.std.proofs.lemmas.Bool.{and_parts}
use Rattle.word.specs.Word.{all_below}
use Rattle.motor.specs.Names.{Calling, Run, Off, Called, On}
use Rattle.motor.specs.Motor.{latest, size_in, size, matches, comes, signal, starts, later, while_on, while_off, turned, is_on}
use Rattle.motor.specs.Matching.{string_codes, Ruled, heard_of, EndsWith}
use Rattle.motor.specs.Turning.{Signals, run_after, on_after, stop_in, last_stop, Answers, Starts, by91, by94, by95, TurnsOn, TurnsOff}
use Rattle.motor.proofs.Matching.{below_parts, codes_few, size_codes, matched, matching}
use Rattle.motor.proofs.Told.{Told, since, Behind, within_reach, reaches}
use Rattle.motor.proofs.Running.{run_next, stop_before, ends_at, moved, told_after}

-- What the motor power mode chooses of three tests.

data Chosen (p : ℕ) (x y z : Bool) : Type 0 where
  first : p ≡ 2 → x ≡ true → Chosen p x y z
  second : (p ≡ 4) ⊎ (p ≡ 6) → y ≡ true → Chosen p x y z
  third : (p ≡ 5) ⊎ (p ≡ 6) → z ≡ true → Chosen p x y z

chosen : (p : ℕ) (x y z : Bool) → cond (eqb p 2) x (cond (eqb p 4) y (cond (eqb p 5) z (cond (eqb p 6) (y || z) false))) ≡ true → Chosen p x y z
chosen p x y z h = go (eqb p 2) refl (eqb p 4) refl (eqb p 5) refl (eqb p 6) refl h
  where
    either : p ≡ 6 → (a : Bool) → y ≡ a → a || z ≡ true → Chosen p x y z
    either e true a t = second (inr e) a
    either e false a t = third (inr e) t

    go : (a : Bool) → eqb p 2 ≡ a → (b : Bool) → eqb p 4 ≡ b → (c : Bool) → eqb p 5 ≡ c → (d : Bool) → eqb p 6 ≡ d → cond a x (cond b y (cond c z (cond d (y || z) false))) ≡ true → Chosen p x y z
    go true e b f c i d j t = first (eqb-true p 2 e) t
    go false e true f c i d j t = second (inl (eqb-true p 4 f)) t
    go false e false f true i d j t = third (inl (eqb-true p 5 i)) t
    go false e false f false i true j t = either (eqb-true p 6 j) y refl t
    go false e false f false i false j t = absurd (false≢true t)

choosing : (p : ℕ) (x y z : Bool) → Chosen p x y z → cond (eqb p 2) x (cond (eqb p 4) y (cond (eqb p 5) z (cond (eqb p 6) (y || z) false))) ≡ true
choosing p x y z (first e t) = rw (e, t)
choosing p x y z (second (inl e) t) = rw (e, t)
choosing p x y z (second (inr e) t) = rw (e, t)
choosing p x y z (third (inl e) t) = rw (e, t)
choosing p x y z (third (inr e) t) = rw (e, t) (or-true y)

-- A motor that is off goes on if it starts, and one that is on goes off on string 92.

off_turned : (k : Calling) (h : ℕ) (r : Run) → is_on r ≡ false → is_on (turned k h r) ≡ starts k h (since r)
unfolding while_off
off_turned k h Off o = go (starts k h 0) (matches (signal k 2) h)
  where
    go : (a b : Bool) → is_on (cond a On (cond b (Called 0) Off)) ≡ a
    go true b = refl
    go false true = refl
    go false false = refl
off_turned k h (Called j) o = go (starts k h (later j))
  where
    go : (a : Bool) → is_on (cond a On (Called (later j))) ≡ a
    go true = refl
    go false = refl
off_turned k h On o = absurd (true≢false o)

on_turned : (k : Calling) (h : ℕ) (r : Run) → is_on r ≡ true → is_on (turned k h r) ≡ not (matches (signal k 1) h)
unfolding while_on
on_turned k h Off o = absurd (false≢true o)
on_turned k h (Called j) o = absurd (false≢true o)
on_turned k h On o = go (matches (signal k 1) h)
  where
    go : (a : Bool) → is_on (cond a Off On) ≡ not a
    go true = refl
    go false = refl

-- A string that matches has codes.
match_size : (s h : ℕ) → matches s h ≡ true → 0 < size s
unfolding matches size
match_size s h m = go (eqb s 0) refl
  where
    go : (b : Bool) → eqb s 0 ≡ b → 0 < cond b 0 (suc (size_in 7 (s / 32)))
    go true e = absurd (omega (arith, eqb-true s 0 e, ltb-true 0 s (and_parts (ltb 0 s) (eqb (latest (size s) h) s) m).0))
    go false e = omega arith

module _ (k : Calling) (g : Signals k) where
  ruled : (i : ℕ) → Ruled (signal k i)
  ruled i = record { word = g.word i; rule = g.rule i }

  module _ (hs : List ℕ) (c : ℕ) (below : all_below 32 (hs ++ c ∷ []) ≡ true) where
    longer : length (hs ++ c ∷ []) ≡ suc (length hs)
    longer = omega (arith, length-append hs (c ∷ []))

    -- what the motor knows before the code
    known : Told (ends_at k (hs ++ c ∷ [])) (last_stop k hs) (length hs) (run_after k hs)
    known =
        moved (ends_at k (hs ++ c ∷ [])) (last_stop k hs) (stop_in k (hs ++ c ∷ []) (length hs)) (length hs) (run_after k hs) (run_after k (take (length hs) (hs ++ c ∷ [])))
        (sym (stop_before k hs (c ∷ []) (length hs) (omega arith)))
        (ap (run_after k) (sym (take-append_seam hs (c ∷ []))))
        (told_after k (hs ++ c ∷ []) (length hs) (omega (arith, longer)))

    -- codes up to a place are codes
    below_take : (p : ℕ) → all_below 32 (take p (hs ++ c ∷ [])) ≡ true
    below_take p = (below_parts (take p (hs ++ c ∷ [])) (drop p (hs ++ c ∷ [])) (rw (take-append-drop p (hs ++ c ∷ [])) below)).0

    module _ (i : ℕ) (o : on_after k hs ≡ false) where
      -- string i comes after string 93
      answer_if : comes (signal k i) (heard_of (hs ++ c ∷ [])) (since (run_after k hs)) ≡ true → Answers k (last_stop k hs) (string_codes (signal k i)) (hs ++ c ∷ [])
      unfolding comes
      answer_if h =
          let all = hs ++ c ∷ [] in
          let s = signal k i in
          let b = and_parts (matches s (heard_of all)) (leb (size s) (since (run_after k hs))) h in
          let w : EndsWith (string_codes s) all = matched s (ruled i) all below b.0 in
          let r : Behind (ends_at k all) (last_stop k hs) (length hs) (size s) = within_reach (ends_at k all) (last_stop k hs) (length hs) (size s) (match_size s (heard_of all) b.0) (run_after k hs) known o (leb-true (size s) (since (run_after k hs)) b.1) in
          let p = r.place in
          let inside : p ≤ length all = omega (arith, r.room, longer) in
          let fits : p ≤ length w.before = omega (arith, r.room, longer, size_codes s (ruled i), ap length w.whole, length-append w.before (string_codes s)) in
          let front : take p all ≡ take p w.before = ap (take p) w.whole ∙ take-append-le p w.before (string_codes s) fits in
          let whole : all ≡ take p all ++ (drop p w.before ++ string_codes s) =
          w.whole ∙ ap (λ (xs : List ℕ). xs ++ string_codes s) (sym (take-append-drop p w.before)) ∙ append_assoc (take p w.before) (drop p w.before) (string_codes s)
          ∙ ap (λ (xs : List ℕ). xs ++ (drop p w.before ++ string_codes s)) (sym front) in
          record {
            call = take p all;
            between = drop p w.before;
            whole = whole;
            some = w.some;
            called = matched (signal k 2) (ruled 2) (take p all) (below_take p) r.ended;
            later = omega (arith, r.after, length-take-le p all inside);
          }

      answer : Answers k (last_stop k hs) (string_codes (signal k i)) (hs ++ c ∷ []) → comes (signal k i) (heard_of (hs ++ c ∷ [])) (since (run_after k hs)) ≡ true
      unfolding comes
      answer a =
          let all = hs ++ c ∷ [] in
          let s = signal k i in
          let p = length a.call in
          let m : matches s (heard_of all) ≡ true = matching s (ruled i) all below (record { before = a.call ++ a.between; whole = a.whole ∙ sym (append_assoc a.call a.between (string_codes s)); some = a.some }) in
          let front : take p all ≡ a.call = ap (take p) a.whole ∙ take-append_seam a.call (a.between ++ string_codes s) in
          let e : ends_at k all p ≡ true = matching (signal k 2) (ruled 2) (take p all) (below_take p) (rw front a.called) in
          let fits : p + size s ≤ suc (length hs) = omega (arith, longer, size_codes s (ruled i), ap length a.whole, length-append a.call (a.between ++ string_codes s), length-append a.between (string_codes s)) in
          let few : size s ≤ 8 = omega (arith, size_codes s (ruled i), codes_few s (ruled i)) in
          let l : size s ≤ since (run_after k hs) = reaches (ends_at k all) (last_stop k hs) (length hs) (size s) (match_size s (heard_of all) m) (run_after k hs) known o few (record { place = p; after = a.later; ended = e; room = fits }) in
          rw (m, le-leb (size s) (since (run_after k hs)) l)

    module _ (o : on_after k hs ≡ false) where
      -- the test of a start says what a start is
      starts_if : starts k (heard_of (hs ++ c ∷ [])) (since (run_after k hs)) ≡ true → Starts k (last_stop k hs) (hs ++ c ∷ [])
      unfolding starts
      starts_if h =
          let all = hs ++ c ∷ [] in
          let n = since (run_after k hs) in
          go (chosen k.power (matches (signal k 0) (heard_of all)) (comes (signal k 3) (heard_of all) n) (comes (signal k 4) (heard_of all) n) h)
        where
          go : Chosen k.power (matches (signal k 0) (heard_of (hs ++ c ∷ []))) (comes (signal k 3) (heard_of (hs ++ c ∷ [])) (since (run_after k hs))) (comes (signal k 4) (heard_of (hs ++ c ∷ [])) (since (run_after k hs)))
              → Starts k (last_stop k hs) (hs ++ c ∷ [])
          go (first e t) = by91 e (matched (signal k 0) (ruled 0) (hs ++ c ∷ []) below t)
          go (second e t) = by94 e (answer_if 3 o t)
          go (third e t) = by95 e (answer_if 4 o t)

      starts_so : Starts k (last_stop k hs) (hs ++ c ∷ []) → starts k (heard_of (hs ++ c ∷ [])) (since (run_after k hs)) ≡ true
      unfolding starts
      starts_so s =
          let all = hs ++ c ∷ [] in
          let n = since (run_after k hs) in
          choosing k.power (matches (signal k 0) (heard_of all)) (comes (signal k 3) (heard_of all) n) (comes (signal k 4) (heard_of all) n) (go s)
        where
          go : Starts k (last_stop k hs) (hs ++ c ∷ [])
              → Chosen k.power (matches (signal k 0) (heard_of (hs ++ c ∷ []))) (comes (signal k 3) (heard_of (hs ++ c ∷ [])) (since (run_after k hs))) (comes (signal k 4) (heard_of (hs ++ c ∷ [])) (since (run_after k hs)))
          go (by91 e w) = first e (matching (signal k 0) (ruled 0) (hs ++ c ∷ []) below w)
          go (by94 e a) = second e (answer 3 o a)
          go (by95 e a) = third e (answer 4 o a)

      on_next : on_after k (hs ++ c ∷ []) ≡ starts k (heard_of (hs ++ c ∷ [])) (since (run_after k hs))
      on_next = ap is_on (run_next k hs c) ∙ off_turned k (heard_of (hs ++ c ∷ [])) (run_after k hs) o

      -- while it is off, a start turns it on
      pub starting : Starts k (last_stop k hs) (hs ++ c ∷ []) → TurnsOn k hs c
      starting s = record { off = o; on = on_next ∙ starts_so s }

    -- and nothing else does
    pub started : TurnsOn k hs c → Starts k (last_stop k hs) (hs ++ c ∷ [])
    started t = starts_if t.off (sym (on_next t.off) ∙ t.on)

    off_next : on_after k hs ≡ true → on_after k (hs ++ c ∷ []) ≡ not (matches (signal k 1) (heard_of (hs ++ c ∷ [])))
    off_next o = ap is_on (run_next k hs c) ∙ on_turned k (heard_of (hs ++ c ∷ [])) (run_after k hs) o

    -- while it is on, string 92 turns it off
    pub stopping : on_after k hs ≡ true → EndsWith (string_codes (signal k 1)) (hs ++ c ∷ []) → TurnsOff k hs c
    stopping o w = record { on = o; off = off_next o ∙ ap not (matching (signal k 1) (ruled 1) (hs ++ c ∷ []) below w) }

    -- and nothing else does
    pub stopped_by : TurnsOff k hs c → EndsWith (string_codes (signal k 1)) (hs ++ c ∷ [])
    stopped_by t = matched (signal k 1) (ruled 1) (hs ++ c ∷ []) below (not-false (matches (signal k 1) (heard_of (hs ++ c ∷ []))) (sym (off_next t.on) ∙ t.off))
