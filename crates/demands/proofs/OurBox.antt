-- Demand 1 of our box, from the laws of how a call ends: a count of bytes taken and a split of the input say the same.
-- Assumes nothing.
use Prim.Native.Nat.{ℕ, zero, suc, ◌+◌, ◌≤◌, ◌<◌, min}
use mathlib.Core.Path.{◌≡◌, refl, sym, ap, ◌∙◌, subst}
use mathlib.Core.Bool.{Bool, true, false, cond, true≢false}
use mathlib.Core.List.{List, [], ◌∷◌, ◌++◌, append_assoc, append-nil}
use native.Mathlib.Omega.{arith}
use native.Mathlib.Nat.{le_of_eq}
use lib.ListN.{length, get_or, take, drop, length-append, length-take, take-append-drop, drop_of_length-le}
use lib.Seq.{drop-cons, split_at, take_at, get_or_at, length-take-le}
use Rattle.laws.specs.Written.{fronted}
use Rattle.step.specs.State.{sound}
use Rattle.linebox.specs.Call.{Done, call, told as told_of, Calls}
use Rattle.linebox.specs.Ends.{outcome, from_sound, When, Takes, Ends}
use Rattle.linebox.proofs.Ending.{ends, folds, only, one, within}
use Rattle.demands.specs.Names.{State, Stream, Called}
use Rattle.demands.specs.Box.{Result, Box, resulting, ours}
use Rattle.demands.specs.ExactCodes.{ExactCodes}
use Rattle.demands.specs.EveryCall.{no_code, has_room, Goes, Exactly, Condition, Splits, Ended, EveryCall}

module _ (t : Stream) (s : State) (a b : ℕ) where
  -- A byte and those before it.

  goes : (xs before : List ℕ) (x : ℕ) (more : List ℕ) (i : ℕ) → xs ≡ before ++ (x ∷ more) → length before ≡ i → Takes t s xs a b i → Goes t s a b before x
  goes xs before x more i e l h =
      let p : take i xs ≡ before = rw e (take_at before (x ∷ more) i l) in
      let q : get_or xs i 0 ≡ x = rw e (get_or_at before x more 0 i l) in
      record { code = rw (p, q) at h.accepts; room = rw (p, q) at h.fits }

  takes : (xs before : List ℕ) (x : ℕ) (more : List ℕ) (i : ℕ) → xs ≡ before ++ (x ∷ more) → length before ≡ i → Goes t s a b before x → Takes t s xs a b i
  takes xs before x more i e l h =
      let p : take i xs ≡ before = rw e (take_at before (x ∷ more) i l) in
      let q : get_or xs i 0 ≡ x = rw e (get_or_at before x more 0 i l) in
      record { accepts = rw (p, q) h.code; fits = rw (p, q) h.room }

  -- at most one holds: the state and the next byte tell which
  abbrev number : List ℕ → Bool → List ℕ → ℕ
  number taken false rest = 3
  number taken true [] = 0
  number taken true (x ∷ rest) = cond (no_code t s taken x) 2 (cond (has_room t s a b taken x) 4 1)

  told : (taken rest : List ℕ) (w : ℕ) → Condition t s a b taken rest w → number taken (sound s) rest ≡ w
  told taken rest zero h = rw (h.0, h.1)
  told taken [] (suc zero) h = absurd h.1
  told taken (x ∷ rest) (suc zero) h = rw (h.0, h.1.0, h.1.1)
  told taken [] (suc (suc zero)) h = absurd h.1
  told taken (x ∷ rest) (suc (suc zero)) h = rw (h.0, h.1)
  told taken rest (suc (suc (suc zero))) h = rw h
  told taken rest (suc (suc (suc (suc w)))) h = absurd h

  -- the one whose condition holds is the answer
  exact : (taken rest : List ℕ) (w : ℕ) → Condition t s a b taken rest w → (n : ℕ) → Exactly (w ≡ n) (Condition t s a b taken rest n)
  exact taken rest w h n = record { only = λ e. subst (Condition t s a b taken rest) e h; then = λ k. sym (told taken rest w h) ∙ told taken rest n k }

  -- A count gives a split.

  counted : (xs : List ℕ) (n w : ℕ) → sound s ≡ from_sound w → When t s xs a b n w → Condition t s a b (take n xs) (drop n xs) w
  counted xs n zero e h = (e, drop_of_length-le xs (le_of_eq (sym h)))
  counted xs n (suc zero) e h = rw (drop-cons xs n 0 h.0) (e, h.1)
  counted xs n (suc (suc zero)) e h = rw (drop-cons xs n 0 h.0) (e, h.1)
  counted xs n (suc (suc (suc zero))) e h = e
  counted xs n (suc (suc (suc (suc w)))) e h = absurd h

  unsound : (xs : List ℕ) (n w : ℕ) → sound s ≡ from_sound w → When t s xs a b n w → sound s ≡ false → take n xs ≡ []
  unsound xs n zero e h f = absurd (true≢false (sym e ∙ f))
  unsound xs n (suc zero) e h f = absurd (true≢false (sym e ∙ f))
  unsound xs n (suc (suc zero)) e h f = absurd (true≢false (sym e ∙ f))
  unsound xs n (suc (suc (suc zero))) e h f = rw h
  unsound xs n (suc (suc (suc (suc w)))) e h f = absurd h

  splits : (xs : List ℕ) (w n : ℕ) → Ends t s xs a b w n → Splits t s xs a b w (take n xs) (drop n xs)
  splits xs w n h = record {
    whole = sym (take-append-drop n xs);
    each = λ before x others e.
        let l : length (take n xs) ≡ length before + suc (length others) = rw e (length-append before (x ∷ others)) in
        let m : length (take n xs) ≡ min n (length xs) = length-take n xs in
        let i : length before < n = omega (arith, l, m) in
        let f : xs ≡ before ++ (x ∷ (others ++ drop n xs)) = sym (take-append-drop n xs) ∙ ap (λ (r : List ℕ). r ++ drop n xs) e ∙ append_assoc before (x ∷ others) (drop n xs) in
        goes xs before x (others ++ drop n xs) (length before) f refl (h.before (length before) i);
    nothing = unsound xs n w h.state h.next;
    answer = exact (take n xs) (drop n xs) w (counted xs n w h.state h.next);
  }

  -- A split gives a count.

  when : (taken rest : List ℕ) (w : ℕ) → (sound s ≡ false → taken ≡ []) → Condition t s a b taken rest w → When t s (taken ++ rest) a b (length taken) w
  when taken rest zero none h = rw h.1 (rw append-nil refl)
  when taken [] (suc zero) none h = absurd h.1
  when taken (x ∷ rest) (suc zero) none h =
      let p : take (length taken) (taken ++ (x ∷ rest)) ≡ taken = take_at taken (x ∷ rest) (length taken) refl in
      let q : get_or (taken ++ (x ∷ rest)) (length taken) 0 ≡ x = get_or_at taken x rest 0 (length taken) refl in
      (rw (length-append taken (x ∷ rest)) (omega arith), (rw (p, q) h.1.0, rw (p, q) h.1.1))
  when taken [] (suc (suc zero)) none h = absurd h.1
  when taken (x ∷ rest) (suc (suc zero)) none h =
      let p : take (length taken) (taken ++ (x ∷ rest)) ≡ taken = take_at taken (x ∷ rest) (length taken) refl in
      let q : get_or (taken ++ (x ∷ rest)) (length taken) 0 ≡ x = get_or_at taken x rest 0 (length taken) refl in
      (rw (length-append taken (x ∷ rest)) (omega arith), rw (p, q) h.1)
  when taken rest (suc (suc (suc zero))) none h = ap length (none h)
  when taken rest (suc (suc (suc (suc w)))) none h = absurd h

  handed : (taken rest : List ℕ) (w : ℕ) → Condition t s a b taken rest w → sound s ≡ from_sound w
  handed taken rest zero h = h.0
  handed taken rest (suc zero) h = h.0
  handed taken rest (suc (suc zero)) h = h.0
  handed taken rest (suc (suc (suc zero))) h = h
  handed taken rest (suc (suc (suc (suc w)))) h = absurd h

  counts : (xs : List ℕ) (w : ℕ) (taken rest : List ℕ) → Splits t s xs a b w taken rest → Ends t s xs a b w (length taken)
  counts xs w taken rest h = record {
    state = handed taken rest w ((h.answer w).only refl);
    before = λ i l.
        let e : taken ≡ take i taken ++ (get_or taken i 0 ∷ drop (suc i) taken) = split_at taken i 0 l in
        let f : xs ≡ take i taken ++ (get_or taken i 0 ∷ (drop (suc i) taken ++ rest)) = h.whole ∙ ap (λ (r : List ℕ). r ++ rest) e ∙ append_assoc (take i taken) (get_or taken i 0 ∷ drop (suc i) taken) rest in
        let m : i ≤ length taken = omega (arith, l) in
        takes xs (take i taken) (get_or taken i 0) (drop (suc i) taken ++ rest) i f (length-take-le i taken m) (h.each (take i taken) (get_or taken i 0) (drop (suc i) taken) e);
    next = rw h.whole (when taken rest w h.nothing ((h.answer w).only refl));
  }

-- What the call's definition gives follows the bytes it took.
follows : (t : Stream) (s : State) (xs one two : List ℕ) (d : Done) → d ≡ outcome t s xs d.answer d.taken → d.taken ≤ length xs
    → Splits t s xs (length one) (length two) d.answer (take d.taken xs) (drop d.taken xs) → Ended t s xs one two (resulting d one two)
follows t s xs one two d e inside h = record {
  taken = take d.taken xs;
  rest = drop d.taken xs;
  splits = h;
  count = sym (length-take-le d.taken xs inside);
  state = ap (λ (r : Done). r.state) e;
  wrote = record {
    count_first = ap (λ (r : Done). length r.first) e;
    count_second = ap (λ (r : Done). length r.second) e;
    first = ap (λ (r : Done). fronted one r.first) e;
    second = ap (λ (r : Done). fronted two r.second) e;
  };
}

-- Our box meets demand 1.
pub ours_every_call : EveryCall ours
ours_every_call t s xs one two =
    let a = length one in
    let b = length two in
    let d = call t s xs a b in
    follows t s xs one two d (folds t s xs a b) (within t s xs a b) (splits t s a b xs d.answer d.taken (ends t s xs a b))

-- What a call's code promises is our box's result.
pub promised : (t : Stream) (s : State) (xs one two now₁ now₂ : List ℕ) (r : Called) → Calls (call t s xs (length one) (length two)) one two now₁ now₂ r
    → ours t s xs one two ≡ record { gives = told_of r; first = now₁; second = now₂ }
promised t s xs one two now₁ now₂ r p = rw (p.gives, p.one, p.two)

-- Nothing else meets it.

-- the bytes taken are those counted
pub front : (xs taken rest : List ℕ) (n : ℕ) → xs ≡ taken ++ rest → n ≡ length taken → take n xs ≡ taken
front xs taken rest n e l = rw e (take_at taken rest n (sym l))

-- what meets demand 1 is our box's result
ended_ours : (t : Stream) (s : State) (xs one two : List ℕ) (r : Result) → Ended t s xs one two r → r ≡ ours t s xs one two
ended_ours t s xs one two r h =
    let n = length h.taken in
    let p : take n xs ≡ h.taken = front xs h.taken h.rest n h.splits.whole refl in
    let e = only t s xs (length one) (length two) r.gives.answer n (counts t s (length one) (length two) xs r.gives.answer h.taken h.rest h.splits) in
    let u : r ≡ resulting (outcome t s xs r.gives.answer n) one two = rw (p, ← h.wrote.first, ← h.wrote.second, ← h.count, ← h.state, ← h.wrote.count_first, ← h.wrote.count_second) refl in
    u ∙ ap (λ (d : Done). resulting d one two) (sym e)

-- exactly one answer stands, after exactly one stretch of bytes taken
pub one_answer : (t : Stream) (s : State) (xs : List ℕ) (a b : ℕ) (w v : ℕ) (taken rest taken' rest' : List ℕ) → Splits t s xs a b w taken rest → Splits t s xs a b v taken' rest'
    → (w ≡ v) × (taken ≡ taken')
one_answer t s xs a b w v taken rest taken' rest' h k =
    let e = one t s xs a b w v (length taken) (length taken') (counts t s a b xs w taken rest h) (counts t s a b xs v taken' rest' k) in
    (e.0, sym (front xs taken rest (length taken) h.whole refl) ∙ front xs taken' rest' (length taken) k.whole e.1)

-- two boxes that meet demand 1 agree on every call
pub every_call_decides : (x y : Box) → EveryCall x → EveryCall y → (t : Stream) (s : State) (xs one two : List ℕ) → x t s xs one two ≡ y t s xs one two
every_call_decides x y p q t s xs one two = ended_ours t s xs one two (x t s xs one two) (p t s xs one two) ∙ sym (ended_ours t s xs one two (y t s xs one two) (q t s xs one two))

-- so a box that differs from ours on any one call fails it
pub differs_fails : (x : Box) (t : Stream) (s : State) (xs one two : List ℕ) → (x t s xs one two ≡ ours t s xs one two → ⊥) → EveryCall x → ⊥
differs_fails x t s xs one two differs h = differs (every_call_decides x ours h ours_every_call t s xs one two)

-- exactly when: where an answer's condition stands of a split, a box that meets demand 1 gives that answer and takes those bytes
pub exactly_when : (x : Box) → EveryCall x → (t : Stream) (s : State) (xs one two : List ℕ) (w : ℕ) (taken rest : List ℕ) → Splits t s xs (length one) (length two) w taken rest
    → ((x t s xs one two).gives.answer ≡ w) × ((x t s xs one two).gives.taken ≡ length taken)
exactly_when x p t s xs one two w taken rest h =
    let e = ended_ours t s xs one two (x t s xs one two) (p t s xs one two)
    ∙ ap (λ (d : Done). resulting d one two) (only t s xs (length one) (length two) w (length taken) (counts t s (length one) (length two) xs w taken rest h)) in
    (ap (λ (r : Result). r.gives.answer) e, ap (λ (r : Result). r.gives.taken) e)

-- Demand 2 follows from demand 1.
pub exact_codes : (x : Box) → EveryCall x → ExactCodes x
exact_codes x p t s xs one two =
    let h = p t s xs one two in
    rw (front xs h.taken h.rest (x t s xs one two).gives.taken h.splits.whole h.count) h.wrote

pub ours_exact_codes : ExactCodes ours
ours_exact_codes = exact_codes ours ours_every_call
