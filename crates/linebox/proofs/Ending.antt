-- How a call ends: it stands under its answer's condition, and no other outcome does.
-- Assumes nothing.
use Prim.Native.Nat.{ℕ, zero, suc, ◌-◌, ◌≤◌, ◌<◌}
use mathlib.Core.Path.{◌≡◌, refl, sym, ap, ◌∙◌}
use mathlib.Core.Bool.{Bool, true, false, cond, true≢false}
use mathlib.Core.List.{List, [], ◌∷◌, ◌++◌}
use native.Mathlib.Nat.{sub-zero, le_of_suc-le-suc}
use native.Mathlib.Omega.{arith}
use borrow.Author.Tests.{leb-true}
use lib.Dec.{leb}
use lib.ListN.{length, take, length-append}
use Rattle.std.proofs.lemmas.Bool.{and_parts}
use Rattle.linebox.specs.Names.{State, Stream}
use Rattle.step.specs.State.{sound}
use Rattle.step.specs.Step.{step}
use Rattle.linebox.specs.Call.{first_of, second_of, refuses, fits, Done, stopped, onward, taking, call}
use Rattle.linebox.specs.Ends.{firsts_of, seconds_of, outcome, fits_at, from_sound, When, Takes, Ends}

-- what is free after both parts
free : (a : ℕ) (f g : List ℕ) → a - length (f ++ g) ≡ (a - length f) - length g
free a f g = rw length-append (omega arith)

-- One byte more in front.
module _ (t : Stream) (s : State) (x : ℕ) (xs : List ℕ) (a b : ℕ) where
  abbrev after : State
  after = (step t s x).state

  abbrev free₁ : ℕ
  free₁ = a - length (first_of t (step t s x))

  abbrev free₂ : ℕ
  free₂ = b - length (second_of t (step t s x))

  fits_cons : (n : ℕ) → fits_at t s (x ∷ xs) a b (suc n) ≡ fits_at t after xs free₁ free₂ n
  fits_cons n = rw (free a (first_of t (step t s x)) (firsts_of t after (take n xs)), free b (second_of t (step t s x)) (seconds_of t after (take n xs)))

  when_cons : (n : ℕ) (w : ℕ) → from_sound w ≡ true → When t after xs free₁ free₂ n w → When t s (x ∷ xs) a b (suc n) w
  when_cons n zero h p = ap suc p
  when_cons n (suc zero) h p = (omega (arith, p.0), (p.1.0, fits_cons n ∙ p.1.1))
  when_cons n (suc (suc zero)) h p = (omega (arith, p.0), p.1)
  when_cons n (suc (suc (suc zero))) h p = absurd (true≢false (sym h))
  when_cons n (suc (suc (suc (suc w)))) h p = absurd p

  when_tail : (n : ℕ) (w : ℕ) → When t s (x ∷ xs) a b (suc n) w → When t after xs free₁ free₂ n w
  when_tail n zero p = omega (arith, p)
  when_tail n (suc zero) p = (le_of_suc-le-suc p.0, (p.1.0, sym (fits_cons n) ∙ p.1.1))
  when_tail n (suc (suc zero)) p = (le_of_suc-le-suc p.0, p.1)
  when_tail n (suc (suc (suc zero))) p = absurd (omega (arith, p))
  when_tail n (suc (suc (suc (suc w)))) p = absurd p

  before_cons : (n : ℕ) → refuses t s x ≡ false → fits t (step t s x) a b ≡ true → ((i : ℕ) → i < n → Takes t after xs free₁ free₂ i) → (i : ℕ) → i < suc n → Takes t s (x ∷ xs) a b i
  before_cons n r f h zero l = record { accepts = r; fits = rw (sub-zero, sub-zero) f }
  before_cons n r f h (suc i) l = let p = h i (le_of_suc-le-suc l) in record { accepts = p.accepts; fits = fits_cons i ∙ p.fits }

  before_tail : (n : ℕ) → ((i : ℕ) → i < suc n → Takes t s (x ∷ xs) a b i) → (i : ℕ) → i < n → Takes t after xs free₁ free₂ i
  before_tail n h i l = let p = h (suc i) (omega (arith, l)) in record { accepts = p.accepts; fits = sym (fits_cons i) ∙ p.fits }

-- Where taking stops.
record Stops (t : Stream) (s : State) (xs : List ℕ) (a b : ℕ) (d : Done) : Type 0 where
  state : from_sound d.answer ≡ true
  before : (i : ℕ) → i < d.taken → Takes t s xs a b i
  next : When t s xs a b d.taken d.answer

none : (t : Stream) (s : State) (xs : List ℕ) (a b i : ℕ) → i < 0 → Takes t s xs a b i
none t s xs a b i l = absurd (omega (arith, l))

stops : (t : Stream) (s : State) (xs : List ℕ) (a b : ℕ) → Stops t s xs a b (taking t s xs a b)
stops t s [] a b = record { state = refl; before = none t s [] a b; next = refl }
stops t s (x ∷ xs) a b = go (refuses t s x) (fits t (step t s x) a b) refl refl (stops t (step t s x).state xs (free₁ t s x xs a b) (free₂ t s x xs a b))
  where
    rest : Done
    rest = taking t (step t s x).state xs (free₁ t s x xs a b) (free₂ t s x xs a b)

    go : (r f : Bool) → refuses t s x ≡ r → fits t (step t s x) a b ≡ f → Stops t (step t s x).state xs (free₁ t s x xs a b) (free₂ t s x xs a b) rest
        → Stops t s (x ∷ xs) a b (cond r (stopped 2 s) (cond f (onward t (step t s x) rest) (stopped 1 s)))
    go true f e i p = record { state = refl; before = none t s (x ∷ xs) a b; next = (omega arith, e) }
    go false false e i p = record { state = refl; before = none t s (x ∷ xs) a b; next = (omega arith, (e, rw (sub-zero, sub-zero) i)) }
    go false true e i p = record {
      state = p.state;
      before = before_cons t s x xs a b rest.taken e i p.before;
      next = when_cons t s x xs a b rest.taken rest.answer p.state p.next;
    }

-- a call stands under its answer's condition
pub ends : (t : Stream) (s : State) (xs : List ℕ) (a b : ℕ) → Ends t s xs a b (call t s xs a b).answer (call t s xs a b).taken
ends t s xs a b = go (sound s) refl (stops t s xs a b)
  where
    go : (h : Bool) → sound s ≡ h → Stops t s xs a b (taking t s xs a b)
        → Ends t s xs a b (cond h (taking t s xs a b) (stopped 3 s)).answer (cond h (taking t s xs a b) (stopped 3 s)).taken
    go true e p = record { state = e ∙ sym p.state; before = p.before; next = p.next }
    go false e p = record { state = e; before = none t s xs a b; next = refl }

-- No other outcome does.

-- a byte taken or not
module _ (t : Stream) (s : State) (x : ℕ) (xs : List ℕ) (a b : ℕ) where
  takes_on : Takes t s (x ∷ xs) a b 0 → taking t s (x ∷ xs) a b ≡ onward t (step t s x) (taking t (step t s x).state xs (free₁ t s x xs a b) (free₂ t s x xs a b))
  takes_on p =
      let f : fits t (step t s x) a b ≡ true = rw (sub-zero, sub-zero) at p.fits in
      rw (p.accepts, f)

  no_room : refuses t s x ≡ false → fits_at t s (x ∷ xs) a b 0 ≡ false → taking t s (x ∷ xs) a b ≡ stopped 1 s
  no_room r p =
      let f : fits t (step t s x) a b ≡ false = rw (sub-zero, sub-zero) at p in
      rw (r, f)

  no_code : refuses t s x ≡ true → taking t s (x ∷ xs) a b ≡ stopped 2 s
  no_code r = rw r

only_empty : (t : Stream) (s : State) (a b n : ℕ) (w : ℕ) → from_sound w ≡ true → When t s [] a b n w → stopped 0 s ≡ outcome t s [] w n
only_empty t s a b n zero h p = rw p
only_empty t s a b n (suc zero) h p = absurd (omega (arith, p.0))
only_empty t s a b n (suc (suc zero)) h p = absurd (omega (arith, p.0))
only_empty t s a b n (suc (suc (suc zero))) h p = absurd (true≢false (sym h))
only_empty t s a b n (suc (suc (suc (suc w)))) h p = absurd p

only_first : (t : Stream) (s : State) (x : ℕ) (xs : List ℕ) (a b : ℕ) (w : ℕ) → from_sound w ≡ true → When t s (x ∷ xs) a b 0 w → taking t s (x ∷ xs) a b ≡ outcome t s (x ∷ xs) w 0
only_first t s x xs a b zero h p = absurd (omega (arith, p))
only_first t s x xs a b (suc zero) h p = no_room t s x xs a b p.1.0 p.1.1
only_first t s x xs a b (suc (suc zero)) h p = no_code t s x xs a b p.1
only_first t s x xs a b (suc (suc (suc zero))) h p = absurd (true≢false (sym h))
only_first t s x xs a b (suc (suc (suc (suc w)))) h p = absurd p

only_taking : (t : Stream) (s : State) (xs : List ℕ) (a b n : ℕ) (w : ℕ) → from_sound w ≡ true → ((i : ℕ) → i < n → Takes t s xs a b i) → When t s xs a b n w → taking t s xs a b ≡ outcome t s xs w n
only_taking t s [] a b n w h before p = only_empty t s a b n w h p
only_taking t s (x ∷ xs) a b zero w h before p = only_first t s x xs a b w h p
only_taking t s (x ∷ xs) a b (suc n) w h before p =
    takes_on t s x xs a b (before 0 (omega arith))
    ∙ ap (onward t (step t s x)) (only_taking t (step t s x).state xs (free₁ t s x xs a b) (free₂ t s x xs a b) n w h (before_tail t s x xs a b n before) (when_tail t s x xs a b n w p))

only_sound : (t : Stream) (s : State) (xs : List ℕ) (a b : ℕ) (w : ℕ) (n : ℕ) → from_sound w ≡ true → Ends t s xs a b w n → call t s xs a b ≡ outcome t s xs w n
only_sound t s xs a b w n h p = rw (p.state, h) (only_taking t s xs a b n w h p.before p.next)

-- an outcome that stands under its answer's condition is the call's
pub only : (t : Stream) (s : State) (xs : List ℕ) (a b : ℕ) (w : ℕ) (n : ℕ) → Ends t s xs a b w n → call t s xs a b ≡ outcome t s xs w n
only t s xs a b zero n p = only_sound t s xs a b 0 n refl p
only t s xs a b (suc zero) n p = only_sound t s xs a b 1 n refl p
only t s xs a b (suc (suc zero)) n p = only_sound t s xs a b 2 n refl p
only t s xs a b (suc (suc (suc zero))) n p = rw (p.state, p.next)
only t s xs a b (suc (suc (suc (suc w)))) n p = absurd p.next

module _ (t : Stream) (s : State) (xs : List ℕ) (a b : ℕ) where
  -- a call's state and bytes are the fold's over the bytes it took
  pub folds : call t s xs a b ≡ outcome t s xs (call t s xs a b).answer (call t s xs a b).taken
  folds = only t s xs a b (call t s xs a b).answer (call t s xs a b).taken (ends t s xs a b)

  -- no two answers stand, nor one after more bytes and one after fewer
  pub one : (w v : ℕ) (n m : ℕ) → Ends t s xs a b w n → Ends t s xs a b v m → (w ≡ v) × (n ≡ m)
  one w v n m p q =
      let e = sym (only t s xs a b w n p) ∙ only t s xs a b v m q in
      (ap (λ (d : Done). d.answer) e, ap (λ (d : Done). d.taken) e)

when_within : (t : Stream) (s : State) (xs : List ℕ) (a b n : ℕ) (w : ℕ) → When t s xs a b n w → n ≤ length xs
when_within t s xs a b n zero p = omega (arith, p)
when_within t s xs a b n (suc zero) p = omega (arith, p.0)
when_within t s xs a b n (suc (suc zero)) p = omega (arith, p.0)
when_within t s xs a b n (suc (suc (suc zero))) p = omega (arith, p)
when_within t s xs a b n (suc (suc (suc (suc w)))) p = absurd p

-- no call takes more than it is given
pub within : (t : Stream) (s : State) (xs : List ℕ) (a b : ℕ) → (call t s xs a b).taken ≤ length xs
within t s xs a b = when_within t s xs a b (call t s xs a b).taken (call t s xs a b).answer (ends t s xs a b).next

-- Room.

abbrev Fit : ℕ → ℕ → Done → Type 0
Fit a b d = (length d.first ≤ a) × (length d.second ≤ b)

taking_fits : (t : Stream) (s : State) (xs : List ℕ) (a b : ℕ) → Fit a b (taking t s xs a b)
taking_fits t s [] a b = (omega arith, omega arith)
taking_fits t s (x ∷ xs) a b = go (refuses t s x) (fits t (step t s x) a b) refl (taking_fits t (step t s x).state xs (free₁ t s x xs a b) (free₂ t s x xs a b))
  where
    rest : Done
    rest = taking t (step t s x).state xs (free₁ t s x xs a b) (free₂ t s x xs a b)

    go : (r f : Bool) → fits t (step t s x) a b ≡ f → Fit (free₁ t s x xs a b) (free₂ t s x xs a b) rest
        → Fit a b (cond r (stopped 2 s) (cond f (onward t (step t s x) rest) (stopped 1 s)))
    go true f e p = (omega arith, omega arith)
    go false false e p = (omega arith, omega arith)
    go false true e p =
        let f = first_of t (step t s x) in
        let g = second_of t (step t s x) in
        let q = and_parts (leb (length f) a) (leb (length g) b) e in
        (rw (length-append f rest.first) (omega (arith, leb-true (length f) a q.0, p.0)), rw (length-append g rest.second) (omega (arith, leb-true (length g) b q.1, p.1)))

-- what is written fits the buffers
pub call_fits : (t : Stream) (s : State) (xs : List ℕ) (a b : ℕ) → (length (call t s xs a b).first ≤ a) × (length (call t s xs a b).second ≤ b)
call_fits t s xs a b = go (sound s) (taking_fits t s xs a b)
  where
    go : (h : Bool) → Fit a b (taking t s xs a b) → Fit a b (cond h (taking t s xs a b) (stopped 3 s))
    go true p = p
    go false p = (omega arith, omega arith)
