-- The loop of a call: what is reached after some bytes, and one turn more.
-- Assumes nothing.
use Prim.Native.Nat.{ℕ, suc, ◌+◌, ◌-◌, ◌≤◌, ◌<◌}
use mathlib.Core.Path.{◌≡◌, refl, sym, ap, ◌∙◌}
use mathlib.Core.Bool.{Bool, true, false}
use mathlib.Core.List.{List, [], ◌∷◌, ◌++◌, append-nil, append_assoc}
use native.Mathlib.Omega.{arith}
use native.Mathlib.Nat.{zero-add, add-zero, sub-zero}
use borrow.Rule.Slice.PartMut.{put_mid, mid_of}
use borrow.Author.Tests.{leb-true}
use lib.Dec.{leb}
use lib.ListN.{length, get_or, drop, length-drop}
use lib.Seq.{get_or-drop}
use Rattle.std.specs.Prelude.{cond, Result, Ok, Err}
use Rattle.std.specs.Bool.{then_some}
use Rattle.laws.specs.Written.{fronted, Filled}
use Rattle.linebox.specs.Names.{State, Stream, Host, Answer, All, NoRoom, NoCode, Taken, Ran}
use Rattle.step.specs.State.{sound, with_reader}
use Rattle.step.specs.Step.{Step, hosted, step}
use Rattle.linebox.specs.Call.{first_of, second_of, refuses, fits, Done, stopped, onward, before, taking, number_of}
use Rattle.step.specs.Byte.{Offers}
use Rattle.step.specs.declared.NoRoom.{NoRoom as Refused}
use Rattle.linebox.specs.Call.{Runs, Calls}
use Rattle.command.specs.declared.Running.{Running}
use Rattle.command.specs.Reads.{running}
use Rattle.command.proofs.Runs.{run_within, run_next}
use Rattle.command.specs.Read.{read}
use Rattle.step.proofs.Stays.{sound_step}
use Rattle.linebox.proofs.Kept.{kept}
use Rattle.laws.proofs.Filled.{free_length, filled_more, filled_on, unfilled}
use Rattle.std.proofs.lemmas.Bool.{and_parts}

-- a run more before the rest
joined : (n m : ℕ) (p new q : List ℕ) (d : Done) → before n p q (before m new [] d) ≡ before (n + m) (p ++ new) q d
joined n m p new q d =
    let u : n + (m + d.taken) ≡ n + m + d.taken = omega arith in
    rw (u, append_assoc p new d.first)

joined_none : (n m : ℕ) (p q : List ℕ) (d : Done) → before n p q (before m [] [] d) ≡ before (n + m) p q d
joined_none n m p q d =
    let u : n + (m + d.taken) ≡ n + m + d.taken = omega arith in
    rw u

-- a byte more before the rest
moved : (t : Stream) (x : Step) (n : ℕ) (p q : List ℕ) (d : Done) → before n p q (onward t x d) ≡ before (n + 1) (p ++ first_of t x) (q ++ second_of t x) d
moved t x n p q d =
    let u : n + suc d.taken ≡ n + 1 + d.taken = omega arith in
    rw (u, append_assoc p (first_of t x) d.first, append_assoc q (second_of t x) d.second)

-- where the loop is: the bytes taken and what they wrote stand before what the rest gives
pub record Reached (t : Stream) (start : State) (input old₁ old₂ : List ℕ) (s : State) (left now₁ now₂ : List ℕ) (k₁ k₂ : ℕ) : Type 0 where
  pub p : List ℕ
  pub q : List ℕ
  pub within : length left ≤ length input
  pub is_sound : sound s ≡ true
  pub one : Filled old₁ now₁ p k₁
  pub two : Filled old₂ now₂ q k₂
  pub rest : taking t start input (length old₁) (length old₂) ≡ before (length input - length left) p q (taking t s left (length old₁ - k₁) (length old₂ - k₂))

-- what is offered where it does not fit, and where it does
module _ (t : Stream) (x : Step) (old₁ old₂ now₁ now₂ : List ℕ) where
  abbrev whole : Taken
  whole = record { state = x.state; first = length (first_of t x); second = length (second_of t x) }

  abbrev answer : Bool → Result Taken Refused
  answer b = cond b (Ok whole) (Err (record { state = x.state }))

  refused : (r : Refused) → Offers t x old₁ old₂ now₁ now₂ (Err r) → (fits t x (length old₁) (length old₂) ≡ false) × ((now₁ ≡ old₁) × (now₂ ≡ old₂))
  refused r o = go (fits t x (length old₁) (length old₂)) refl o.gives
    where
      go : (b : Bool) → fits t x (length old₁) (length old₂) ≡ b → Err r ≡ answer b
          → (fits t x (length old₁) (length old₂) ≡ false) × ((now₁ ≡ old₁) × (now₂ ≡ old₂))
      go true e h = cc
      go false e h = (e, (rw e at o.one, rw e at o.two))

  record Accepts (r : Taken) : Type 0 where
    fit : fits t x (length old₁) (length old₂) ≡ true
    gives : r ≡ whole
    one : now₁ ≡ fronted old₁ (first_of t x)
    two : now₂ ≡ fronted old₂ (second_of t x)

  accepted : (r : Taken) → Offers t x old₁ old₂ now₁ now₂ (Ok r) → Accepts r
  accepted r o = go (fits t x (length old₁) (length old₂)) refl o.gives
    where
      go : (b : Bool) → fits t x (length old₁) (length old₂) ≡ b → Ok r ≡ answer b → Accepts r
      go true e h = record { fit = e; gives = cc; one = rw e at o.one; two = rw e at o.two }
      go false e h = cc

module _ (t : Stream) (start : State) (input old₁ old₂ : List ℕ) where
  -- at the start
  pub reached : sound start ≡ true → Reached t start input old₁ old₂ start input old₁ old₂ 0 0
  reached h =
      let u : length input - length input ≡ 0 = omega arith in
      record {
        p = [];
        q = [];
        within = omega arith;
        is_sound = h;
        one = record { count = refl; room = omega arith; same_length = refl; places = refl };
        two = record { count = refl; room = omega arith; same_length = refl; places = refl };
        rest = rw (sub-zero (length old₁), sub-zero (length old₂), u, zero-add);
      }

  -- where the loop stops
  pub stops : (s : State) (left now₁ now₂ : List ℕ) (k₁ k₂ : ℕ) (answer : Answer) → Reached t start input old₁ old₂ s left now₁ now₂ k₁ k₂
      → taking t s left (length old₁ - k₁) (length old₂ - k₂) ≡ stopped (number_of answer) s
      → Calls (taking t start input (length old₁) (length old₂)) old₁ old₂ now₁ now₂ (record { answer = answer; taken = length input - length left; first = k₁; second = k₂; state = s })
  stops s left now₁ now₂ k₁ k₂ answer r e = rw (r.rest, e) (record {
    gives = rw (add-zero, append-nil, append-nil, r.one.count, r.two.count);
    one = rw append-nil r.one.places;
    two = rw append-nil r.two.places;
  })

  -- a run of plain bytes more
  pub ran : (s : State) (left now₁ now₂ ys : List ℕ) (k₁ k₂ : ℕ) (x : Ran) → Reached t start input old₁ old₂ s left now₁ now₂ k₁ k₂
      → Runs t s left (mid_of k₁ (length now₁ - k₁) now₁) ys x
      → Reached t start input old₁ old₂ x.state (drop x.taken left) (put_mid k₁ (length now₁ - k₁) now₁ ys) now₂ (k₁ + x.count) k₂
  ran s left now₁ now₂ ys k₁ k₂ x r g =
      let a : length (mid_of k₁ (length now₁ - k₁) now₁) ≡ length old₁ - k₁ = free_length now₁ k₁ ∙ ap (λ (l : ℕ). l - k₁) r.one.same_length in
      let u : length old₁ - k₁ - x.count ≡ length old₁ - (k₁ + x.count) = omega arith in
      let v : length input - length left + x.taken ≡ length input - length (drop x.taken left) = omega (arith, length-drop x.taken left, g.within, r.within) in
      let e : taking t s left (length old₁ - k₁) (length old₂ - k₂) ≡ before x.taken g.new [] (taking t x.state (drop x.taken left) (length old₁ - (k₁ + x.count)) (length old₂ - k₂)) = rw (a, u) at (g.rest (length old₂ - k₂)) in
      record {
        p = r.p ++ g.new;
        q = r.q;
        within = omega (arith, length-drop x.taken left, r.within);
        is_sound = g.kept;
        one = filled_on old₁ now₁ r.p g.new ys k₁ x.count r.one g.places;
        two = r.two;
        rest = r.rest ∙ ap (before (length input - length left) r.p r.q) e ∙ rw (← v) (joined (length input - length left) x.taken r.p g.new r.q _);
      }

  -- why it stops: no byte is left, the next is no code, or its output does not fit
  pub all_taken : (s : State) (left now₁ now₂ : List ℕ) (k₁ k₂ : ℕ) → length left ≡ 0 → Reached t start input old₁ old₂ s left now₁ now₂ k₁ k₂
      → Calls (taking t start input (length old₁) (length old₂)) old₁ old₂ now₁ now₂ (record { answer = All; taken = length input; first = k₁; second = k₂; state = s })
  all_taken s [] now₁ now₂ k₁ k₂ h r = rw sub-zero at (stops s [] now₁ now₂ k₁ k₂ All r refl)
  all_taken s (b ∷ left) now₁ now₂ k₁ k₂ h r = absurd (omega (arith, h))

  module _ (s : State) (left : List ℕ) (b : ℕ) (more : List ℕ) (e : left ≡ b ∷ more) (now₁ now₂ : List ℕ) (k₁ k₂ : ℕ) (r : Reached t start input old₁ old₂ s left now₁ now₂ k₁ k₂) where
    abbrev next : Step
    next = step t s b

    pub no_code : refuses t s b ≡ true → Calls (taking t start input (length old₁) (length old₂)) old₁ old₂ now₁ now₂ (record { answer = NoCode; taken = length input - length left; first = k₁; second = k₂; state = s })
    no_code h = stops s left now₁ now₂ k₁ k₂ NoCode r (rw (e, h))

    -- the room that the free parts have
    rooms : (ok : Bool) → fits t next (length (mid_of k₁ (length now₁ - k₁) now₁)) (length (mid_of k₂ (length now₂ - k₂) now₂)) ≡ ok → fits t next (length old₁ - k₁) (length old₂ - k₂) ≡ ok
    rooms ok f = rw (free_length now₁ k₁, free_length now₂ k₂, r.one.same_length, r.two.same_length) at f

    -- no byte more
    pub stays : (ys₁ ys₂ : List ℕ) (x : Refused) → refuses t s b ≡ false → Offers t next (mid_of k₁ (length now₁ - k₁) now₁) (mid_of k₂ (length now₂ - k₂) now₂) ys₁ ys₂ (Err x)
        → Calls (taking t start input (length old₁) (length old₂)) old₁ old₂ (put_mid k₁ (length now₁ - k₁) now₁ ys₁) (put_mid k₂ (length now₂ - k₂) now₂ ys₂) (record { answer = NoRoom; taken = length input - length left; first = k₁; second = k₂; state = s })
    stays ys₁ ys₂ x h o =
        let f = refused t next _ _ ys₁ ys₂ x o in
        rw (unfilled now₁ ys₁ k₁ f.1.0, unfilled now₂ ys₂ k₂ f.1.1) (stops s left now₁ now₂ k₁ k₂ NoRoom r (rw (e, h, rooms false f.0)))

    -- one byte more
    pub turn : (ys₁ ys₂ : List ℕ) (x : Taken) → refuses t s b ≡ false → Offers t next (mid_of k₁ (length now₁ - k₁) now₁) (mid_of k₂ (length now₂ - k₂) now₂) ys₁ ys₂ (Ok x)
        → Reached t start input old₁ old₂ x.state more (put_mid k₁ (length now₁ - k₁) now₁ ys₁) (put_mid k₂ (length now₂ - k₂) now₂ ys₂) (k₁ + x.first) (k₂ + x.second)
    turn ys₁ ys₂ x h o =
        let f = first_of t next in
        let g = second_of t next in
        let m = length old₁ - k₁ in
        let n = length old₂ - k₂ in
        let y = accepted t next _ _ ys₁ ys₂ x o in
        let all = rooms true y.fit in
        let both_fit = and_parts (leb (length f) m) (leb (length g) n) all in
        let u : m - length f ≡ length old₁ - (k₁ + length f) = omega arith in
        let v : n - length g ≡ length old₂ - (k₂ + length g) = omega arith in
        let w : length input - length left + 1 ≡ length input - length more = omega (arith, r.within, ap length e) in
        let z : taking t s left m n ≡ onward t next (taking t next.state more (m - length f) (n - length g)) = rw (e, h, all) in
        rw y.gives (record {
          p = r.p ++ f;
          q = r.q ++ g;
          within = omega (arith, r.within, ap length e);
          is_sound = sound_step t s b r.is_sound;
          one = filled_more old₁ now₁ r.p f ys₁ k₁ r.one (leb-true (length f) m both_fit.0) y.one;
          two = filled_more old₂ now₂ r.q g ys₂ k₂ r.two (leb-true (length g) n both_fit.1) y.two;
          rest = r.rest ∙ rw (z, u, v, ← w) (moved t next (length input - length left) r.p r.q _);
        })

-- a run of bytes that the command reader keeps more
pub kept_on : (start : State) (input old₁ old₂ : List ℕ) (s : State) (left now₁ now₂ : List ℕ) (k₁ k₂ : ℕ) → Reached Host start input old₁ old₂ s left now₁ now₂ k₁ k₂
    → (u : Running) → u ≡ running s.reader left
    → Reached Host start input old₁ old₂ (with_reader s u.reader) (drop u.taken left) now₁ now₂ k₁ k₂
kept_on start input old₁ old₂ s left now₁ now₂ k₁ k₂ r u h =
    let k = kept s left (length old₁ - k₁) (length old₂ - k₂) r.is_sound in
    let n = (running s.reader left).taken in
    let w = run_within s.reader left in
    let v : length input - length left + n ≡ length input - length (drop n left) = omega (arith, length-drop n left, w, r.within) in
    rw h (record {
      p = r.p;
      q = r.q;
      within = omega (arith, length-drop n left, r.within);
      is_sound = k.is_sound;
      one = r.one;
      two = r.two;
      rest = r.rest ∙ ap (before (length input - length left) r.p r.q) k.rest ∙ rw (← v) (joined_none (length input - length left) n r.p r.q _);
    })

-- the byte after it is the one that the command reader has read already
pub read_next : (s : State) (left : List ℕ) (u : Running) (b : ℕ) (more : List ℕ) → u ≡ running s.reader left → drop u.taken left ≡ b ∷ more
    → hosted (with_reader (with_reader s u.reader) u.next.reader) u.reader.values u.next.out ≡ step Host (with_reader s u.reader) b
read_next s left u b more h d =
    let w : (running s.reader left).taken < length left = omega (arith, length-drop u.taken left, ap length d, ap (λ (z : Running). z.taken) h) in
    let g : get_or left u.taken 0 ≡ b = ap (λ (k : ℕ). get_or left k 0) (sym (add-zero u.taken)) ∙ sym (get_or-drop u.taken left 0 0) ∙ ap (λ (xs : List ℕ). get_or xs 0 0) d in
    let f : u.next ≡ read u.reader (get_or left u.taken 0) = rw (← h) at (run_next s.reader left w) in
    let e : u.next ≡ read u.reader b = rw g at f in
    rw e
