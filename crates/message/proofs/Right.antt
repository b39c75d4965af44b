-- The computed place is right: it is empty exactly if no message stands anywhere, and otherwise the earliest one's.
-- Assumes nothing.
use Prim.Native.Nat.{ℕ, zero, suc, ◌+◌, ◌≤◌, ◌<◌}
use mathlib.Core.Path.{◌≡◌, refl, sym, ap, ◌∙◌}
use mathlib.Core.List.{List, [], ◌∷◌}
use native.Mathlib.Nat.{not-suc-le-zero, le_of_suc-le-suc}
use native.Mathlib.Numerals.{add-one}
use native.Mathlib.Omega.{arith}
use lib.ListN.{length-take, length, take, drop, drop_of_length-le, length-drop, length-append}
use lib.Seq.{drop-nil, drop-cons}
use Rattle.std.proofs.Common.{Option, Some, None, MatchOption, eqb, get_or, false}
use Rattle.std.proofs.lemmas.Option.{none-some}
use Rattle.message.specs.declared.Place.{Place}
use Rattle.message.specs.Message.{numbers, body}
use Rattle.message.specs.Find.{Stands, NoneBefore, Earliest, NoMessage}
use Rattle.message.specs.Scan.{message_at, placed, located_from, located}
use Rattle.message.specs.Located.{Located, start_of, len_of, found}
use Rattle.message.proofs.Front.{front_of, at_front}
use Rattle.message.proofs.Sizes.{framed_length}

-- ---- one byte more before
pub shift : (b : ℕ) (s : List ℕ) (j : ℕ) (ns : List ℕ) → Stands s j ns → Stands (b ∷ s) (suc j) ns
shift b s j ns t = record { bytes = t.bytes; counted = t.counted; rest = t.rest; spelt = t.spelt }

pub unshift : (b : ℕ) (s : List ℕ) (j : ℕ) (ns : List ℕ) → Stands (b ∷ s) (suc j) ns → Stands s j ns
unshift b s j ns t = record { bytes = t.bytes; counted = t.counted; rest = t.rest; spelt = t.spelt }

-- where the computation finds nothing at the front, none stands there
pub none_here : (s ns : List ℕ) → message_at s ≡ None → Stands s 0 ns → ⊥
none_here s ns e t = none-some (length (numbers ns)) (sym e ∙ (ap message_at t.spelt ∙ at_front ns t.rest t.bytes t.counted))

none_empty : NoMessage []
none_empty j ns t =
    let l = simp (drop-nil, length-append) at (ap length t.spelt) in
    omega (arith, framed_length ns)

-- ---- the place, counted from i, of the earliest message
pub record First (i : ℕ) (s : List ℕ) (p : Place) : Type 0 where
  pub place : ℕ
  pub ns : List ℕ
  pub stands : Stands s place ns
  pub none_before : NoneBefore s place
  pub start_at : p.start ≡ i + place + 2
  pub long : p.len ≡ length (body ns)

abbrev Right : ℕ → List ℕ → Option Place → Type 0
Right i s p = MatchOption p (NoMessage s) (First i s)

before_zero : (s : List ℕ) → NoneBefore s 0
before_zero s j h = absurd (not-suc-le-zero h)

later : (i b : ℕ) (s : List ℕ) (p : Option Place) → message_at (b ∷ s) ≡ None → Right (suc i) s p → Right i (b ∷ s) p
later i b s None e r = no
  where
    no : NoMessage (b ∷ s)
    no zero ns t = none_here (b ∷ s) ns e t
    no (suc j) ns t = r j ns (unshift b s j ns t)
later i b s (Some p) e r =
    let l = r.start_at in
    record { place = suc r.place; ns = r.ns; stands = shift b s r.place r.ns r.stands; none_before = no; start_at = omega arith; long = r.long }
  where
    no : NoneBefore (b ∷ s) (suc r.place)
    no zero h ns t = none_here (b ∷ s) ns e t
    no (suc j) h ns t = r.none_before j (le_of_suc-le-suc h) ns (unshift b s j ns t)

right_from : (i : ℕ) (s : List ℕ) → Right i s (located_from i s)
right_from i [] = none_empty
right_from i (b ∷ s) = go (message_at (b ∷ s)) refl (right_from (suc i) s)
  where
    go : (n : Option ℕ) → message_at (b ∷ s) ≡ n → Right (suc i) s (located_from (suc i) s) → Right i (b ∷ s) (placed i n (located_from (suc i) s))
    go None e rest = later i b s (located_from (suc i) s) e rest
    go (Some k) e rest =
        let f = front_of (b ∷ s) k e in
        let l = f.long in
        record {
          place = 0;
          ns = f.ns;
          stands = record { bytes = f.bytes; counted = f.counted; rest = f.rest; spelt = f.spelt };
          none_before = before_zero (b ∷ s);
          start_at = omega arith;
          long = omega arith;
        }

stands_room : (s : List ℕ) (j : ℕ) (ns : List ℕ) → Stands s j ns → j + (8 + length (numbers ns)) ≤ length s
stands_room s j ns t = omega (arith, simp (length-drop, length-append) at (ap length t.spelt))

located_of : (s : List ℕ) (p : Option Place) → p ≡ located s → Right 0 s p → Located s p
located_of s None e r = record { computed = e; answer = r }
located_of s (Some p) e r =
    let a = r.start_at in
    let b = r.long in
    record {
      computed = e;
      answer = (
        omega (arith, stands_room s r.place r.ns r.stands),
        record { place = r.place; ns = r.ns; stands = r.stands; none_before = r.none_before; after_crlf = omega arith; long = b },
      );
    }

-- the computed place has all that the finder promises
pub located_right : (s : List ℕ) → Located s (located s)
unfolding located
located_right s = located_of s (located s) refl (right_from 0 s)

pub located_is : (s : List ℕ) (p : Option Place) → located s ≡ p → Located s p
located_is s p e = rw e at (located_right s)

-- where a message stands, the finder finds one
pub finds_one : (s : List ℕ) (j : ℕ) (ns : List ℕ) → Stands s j ns → located s ≡ None → ⊥
finds_one s j ns t e = (rw e at (located_right s)).answer j ns t

-- too few bytes for a message hold none
pub short_none : (s : List ℕ) → length s < 8 → NoMessage s
short_none s h j ns t = omega (arith, stands_room s j ns t)

-- what the finder says of the stretch at p
abbrev Said : List ℕ → Option Place → Type 0
Said s p = MatchOption p (NoMessage s) (λ q. (q.start + q.len ≤ length s) × Earliest s q.start q.len)

-- the stretch handed back is empty exactly if no message stands anywhere
pub found_empty : (s : List ℕ) → found s ≡ [] → NoMessage s
found_empty s e = go (located s) (located_right s).answer e
  where
    go : (p : Option Place) → Said s p → take (len_of p) (drop (start_of p) s) ≡ [] → NoMessage s
    go None a d = a
    go (Some p) a d =
        let w = a.0 in
        let m = a.1.long in
        let l = simp (length-take, length-drop) at (ap length d) in
        absurd (omega arith)

pub none_found : (s : List ℕ) → NoMessage s → found s ≡ []
none_found s none = go (located s) (located_right s).answer
  where
    go : (p : Option Place) → Said s p → take (len_of p) (drop (start_of p) s) ≡ []
    go None a = refl
    go (Some p) a = absurd (none a.1.place a.1.ns a.1.stands)

-- ---- the finder's loop
pub front_room : (s : List ℕ) (k : ℕ) → message_at s ≡ Some k → 8 + k ≤ length s
front_room s k e =
    let f = front_of s k e in
    omega (arith, f.long, framed_length f.ns, simp length-append at (ap length f.spelt))

module _ (s : List ℕ) (i : ℕ) where
  at_cons : i < length s → located_from i (drop i s) ≡ placed i (message_at (drop i s)) (located_from (suc i) (drop (suc i) s))
  at_cons h = rw (drop-cons s i 0 h)

  pub locate_here : i < length s → (k : ℕ) → message_at (drop i s) ≡ Some k → located_from i (drop i s) ≡ Some (record { start = i + 2; len = 4 + k })
  locate_here h k e = at_cons h ∙ ap (λ (n : Option ℕ). placed i n (located_from (suc i) (drop (suc i) s))) e

  -- what is no CR begins no message
  pub locate_other : i < length s → eqb (get_or s i 0) 13 ≡ false → message_at (drop i s) ≡ None
  locate_other h e = rw (drop-cons s i 0 h, e)

  pub locate_next : i < length s → message_at (drop i s) ≡ None → located_from i (drop i s) ≡ located_from (i + 1) (drop (i + 1) s)
  locate_next h e = at_cons h ∙ ap (λ (n : Option ℕ). placed i n (located_from (suc i) (drop (suc i) s))) e ∙ rw add-one

  pub locate_over : length s ≤ i → located_from i (drop i s) ≡ None
  locate_over h = rw (drop_of_length-le s h)

  pub room_here : i < length s → (k : ℕ) → message_at (drop i s) ≡ Some k → i + (8 + k) ≤ length s
  room_here h k e = omega (arith, simp length-drop at (front_room (drop i s) k e))

pub locate_start : (s : List ℕ) → located s ≡ located_from 0 (drop 0 s)
unfolding located
locate_start s = refl
