-- The numbers of a message read byte by byte: whatever is written by `numbers` is read, and nothing else is.
-- Assumes nothing.
use Prim.Native.Nat.{ℕ, zero, suc, ◌+◌, ◌*◌, ◌-◌, ◌/◌, ◌%◌, ◌≤◌, ◌<◌}
use mathlib.Core.Path.{◌≡◌, refl, sym, ◌∙◌}
use mathlib.Core.Bool.{Bool, true, false, cond, false≢true}
use mathlib.Core.List.{List, [], ◌∷◌, ◌++◌, append_assoc, append-nil}
use native.Mathlib.Nat.{not-suc-le-zero}
use native.Mathlib.Omega.{arith}
use borrow.Author.Tests.{eq-eqb, le-leb, le-ltb, leb-true, ltb-true, ltb-false, eqb-true, eqb-false}
use lib.Dec.{T, eqb, leb, ltb, eqb-zero-suc, eqb-suc-zero, eqb-suc-suc}
use lib.ListN.{length}
use Rattle.std.proofs.Common.{Option, Some, None, option_map}
use Rattle.std.specs.Option.{option_map_or}
use Rattle.laws.specs.Same.{same}
use Rattle.laws.proofs.Same.{same_tested}
use Rattle.laws.proofs.Table.{upto, below}
use Rattle.message.specs.declared.Phase.{Phase}
use Rattle.message.specs.declared.Phase.TheVariants.{First, Rest}
use Rattle.message.specs.declared.Scan.{Scan}
use Rattle.message.specs.declared.Scan.TheVariants.{Opening, Comma, In}
use Rattle.message.specs.Message.{digit, digits, numbers}
use Rattle.message.specs.Find.{AllBytes, Counted}
use Rattle.message.specs.Scan.{ended, whole, is_digit, more, scan, complete}
use Rattle.message.proofs.Digits.{one_digit}
use Rattle.message.proofs.Sizes.{marked_append}
use Rattle.message.proofs.Turns.{digit_bounds, more_fits, in_digit}

-- the bytes of w, from a state on, if there is one still
abbrev next : Option Scan → ℕ → Option Scan
next None b = None
next (Some st) b = scan st b

abbrev pub run : Option Scan → List ℕ → Option Scan
run o [] = o
run o (b ∷ w) = run (next o b) w

-- the numbers of a list, from a phase on, if there is one still
abbrev after : Option Phase → ℕ → Option Phase
after None n = None
after (Some p) n = ended p n

abbrev pub reads : Option Phase → List ℕ → Option Phase
reads o [] = o
reads o (n ∷ ns) = reads (after o n) ns

-- there is a state still, and the numbers may end in it; there is a phase still, and in it they are whole
abbrev pub all_complete : Option Scan → Bool
all_complete o = option_map_or complete o false

abbrev pub all_whole : Option Phase → Bool
all_whole o = option_map_or whole o false

pub run_append : (o : Option Scan) (v w : List ℕ) → run o (v ++ w) ≡ run (run o v) w
run_append o [] w = refl
run_append o (b ∷ v) w = run_append (next o b) v w

pub run_none : (w : List ℕ) → run None w ≡ None
run_none [] = refl
run_none (b ∷ w) = run_none w

reads_append : (o : Option Phase) (ms ns : List ℕ) → reads o (ms ++ ns) ≡ reads (reads o ms) ns
reads_append o [] ns = refl
reads_append o (m ∷ ms) ns = reads_append (after o m) ms ns

-- ---- the second number counts the rest
over : (ns : List ℕ) → all_whole (reads None ns) ≡ false
over [] = refl
over (n ∷ ns) = over ns

left : (n : ℕ) (values : List ℕ) → all_whole (reads (Some (Rest n)) values) ≡ eqb n (length values)
left n [] = refl
left zero (v ∷ values) = over values ∙ sym (eqb-zero-suc (length values))
left (suc n) (v ∷ values) =
    let s : suc n - 1 ≡ n = omega arith in
    rw (eqb-suc-zero n, s, eqb-suc-suc n (length values)) (left n values)

pub counted : (ns : List ℕ) → all_whole (reads (Some First) ns) ≡ true → Counted ns
counted [] e = false≢true e
counted (id ∷ []) e = false≢true e
counted (id ∷ n ∷ values) e = eqb-true n (length values) (sym (left n values) ∙ e)

pub whole_of : (ns : List ℕ) → Counted ns → all_whole (reads (Some First) ns) ≡ true
whole_of [] e = absurd e
whole_of (id ∷ []) e = absurd e
whole_of (id ∷ n ∷ values) e = left n values ∙ eq-eqb n (length values) e

-- ---- the digits of a number, one after another
last_digit : ℕ → Bool
last_digit n = cond (ltb n 10) true (same (digits n) (digits (n / 10) ++ digit (n % 10) ∷ []))

all_digits : T (upto last_digit 256)
unfolding last_digit digits
all_digits = tt

pub digits_split : (n : ℕ) → 10 ≤ n → n ≤ 255 → digits n ≡ digits (n / 10) ++ digit (n % 10) ∷ []
unfolding last_digit
digits_split n l h = same_tested _ _ (rw (le-ltb n 10 l) at (below last_digit 256 all_digits n (omega arith)))

pub digits_more : (v d : ℕ) → (v ≡ 0 → ⊥) → d < 10 → v * 10 + d ≤ 255 → digits (v * 10 + d) ≡ digits v ++ digit d ∷ []
digits_more v d z l h =
    let q : (v * 10 + d) / 10 ≡ v = omega arith in
    let r : (v * 10 + d) % 10 ≡ d = omega arith in
    digits_split (v * 10 + d) (omega arith) h ∙ rw (q, r)

-- ---- what is written is read
is_digit_law : (d : ℕ) → d < 10 → is_digit (digit d) ≡ true
is_digit_law d h =
    let a : 48 ≤ digit d = omega arith in let b : digit d ≤ 57 = omega arith in
    rw (le-leb 48 (digit d) a, le-leb (digit d) 57 b)

value : (d : ℕ) → d ≡ digit d - 48
value d = omega arith

not_comma : (d : ℕ) → digit d ≡ 44 → ⊥
not_comma d e = omega arith

module _ (p : Phase) where
  first_digit : (d : ℕ) → d < 10 → scan (Comma p) (digit d) ≡ Some (In p d)
  first_digit d h = rw (is_digit_law d h, ← value d)

  next_digit : (v d : ℕ) → (v ≡ 0 → ⊥) → d < 10 → v * 10 + d ≤ 255 → scan (In p v) (digit d) ≡ Some (In p (v * 10 + d))
  next_digit v d z l h = sym (in_digit p v (digit d) _ (not_comma d) (is_digit_law d l) (more_fits p v (digit d) v d z refl (value d) h))

  number : (k n : ℕ) → n < k → n ≤ 255 → run (Some (Comma p)) (digits n) ≡ Some (In p n)
  number zero n h m = absurd (not-suc-le-zero h)
  number (suc k) n h m = go (ltb n 10) refl (number k (n / 10))
    where
      go : (b : Bool) → ltb n 10 ≡ b → (n / 10 < k → n / 10 ≤ 255 → run (Some (Comma p)) (digits (n / 10)) ≡ Some (In p (n / 10))) → run (Some (Comma p)) (digits n) ≡ Some (In p n)
      go true e rest = let l : n < 10 = ltb-true n 10 e in rw (one_digit n l) (first_digit n l)
      go false e rest =
          let l : 10 ≤ n = ltb-false n 10 e in
          let j : n / 10 * 10 + n % 10 ≡ n = omega arith in
          let z : n / 10 ≡ 0 → ⊥ = λ y. omega arith in
          rw (digits_split n l m, run_append, rest (omega arith) (omega arith))
          (next_digit (n / 10) (n % 10) z (omega arith) (omega arith) ∙ rw j)

  pub number_read : (n : ℕ) → n ≤ 255 → run (Some (Comma p)) (digits n) ≡ Some (In p n)
  number_read n h = number (suc n) n (omega arith) h

rest_read : (p : Phase) (v : ℕ) (ns : List ℕ) → AllBytes ns → all_complete (run (Some (In p v)) (numbers ns)) ≡ all_whole (reads (ended p v) ns)
rest_read p v [] h = refl
rest_read p v (n ∷ ns) h = go (ended p v) (λ q. rest_read q n ns h.1)
  where
    go : (o : Option Phase) → ((q : Phase) → all_complete (run (Some (In q n)) (numbers ns)) ≡ all_whole (reads (ended q n) ns))
        → all_complete (run (option_map Comma o) (digits n ++ numbers ns)) ≡ all_whole (reads (after o n) ns)
    go None rest = rw (run_none (digits n ++ numbers ns)) (sym (over ns))
    go (Some q) rest = rw (run_append, number_read q n h.0) (rest q)

-- the numbers of a message are read to their end
pub all_read : (ns : List ℕ) → AllBytes ns → Counted ns → all_complete (run (Some Opening) (numbers ns)) ≡ true
all_read [] h e = absurd e
all_read (n ∷ ns) h e = rw (run_append, number_read First n h.0) (rest_read First n ns h.1 ∙ whole_of (n ∷ ns) e)

-- ---- what is read was written
-- whole numbers, and then the beginning of one more
pub record Before (p : Option Phase) (w end : List ℕ) : Type 0 where
  pub ns : List ℕ
  pub bytes : AllBytes ns
  pub phase : p ≡ reads (Some First) ns
  pub spelt : w ≡ numbers ns ++ end

-- what each state says of the bytes read
abbrev pub Read : Option Scan → List ℕ → Type 0
Read None w = Unit {0}
Read (Some Opening) w = w ≡ []
Read (Some (Comma p)) w = Before (Some p) w (44 ∷ [])
Read (Some (In p v)) w = (v ≤ 255) × Before (Some p) w (44 ∷ digits v)

bytes_append : (ns : List ℕ) (v : ℕ) → AllBytes ns → v ≤ 255 → AllBytes (ns ++ v ∷ [])
bytes_append [] v h m = (m, tt)
bytes_append (n ∷ ns) v h m = (h.0, bytes_append ns v h.1 m)

-- a number that ends is one of the whole numbers
finished : (p : Phase) (v : ℕ) (w : List ℕ) → v ≤ 255 → Before (Some p) w (44 ∷ digits v) → Before (ended p v) w []
finished p v w h r =
    record {
      ns = r.ns ++ v ∷ [];
      bytes = bytes_append r.ns v r.bytes h;
      phase = rw (reads_append, ← r.phase);
      spelt = r.spelt ∙ rw (append-nil, marked_append, append-nil);
    }

longer : (p : Option Phase) (w end : List ℕ) (b : ℕ) → Before p w end → Before p (w ++ b ∷ []) (end ++ b ∷ [])
longer p w end b r = record { ns = r.ns; bytes = r.bytes; phase = r.phase; spelt = rw (r.spelt, append_assoc) }

digit_of : (b : ℕ) → 48 ≤ b → digit (b - 48) ≡ b
digit_of b h = omega arith

module _ (p : Phase) (v : ℕ) (w : List ℕ) (b : ℕ) (r : Before (Some p) w (44 ∷ digits v)) (h : 48 ≤ b) (m : b ≤ 57) where
  another : Read (more p v b) (w ++ b ∷ [])
  another = go (eqb v 0) refl (leb (v * 10 + (b - 48)) 255) refl
    where
      go : (t : Bool) → eqb v 0 ≡ t → (u : Bool) → leb (v * 10 + (b - 48)) 255 ≡ u → Read (cond t None (cond u (Some (In p (v * 10 + (b - 48)))) None)) (w ++ b ∷ [])
      go true e u f = tt
      go false e true f =
          let l : v * 10 + (b - 48) ≤ 255 = leb-true _ _ f in
          (l, rw (digits_more v (b - 48) (eqb-false v 0 e) (omega arith) l, digit_of b h) (longer (Some p) w (44 ∷ digits v) b r))
      go false e false f = tt

-- a comma after a number that ended
comma : (o : Option Phase) (w : List ℕ) → Before o w (44 ∷ []) → Read (option_map Comma o) w
comma None w r = tt
comma (Some p) w r = r

step : (o : Option Scan) (w : List ℕ) (b : ℕ) → Read o w → Read (next o b) (w ++ b ∷ [])
step None w b r = tt
step (Some Opening) w b r = go (eqb b 44) refl
  where
    go : (t : Bool) → eqb b 44 ≡ t → Read (cond t (Some (Comma First)) None) (w ++ b ∷ [])
    go true e = record { ns = []; bytes = tt; phase = refl; spelt = rw (r, eqb-true b 44 e) }
    go false e = tt
step (Some (Comma p)) w b r = go (is_digit b) refl
  where
    go : (t : Bool) → is_digit b ≡ t → Read (cond t (Some (In p (b - 48))) None) (w ++ b ∷ [])
    go true e =
        let h = digit_bounds b e in
        (omega arith, rw (one_digit (b - 48) (omega arith), digit_of b h.0) (longer (Some p) w (44 ∷ []) b r))
    go false e = tt
step (Some (In p v)) w b r = go (eqb b 44) refl (is_digit b) refl
  where
    go : (t : Bool) → eqb b 44 ≡ t → (u : Bool) → is_digit b ≡ u → Read (cond t (option_map Comma (ended p v)) (cond u (more p v b) None)) (w ++ b ∷ [])
    go true e u f = comma (ended p v) (w ++ b ∷ []) (rw (eqb-true b 44 e) (longer (ended p v) w [] 44 (finished p v w r.0 r.1)))
    go false e true f = let h = digit_bounds b f in another p v w b r.1 h.0 h.1
    go false e false f = tt

steps : (o : Option Scan) (v w : List ℕ) → Read o v → Read (run o w) (v ++ w)
steps o v [] r = rw append-nil r
steps o v (b ∷ w) r = rw append_assoc at (steps (next o b) (v ++ b ∷ []) w (step o v b r))

-- the bytes are the numbers of a message
pub record Numbered (w : List ℕ) : Type 0 where
  pub ns : List ℕ
  pub bytes : AllBytes ns
  pub count : Counted ns
  pub spelt : w ≡ numbers ns

ending : (o : Option Scan) (w : List ℕ) → Read o w → all_complete o ≡ true → Numbered w
ending None w r e = absurd (false≢true e)
ending (Some Opening) w r e = absurd (false≢true e)
ending (Some (Comma p)) w r e = absurd (false≢true e)
ending (Some (In p v)) w r e =
    let f = finished p v w r.0 r.1 in
    record { ns = f.ns; bytes = f.bytes; count = counted f.ns (rw f.phase at e); spelt = f.spelt ∙ append-nil (numbers f.ns) }

pub read_numbered : (w : List ℕ) → all_complete (run (Some Opening) w) ≡ true → Numbered w
read_numbered w e = ending (run (Some Opening) w) w (steps (Some Opening) [] w refl) e
