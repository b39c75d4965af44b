-- Demand 2 of an item, by its kind and by each test of the sender.
-- Assumes nothing.
use Prim.Native.Nat.{ℕ}
use mathlib.Core.Path.{◌≡◌, refl, sym, ◌∙◌, subst}
use mathlib.Core.Bool.{Bool, true, false, cond, ◌&&◌, false≢true}
use mathlib.Core.List.{List, [], ◌∷◌, ◌++◌}
use lib.Dec.{leb}
use borrow.Author.Tests.{leb-true, le-leb}
use Rattle.std.proofs.lemmas.Bool.{and_parts}
use Rattle.code.specs.Kinds.{kind_of, dependent, moves, shift, shifts}
use Rattle.settings.specs.Options.{endings, limit, onspace, onreturn, filter, ending_codes}
use Rattle.sender.specs.Record.{notes}
use Rattle.sender.specs.Code.{is_case, shift_to, shift_for, unshift, follow, send_as}
use Rattle.sender.specs.Ending.{on_record, ending_code, ending_of, until_zero, due, ending, ending_before}
use Rattle.sender.specs.Item.{last_of, repeats, item}
use Rattle.agree.specs.Sure.{CaseSure}
use Rattle.demands.specs.Names.{Case, Letters, Figures, Kind, Still, Space, Return, Shift, Char, Settings, Record, Wanted, Sender, Option, Some, None}
use Rattle.demands.specs.ItemCodes.{If, NeedsShift, NeedsLetters, Unshifts, Sends, Repeats, Dropped, Reached, EndingDue, ItemSends}

-- One code.

is_case_law : (n : Option Case) (want : Case) → is_case n want ≡ true → n ≡ Some want
is_case_law None want h = absurd (false≢true h)
is_case_law (Some Letters) Letters h = refl
is_case_law (Some Letters) Figures h = absurd (false≢true h)
is_case_law (Some Figures) Letters h = absurd (false≢true h)
is_case_law (Some Figures) Figures h = refl

case_is : (n : Option Case) (want : Case) → n ≡ Some want → is_case n want ≡ true
case_is n Letters h = rw h refl
case_is n Figures h = rw h refl

-- a shift unless its case is on record
shift_to_law : (n : Option Case) (want : Case) → If (n ≡ Some want → ⊥) (shift want ∷ []) (shifts (shift_to n want))
shift_to_law n want = go (is_case n want) refl
  where
    go : (b : Bool) → is_case n want ≡ b → If (n ≡ Some want → ⊥) (shift want ∷ []) (shifts (cond b [] (want ∷ [])))
    go true e = record { holds = λ x. absurd (x (is_case_law n want e)); fails = λ x. refl }
    go false e = record { holds = λ x. refl; fails = λ x. absurd (x (λ h. false≢true (sym e ∙ case_is n want h))) }

-- and of two conditions, one that is settled
with_first : (P Q : Type 0) (codes part : List ℕ) → P → If Q codes part → If (P × Q) codes part
with_first P Q codes part p h = record { holds = λ x. h.holds x.1; fails = λ x. h.fails (λ q. x (p, q)) }

without_first : (P Q : Type 0) (codes : List ℕ) → (P → ⊥) → If (P × Q) codes []
without_first P Q codes n = record { holds = λ x. absurd (n x.0); fails = λ x. refl }

shift_for_law : (n : Option Case) (want : Case) (k : Kind) → If (NeedsShift n want k) (shift want ∷ []) (shifts (shift_for n want k))
shift_for_law n want k = go (dependent k) refl
  where
    go : (b : Bool) → dependent k ≡ b → If ((b ≡ true) × (n ≡ Some want → ⊥)) (shift want ∷ []) (shifts (cond b (shift_to n want) []))
    go true e = with_first (true ≡ true) (n ≡ Some want → ⊥) (shift want ∷ []) (shifts (shift_to n want)) refl (shift_to_law n want)
    go false e = without_first (false ≡ true) (n ≡ Some want → ⊥) (shift want ∷ []) false≢true

unshift_if : (b : Bool) (n : Option Case) → If ((b ≡ true) × (n ≡ Some Letters → ⊥)) (shift Letters ∷ []) (shifts (unshift b n))
unshift_if true n = with_first (true ≡ true) (n ≡ Some Letters → ⊥) (shift Letters ∷ []) (shifts (shift_to n Letters)) refl (shift_to_law n Letters)
unshift_if false n = without_first (false ≡ true) (n ≡ Some Letters → ⊥) (shift Letters ∷ []) false≢true

follow_if : (o : Settings) (n : Option Case) (k : Kind) → If (Unshifts o k × (n ≡ Some Letters → ⊥)) (shift Letters ∷ []) (shifts (follow o n k))
follow_if o n Still = without_first ⊥ (n ≡ Some Letters → ⊥) (shift Letters ∷ []) (λ x. x)
follow_if o n Space = unshift_if (onspace o) n
follow_if o n Return = unshift_if (onreturn o) n
follow_if o n (Shift to) = without_first ⊥ (n ≡ Some Letters → ⊥) (shift Letters ∷ []) (λ x. x)
follow_if o n (Char bell) = without_first ⊥ (n ≡ Some Letters → ⊥) (shift Letters ∷ []) (λ x. x)

-- a code in its wanted case
code_sends : (o : Settings) (n : Option Case) (want : Case) (c : ℕ) → Sends o n (NeedsShift n want (kind_of c)) want c (send_as o n want c)
code_sends o n want c = record { before = shifts (shift_for n want (kind_of c)); after = shifts (follow o n (kind_of c)); all = refl; shifted = shift_for_law n want (kind_of c); unshifted = follow_if o n (kind_of c) }

-- a code of string 90 goes in whatever case is on record; met with the case unknown, it is preceded by LTRS if it depends on case
pub ending_code_sends : (o : Settings) (n : Option Case) (c : ℕ) → Sends o n (NeedsLetters n (kind_of c)) Letters c (ending_code o n c)
ending_code_sends o n c = record { before = shifts (shift_for n (on_record n) (kind_of c)); after = shifts (follow o n (kind_of c)); all = refl; shifted = go n (dependent (kind_of c)) refl; unshifted = follow_if o n (kind_of c) }
  where
    unknown : (case : Case) → Some case ≡ None → ⊥
    unknown case e = subst CaseSure e tt

    go : (n : Option Case) (b : Bool) → dependent (kind_of c) ≡ b → If ((b ≡ true) × (n ≡ None)) (shift Letters ∷ []) (shifts (cond b (shift_to n (on_record n)) []))
    go n false e = without_first (false ≡ true) (n ≡ None) (shift Letters ∷ []) false≢true
    go None true e = record { holds = λ x. refl; fails = λ x. absurd (x (refl, refl)) }
    go (Some Letters) true e = record { holds = λ x. absurd (unknown Letters x.1); fails = λ x. refl }
    go (Some Figures) true e = record { holds = λ x. absurd (unknown Figures x.1); fails = λ x. refl }

-- One item.

-- option 72
repeated : (k : Kind) (l : Option Case) → repeats (last_of k) l ≡ true → Repeats k l
repeated Still l h = absurd (false≢true h)
repeated Space l h = absurd (false≢true h)
repeated Return l h = absurd (false≢true h)
repeated (Shift to) None h = absurd (false≢true h)
repeated (Shift Letters) (Some Letters) h = refl
repeated (Shift Letters) (Some Figures) h = absurd (false≢true h)
repeated (Shift Figures) (Some Letters) h = absurd (false≢true h)
repeated (Shift Figures) (Some Figures) h = refl
repeated (Char bell) l h = absurd (false≢true h)

repeating : (k : Kind) (l : Option Case) → Repeats k l → repeats (last_of k) l ≡ true
repeating Still l h = absurd h
repeating Space l h = absurd h
repeating Return l h = absurd h
repeating (Shift to) None h = absurd h
repeating (Shift to) (Some Letters) h = rw h refl
repeating (Shift to) (Some Figures) h = rw h refl
repeating (Char bell) l h = absurd h

-- option 49
is_due : (o : Settings) (col : Option ℕ) → due o col ≡ true → (endings o ≡ true) × Reached o col
is_due o None h = absurd (false≢true h)
is_due o (Some n) h = let p = and_parts (endings o) (leb (limit o) n) h in (p.0, leb-true (limit o) n p.1)

due_is : (o : Settings) (col : Option ℕ) → endings o ≡ true → Reached o col → due o col ≡ true
due_is o None e h = absurd h
due_is o (Some n) e h = rw (e, le-leb (limit o) n h) refl

ending_if : (o : Settings) (r : Record) (w : Wanted) → If (EndingDue o r w) (ending_of o r (until_zero (ending_codes o))) (ending_before o r w)
ending_if o r w = go (moves w.case (kind_of w.code) && due o r.column) refl
  where
    m : Bool
    m = moves w.case (kind_of w.code)

    go : (b : Bool) → m && due o r.column ≡ b → If (EndingDue o r w) (ending_of o r (until_zero (ending_codes o))) (ending o r b)
    go true e =
        let p = and_parts m (due o r.column) e in
        let q = is_due o r.column p.1 in
        record { holds = λ x. refl; fails = λ n. absurd (n (q.0, (q.1, p.0))) }
    go false e = record { holds = λ x. absurd (false≢true (sym e ∙ rw (x.1.1, due_is o r.column x.0 x.1.0) refl)); fails = λ n. refl }

-- nothing exactly if it is dropped, string 90 exactly if its condition holds, the shift exactly if it is needed, the code, and
-- LTRS exactly if 70 or 71 asks
pub item_sends : (o : Settings) (s : Sender) (w : Wanted) → ItemSends o s w (item o s w)
item_sends o s w = go (repeats (last_of (kind_of w.code)) s.last) (filter o) refl refl
  where
    k : Kind
    k = kind_of w.code

    string : List ℕ
    string = ending_before o s.held w

    own : List ℕ
    own = send_as o (notes o s.held string).case w.case w.code

    go : (p q : Bool) → repeats (last_of k) s.last ≡ p → filter o ≡ q → ItemSends o s w (cond (p && q) [] (string ++ own))
    go p q e f = record {
      string = string;
      own = own;
      dropped = λ d. rw (sym e ∙ repeating k s.last d.1, sym f ∙ d.0) refl;
      sent = λ n. kept p q e f n;
      ending = ending_if o s.held w;
      code = code_sends o (notes o s.held string).case w.case w.code;
    }
      where
        kept : (p q : Bool) → repeats (last_of k) s.last ≡ p → filter o ≡ q → (Dropped o s w → ⊥) → cond (p && q) [] (string ++ own) ≡ string ++ own
        kept true true e f n = absurd (n (f, repeated k s.last e))
        kept true false e f n = refl
        kept false q e f n = refl
