-- What is on record stays there while items are sent, and a code that tells it puts it there. Both are one law, folded over the
-- codes: `b` says that it was on record before.
-- Assumes nothing.
use Prim.Native.Nat.{ℕ}
use mathlib.Core.Path.{◌≡◌, refl, sym, ◌∙◌}
use mathlib.Core.Bool.{Bool, true, false, cond, ◌&&◌, ◌||◌, or-false, or_assoc}
use mathlib.Core.List.{List, [], ◌∷◌, ◌++◌}
use Rattle.code.specs.Kinds.{kind_of, strikes, moves, shifts}
use Rattle.code.proofs.Laws.{kind_shift}
use Rattle.settings.specs.Options.{onspace, onreturn, ending_codes}
use Rattle.sender.specs.Record.{next, notes}
use Rattle.sender.specs.Code.{shift_to, unshift, send_kind, send_as}
use Rattle.sender.specs.Ending.{on_record, ending_code, ending_of, until_zero, due, ending, ending_before}
use Rattle.sender.specs.Item.{item, after_item, items, after_items}
use Rattle.sender.specs.After.{after_unshift, after_case, after_column}
use Rattle.sender.proofs.Append.{notes_append}
use Rattle.agree.specs.Names.{Case, Kind, Still, Space, Return, Shift, Char, Settings, Record, Wanted, Sender, Option, Some, None}
use Rattle.agree.specs.Sure.{ColumnSure, CaseSure, is_return, is_cased, holds}
use Rattle.sender.proofs.After.{record_after}
use Rattle.agree.proofs.Folds.{item_cases, items_noted}

pub holds_append : (f : Kind → Bool) (xs ys : List ℕ) → holds f (xs ++ ys) ≡ (holds f xs || holds f ys)
holds_append f [] ys = refl
holds_append f (x ∷ xs) ys = rw (holds_append f xs ys, or_assoc)

-- known before or told by the codes: known after them
abbrev pub Told : Settings → (Record → Type 0) → (Kind → Bool) → Record → List ℕ → Type 0
Told o K f r cs = (b : Bool) → (b ≡ true → K r) → (b || holds f cs) ≡ true → K (notes o r cs)

module _ (o : Settings) (K : Record → Type 0) (f : Kind → Bool) (code : (r : Record) (want : Case) (c : ℕ) → Told o K f r (send_as o r.case want c)) where
  told_none : (r : Record) → Told o K f r []
  told_none r b before h = before (sym (or-false b) ∙ h)

  told_append : (r : Record) (xs ys : List ℕ) → Told o K f r xs → Told o K f (notes o r xs) ys → Told o K f r (xs ++ ys)
  told_append r xs ys t u b before h = rw (notes_append o r xs ys) (u (b || holds f xs) (t b before) (or_assoc b (holds f xs) (holds f ys) ∙ rw (holds_append f xs ys) at h))

  told_string : (r : Record) (cs : List ℕ) → Told o K f r (ending_of o r cs)
  told_string r [] = told_none r
  told_string r (c ∷ cs) =
      let s = ending_code o r.case c in
      told_append r s (ending_of o (notes o r s) cs) (code r (on_record r.case) c) (told_string (notes o r s) cs)

  pub told_before : (r : Record) (w : Wanted) → Told o K f r (ending_before o r w)
  told_before r w = go (moves w.case (kind_of w.code) && due o r.column)
    where
      go : (b : Bool) → Told o K f r (ending o r b)
      go true = told_string r (until_zero (ending_codes o))
      go false = told_none r

  told_item : (s : Sender) (w : Wanted) → Told o K f s.held (item o s w)
  told_item s w =
      let e = ending_before o s.held w in
      item_cases o s w (Told o K f s.held) (told_none s.held)
      (told_append s.held e (send_as o (notes o s.held e).case w.case w.code) (told_before s.held w) (code (notes o s.held e) w.case w.code))

  pub told_items : (s : Sender) (ws : List Wanted) → Told o K f s.held (items o s ws)
  told_items s [] = told_none s.held
  told_items s (w ∷ ws) = told_append s.held (item o s w) (items o (after_item o s w) ws) (told_item s w) (told_items (after_item o s w) ws)

-- The column: a return tells it.

next_sure : (col : Option ℕ) → ColumnSure col → ColumnSure (next col)
next_sure None f = f
next_sure (Some n) f = tt

char_sure : (b : Bool) (col : Option ℕ) → ColumnSure col → ColumnSure (cond b (next col) col)
char_sure true col f = next_sure col f
char_sure false col f = f

shifts_silent : (ts : List Case) → holds is_return (shifts ts) ≡ false
shifts_silent [] = refl
shifts_silent (to ∷ ts) = rw (kind_shift to, shifts_silent ts)

-- a code sent returns if it is a return, for its shifts do not
code_returns : (o : Settings) (n : Option Case) (want : Case) (c : ℕ) → holds is_return (send_as o n want c) ≡ is_return (kind_of c)
code_returns o n want c = go (kind_of c) refl
  where
    go : (k : Kind) → kind_of c ≡ k → holds is_return (send_kind o n want k c) ≡ is_return k
    go Still e = rw e
    go Space e = rw (e, shifts_silent (unshift (onspace o) n))
    go Return e = rw e
    go (Shift to) e = rw e
    go (Char bell) e = rw (holds_append is_return (shifts (shift_to n want)) (c ∷ []), shifts_silent (shift_to n want), e)

column_code : (o : Settings) (r : Record) (want : Case) (c : ℕ) → Told o (λ q. ColumnSure q.column) is_return r (send_as o r.case want c)
column_code o r want c b before h = rw (record_after o r want c) (go (kind_of c) (rw (code_returns o r.case want c) at h))
  where
    known : (b || false) ≡ true → ColumnSure r.column
    known h = before (sym (or-false b) ∙ h)

    go : (k : Kind) → (b || is_return k) ≡ true → ColumnSure (after_column r.column want k)
    go Still h = known h
    go Space h = next_sure r.column (known h)
    go Return h = tt
    go (Shift to) h = known h
    go (Char bell) h = char_sure (strikes bell want) r.column (known h)

-- an ending keeps it
pub ending_keeps : (o : Settings) (r : Record) (w : Wanted) → ColumnSure r.column → ColumnSure (notes o r (ending_before o r w)).column
ending_keeps o r w f = told_before o (λ q. ColumnSure q.column) is_return (column_code o) r w true (λ h. f) refl

-- on record before, or a return among the codes of the items: on record after them
pub column_told : (o : Settings) (s : Sender) (ws : List Wanted) (b : Bool) → (b ≡ true → ColumnSure s.held.column)
    → (b || holds is_return (items o s ws)) ≡ true → ColumnSure (after_items o s ws).held.column
column_told o s ws b before h = rw (items_noted o s ws) (told_items o (λ q. ColumnSure q.column) is_return (column_code o) s ws b before h)

-- The case: a shift or a code that depends on case tells it.

case_code : (o : Settings) (r : Record) (want : Case) (c : ℕ) → Told o (λ q. CaseSure q.case) is_cased r (send_as o r.case want c)
case_code o r want c b before h = rw (record_after o r want c) (go (kind_of c) refl h)
  where
    known : (b || false) ≡ true → CaseSure r.case
    known h = before (sym (or-false b) ∙ h)

    unshifted : (on : Bool) → (b || holds is_cased (shifts (unshift on r.case))) ≡ true → CaseSure (after_unshift on r.case)
    unshifted true h = tt
    unshifted false h = known h

    go : (k : Kind) → kind_of c ≡ k → (b || holds is_cased (send_kind o r.case want k c)) ≡ true → CaseSure (after_case o r.case want k)
    go Still e h = known (rw e at h)
    go Space e h = unshifted (onspace o) (rw e at h)
    go Return e h = unshifted (onreturn o) (rw e at h)
    go (Shift to) e h = tt
    go (Char bell) e h = tt

pub case_told : (o : Settings) (s : Sender) (ws : List Wanted) (b : Bool) → (b ≡ true → CaseSure s.held.case)
    → (b || holds is_cased (items o s ws)) ≡ true → CaseSure (after_items o s ws).held.case
case_told o s ws b before h = rw (items_noted o s ws) (told_items o (λ q. CaseSure q.case) is_cased (case_code o) s ws b before h)
