-- Codes that print what is asked for, between endings: so do two lists of them joined, so an item, and so many.
-- Assumes nothing.
use Prim.Native.Nat.{ℕ}
use mathlib.Core.Path.{◌≡◌, refl, sym, ap, ◌∙◌}
use mathlib.Core.Bool.{Bool, true, false, cond, ◌&&◌, false≢true}
use mathlib.Core.List.{List, [], ◌∷◌, ◌++◌, append_assoc, append-nil}
use Rattle.std.proofs.lemmas.Bool.{and_parts}
use lib.Dec.{leb}
use Rattle.code.specs.Kinds.{kind_of, dependent, moves, shift, shifts}
use Rattle.settings.specs.Options.{endings, limit, onspace, onreturn, ending_codes}
use Rattle.printer.specs.Printer.{hear, hears, mark_as, prints_as, prints_all}
use Rattle.sender.specs.Record.{notes}
use Rattle.sender.specs.Code.{is_case, shift_to, unshift, send_kind, send_as}
use Rattle.sender.specs.Ending.{on_record, ending_code, ending_of, until_zero, due, ending, ending_before}
use Rattle.sender.specs.Item.{character, last_of, item, after_item, items}
use Rattle.agree.specs.Agrees.{Agrees, Obeys}
use Rattle.agree.proofs.Agreement.{agreement}
use Rattle.agree.proofs.Folds.{prints_append, obeys_append, item_cases}
use Rattle.agree.proofs.Prints.{code_prints}
use Rattle.demands.specs.Names.{Case, Letters, Figures, Kind, Still, Space, Return, Shift, Char, Settings, Record, Wanted, Sender, Printer, Mark, Option, Some, None}
use Rattle.demands.specs.Asks.{is_shift, code_in}
use Rattle.demands.specs.Printing.{Stretch, codes_in, GoesOut, Endings, characters_of, own_prints, Printed}
use Rattle.demands.proofs.Reading.{reads}

-- Two lists joined.

pub characters_append : (xs ys : List Mark) → characters_of (xs ++ ys) ≡ characters_of xs ++ characters_of ys
characters_append [] ys = refl
characters_append (x ∷ xs) ys = rw (characters_append xs ys)

hears_append : (p : Printer) (xs ys : List ℕ) → hears p (xs ++ ys) ≡ hears (hears p xs) ys
hears_append p [] ys = refl
hears_append p (x ∷ xs) ys = hears_append (hear p x) xs ys

codes_append : (xs ys : List Stretch) → codes_in (xs ++ ys) ≡ codes_in xs ++ codes_in ys
codes_append [] ys = refl
codes_append (x ∷ xs) ys = rw (codes_append xs ys, append_assoc)

own_append : (p : Printer) (xs ys : List Stretch) → own_prints p (xs ++ ys) ≡ own_prints p xs ++ own_prints (hears p (codes_in xs)) ys
own_append p [] ys = refl
own_append p (x ∷ xs) ys = rw (own_append (hears p x.codes) xs ys, hears_append p x.codes (codes_in xs), append_assoc)

module _ (o : Settings) where
  endings_append : (xs ys : List Stretch) → Endings o xs → Endings o ys → Endings o (xs ++ ys)
  endings_append [] ys h t = t
  endings_append (x ∷ xs) ys h t = (h.0, endings_append xs ys h.1 t)

  printed_append : (p : Printer) (xs ys mine bs : List ℕ) → Printed o p xs mine → Printed o (hears p xs) ys bs → Printed o p (xs ++ ys) (mine ++ bs)
  printed_append p xs ys mine bs h t = record {
    stretches = h.stretches ++ t.stretches;
    whole = rw (codes_append h.stretches t.stretches, ← h.whole, ← t.whole) refl;
    endings = endings_append h.stretches t.stretches h.endings t.endings;
    own = rw (own_append p h.stretches t.stretches, ← h.whole, h.own, t.own) refl;
  }

  -- nothing, and codes of its own

  printed_none : (p : Printer) → Printed o p [] []
  printed_none p = record { stretches = []; whole = refl; endings = tt; own = refl }

  own_printed : (p : Printer) (cs mine : List ℕ) → characters_of (prints_all p cs) ≡ mine → Printed o p cs mine
  own_printed p cs mine h = record {
    stretches = record { ending = false; codes = cs } ∷ [];
    whole = sym (append-nil cs);
    endings = (λ e. absurd (false≢true e), tt);
    own = append-nil (characters_of (prints_all p cs)) ∙ h;
  }

  -- String 90 as it goes out.

  module _ (c : ℕ) (cs sent : List ℕ) (h : GoesOut o cs sent) where
    -- with its option on, LTRS follows unless the case is letters
    followed : (on : Bool) (n : Option Case) → (on ≡ true → GoesOut o (c ∷ cs) (c ∷ shift Letters ∷ sent)) → GoesOut o (c ∷ cs) (c ∷ shifts (unshift on n) ++ sent)
    followed false n t = GoesOut.Alone h
    followed true n t = go (is_case n Letters)
      where
        go : (b : Bool) → GoesOut o (c ∷ cs) (c ∷ shifts (cond b [] (Letters ∷ [])) ++ sent)
        go true = GoesOut.Alone h
        go false = t refl

    -- met with the case unknown, it is preceded by LTRS
    led : (n : Option Case) → dependent (kind_of c) ≡ true → GoesOut o (c ∷ cs) ((shifts (shift_to n (on_record n)) ++ c ∷ []) ++ sent)
    led None e = GoesOut.Led e h
    led (Some Letters) e = GoesOut.Alone h
    led (Some Figures) e = GoesOut.Alone h

    code_goes : (n : Option Case) → GoesOut o (c ∷ cs) (ending_code o n c ++ sent)
    code_goes n = go (kind_of c) refl
      where
        go : (k : Kind) → kind_of c ≡ k → GoesOut o (c ∷ cs) (send_kind o n (on_record n) k c ++ sent)
        go Still e = GoesOut.Alone h
        go Space e = followed (onspace o) n (λ on. GoesOut.Spaced e on h)
        go Return e = followed (onreturn o) n (λ on. GoesOut.Returned e on h)
        go (Shift to) e = GoesOut.Alone h
        go (Char bell) e = led n (ap dependent e)

  string_goes : (r : Record) (cs : List ℕ) → GoesOut o cs (ending_of o r cs)
  string_goes r [] = GoesOut.End
  string_goes r (c ∷ cs) =
      let next = notes o r (ending_code o r.case c) in
      code_goes c cs (ending_of o next cs) (string_goes next cs) r.case

  is_on : (col : Option ℕ) → due o col ≡ true → endings o ≡ true
  is_on None h = absurd (false≢true h)
  is_on (Some n) h = (and_parts (endings o) (leb (limit o) n) h).0

  -- string 90 if it is due
  ending_printed : (p : Printer) (r : Record) (b : Bool) → (b ≡ true → endings o ≡ true) → Printed o p (ending o r b) []
  ending_printed p r false h = printed_none p
  ending_printed p r true h =
      let string = until_zero (ending_codes o) in
      record {
        stretches = record { ending = true; codes = ending_of o r string } ∷ [];
        whole = sym (append-nil (ending_of o r string));
        endings = (λ e. (h refl, string_goes r string), tt);
        own = refl;
      }

  -- Items.

  characters : (k : Kind) (m : Mark) → characters_of (prints_as k m) ≡ cond (is_shift k) [] (m.character ∷ [])
  characters Still m = refl
  characters Space m = refl
  characters Return m = refl
  characters (Shift to) m = refl
  characters (Char bell) m = refl

  character_printed : (r : Record) (p : Printer) (w : Wanted) → Obeys o p (character o r w) → Agrees r p → Printed o p (character o r w) (code_in w.case w.code)
  character_printed r p w obeys a =
      let k = kind_of w.code in
      let e = ending_before o r w in
      let q = hears p e in
      let cs = send_as o (notes o r e).case w.case w.code in
      let b = agreement o r p e (obeys_append o p e cs obeys).0 a in
      let own = ap characters_of (code_prints o (notes o r e) q w.case w.code b) ∙ characters k (mark_as k w.case q.count w.code) in
      printed_append p e cs [] (code_in w.case w.code)
      (ending_printed p r (moves w.case k && due o r.column) (λ h. is_on r.column (and_parts (moves w.case k) (due o r.column) h).1))
      (own_printed q cs (code_in w.case w.code) own)

  -- a shift may be dropped, and has nothing to print
  item_printed : (s : Sender) (p : Printer) (w : Wanted) → Obeys o p (item o s w) → Agrees s.held p → Printed o p (item o s w) (code_in w.case w.code)
  item_printed s p w obeys a = go (kind_of w.code) refl
    where
      sent : last_of (kind_of w.code) ≡ None → Printed o p (item o s w) (code_in w.case w.code)
      sent h = rw h (character_printed s.held p w (rw h at obeys) a)

      go : (k : Kind) → kind_of w.code ≡ k → Printed o p (item o s w) (code_in w.case w.code)
      go Still e = sent (ap last_of e)
      go Space e = sent (ap last_of e)
      go Return e = sent (ap last_of e)
      go (Shift to) e = item_cases o s w (λ cs. Obeys o p cs → Printed o p cs (code_in w.case w.code)) (λ h. rw e (printed_none p)) (λ h. character_printed s.held p w h a) obeys
      go (Char bell) e = sent (ap last_of e)

  -- items print as they read
  pub items_printed : (s : Sender) (p : Printer) (ws : List Wanted) → Obeys o p (items o s ws) → Agrees s.held p → Printed o p (items o s ws) (reads ws)
  items_printed s p [] obeys a = printed_none p
  items_printed s p (w ∷ ws) obeys a =
      let cs = item o s w in
      let rest = items o (after_item o s w) ws in
      let both = obeys_append o p cs rest obeys in
      printed_append p cs rest (code_in w.case w.code) (reads ws) (item_printed s p w both.0 a)
      (items_printed (after_item o s w) (hears p cs) ws both.1 (agreement o s.held p cs both.0 a))

  -- With 49 off there is no ending, and all that is printed was asked for.
  module _ (off : endings o ≡ false) where
    all_own : (p : Printer) (xs : List Stretch) → Endings o xs → own_prints p xs ≡ characters_of (prints_all p (codes_in xs))
    all_own p [] h = refl
    all_own p (x ∷ xs) h =
        go x.ending refl
        ∙ ap (λ (u : List ℕ). characters_of (prints_all p x.codes) ++ u) (all_own (hears p x.codes) xs h.1)
        ∙ sym (characters_append (prints_all p x.codes) (prints_all (hears p x.codes) (codes_in xs)))
        ∙ ap characters_of (sym (prints_append p x.codes (codes_in xs)))
      where
        rest : List ℕ
        rest = own_prints (hears p x.codes) xs

        go : (b : Bool) → x.ending ≡ b → cond b [] (characters_of (prints_all p x.codes)) ++ rest ≡ characters_of (prints_all p x.codes) ++ rest
        go true e = absurd (false≢true (sym off ∙ (h.0 e).0))
        go false e = refl

    pub plain_printed : (p : Printer) (cs mine : List ℕ) → Printed o p cs mine → characters_of (prints_all p cs) ≡ mine
    plain_printed p cs mine h = ap (λ (u : List ℕ). characters_of (prints_all p u)) h.whole ∙ sym (all_own p h.stretches h.endings) ∙ h.own
