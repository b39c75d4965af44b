-- Each wrong ending fails demand 3: whatever stretches its codes are split into, string 90 prints three characters and has five
-- codes, so the codes' count of both tells how many endings there are, and what is left for the byte's own.
-- Assumes nothing.
use Prim.Native.Nat.{ℕ, ◌+◌, ◌*◌, ◌≤◌}
use mathlib.Core.Path.{◌≡◌, refl, sym, ap, subst, ◌∙◌}
use mathlib.Core.Bool.{Bool, true, false, cond, false≢true}
use mathlib.Core.List.{List, [], ◌∷◌, ◌++◌}
use native.Mathlib.Omega.{arith}
use lib.ListN.{length, length-append}
use Rattle.code.specs.Rows.{row_at}
use Rattle.code.specs.Kinds.{kind_of}
use Rattle.code.proofs.Laws.{kind_shift}
use Rattle.settings.specs.Table.{factory}
use Rattle.settings.specs.Options.{endings, ending_codes}
use Rattle.printer.specs.Printer.{hear, hears, mark_as, prints_as, prints_all}
use Rattle.sender.specs.Ending.{until_zero}
use Rattle.demands.specs.Names.{Letters, Kind, Still, Space, Return, Shift, Char, Settings, Printer, Mark}
use Rattle.demands.specs.Printing.{Stretch, codes_in, GoesOut, Endings, characters_of, own_prints, Printed}
use Rattle.demands.specs.WrongEndings.{prints_more, filtered, ended}
use Rattle.demands.proofs.Stretches.{plain_printed}

-- how many characters codes print, whatever the printer
abbrev mark_at : Kind → ℕ
mark_at Still = 1
mark_at Space = 1
mark_at Return = 1
mark_at (Shift to) = 0
mark_at (Char bell) = 1

abbrev marks : List ℕ → ℕ
marks [] = 0
marks (c ∷ cs) = mark_at (kind_of c) + marks cs

marks_append : (xs ys : List ℕ) → marks (xs ++ ys) ≡ marks xs + marks ys
marks_append [] ys = omega arith
marks_append (x ∷ xs) ys = omega (arith, marks_append xs ys)

marked_at : (k : Kind) (m : Mark) (ms : List Mark) → length (characters_of (prints_as k m ++ ms)) ≡ mark_at k + length (characters_of ms)
marked_at Still m ms = omega arith
marked_at Space m ms = omega arith
marked_at Return m ms = omega arith
marked_at (Shift to) m ms = omega arith
marked_at (Char bell) m ms = omega arith

marked : (p : Printer) (cs : List ℕ) → length (characters_of (prints_all p cs)) ≡ marks cs
marked p [] = refl
marked p (c ∷ cs) = let k = kind_of c in rw (marked_at k (mark_as k p.case p.count c) (prints_all (hear p c) cs), marked (hear p c) cs)

-- how many of the stretches are endings
abbrev endings_in : List Stretch → ℕ
endings_in [] = 0
endings_in (x ∷ xs) = cond x.ending 1 0 + endings_in xs

module _ (o : Settings) where
  -- the LTRS that go with it add codes and print nothing
  goes_marks : {cs sent : List ℕ} → GoesOut o cs sent → marks sent ≡ marks cs
  goes_marks GoesOut.End = refl
  goes_marks (GoesOut.Alone h) = rw (goes_marks h)
  goes_marks (GoesOut.Led e h) = omega (arith, ap mark_at (kind_shift Letters), goes_marks h)
  goes_marks (GoesOut.Spaced e on h) = omega (arith, ap mark_at (kind_shift Letters), goes_marks h)
  goes_marks (GoesOut.Returned e on h) = omega (arith, ap mark_at (kind_shift Letters), goes_marks h)

  goes_length : {cs sent : List ℕ} → GoesOut o cs sent → length cs ≤ length sent
  goes_length GoesOut.End = omega arith
  goes_length (GoesOut.Alone h) = omega (arith, goes_length h)
  goes_length (GoesOut.Led e h) = omega (arith, goes_length h)
  goes_length (GoesOut.Spaced e on h) = omega (arith, goes_length h)
  goes_length (GoesOut.Returned e on h) = omega (arith, goes_length h)

  module _ (three : marks (until_zero (ending_codes o)) ≡ 3) (five : length (until_zero (ending_codes o)) ≡ 5) where
    own_count : (p : Printer) (xs : List Stretch) → Endings o xs → length (own_prints p xs) + 3 * endings_in xs ≡ marks (codes_in xs)
    own_count p [] h = omega arith
    own_count p (x ∷ xs) h = go x.ending h.0 (own_count (hears p x.codes) xs h.1)
      where
        rest : List ℕ
        rest = own_prints (hears p x.codes) xs

        go : (b : Bool) → (b ≡ true → (endings o ≡ true) × GoesOut o (until_zero (ending_codes o)) x.codes) → length rest + 3 * endings_in xs ≡ marks (codes_in xs)
            → length (cond b [] (characters_of (prints_all p x.codes)) ++ rest) + 3 * (cond b 1 0 + endings_in xs) ≡ marks (x.codes ++ codes_in xs)
        go true e t = omega (arith, t, three, marks_append x.codes (codes_in xs), goes_marks (e refl).1)
        go false e t = omega (arith, t, marks_append x.codes (codes_in xs), marked p x.codes, length-append (characters_of (prints_all p x.codes)) rest)

    code_count : (xs : List Stretch) → Endings o xs → 5 * endings_in xs ≤ length (codes_in xs)
    code_count [] h = omega arith
    code_count (x ∷ xs) h = go x.ending h.0 (code_count xs h.1)
      where
        go : (b : Bool) → (b ≡ true → (endings o ≡ true) × GoesOut o (until_zero (ending_codes o)) x.codes) → 5 * endings_in xs ≤ length (codes_in xs)
            → 5 * (cond b 1 0 + endings_in xs) ≤ length (x.codes ++ codes_in xs)
        go true e t = omega (arith, t, five, length-append x.codes (codes_in xs), goes_length (e refl).1)
        go false e t = omega (arith, t, length-append x.codes (codes_in xs))

-- With string 90 as the factory has it, and any printer.
module _ (o : Settings) (string : ending_codes o ≡ ending_codes factory) (p : Printer) where
  counts : (cs asked : List ℕ) (h : Printed o p cs asked) → (length asked + 3 * endings_in h.stretches ≡ marks cs) × (5 * endings_in h.stretches ≤ length cs)
  unfolding kind_of row_at ending_codes
  counts cs asked h =
      let three : marks (until_zero (ending_codes o)) ≡ 3 = ap (λ (xs : List ℕ). marks (until_zero xs)) string in
      let five : length (until_zero (ending_codes o)) ≡ 5 = ap (λ (xs : List ℕ). length (until_zero xs)) string in
      rw (h.whole, ← h.own) (own_count o three five p h.stretches h.endings, code_count o three five h.stretches h.endings)

  pub prints_more_fails : Printed o p prints_more (75 ∷ []) → ⊥
  unfolding kind_of row_at
  prints_more_fails h =
      let e : 1 + 3 * endings_in h.stretches ≡ 5 = (counts prints_more (75 ∷ []) h).0 in
      omega (arith, e)

  pub filtered_fails : Printed o p filtered (75 ∷ []) → ⊥
  unfolding kind_of row_at
  filtered_fails h =
      let e : 1 + 3 * endings_in h.stretches ≡ 4 = (counts filtered (75 ∷ []) h).0 in
      let l : 5 * endings_in h.stretches ≤ 4 = (counts filtered (75 ∷ []) h).1 in
      omega (arith, e, l)

  -- an ending with 49 off
  pub unasked_fails : endings o ≡ false → Printed o p ended (75 ∷ []) → ⊥
  unfolding kind_of row_at
  unasked_fails off h =
      let e : ◌≡◌ {A = ℕ} 4 1 = sym (marked p ended) ∙ ap length (plain_printed o off p ended (75 ∷ []) h) in
      omega (arith, e)

  -- with 49 on it is right
  pub ended_prints : endings o ≡ true → Printed o p ended (75 ∷ [])
  unfolding kind_of row_at ending_codes
  ended_prints on = record {
    stretches = record { ending = true; codes = 8 ∷ 8 ∷ 2 ∷ 31 ∷ 31 ∷ [] } ∷ record { ending = false; codes = 15 ∷ [] } ∷ [];
    whole = refl;
    endings = (
      λ e.
          (on, subst (λ (cs : List ℕ). GoesOut o (until_zero cs) (8 ∷ 8 ∷ 2 ∷ 31 ∷ 31 ∷ [])) (sym string) (GoesOut.Alone (GoesOut.Alone (GoesOut.Alone (GoesOut.Alone (GoesOut.Alone GoesOut.End)))))),
      (λ e. absurd (false≢true e), tt),
    );
    own = refl;
  }
