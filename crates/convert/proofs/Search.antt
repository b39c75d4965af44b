-- The definition's search is the place where a byte first stands in the rows one after the other: over any rows, and then over the two.
-- Assumes nothing.
use Prim.Native.Nat.{ℕ, suc, ◌+◌, ◌-◌, ◌<◌, ◌≤◌}
use mathlib.Core.Path.{◌≡◌, refl, ap, sym, ◌∙◌}
use mathlib.Core.Bool.{Bool, true, false, cond, and-false}
use mathlib.Core.List.{List, [], ◌∷◌, ◌++◌}
use native.Mathlib.Omega.{arith}
use native.Mathlib.Nat.{add-zero, zero-add, add-suc, suc-add, le_of_suc-le-suc, not-suc-le-zero}
use lib.Dec.{eqb}
use borrow.Author.Tests.{le-leb, lt-leb, eq-eqb, ne_eqb}
use mathlib.Core.Logic.{inl, inr, ◌≢◌}
use Rattle.std.proofs.Common.{Option, Some, None}
use Rattle.std.proofs.lemmas.Grind.{get_or_default_zero}
use Rattle.std.specs.Char.{UppercasesTo}
use Rattle.std.specs.List.{AllWithin, HoldsAt}
use Rattle.std.specs.Option.{MatchOption, unwrap_or}
use Rattle.std.proofs.lemmas.Iterator.{index_from_first}
use native.Mathlib.Numerals.{add-one}
use lib.ListN.{length, get_or}
use Rattle.code.specs.declared.Case.{Case}
use Rattle.code.specs.declared.Case.TheVariants.{Letters, Figures}
use Rattle.code.specs.declared.Conversion.{Conversion}
use Rattle.code.specs.declared.Conversion.TheVariants.{Nothing}
use Rattle.code.specs.Rows.{letters, figures}
use Rattle.code.specs.Convert.{capital, seek, found, place_in, conversion}

-- where a byte stands past a row, it stands so far on in what follows
past : (b : ℕ) (xs ys : List ℕ) → length xs ≤ place_in (xs ++ ys) b → place_in (xs ++ ys) b ≡ length xs + place_in ys b
past b [] ys h = sym (zero-add (place_in ys b))
past b (x ∷ xs) ys h = go (eqb x b) (past b xs ys) h
  where
    go : (t : Bool) → (length xs ≤ place_in (xs ++ ys) b → place_in (xs ++ ys) b ≡ length xs + place_in ys b) → suc (length xs) ≤ cond t 0 (suc (place_in (xs ++ ys) b)) → cond t 0 (suc (place_in (xs ++ ys) b)) ≡ suc (length xs) + place_in ys b
    go true rest h = absurd (not-suc-le-zero h)
    go false rest h = ap suc (rest (le_of_suc-le-suc h)) ∙ sym (suc-add (length xs) (place_in ys b))

module _ (case : Case) (b : ℕ) (other : Conversion) where
  from : (i : ℕ) (xs ys : List ℕ) → place_in (xs ++ ys) b < length xs → seek case i xs b other ≡ found case (i + place_in (xs ++ ys) b)
  from i [] ys h = absurd (not-suc-le-zero h)
  from i (x ∷ xs) ys h = go (eqb x b) (from (suc i) xs ys) h
    where
      go : (t : Bool) → (place_in (xs ++ ys) b < length xs → seek case (suc i) xs b other ≡ found case (suc i + place_in (xs ++ ys) b)) → cond t 0 (suc (place_in (xs ++ ys) b)) < suc (length xs) → cond t (found case i) (seek case (suc i) xs b other) ≡ found case (i + cond t 0 (suc (place_in (xs ++ ys) b)))
      go true rest h = ap (found case) (sym (add-zero i))
      go false rest h = rest (le_of_suc-le-suc h) ∙ ap (found case) (suc-add i (place_in (xs ++ ys) b) ∙ sym (add-suc i (place_in (xs ++ ys) b)))

  -- a byte that stands in the row has the code of its place
  pub seek_found : (xs ys : List ℕ) → place_in (xs ++ ys) b < length xs → seek case 0 xs b other ≡ found case (place_in (xs ++ ys) b)
  seek_found xs ys h = from 0 xs ys h ∙ ap (found case) (zero-add (place_in (xs ++ ys) b))

  -- one that stands past it has none in this row
  pub seek_other : (i : ℕ) (xs ys : List ℕ) → length xs ≤ place_in (xs ++ ys) b → seek case i xs b other ≡ other
  seek_other i [] ys h = refl
  seek_other i (x ∷ xs) ys h = go (eqb x b) (seek_other (suc i) xs ys) h
    where
      go : (t : Bool) → (length xs ≤ place_in (xs ++ ys) b → seek case (suc i) xs b other ≡ other) → suc (length xs) ≤ cond t 0 (suc (place_in (xs ++ ys) b)) → cond t (found case i) (seek case (suc i) xs b other) ≡ other
      go true rest h = absurd (not-suc-le-zero h)
      go false rest h = rest (le_of_suc-le-suc h)

-- The byte's capital stands first among the letters, or among the figures, or in neither row.
module _ (b p : ℕ) (e : p ≡ place_in (letters ++ figures) (capital b)) where
  pub in_letters : p < 32 → found Letters p ≡ conversion b
  unfolding conversion
  in_letters h = rw e (sym (seek_found Letters (capital b) (seek Figures 0 figures (capital b) Nothing) letters figures (rw e at h)))

  no_letter : 32 ≤ p → conversion b ≡ seek Figures 0 figures (capital b) Nothing
  unfolding conversion
  no_letter h = seek_other Letters (capital b) (seek Figures 0 figures (capital b) Nothing) 0 letters figures (rw e at h)

  behind : 32 ≤ p → p ≡ 32 + place_in figures (capital b)
  behind h = e ∙ past (capital b) letters figures (rw e at h)

  pub in_figures : 32 ≤ p → p < 64 → found Figures (p - 32) ≡ conversion b
  in_figures h k =
      let q : place_in figures (capital b) ≡ p - 32 = omega (arith, behind h) in
      let l : place_in figures (capital b) < 32 = omega (arith, behind h) in
      sym (no_letter h ∙ seek_found Figures (capital b) Nothing figures [] l ∙ ap (found Figures) q)

  pub in_neither : 64 ≤ p → Nothing ≡ conversion b
  in_neither k =
      let h : 32 ≤ p = omega arith in
      let l : 32 ≤ place_in figures (capital b) = omega (arith, behind h) in
      sym (no_letter h ∙ seek_other Figures (capital b) Nothing 0 figures [] l)

-- where the library's search stops in the rows is where the capital of a byte first stands
capital_of : (b x : ℕ) → UppercasesTo b x → x ≡ capital b
capital_of b x (inl (h, e)) = simp (le-leb 97 b h.0, le-leb b 122 h.1) (omega arith)
capital_of b x (inr (inl h, e)) = simp (lt-leb 97 b h) e
capital_of b x (inr (inr h, e)) = simp (lt-leb b 122 h, and-false) e

module _ (rows : List ℕ) (b x : ℕ) (e : rows ≡ letters ++ figures) (u : UppercasesTo b x) where
  placed : (r : Option ℕ) → MatchOption r (AllWithin (λ y. y ≢ x) rows 0 (length rows)) (λ i. (i < length rows) × HoldsAt (λ y. y ≡ x) rows i × AllWithin (λ y. y ≢ x) rows 0 i)
      → unwrap_or r (length rows) ≡ place_in (letters ++ figures) (capital b)
  placed r f =
      let n = index_from_first (λ ys. place_in ys x) (λ y. y ≡ x) (λ y. y ≢ x) refl (λ y ys h. rw (eq-eqb y x h)) (λ y ys h. rw (ne_eqb y x h, add-one)) rows r f in
      sym n ∙ rw (e, capital_of b x u)

  pub placed_at : (i : ℕ) → i < length rows → get_or rows i 0 ≡ x → AllWithin (λ y. y ≢ x) rows 0 i → i ≡ place_in (letters ++ figures) (capital b)
  placed_at i l h n = placed (Some i) (l, λ d. get_or_default_zero rows i d l ∙ h, n)

  pub placed_nowhere : AllWithin (λ y. y ≢ x) rows 0 (length rows) → length rows ≡ place_in (letters ++ figures) (capital b)
  placed_nowhere n = placed None n
