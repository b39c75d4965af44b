-- Host to line: a search through the two rows. Line to host is the row itself, `row_at`.
use Rattle.std.specs.Prelude.{ℕ, suc, ◌-◌, cond, ◌&&◌, List, [], ◌∷◌, eqb, leb}
use Rattle.code.specs.declared.Case.{Case}
use Rattle.code.specs.declared.Case.TheVariants.{Letters, Figures}
use Rattle.code.specs.declared.Conversion.{Conversion}
use Rattle.code.specs.declared.Conversion.TheVariants.{Nothing, Free, Cased}
use Rattle.code.specs.Rows.{letters, figures, stands}
use Rattle.code.specs.Kinds.{kind_of, dependent}

-- small letters convert as capitals
abbrev pub capital : ℕ → ℕ
capital b = cond (leb 97 b && leb b 122) (b - 32) b

-- a code found in the row of a case
abbrev pub found : Case → ℕ → Conversion
found case c = cond (dependent (kind_of c)) (Cased case c) (Free c)

-- the first code from i on whose character in this row is b, or else the other conversion
abbrev pub seek : Case → ℕ → List ℕ → ℕ → Conversion → Conversion
seek case i [] b other = other
seek case i (x ∷ xs) b other = cond (eqb x b) (found case i) (seek case (suc i) xs b other)

-- among the letters, then among the figures
unfoldable pub conversion : ℕ → Conversion
conversion b = seek Letters 0 letters (capital b) (seek Figures 0 figures (capital b) Nothing)

-- the paper's marks: L = LTRS, F = FIGS, N = no change, - where there is none
abbrev pub mark_of : Conversion → ℕ
mark_of Nothing = 45
mark_of (Free c) = 78
mark_of (Cased Letters c) = 76
mark_of (Cased Figures c) = 70

-- the paper's code, 0 where there is none
abbrev pub code_of : Conversion → ℕ
code_of Nothing = 0
code_of (Free c) = c
code_of (Cased case c) = c

-- the case that it is read in; any will do where it does not depend on case
abbrev pub case_of : Conversion → Case
case_of Nothing = Letters
case_of (Free c) = Letters
case_of (Cased case c) = case

-- The same by the rows alone: a character of both rows does not depend on case.

-- N where the byte's capital stands in both rows, L or F where in one of them, - where in none
unfoldable pub mark_at : ℕ → ℕ
mark_at b = cond (stands letters (capital b)) (cond (stands figures (capital b)) 78 76) (cond (stands figures (capital b)) 70 45)

-- where a number first stands in a list
abbrev pub place_in : List ℕ → ℕ → ℕ
place_in [] x = 0
place_in (y ∷ ys) x = cond (eqb y x) 0 (suc (place_in ys x))

-- the place where it stands, 0 where there is none
unfoldable pub code_at : ℕ → ℕ
code_at b = cond (stands letters (capital b)) (place_in letters (capital b)) (cond (stands figures (capital b)) (place_in figures (capital b)) 0)
