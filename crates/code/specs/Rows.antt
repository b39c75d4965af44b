-- The two rows of thirty-two characters, code 0 first. They decide both conversions.
use Rattle.std.specs.Prelude.{ℕ, Bool, false, ◌||◌, List, [], ◌∷◌, eqb, get_or}
use Rattle.code.specs.declared.Case.{Case}
use Rattle.code.specs.declared.Case.TheVariants.{Letters, Figures}

-- NUL E LF A SP S I U CR D R J N F C K T Z L W H Y P Q O B G FIGS M X V LTRS, with FIGS and LTRS as SO and SI
abbrev pub letters : List ℕ
letters =
    0 ∷ 69 ∷ 10 ∷ 65 ∷ 32 ∷ 83 ∷ 73 ∷ 85 ∷ 13 ∷ 68 ∷ 82 ∷ 74 ∷ 78 ∷ 70 ∷ 67 ∷ 75 ∷ 84 ∷ 90 ∷ 76 ∷ 87 ∷ 72 ∷ 89 ∷ 80 ∷ 81 ∷ 79 ∷ 66 ∷ 71 ∷ 14 ∷ 77 ∷ 88 ∷ 86 ∷ 15 ∷ []

-- NUL 3 LF - SP BEL 8 7 CR $ 4 ' , ! : ( 5 " ) 2 # 6 0 1 9 ? & FIGS . / ; LTRS
abbrev pub figures : List ℕ
figures =
    0 ∷ 51 ∷ 10 ∷ 45 ∷ 32 ∷ 7 ∷ 56 ∷ 55 ∷ 13 ∷ 36 ∷ 52 ∷ 39 ∷ 44 ∷ 33 ∷ 58 ∷ 40 ∷ 53 ∷ 34 ∷ 41 ∷ 50 ∷ 35 ∷ 54 ∷ 48 ∷ 49 ∷ 57 ∷ 63 ∷ 38 ∷ 14 ∷ 46 ∷ 47 ∷ 59 ∷ 15 ∷ []

-- a number stands in a list
abbrev pub stands : List ℕ → ℕ → Bool
stands [] x = false
stands (y ∷ ys) x = eqb y x || stands ys x

abbrev pub rows : List (List ℕ)
rows = letters ∷ figures ∷ []

-- letters are the first row, figures the second
abbrev pub place_of : Case → ℕ
place_of Letters = 0
place_of Figures = 1

-- the character of a code in a case; over 31 it is BLANK's
unfoldable pub row_at : Case → ℕ → ℕ
row_at case c = get_or (get_or rows (place_of case) []) c 0
