-- The kinds of codes. They are computed from the two rows: which codes depend on case and where BELL lies need no table.
use Rattle.std.specs.Prelude.{ℕ, Bool, true, false, cond, List, [], ◌∷◌, eqb}
use Rattle.code.specs.declared.Case.{Case}
use Rattle.code.specs.declared.Case.TheVariants.{Letters, Figures}
use Rattle.code.specs.declared.Kind.{Kind}
use Rattle.code.specs.declared.Kind.TheVariants.{Still, Space, Return, Shift, Char}
use Rattle.code.specs.Rows.{row_at}

-- by the one character that both rows have: a space, CR, SO for FIGS, SI for LTRS
abbrev pub kind_alike : ℕ → Kind
kind_alike x = cond (eqb x 32) Space (cond (eqb x 13) Return (cond (eqb x 14) (Shift Figures) (cond (eqb x 15) (Shift Letters) Still)))

-- a code with two characters depends on case; its figure may be BEL
abbrev pub kind_by : ℕ → ℕ → Kind
kind_by letter figure = cond (eqb letter figure) (kind_alike letter) (Char (eqb figure 7))

unfoldable pub kind_of : ℕ → Kind
kind_of c = kind_by (row_at Letters c) (row_at Figures c)

abbrev pub dependent : Kind → Bool
dependent Still = false
dependent Space = false
dependent Return = false
dependent (Shift to) = false
dependent (Char bell) = true

-- 27 and 31
abbrev pub shift : Case → ℕ
shift Letters = 31
shift Figures = 27

abbrev pub shifts : List Case → List ℕ
shifts [] = []
shifts (to ∷ ts) = shift to ∷ shifts ts

-- every character that depends on case is struck, but BELL
abbrev pub strikes : Bool → Case → Bool
strikes false case = true
strikes true Letters = true
strikes true Figures = false

-- a space or a struck character: it lands, and moves the carriage one place
abbrev pub moves : Case → Kind → Bool
moves case Still = false
moves case Space = true
moves case Return = false
moves case (Shift to) = false
moves case (Char bell) = strikes bell case

-- the codes of each kind: BLANK and LF, space, CR, the two shifts, the code whose figure is BELL, the other 25 that depend on case
abbrev pub codes_of : Kind → List ℕ
codes_of Still = 0 ∷ 2 ∷ []
codes_of Space = 4 ∷ []
codes_of Return = 8 ∷ []
codes_of (Shift to) = shift to ∷ []
codes_of (Char true) = 5 ∷ []
codes_of (Char false) = 1 ∷ 3 ∷ 6 ∷ 7 ∷ 9 ∷ 10 ∷ 11 ∷ 12 ∷ 13 ∷ 14 ∷ 15 ∷ 16 ∷ 17 ∷ 18 ∷ 19 ∷ 20 ∷ 21 ∷ 22 ∷ 23 ∷ 24 ∷ 25 ∷ 26 ∷ 28 ∷ 29 ∷ 30 ∷ []
