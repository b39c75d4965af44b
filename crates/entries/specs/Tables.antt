-- The firmware paper's two tables, a line of text for each entry.
use Rattle.std.specs.Prelude.{ℕ, ◌+◌, Bool, false, cond, List, eqb, get_or, Option, Some, None}
use Rattle.code.specs.declared.Case.TheVariants.{Letters, Figures}
use Rattle.code.specs.Rows.{row_at}
use Rattle.code.specs.Convert.{conversion, mark_of, code_of}
use Rattle.entries.specs.declared.tables.Entry.{Entry}
use Rattle.entries.specs.declared.tables.Entry.TheVariants.{Ascii, Ustty}
use Rattle.entries.specs.Text.{hex}

-- the value of the two hexadecimal digits at a place
abbrev pub hex_at : List ℕ → ℕ → ℕ
hex_at s at = hex (get_or s at 0) (get_or s (at + 1) 0)

-- `A 0x41 L 0x03`: a value, its mark and its code
abbrev pub ascii_holds : List ℕ → Bool
ascii_holds s = cond (eqb (mark_of (conversion (hex_at s 4))) (get_or s 7 0)) (eqb (code_of (conversion (hex_at s 4))) (hex_at s 11)) false

-- `U 0x03 0x41 0x2D`: a code, its letter and its figure
abbrev pub ustty_holds : List ℕ → Bool
ustty_holds s = cond (eqb (row_at Letters (hex_at s 4)) (hex_at s 9)) (eqb (row_at Figures (hex_at s 4)) (hex_at s 14)) false

-- which table a line is of, if it is of one, and whether it holds
abbrev pub entry : List ℕ → Option Entry
entry s = cond (eqb (get_or s 0 0) 65) (Some (Ascii (ascii_holds s))) (cond (eqb (get_or s 0 0) 85) (Some (Ustty (ustty_holds s))) None)
