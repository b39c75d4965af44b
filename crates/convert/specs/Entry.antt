-- What is lent to a search for a code, and what it finds.
use Rattle.std.specs.Prelude.{ℕ, ◌≡◌, List, ◌++◌}
use Rattle.code.specs.declared.Conversion.{Conversion}
use Rattle.code.specs.Rows.{letters, figures}
use Rattle.code.specs.Convert.{conversion, mark_of, code_of, mark_at, code_at}

-- the two rows, the letters first
pub record Tabled (entries : List ℕ) : Type 0 where
  pub lent : entries ≡ letters ++ figures

-- what a byte is on the line, with the paper's mark and code of it by where it stands in the rows
pub record Converts (b : ℕ) (r : Conversion) : Type 0 where
  pub gives : r ≡ conversion b
  pub mark : mark_of r ≡ mark_at b
  pub code : code_of r ≡ code_at b
