-- Option 49: string 90 as a line ending.
use Rattle.std.specs.Prelude.{ℕ, Bool, true, false, cond, ◌&&◌, List, [], ◌∷◌, ◌++◌, eqb, leb}
use Rattle.code.specs.Kinds.{kind_of, moves}
use Rattle.settings.specs.Options.{endings, limit, ending_codes}
use Rattle.sender.specs.Names.{Case, Letters, Settings, Record, Wanted, Option, Some, None}
use Rattle.sender.specs.Record.{notes}
use Rattle.sender.specs.Code.{send_as}

-- its codes go in whatever case is on record; while that is unknown, a code that depends on case is preceded by LTRS
abbrev pub on_record : Option Case → Case
on_record None = Letters
on_record (Some case) = case

abbrev pub ending_code : Settings → Option Case → ℕ → List ℕ
ending_code o n c = send_as o n (on_record n) c

abbrev pub ending_of : Settings → Record → List ℕ → List ℕ
ending_of o r [] = []
ending_of o r (c ∷ cs) = ending_code o r.case c ++ ending_of o (notes o r (ending_code o r.case c)) cs

-- string 90 ends at its first 0
abbrev pub until_zero : List ℕ → List ℕ
until_zero [] = []
until_zero (c ∷ cs) = cond (eqb c 0) [] (c ∷ until_zero cs)

-- the column is known and not below the limit
abbrev pub due : Settings → Option ℕ → Bool
due o None = false
due o (Some n) = endings o && leb (limit o) n

abbrev pub ending : Settings → Record → Bool → List ℕ
ending o r true = ending_of o r (until_zero (ending_codes o))
ending o r false = []

-- before a space or carriage-moving character and any shift it needs
abbrev pub ending_before : Settings → Record → Wanted → List ℕ
ending_before o r w = ending o r (moves w.case (kind_of w.code) && due o r.column)
