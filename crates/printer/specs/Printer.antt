-- The printer holds a case and a count of places since its last return, with no right stop.
use Rattle.std.specs.Prelude.{ℕ, ◌+◌, Bool, true, false, List, [], ◌∷◌, ◌++◌}
use Rattle.printer.specs.Names.{Case, Letters, Kind, Still, Space, Return, Shift, Char, Printer, Mark, Option, Some, None}
use Rattle.code.specs.Rows.{row_at}
use Rattle.code.specs.Kinds.{kind_of, strikes, moves}

-- some printers go back to letters by themselves
abbrev pub unshifted : Bool → Case → Case
unshifted true case = Letters
unshifted false case = case

-- 27 and 31 set the case
abbrev pub hear_case : Printer → Kind → Case
hear_case p Still = p.case
hear_case p Space = unshifted p.onspace p.case
hear_case p Return = unshifted p.onreturn p.case
hear_case p (Shift to) = to
hear_case p (Char bell) = p.case

abbrev pub advanced : Bool → ℕ → ℕ
advanced true n = n + 1
advanced false n = n

-- CR sets the count to 0; a space and every struck character, BELL is none, move it one place
abbrev pub hear_count : Printer → Kind → ℕ
hear_count p Still = p.count
hear_count p Space = p.count + 1
hear_count p Return = 0
hear_count p (Shift to) = p.count
hear_count p (Char bell) = advanced (strikes bell p.case) p.count

abbrev pub hear_kind : Printer → Kind → Printer
hear_kind p k = record { case = hear_case p k; count = hear_count p k; onspace = p.onspace; onreturn = p.onreturn }

-- one code, and many
abbrev pub hear : Printer → ℕ → Printer
hear p c = hear_kind p (kind_of c)

abbrev pub hears : Printer → List ℕ → Printer
hears p [] = p
hears p (c ∷ cs) = hears (hear p c) cs

-- a printer in a case at a place
abbrev pub from : Case → ℕ → Bool → Bool → Printer
from case n onspace onreturn = record { case = case; count = n; onspace = onspace; onreturn = onreturn }

-- What is printed.

-- a space or struck character lands at the count before it
abbrev pub landing : Bool → ℕ → Option ℕ
landing true n = Some n
landing false n = None

-- the two rows say what a code prints
abbrev pub mark_as : Kind → Case → ℕ → ℕ → Mark
mark_as k case n c = record { character = row_at case c; lands = landing (moves case k) n }

-- only the two shifts have nothing to print
abbrev pub prints_as : Kind → Mark → List Mark
prints_as Still m = m ∷ []
prints_as Space m = m ∷ []
prints_as Return m = m ∷ []
prints_as (Shift to) m = []
prints_as (Char bell) m = m ∷ []

abbrev pub prints : Printer → ℕ → List Mark
prints p c = prints_as (kind_of c) (mark_as (kind_of c) p.case p.count c)

-- all that many codes print
abbrev pub prints_all : Printer → List ℕ → List Mark
prints_all p [] = []
prints_all p (c ∷ cs) = prints p c ++ prints_all (hear p c) cs
