-- When a record and a printer agree, and when a printer obeys options 70 and 71.
use Rattle.std.specs.Prelude.{ℕ, min, ◌≡◌, true, List, [], ◌∷◌}
use Rattle.code.specs.Kinds.{kind_of}
use Rattle.settings.specs.Options.{onspace, onreturn}
use Rattle.printer.specs.Printer.{hear}
use Rattle.agree.specs.Names.{Case, Kind, Still, Space, Return, Shift, Char, Settings, Printer, Record, Option, Some, None}

-- a known case is the printer's
abbrev pub CaseAgrees : Option Case → Case → Type 0
CaseAgrees None case = Unit {0}
CaseAgrees (Some c) case = c ≡ case

-- a known column is the count of places, staying at 255
abbrev pub ColumnAgrees : Option ℕ → ℕ → Type 0
ColumnAgrees None count = Unit {0}
ColumnAgrees (Some n) count = n ≡ min 255 count

pub record Agrees (r : Record) (p : Printer) : Type 0 where
  pub case : CaseAgrees r.case p.case
  pub column : ColumnAgrees r.column p.count

-- the printer unshifts by itself on a space or a return only if the option is on
abbrev pub ObeysAt : Settings → Printer → Kind → Type 0
ObeysAt o p Still = Unit {0}
ObeysAt o p Space = p.onspace ≡ true → onspace o ≡ true
ObeysAt o p Return = p.onreturn ≡ true → onreturn o ≡ true
ObeysAt o p (Shift to) = Unit {0}
ObeysAt o p (Char bell) = Unit {0}

-- at each space and return sent
abbrev pub Obeys : Settings → Printer → List ℕ → Type 0
Obeys o p [] = Unit {0}
Obeys o p (c ∷ cs) = ObeysAt o p (kind_of c) × Obeys o (hear p c) cs
