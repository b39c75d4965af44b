-- When a column and a case are on record, and the codes that put them there.
use Rattle.std.specs.Prelude.{ℕ, Bool, true, false, ◌||◌, List, [], ◌∷◌}
use Rattle.code.specs.Kinds.{kind_of}
use Rattle.agree.specs.Names.{Case, Kind, Still, Space, Return, Shift, Char, Option, Some, None}

abbrev pub ColumnSure : Option ℕ → Type 0
ColumnSure None = ⊥
ColumnSure (Some n) = Unit {0}

abbrev pub CaseSure : Option Case → Type 0
CaseSure None = ⊥
CaseSure (Some case) = Unit {0}

-- a return puts the column on record
abbrev pub is_return : Kind → Bool
is_return Still = false
is_return Space = false
is_return Return = true
is_return (Shift to) = false
is_return (Char bell) = false

-- a shift or a code that depends on case puts the case on record
abbrev pub is_cased : Kind → Bool
is_cased Still = false
is_cased Space = false
is_cased Return = false
is_cased (Shift to) = true
is_cased (Char bell) = true

-- whether a code of such a kind is among the codes
abbrev pub holds : (Kind → Bool) → List ℕ → Bool
holds f [] = false
holds f (c ∷ cs) = f (kind_of c) || holds f cs
