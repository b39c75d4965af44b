-- The settings by name.
use Rattle.std.specs.Prelude.{ℕ, Bool, List, eqb}
use Rattle.word.specs.Word.{unpacked}
use Rattle.settings.specs.Names.{Settings}
use Rattle.settings.specs.Table.{value_of}

-- 1 is on
abbrev pub is_on : ℕ → Bool
is_on n = eqb n 1

-- option 49: line endings
unfoldable pub endings : Settings → Bool
endings o = is_on (value_of o 49)

-- option 50: their limit
unfoldable pub limit : Settings → ℕ
limit o = value_of o 50

-- option 70: unshift on space
unfoldable pub onspace : Settings → Bool
onspace o = is_on (value_of o 70)

-- option 71: unshift on return
unfoldable pub onreturn : Settings → Bool
onreturn o = is_on (value_of o 71)

-- option 72: the filter of shifts
unfoldable pub filter : Settings → Bool
filter o = is_on (value_of o 72)

-- option 74: SI/SO reports
unfoldable pub reports : Settings → Bool
reports o = is_on (value_of o 74)

-- option 77: the stand-in for text bytes without a code, 0 where there is none
unfoldable pub stand_in : Settings → ℕ
stand_in o = value_of o 77

-- string 90: the eight codes of the line ending
unfoldable pub ending_codes : Settings → List ℕ
ending_codes o = unpacked o.string
