-- The record after a code in its wanted case, in the paper's own words.
use Rattle.std.specs.Prelude.{ℕ, Bool, true, false, cond}
use Rattle.code.specs.Kinds.{strikes}
use Rattle.settings.specs.Options.{onspace, onreturn}
use Rattle.sender.specs.Names.{Case, Letters, Kind, Still, Space, Return, Shift, Char, Settings, Record, Option, Some}
use Rattle.sender.specs.Record.{next}

-- LTRS followed, unless the case was letters
abbrev pub after_unshift : Bool → Option Case → Option Case
after_unshift true n = Some Letters
after_unshift false n = n

abbrev pub after_case : Settings → Option Case → Case → Kind → Option Case
after_case o n want Still = n
after_case o n want Space = after_unshift (onspace o) n
after_case o n want Return = after_unshift (onreturn o) n
after_case o n want (Shift to) = Some to
after_case o n want (Char bell) = Some want

abbrev pub after_column : Option ℕ → Case → Kind → Option ℕ
after_column col want Still = col
after_column col want Space = next col
after_column col want Return = Some 0
after_column col want (Shift to) = col
after_column col want (Char bell) = cond (strikes bell want) (next col) col

abbrev pub after : Settings → Record → Case → Kind → Record
after o r want k = record { case = after_case o r.case want k; column = after_column r.column want k }
