-- The record after a code that went out, whoever sent it.
use Rattle.std.specs.Prelude.{ℕ, ◌+◌, min, Bool, true, false, List, [], ◌∷◌}
use Rattle.code.specs.Kinds.{kind_of}
use Rattle.settings.specs.Options.{onspace, onreturn}
use Rattle.sender.specs.Names.{Case, Letters, Figures, Kind, Still, Space, Return, Shift, Char, Settings, Record, Option, Some, None}

-- both are unknown on connection
abbrev pub unknown : Record
unknown = record { case = None; column = None }

-- after a space or return with its option on, the printer may have unshifted: only letters are sure
abbrev pub note_unshift : Bool → Option Case → Option Case
note_unshift false n = n
note_unshift true None = None
note_unshift true (Some Letters) = Some Letters
note_unshift true (Some Figures) = None

-- a shift sets the case
abbrev pub note_case : Settings → Option Case → Kind → Option Case
note_case o n Still = n
note_case o n Space = note_unshift (onspace o) n
note_case o n Return = note_unshift (onreturn o) n
note_case o n (Shift to) = Some to
note_case o n (Char bell) = n

-- one place on, staying at 255
abbrev pub next : Option ℕ → Option ℕ
next None = None
next (Some n) = Some (min 255 (n + 1))

-- BELL does not move the carriage; while the case is unknown, what may be BELL leaves the column unknown
abbrev pub note_char : Bool → Option Case → Option ℕ → Option ℕ
note_char false n col = next col
note_char true None col = None
note_char true (Some Letters) col = next col
note_char true (Some Figures) col = col

-- space moves one place, CR sets the column to 0, LF and BLANK change nothing
abbrev pub note_column : Option Case → Option ℕ → Kind → Option ℕ
note_column n col Still = col
note_column n col Space = next col
note_column n col Return = Some 0
note_column n col (Shift to) = col
note_column n col (Char bell) = note_char bell n col

abbrev pub note_kind : Settings → Record → Kind → Record
note_kind o r k = record { case = note_case o r.case k; column = note_column r.case r.column k }

abbrev pub note : Settings → Record → ℕ → Record
note o r c = note_kind o r (kind_of c)

abbrev pub notes : Settings → Record → List ℕ → Record
notes o r [] = r
notes o r (c ∷ cs) = notes o (note o r c) cs
