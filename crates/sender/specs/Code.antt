-- One code in its wanted case.
use Rattle.std.specs.Prelude.{ℕ, Bool, true, false, cond, List, [], ◌∷◌, ◌++◌}
use Rattle.code.specs.Kinds.{kind_of, shifts, dependent}
use Rattle.settings.specs.Options.{onspace, onreturn}
use Rattle.sender.specs.Names.{Case, Letters, Figures, Kind, Still, Space, Return, Shift, Char, Settings, Option, Some, None}

-- two cases are the same
abbrev pub same_case : Case → Case → Bool
same_case Letters Letters = true
same_case Letters Figures = false
same_case Figures Letters = false
same_case Figures Figures = true

-- the case on record is the wanted one
abbrev pub is_case : Option Case → Case → Bool
is_case None want = false
is_case (Some case) want = same_case case want

-- the right shift if the recorded case differs from the wanted one or is unknown
abbrev pub shift_to : Option Case → Case → List Case
shift_to n want = cond (is_case n want) [] (want ∷ [])

-- it goes before a code that depends on case
abbrev pub shift_for : Option Case → Case → Kind → List Case
shift_for n want k = cond (dependent k) (shift_to n want) []

-- with its option on and the case not known to be letters, LTRS follows a space or a return
abbrev pub unshift : Bool → Option Case → List Case
unshift true n = shift_to n Letters
unshift false n = []

abbrev pub follow : Settings → Option Case → Kind → List Case
follow o n Still = []
follow o n Space = unshift (onspace o) n
follow o n Return = unshift (onreturn o) n
follow o n (Shift to) = []
follow o n (Char bell) = []

-- the shift that it needs, the code, the LTRS that follows
abbrev pub send_kind : Settings → Option Case → Case → Kind → ℕ → List ℕ
send_kind o n want k c = shifts (shift_for n want k) ++ c ∷ shifts (follow o n k)

abbrev pub send_as : Settings → Option Case → Case → ℕ → List ℕ
send_as o n want c = send_kind o n want (kind_of c) c
