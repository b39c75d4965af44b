-- The case that codes are read in: mode 1's reading case of line codes, and mode 4's incoming one.
use Rattle.std.specs.Prelude.{Bool, true, false}
use Rattle.settings.specs.Options.{onspace, onreturn}
use Rattle.sender.specs.Names.{Case, Letters, Kind, Still, Space, Return, Shift, Char, Settings}

-- letters where the option is on
abbrev pub unshifted_by : Bool → Case → Case
unshifted_by true case = Letters
unshifted_by false case = case

-- what 27 or 31 says after a shift, letters after a space or a CR that unshifts, and otherwise as it was
abbrev pub case_after : Bool → Bool → Case → Kind → Case
case_after onspace onreturn case Still = case
case_after onspace onreturn case Space = unshifted_by onspace case
case_after onspace onreturn case Return = unshifted_by onreturn case
case_after onspace onreturn case (Shift to) = to
case_after onspace onreturn case (Char bell) = case

-- a space unshifts with 70 on, a CR with 71 on
abbrev pub read_case : Settings → Case → Kind → Case
read_case o case k = case_after (onspace o) (onreturn o) case k
