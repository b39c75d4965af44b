-- What can be known of the sender and of the printer while a record is read. The sender's case follows the shifts alone; the
-- printer is in it unless it fell back to letters since the last of them.
use Rattle.std.specs.Prelude.{Option, Some, None, ℕ, min, ◌+◌, Bool, true, false, cond, ◌||◌, ltb}
use Rattle.code.specs.Kinds.{kind_of}
use Rattle.judgement.specs.Names.{Case, Letters, Figures, Kind, Still, Space, Return, Shift, Char, Spot, At, From, Watch}

-- the printer's case
abbrev pub shown_by : Bool → Option Case → Option Case
shown_by true meant = Some Letters
shown_by false meant = meant

-- a shift sets the sender's case, and nothing else does
abbrev pub meant_after : Option Case → Kind → Option Case
meant_after meant Still = meant
meant_after meant Space = meant
meant_after meant Return = meant
meant_after meant (Shift to) = Some to
meant_after meant (Char bell) = meant

-- a printer that unshifts falls back to letters on a space or on a return; a shift ends that
abbrev pub fell_after : Watch → Kind → Bool
fell_after w Still = w.fell
fell_after w Space = w.onspace || w.fell
fell_after w Return = w.onreturn || w.fell
fell_after w (Shift to) = false
fell_after w (Char bell) = w.fell

-- no further than the stop; a place that may be any from the stop on is the stop
abbrev pub within : ℕ → Spot → Spot
within stop (At n) = At (min stop n)
within stop (From n) = cond (ltb n stop) (From n) (At stop)

-- one place on
abbrev pub moved : ℕ → Spot → Spot
moved stop (At n) = within stop (At (n + 1))
moved stop (From n) = within stop (From (n + 1))

-- it may have moved
abbrev pub blurred : ℕ → Spot → Spot
blurred stop (At n) = within stop (From n)
blurred stop (From n) = within stop (From n)

-- BELL does not move the carriage; while the printer's case is unknown, what may be BELL leaves the place unknown
abbrev pub spot_char : Bool → Option Case → ℕ → Spot → Spot
spot_char false k stop s = moved stop s
spot_char true None stop s = blurred stop s
spot_char true (Some Letters) stop s = moved stop s
spot_char true (Some Figures) stop s = s

abbrev pub spot_after : Watch → Kind → Spot
spot_after w Still = w.spot
spot_after w Space = moved w.stop w.spot
spot_after w Return = At 0
spot_after w (Shift to) = w.spot
spot_after w (Char bell) = spot_char bell (shown_by w.fell w.meant) w.stop w.spot

abbrev pub watch_kind : Watch → Kind → Watch
watch_kind w k = record { meant = meant_after w.meant k; fell = fell_after w k; spot = spot_after w k; stop = w.stop; onspace = w.onspace; onreturn = w.onreturn }

abbrev pub watch : Watch → ℕ → Watch
watch w c = watch_kind w (kind_of c)
