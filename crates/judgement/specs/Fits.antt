-- What is known fits a printer with a stop and a sender, if it is true of them wherever it says anything.
use Rattle.std.specs.Prelude.{Option, Some, None, ℕ, ◌≤◌, ◌≡◌}
use Rattle.judgement.specs.Names.{Case, Letters, Figures, Kind, Still, Space, Return, Shift, Char, Printer, Spot, At, From, Verdict, Watch}
use Rattle.judgement.specs.Names.verdict
use Rattle.judgement.specs.Watch.{shown_by}

abbrev pub FitsCase : Option Case → Case → Type 0
FitsCase None case = Unit
FitsCase (Some a) case = a ≡ case

abbrev pub FitsSpot : Spot → ℕ → Type 0
FitsSpot (At n) count = n ≡ count
FitsSpot (From n) count = n ≤ count

abbrev pub FitsSign : Option ℕ → ℕ → Type 0
FitsSign None x = Unit
FitsSign (Some y) x = y ≡ x

-- the sender's case, by the shifts alone
abbrev pub send_case : Case → Kind → Case
send_case s Still = s
send_case s Space = s
send_case s Return = s
send_case s (Shift to) = to
send_case s (Char bell) = s

pub record Fits (w : Watch) (p : Printer) (s : Case) : Type 0 where
  pub meant : FitsCase w.meant s
  pub shown : FitsCase (shown_by w.fell w.meant) p.case
  pub spot : FitsSpot w.spot p.count
  pub short : p.count ≤ w.stop
  pub space : w.onspace ≡ p.onspace
  pub return : w.onreturn ≡ p.onreturn

-- what a verdict by itself claims of the characters struck and meant
abbrev pub Claims : Verdict → Case → Case → Type 0
Claims verdict.Nothing printer sender = Unit
Claims verdict.Kept printer sender = printer ≡ sender
Claims verdict.Turned printer sender = (printer ≡ Letters) × (sender ≡ Figures)
Claims verdict.Over printer sender = Unit
Claims verdict.Unknown printer sender = Unit
