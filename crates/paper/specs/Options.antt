-- What the arguments say.
use Rattle.std.specs.Prelude.{Some, None, true, false}
use Rattle.code.specs.declared.Case.TheVariants.{Letters, Figures}
use Rattle.judgement.specs.declared.Start.{Start}
use Rattle.judgement.specs.declared.Spot.TheVariants.{At, From}
use Rattle.words.specs.declared.Setting.{Setting}
use Rattle.words.specs.declared.Setting.TheVariants as setting

-- where no argument says otherwise: a stop at 72, no unshift, and nothing known
abbrev pub start : Start
start = record { case = None; spot = From 0; stop = 72; onspace = false; onreturn = false }

-- with one argument more: another stop, place or case, or a printer that unshifts on a space or on a return, or not
abbrev pub told : Start → Setting → Start
told o (setting.Stop n) = record o { stop = n }
told o (setting.Place n) = record o { spot = At n }
told o setting.PlaceUnknown = record o { spot = From 0 }
told o setting.Letters = record o { case = Some Letters }
told o setting.Figures = record o { case = Some Figures }
told o setting.CaseUnknown = record o { case = None }
told o setting.SpaceUnshifts = record o { onspace = true }
told o setting.SpaceKeeps = record o { onspace = false }
told o setting.ReturnUnshifts = record o { onreturn = true }
told o setting.ReturnKeeps = record o { onreturn = false }
