-- The judgement of a code by itself: what was meant, what was struck and where, and whether one is the other.
use Rattle.std.specs.Prelude.{Option, Some, None, Result, Ok, Err, ℕ, Bool, true, false}
use Rattle.code.specs.Rows.{row_at}
use Rattle.code.specs.Kinds.{kind_of}
use Rattle.judgement.specs.Names.{Case, Letters, Figures, Kind, Still, Space, Return, Shift, Char, Spot, At, From, Verdict, NoCode, Watch, Strike}
use Rattle.judgement.specs.Names.verdict
use Rattle.judgement.specs.Watch.{shown_by}

-- the numbers of the verdicts
abbrev pub number_of : Verdict → ℕ
number_of verdict.Nothing = 0
number_of verdict.Kept = 1
number_of verdict.Turned = 2
number_of verdict.Over = 3
number_of verdict.Unknown = 4

-- the number of an answer: 0 where all was taken, and 2 at a code over 31
abbrev pub answer_of : Result (Unit {0}) NoCode → ℕ
answer_of (Ok _) = 0
answer_of (Err _) = 2

-- kept: the printer struck what was meant; turned: it had fallen back to letters, and figures were meant; BELL strikes nothing
abbrev pub own_char : Bool → Option Case → Bool → Verdict
own_char bell None fell = verdict.Unknown
own_char bell (Some Letters) fell = verdict.Kept
own_char bell (Some Figures) true = verdict.Turned
own_char false (Some Figures) false = verdict.Kept
own_char true (Some Figures) false = verdict.Nothing

-- a space lands and strikes nothing
abbrev pub own : Watch → Kind → Verdict
own w Still = verdict.Nothing
own w Space = verdict.Nothing
own w Return = verdict.Nothing
own w (Shift to) = verdict.Nothing
own w (Char bell) = own_char bell w.meant w.fell

-- where it is struck: nowhere, at a place, or at that place or further on and perhaps not at all
abbrev pub placed : Spot → Option Spot
placed s = Some s

abbrev pub strayed : Spot → Option Spot
strayed (At n) = Some (From n)
strayed (From n) = Some (From n)

abbrev pub lands_char : Bool → Option Case → Spot → Option Spot
lands_char false k s = placed s
lands_char true None s = strayed s
lands_char true (Some Letters) s = placed s
lands_char true (Some Figures) s = None

abbrev pub lands : Watch → Kind → Option Spot
lands w Still = None
lands w Space = None
lands w Return = None
lands w (Shift to) = None
lands w (Char bell) = lands_char bell (shown_by w.fell w.meant) w.spot

-- the character of a code in a case, where it can be known
abbrev pub sign_char : Option Case → ℕ → Option ℕ
sign_char None c = None
sign_char (Some case) c = Some (row_at case c)

abbrev pub sign_as : Option Case → Kind → ℕ → Option ℕ
sign_as k Still c = Some (row_at Letters c)
sign_as k Space c = Some (row_at Letters c)
sign_as k Return c = Some (row_at Letters c)
sign_as k (Shift to) c = Some (row_at Letters c)
sign_as k (Char bell) c = sign_char k c

-- what the sender meant, and what the printer struck
abbrev pub meant_by : Watch → ℕ → Option ℕ
meant_by w c = sign_as w.meant (kind_of c) c

abbrev pub struck_by : Watch → ℕ → Option ℕ
struck_by w c = sign_as (shown_by w.fell w.meant) (kind_of c) c

abbrev pub strike_of : Watch → ℕ → Strike
strike_of w c = record { lands = lands w (kind_of c); sign = struck_by w c; own = own w (kind_of c) }
