-- The printer with a right stop, beside the one without: at the stop the carriage stays, and what is struck lands there.
use Rattle.std.specs.Prelude.{Option, Some, None, ℕ, min, ◌+◌, ◌≤◌, ◌≡◌, Bool, true, false, cond, List, [], ◌∷◌, ◌++◌, eqb}
use Rattle.code.specs.Kinds.{kind_of}
use Rattle.printer.specs.Printer.{hear, prints}
use Rattle.judgement.specs.Names.{Kind, Still, Space, Return, Shift, Char, Printer, Mark}

-- no further than the stop
abbrev pub clip : ℕ → Printer → Printer
clip stop p = record { case = p.case; count = min stop p.count; onspace = p.onspace; onreturn = p.onreturn }

-- one code, and many: as the printer without a stop, but no further
abbrev pub hear_stop : ℕ → Printer → ℕ → Printer
hear_stop stop p c = clip stop (hear p c)

abbrev pub hears_stop : ℕ → Printer → List ℕ → Printer
hears_stop stop p [] = p
hears_stop stop p (c ∷ cs) = hears_stop stop (hear_stop stop p c) cs

-- all that many codes print
abbrev pub prints_all_stop : ℕ → Printer → List ℕ → List Mark
prints_all_stop stop p [] = []
prints_all_stop stop p (c ∷ cs) = prints p c ++ prints_all_stop stop (hear_stop stop p c) cs

-- What the laws speak of.

-- a mark, where the stop lets it land
abbrev pub clip_place : ℕ → Option ℕ → Option ℕ
clip_place stop None = None
clip_place stop (Some n) = Some (min stop n)

abbrev pub clip_mark : ℕ → Mark → Mark
clip_mark stop m = record { character = m.character; lands = clip_place stop m.lands }

abbrev pub clip_marks : ℕ → List Mark → List Mark
clip_marks stop [] = []
clip_marks stop (m ∷ ms) = clip_mark stop m ∷ clip_marks stop ms

-- the printer without a stop never passes this place
abbrev pub Within : ℕ → Printer → List ℕ → Type 0
Within stop p [] = p.count ≤ stop
Within stop p (c ∷ cs) = (p.count ≤ stop) × Within stop (hear p c) cs

-- how often a place is struck; a space lands too
abbrev pub hits : ℕ → Option ℕ → ℕ
hits n None = 0
hits n (Some m) = cond (eqb m n) 1 0

abbrev pub times : ℕ → List Mark → ℕ
times n [] = 0
times n (m ∷ ms) = hits n m.lands + times n ms

abbrev pub returning : Kind → Bool
returning Still = false
returning Space = false
returning Return = true
returning (Shift to) = false
returning (Char bell) = false

-- no return among the codes
abbrev pub NoReturn : List ℕ → Type 0
NoReturn [] = Unit
NoReturn (c ∷ cs) = (returning (kind_of c) ≡ false) × NoReturn cs
