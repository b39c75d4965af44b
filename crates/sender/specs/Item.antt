-- Items: a character asked for, under option 72; host text in mode 1, TU codes in mode 4.
use Rattle.std.specs.Prelude.{ℕ, Bool, false, cond, ◌&&◌, List, [], ◌∷◌, ◌++◌, eqb}
use Rattle.code.specs.Kinds.{kind_of}
use Rattle.code.specs.Convert.{conversion}
use Rattle.settings.specs.Options.{filter, stand_in}
use Rattle.sender.specs.Names.{Case, Letters, Kind, Still, Space, Return, Shift, Char, Conversion, Nothing, Free, Cased, Settings, Record, Wanted, Sender, Asks, Text, Codes, Option, Some, None}
use Rattle.sender.specs.Record.{unknown, notes}
use Rattle.sender.specs.Code.{same_case, send_as}
use Rattle.sender.specs.Ending.{ending_before}

-- the ending that is due, then the code with its shifts
abbrev pub character : Settings → Record → Wanted → List ℕ
character o r w = ending_before o r w ++ send_as o (notes o r (ending_before o r w)).case w.case w.code

abbrev pub last_of : Kind → Option Case
last_of Still = None
last_of Space = None
last_of Return = None
last_of (Shift to) = Some to
last_of (Char bell) = None

-- a shift, and the item just before it was the same shift
abbrev pub repeats : Option Case → Option Case → Bool
repeats None before = false
repeats (Some to) None = false
repeats (Some to) (Some before) = same_case to before

-- option 72 drops it
abbrev pub item : Settings → Sender → Wanted → List ℕ
item o s w = cond (repeats (last_of (kind_of w.code)) s.last && filter o) [] (character o s.held w)

-- the last item is kept whether 72 is on or off
abbrev pub after_item : Settings → Sender → Wanted → Sender
after_item o s w = record { held = notes o s.held (item o s w); last = last_of (kind_of w.code) }

abbrev pub items : Settings → Sender → List Wanted → List ℕ
items o s [] = []
items o s (w ∷ ws) = item o s w ++ items o (after_item o s w) ws

abbrev pub after_items : Settings → Sender → List Wanted → Sender
after_items o s [] = s
after_items o s (w ∷ ws) = after_items o (after_item o s w) ws

-- on connection
abbrev pub fresh : Sender
fresh = record { held = unknown; last = None }

-- What is asked for.

abbrev pub wanted : Case → ℕ → Wanted
wanted case c = record { case = case; code = c }

-- a code, if there is one; one that does not depend on case wants any
abbrev pub wanted_of : Conversion → List Wanted
wanted_of Nothing = []
wanted_of (Free c) = wanted Letters c ∷ []
wanted_of (Cased case c) = wanted case c ∷ []

-- the stand-in's conversion, nothing while option 77 is 0
abbrev pub standing : Settings → Conversion
standing o = cond (eqb (stand_in o) 0) Nothing (conversion (stand_in o))

-- a conversion, or where that is nothing the other
abbrev pub or_else : Conversion → Conversion → Conversion
or_else Nothing other = other
or_else (Free c) other = Free c
or_else (Cased case c) other = Cased case c

-- what a byte of text is on the line: its own code, or where it has none the stand-in's
abbrev pub spoken : Settings → ℕ → Conversion
spoken o b = or_else (conversion b) (standing o)

-- what a byte stands for: text by its code or the stand-in's, a TU code in the incoming reading case
abbrev pub converted : Settings → Asks → ℕ → Conversion
converted o Text b = spoken o b
converted o (Codes case) c = Cased case c

-- what a byte asks for
abbrev pub wanted_by : Settings → Asks → ℕ → List Wanted
wanted_by o asks b = wanted_of (converted o asks b)

-- what a text asks for
abbrev pub wanted_text : Settings → List ℕ → List Wanted
wanted_text o [] = []
wanted_text o (b ∷ bs) = wanted_by o Text b ++ wanted_text o bs
