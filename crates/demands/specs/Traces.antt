-- The paper's starred traces, as one table over the box's calls.
use Rattle.std.specs.Prelude.{ℕ, Bool, true, ◌&&◌, List, [], ◌∷◌, ◌++◌, eqb, length}
use Rattle.laws.specs.Same.{same}
use Rattle.step.specs.State.{fresh_box}
use Rattle.linebox.specs.Call.{Done, call}
use Rattle.demands.specs.Names.{Stream, Host, Tu}

-- a fresh box is given host bytes first, and then the bytes of the trace, which send these codes
pub record Trace : Type 0 where
  pub before : List ℕ
  pub stream : Stream
  pub bytes : List ℕ
  pub sent : List ℕ

abbrev pub prepared : Trace → Done
prepared t = call Host fresh_box t.before 100 200

abbrev pub given : Trace → Done
given t = call t.stream (prepared t).state t.bytes 100 0

-- all bytes are taken, and the codes are those
abbrev pub pass : Trace → Bool
pass t = eqb (prepared t).taken (length t.before) && (eqb (given t).taken (length t.bytes) && same (given t).first t.sent)

abbrev pub passes : List Trace → Bool
passes [] = true
passes (t ∷ ts) = pass t && passes ts

-- Commands.

-- `/.TW,`
abbrev pub write : List ℕ
write = 47 ∷ 46 ∷ 84 ∷ 87 ∷ 44 ∷ []

-- 1,2,1,60 and 4,2,1,60 connect
abbrev pub mode1 : List ℕ
mode1 = write ++ 49 ∷ 44 ∷ 50 ∷ 44 ∷ 49 ∷ 44 ∷ 54 ∷ 48 ∷ 13 ∷ []

abbrev pub mode4 : List ℕ
mode4 = write ++ 52 ∷ 44 ∷ 50 ∷ 44 ∷ 49 ∷ 44 ∷ 54 ∷ 48 ∷ 13 ∷ []

-- an option of two digits is on
abbrev pub on : ℕ → ℕ → List ℕ
on x y = write ++ x ∷ y ∷ 44 ∷ 49 ∷ 44 ∷ 49 ∷ 13 ∷ []

abbrev pub on70 : List ℕ
on70 = on 55 48

abbrev pub on71 : List ℕ
on71 = on 55 49

abbrev pub on72 : List ℕ
on72 = on 55 50

abbrev pub on49 : List ℕ
on49 = on 52 57

-- 50,1,10
abbrev pub limit10 : List ℕ
limit10 = write ++ 53 ∷ 48 ∷ 44 ∷ 49 ∷ 44 ∷ 49 ∷ 48 ∷ 13 ∷ []

-- 77,1,45: the stand-in is `-`
abbrev pub dash77 : List ℕ
dash77 = write ++ 55 ∷ 55 ∷ 44 ∷ 49 ∷ 44 ∷ 52 ∷ 53 ∷ 13 ∷ []

-- The table.

abbrev host : List ℕ → List ℕ → List ℕ → Trace
host before bytes sent = record { before = before; stream = Host; bytes = bytes; sent = sent }

abbrev tu : List ℕ → List ℕ → List ℕ → Trace
tu before bytes sent = record { before = before; stream = Tu; bytes = bytes; sent = sent }

-- mode 1, limit 10, 49 on
abbrev pub endings_on : List ℕ
endings_on = mode1 ++ limit10 ++ on49

abbrev pub ten_letters : List ℕ
ten_letters = 65 ∷ 66 ∷ 67 ∷ 68 ∷ 69 ∷ 70 ∷ 71 ∷ 72 ∷ 73 ∷ 74 ∷ []

abbrev ten_sent : List ℕ
ten_sent = 3 ∷ 25 ∷ 14 ∷ 9 ∷ 1 ∷ 13 ∷ 26 ∷ 20 ∷ 6 ∷ 11 ∷ []

-- CR, FIGS, then ten figures
abbrev ten_figures : List ℕ
ten_figures = 8 ∷ 27 ∷ 23 ∷ 23 ∷ 23 ∷ 23 ∷ 23 ∷ 23 ∷ 23 ∷ 23 ∷ 23 ∷ 23 ∷ []

-- line by line as in the paper; a line that goes on from another is given that one's bytes before it; the last one is not starred:
-- incoming figures go on after an ending that holds LTRS
unfoldable pub traces : List Trace
traces =
    host mode1 (97 ∷ 49 ∷ 32 ∷ 50 ∷ []) (31 ∷ 3 ∷ 27 ∷ 23 ∷ 4 ∷ 19 ∷ [])
    ∷ host (mode1 ++ on70) (97 ∷ 49 ∷ 32 ∷ 50 ∷ []) (31 ∷ 3 ∷ 27 ∷ 23 ∷ 4 ∷ 31 ∷ 27 ∷ 19 ∷ [])
    ∷ host (mode1 ++ on71) (49 ∷ 13 ∷ 50 ∷ []) (27 ∷ 23 ∷ 8 ∷ 31 ∷ 27 ∷ 19 ∷ [])
    ∷ host (mode1 ++ on70) (32 ∷ []) (4 ∷ 31 ∷ [])
    ∷ host mode1 (47 ∷ 65 ∷ []) (27 ∷ 29 ∷ 31 ∷ 3 ∷ [])
    ∷ tu (mode4 ++ on70) (27 ∷ 23 ∷ 4 ∷ 23 ∷ []) (27 ∷ 23 ∷ 4 ∷ 31 ∷ 23 ∷ [])
    ∷ tu (mode4 ++ on72) (31 ∷ 31 ∷ 31 ∷ 5 ∷ []) (31 ∷ 5 ∷ [])
    ∷ host endings_on (13 ∷ ten_letters) (8 ∷ 31 ∷ ten_sent)
    ∷ host (endings_on ++ 13 ∷ ten_letters) (75 ∷ []) (8 ∷ 8 ∷ 2 ∷ 31 ∷ 31 ∷ 15 ∷ [])
    ∷ host (endings_on ++ 13 ∷ ten_letters) (53 ∷ []) (8 ∷ 8 ∷ 2 ∷ 31 ∷ 31 ∷ 27 ∷ 16 ∷ [])
    ∷ host (endings_on ++ 13 ∷ ten_letters) (7 ∷ []) (27 ∷ 5 ∷ [])
    ∷ host endings_on (ten_letters ++ 75 ∷ []) (31 ∷ ten_sent ++ 15 ∷ [])
    ∷ tu (mode4 ++ limit10 ++ on49) (ten_figures ++ 16 ∷ []) (ten_figures ++ 8 ∷ 8 ∷ 2 ∷ 31 ∷ 31 ∷ 27 ∷ 16 ∷ [])
    ∷ []
