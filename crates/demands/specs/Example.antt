-- A session that meets every premise of demand 3: commands, text, an ending, a change of limit, a stand-in, a second connection with a printer
-- that unshifts on space by itself, and a third with one that unshifts on return, also in an ending; two of its calls stop early.
use Rattle.std.specs.Prelude.{ℕ, true, false, cond, List, [], ◌∷◌, ◌++◌, ltb, replicate}
use Rattle.printer.specs.Printer.{from}
use Rattle.step.specs.Step.{Event}
use Rattle.linebox.specs.Ends.{events}
use Rattle.demands.specs.Names.{Figures, Printer, Host, Line, Tu}
use Rattle.demands.specs.Lent.{Lent}
use Rattle.demands.specs.Traces.{write, mode1, mode4, on70, on71, dash77, endings_on}

-- a call with so much room in the line buffer
abbrev host : ℕ → List ℕ → Lent
host room bytes = record { stream = Host; bytes = bytes; one = replicate room 0; two = replicate 200 0 }

-- 50,1,12
abbrev limit12 : List ℕ
limit12 = write ++ 53 ∷ 48 ∷ 44 ∷ 49 ∷ 44 ∷ 49 ∷ 50 ∷ 13 ∷ []

-- CR `HELLO WORL`, and `D 12`
abbrev hello : List ℕ
hello = 13 ∷ 72 ∷ 69 ∷ 76 ∷ 76 ∷ 79 ∷ 32 ∷ 87 ∷ 79 ∷ 82 ∷ 76 ∷ []

abbrev world : List ℕ
world = 68 ∷ 32 ∷ 49 ∷ 50 ∷ []

-- limit 12, 70 on, the stand-in `-`, and ` 3~`
abbrev change : List ℕ
change = limit12 ++ on70 ++ dash77 ++ 32 ∷ 51 ∷ 126 ∷ []

-- from the TU: FIGS, a figure, a space, a letter and a return
abbrev figure : List ℕ
figure = 27 ∷ 23 ∷ 4 ∷ 16 ∷ 8 ∷ []

-- CR and `1234567890123`, with an ending before the last
abbrev figures : List ℕ
figures = 13 ∷ 49 ∷ 50 ∷ 51 ∷ 52 ∷ 53 ∷ 54 ∷ 55 ∷ 56 ∷ 57 ∷ 48 ∷ 49 ∷ 50 ∷ 51 ∷ []

-- the second call stops for want of room before the ending, and the sixth at a byte that is no code
abbrev pub calls : List Lent
calls =
    host 0 endings_on
    ∷ host 16 (hello ++ world)
    ∷ host 20 world
    ∷ host 20 change
    ∷ host 20 mode4
    ∷ record { stream = Tu; bytes = figure ++ 32 ∷ 3 ∷ []; one = replicate 20 0; two = [] }
    ∷ record { stream = Line; bytes = 3 ∷ []; one = replicate 20 0; two = replicate 20 0 }
    ∷ host 40 (on71 ++ mode1 ++ figures)
    ∷ []

-- the bytes that they take
abbrev pub bytes : List Event
bytes = events Host (endings_on ++ hello ++ world ++ change ++ mode4) ++ events Tu figure ++ events Line (3 ∷ []) ++ events Host (on71 ++ mode1 ++ figures)

-- a printer for each connection; the second unshifts on space, the third on return
abbrev pub first : Printer
first = from Figures 7 false false

abbrev pub second : Printer
second = from Figures 40 true false

abbrev pub third : Printer
third = from Figures 3 false true

-- the second connection comes after the fiftieth byte, the third after the 120th
abbrev pub joining : ℕ → Printer
joining n = cond (ltb n 50) first (cond (ltb n 120) second third)

-- the codes in the line buffers, connection by connection; each `8 ∷ 8 ∷ 2` and `8 ∷ 31 ∷ 8 ∷ 2` begins an ending
abbrev pub codes : List ℕ
codes =
    8 ∷ 31 ∷ 20 ∷ 1 ∷ 18 ∷ 18 ∷ 24 ∷ 4 ∷ 19 ∷ 24 ∷ 10 ∷ 18 ∷ 8 ∷ 8 ∷ 2 ∷ 31 ∷ 31 ∷ 9 ∷ 4 ∷ 27 ∷ 23 ∷ 19 ∷ 4 ∷ 31 ∷ 27 ∷ 1 ∷ 3 ∷ []
    ++ 27 ∷ 23 ∷ 4 ∷ 31 ∷ 16 ∷ 8 ∷ []
    ++ 8 ∷ 31 ∷ 27 ∷ 23 ∷ 19 ∷ 1 ∷ 10 ∷ 16 ∷ 21 ∷ 7 ∷ 6 ∷ 24 ∷ 22 ∷ 23 ∷ 19 ∷ 8 ∷ 31 ∷ 8 ∷ 2 ∷ 31 ∷ 31 ∷ 27 ∷ 1 ∷ []

-- what is asked for, and so printed beside the two endings
abbrev pub asked : List ℕ
asked = hello ++ world ++ 32 ∷ 51 ∷ 45 ∷ [] ++ 49 ∷ 32 ∷ 84 ∷ 13 ∷ [] ++ figures
