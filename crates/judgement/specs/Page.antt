-- The page: codes are taken one at a time, and a line feed ends a line of it.
use Rattle.std.specs.Prelude.{Option, Result, Ok, Err, ℕ, suc, Bool, true, false, List, [], ◌∷◌, eqb, ltb}
use Rattle.code.specs.Rows.{row_at}
use Rattle.code.specs.Kinds.{kind_of}
use Rattle.judgement.specs.Names.{Case, Letters, Spot, Watch, NoCode, Judgement, Tally, Line, Page}
use Rattle.judgement.specs.Watch.{within, watch}
use Rattle.judgement.specs.Verdict.{lands, own, meant_by, struck_by, strike_of}
use Rattle.judgement.specs.Line.{bare, strike, final, none, tally_of, plus_tally}

-- a printer, and what is known of it at the start; the paper is bare there
abbrev pub start : Option Case → Spot → ℕ → Bool → Bool → Page
start case spot stop onspace onreturn = record { watch = record { meant = case; fell = false; spot = within stop spot; stop = stop; onspace = onspace; onreturn = onreturn }; line = bare; total = none }

abbrev pub feeds : ℕ → Bool
feeds c = eqb (row_at Letters c) 10

-- a line feed ends the line; anything else may strike on it
abbrev pub line_after : Bool → Watch → Line → ℕ → Line
line_after true w l c = bare
line_after false w l c = strike l (strike_of w c)

abbrev pub total_after : Bool → Tally → Line → Tally
total_after true t l = plus_tally t (tally_of l)
total_after false t l = t

-- the page after a code
abbrev pub page_after : Page → ℕ → Page
page_after s c = record { watch = watch s.watch c; line = line_after (feeds c) s.watch s.line c; total = total_after (feeds c) s.total s.line }

-- what comes of a byte: whether it was taken, and the page after it
pub record Heard : Type 0 where
  pub answer : Result (Unit {0}) NoCode
  pub page : Page

-- a code over 31 is none, and changes nothing
abbrev pub heard : Bool → Page → ℕ → Heard
heard true s c = record { answer = Ok tt; page = page_after s c }
heard false s c = record { answer = Err (record { taken = 0 }); page = s }

abbrev pub step : Page → ℕ → Heard
step s c = heard (ltb c 32) s c

-- how many of so many codes an answer says were taken
abbrev pub taken_of : Result (Unit {0}) NoCode → ℕ → ℕ
taken_of (Ok u) n = n
taken_of (Err e) n = e.taken

-- what comes of many: whether all were taken, how many were, and the page after them
pub record Run : Type 0 where
  pub answer : Result (Unit {0}) NoCode
  pub taken : ℕ
  pub page : Page

-- many codes, up to the first that is none
abbrev pub run_by : Bool → ℕ → Page → Run → Run
run_by true n s r = r
run_by false n s r = record { answer = Err (record { taken = n }); taken = n; page = s }

abbrev pub run_from : ℕ → Page → List ℕ → Run
run_from n s [] = record { answer = Ok tt; taken = n; page = s }
run_from n s (c ∷ cs) = run_by (ltb c 32) n s (run_from (suc n) (page_after s c) cs)

abbrev pub run : Page → List ℕ → Run
run s cs = run_from 0 s cs

-- the totals, with the line that is not ended yet
abbrev pub totals : Page → Tally
totals s = plus_tally s.total (tally_of s.line)

-- the judgement of a code, by the line that it is on as that stands in the end
abbrev pub judgement : Watch → Line → ℕ → Judgement
judgement w l c = record { meant = meant_by w c; struck = struck_by w c; verdict = final l (lands w (kind_of c)) (own w (kind_of c)) }
