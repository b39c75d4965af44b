-- Demand 3, the printer.
use Rattle.std.specs.Prelude.{ℕ, suc, ◌≡◌, Bool, true, cond, ◌||◌, List, [], ◌∷◌, ◌++◌}
use Rattle.code.specs.Kinds.{kind_of, dependent, shift}
use Rattle.settings.specs.Options.{endings, limit, onspace, onreturn, ending_codes}
use Rattle.printer.specs.Printer.{hear, hears, prints, prints_all}
use Rattle.sender.specs.Ending.{until_zero}
use Rattle.agree.specs.Agrees.{Agrees}
use Rattle.agree.specs.Margin.{Below}
use Rattle.agree.specs.Sure.{is_return}
use Rattle.step.specs.State.{fresh_box}
use Rattle.step.specs.Step.{Event, run}
use Rattle.demands.specs.Names.{Letters, Space, Return, Settings, Printer, Mark, State}
use Rattle.demands.specs.Box.{Box}
use Rattle.demands.specs.Lent.{lines, Lent, took_all, sent_all, left, exchanges}
use Rattle.demands.specs.Asks.{asks}
use Rattle.demands.specs.Story.{Scene, start, does, turned, Obedient}

-- What a byte sends, in stretches.

-- either string 90 as a line ending, or the byte's own codes
pub record Stretch : Type 0 where
  pub ending : Bool
  pub codes : List ℕ

-- their codes, one after the other
abbrev pub codes_in : List Stretch → List ℕ
codes_in [] = []
codes_in (x ∷ xs) = x.codes ++ codes_in xs

-- a string as it goes out, code by code: LTRS may stand before a code that depends on case, and after a space with 70 on or a
-- return with 71 on
pub data GoesOut (o : Settings) : List ℕ → List ℕ → Type 0 where
  End : GoesOut o [] []
  Alone : {c : ℕ} {cs sent : List ℕ} → GoesOut o cs sent → GoesOut o (c ∷ cs) (c ∷ sent)
  Led : {c : ℕ} {cs sent : List ℕ} → dependent (kind_of c) ≡ true → GoesOut o cs sent → GoesOut o (c ∷ cs) (shift Letters ∷ c ∷ sent)
  Spaced : {c : ℕ} {cs sent : List ℕ} → kind_of c ≡ Space → onspace o ≡ true → GoesOut o cs sent → GoesOut o (c ∷ cs) (c ∷ shift Letters ∷ sent)
  Returned : {c : ℕ} {cs sent : List ℕ} → kind_of c ≡ Return → onreturn o ≡ true → GoesOut o cs sent → GoesOut o (c ∷ cs) (c ∷ shift Letters ∷ sent)

-- each ending is string 90 up to its first 0, and there is one only with 49 on
abbrev pub Endings : Settings → List Stretch → Type 0
Endings o [] = Unit {0}
Endings o (x ∷ xs) = (x.ending ≡ true → (endings o ≡ true) × GoesOut o (until_zero (ending_codes o)) x.codes) × Endings o xs

-- the characters of marks, wherever they landed
abbrev pub characters_of : List Mark → List ℕ
characters_of [] = []
characters_of (m ∷ ms) = m.character ∷ characters_of ms

-- what is printed for the byte's own, by the printer that hears all of it
abbrev pub own_prints : Printer → List Stretch → List ℕ
own_prints p [] = []
own_prints p (x ∷ xs) = cond x.ending [] (characters_of (prints_all p x.codes)) ++ own_prints (hears p x.codes) xs

-- codes print exactly what is asked for, beside endings
pub record Printed (o : Settings) (p : Printer) (codes asked : List ℕ) : Type 0 where
  pub stretches : List Stretch
  pub whole : codes ≡ codes_in stretches
  pub endings : Endings o stretches
  pub own : own_prints p stretches ≡ asked

-- after the first return, what lands lands below the limit
abbrev pub Within : ℕ → Bool → Printer → List ℕ → Type 0
Within limit returned p [] = Unit {0}
Within limit returned p (c ∷ cs) = (returned ≡ true → Below limit (prints p c)) × Within limit (returned || is_return (kind_of c)) (hear p c) cs

-- What is demanded whenever a byte is taken.
pub record Keeps (x : Scene) (e : Event) : Type 0 where
  -- a case on record is the printer's, and a column on record is its count, staying at 255
  pub agrees : Agrees x.state.sender.held x.printer
  -- exactly what the byte asks for is printed, beside endings
  pub printed : Printed x.state.settings x.printer (does x e).line (asks x.state e)
  -- with 49 on, after the first return, each space and struck character lands below the limit
  pub margin : endings x.state.settings ≡ true → Within (limit x.state.settings) x.returned x.printer (does x e).line

-- at every moment
abbrev pub Holds : (ℕ → Printer) → ℕ → Scene → List Event → Type 0
Holds joining n x [] = Agrees x.state.sender.held x.printer
Holds joining n x (e ∷ es) = Keeps x e × Holds joining (suc n) (turned x e (joining n)) es

-- Of bytes taken from a fresh box, the codes sent and the state left: both are what the bytes give, so the printers hear those codes;
-- and it holds of any printer at first and any at each connection command that succeeds, if they are obedient.
pub record Prints (es : List Event) (sent : List ℕ) (last : State) : Type 0 where
  pub codes : sent ≡ lines fresh_box es
  pub state : last ≡ run fresh_box es
  pub holds : (p : Printer) (joining : ℕ → Printer) → Obedient joining 0 (start p) es → Holds joining 0 (start p) es

-- Of any box: any calls from a fresh one, any bytes and buffers, each handed the last state, all answers included.
abbrev pub Printing : Box → Type 0
Printing box = (gs : List Lent) → let ms = exchanges box fresh_box gs in Prints (took_all ms) (sent_all ms) (left fresh_box ms)
