-- What demand 3 comes to for all bytes together.
use Rattle.std.specs.Prelude.{ℕ, suc, ◌≡◌, false, List, [], ◌∷◌, ◌++◌}
use Rattle.settings.specs.Options.{endings}
use Rattle.printer.specs.Printer.{prints_all}
use Rattle.step.specs.Step.{step, Event}
use Rattle.demands.specs.Names.{Printer, Mark, State}
use Rattle.demands.specs.Asks.{asks}
use Rattle.demands.specs.Story.{Scene, does, turned}
use Rattle.demands.specs.Printing.{own_prints, Holds}

-- all that is printed for the bytes' own
abbrev pub own_of : (joining : ℕ → Printer) (n : ℕ) (x : Scene) (es : List Event) → Holds joining n x es → List ℕ
own_of joining n x [] h = []
own_of joining n x (e ∷ es) h = own_prints x.printer h.0.printed.stretches ++ own_of joining (suc n) (turned x e (joining n)) es h.1

-- all that is printed
abbrev pub marks_of : (ℕ → Printer) → ℕ → Scene → List Event → List Mark
marks_of joining n x [] = []
marks_of joining n x (e ∷ es) = prints_all x.printer (does x e).line ++ marks_of joining (suc n) (turned x e (joining n)) es

-- all that is asked for
abbrev pub asks_all : State → List Event → List ℕ
asks_all s [] = []
asks_all s (e ∷ es) = asks s e ++ asks_all (step e.stream s e.byte).state es

-- 49 is off whenever a byte is taken
abbrev pub Off : State → List Event → Type 0
Off s [] = Unit {0}
Off s (e ∷ es) = (endings s.settings ≡ false) × Off (step e.stream s e.byte).state es
