-- What demand 3 comes to for all bytes together, from what it says of each.
-- Assumes nothing.
use Prim.Native.Nat.{ℕ, suc}
use mathlib.Core.Path.{◌≡◌, refl}
use mathlib.Core.Bool.{false}
use mathlib.Core.List.{List, [], ◌∷◌}
use Rattle.settings.specs.Options.{endings}
use Rattle.printer.specs.Printer.{prints_all}
use Rattle.step.specs.Step.{Event}
use Rattle.demands.specs.Names.{Printer}
use Rattle.demands.specs.Asks.{asks}
use Rattle.demands.specs.Story.{Scene, does, turned}
use Rattle.demands.specs.Printing.{characters_of, Keeps, Holds}
use Rattle.demands.specs.Whole.{own_of, marks_of, asks_all, Off}
use Rattle.demands.proofs.Stretches.{characters_append, plain_printed}

-- with 49 off, a byte prints exactly what it asks for
pub plain_byte : (x : Scene) (e : Event) → Keeps x e → endings x.state.settings ≡ false → characters_of (prints_all x.printer (does x e).line) ≡ asks x.state e
plain_byte x e h off = plain_printed x.state.settings off x.printer (does x e).line (asks x.state e) h.printed

-- bytes of which demand 3 holds, from any scene and counted from any number
module _ (joining : ℕ → Printer) where
  -- 49 on, off or changing: what is printed beside endings is the list asked for
  pub own_prints : (n : ℕ) (x : Scene) (es : List Event) (h : Holds joining n x es) → own_of joining n x es h ≡ asks_all x.state es
  own_prints n x [] h = refl
  own_prints n x (e ∷ es) h = rw (h.0.printed.own, own_prints (suc n) (turned x e (joining n)) es h.1)

  -- with 49 off whenever a byte is taken, the list printed is the list asked for
  pub plain_prints : (n : ℕ) (x : Scene) (es : List Event) → Holds joining n x es → Off x.state es → characters_of (marks_of joining n x es) ≡ asks_all x.state es
  plain_prints n x [] h off = refl
  plain_prints n x (e ∷ es) h off =
      let y = turned x e (joining n) in
      rw (characters_append (prints_all x.printer (does x e).line) (marks_of joining (suc n) y es), plain_byte x e h.0 off.0, plain_prints (suc n) y es h.1 off.1)
