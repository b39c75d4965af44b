-- The text that a byte makes is the one that the stage alone says: in a command a byte makes nothing or a finished command.
-- Assumes nothing.
use Prim.Native.Nat.{ℕ}
use mathlib.Core.Path.{◌≡◌, refl}
use mathlib.Core.Bool.{Bool, true, false, cond}
use mathlib.Core.List.{List, ◌∷◌}
use Rattle.laws.proofs.Either.{either_way}
use Rattle.command.specs.Names.{Empty, Digits, Ex, Stage, Text, Swallow, Held, Begun, Lettered, Typed, Fields, Discard, Out, Step}
use Rattle.command.specs.Read.{read_at, text_of, text_at}

-- the text of either of two
of_step : (t : Bool) (x y : Step) → text_of (cond t x y).out ≡ cond t (text_of x.out) (text_of y.out)
of_step true x y = refl
of_step false x y = refl

of_out : (t : Bool) (x y : Out) → text_of (cond t x y) ≡ cond t (text_of x) (text_of y)
of_out true x y = refl
of_out false x y = refl

slash : (t : Bool) (v w : List ℕ) → cond t (47 ∷ v) (47 ∷ w) ≡ 47 ∷ cond t v w
slash true v w = refl
slash false v w = refl

pub text_at_law : (s : Stage) (values : List ℕ) (b : ℕ) → text_of (read_at s values b).out ≡ text_at s b
text_at_law Text values b = simp of_step
text_at_law Swallow values b = simp of_step
text_at_law Held values b = simp (of_step, slash)
text_at_law Begun values b = simp (of_step, either_way)
text_at_law (Lettered small t) values b = simp (of_step, either_way)
text_at_law (Typed v) values b = simp (of_step, either_way)
text_at_law (Fields v Empty last) values b = simp (of_step, of_out, either_way)
text_at_law (Fields v Digits last) values b = simp (of_step, of_out, either_way)
text_at_law (Fields v Ex last) values b = simp (of_step, of_out, either_way)
text_at_law Discard values b = simp (of_step, either_way)
