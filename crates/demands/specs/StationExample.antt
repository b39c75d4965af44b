-- A station that is called: mode 1, 53 at 2, string 91 the one code of an A, and a text.
use Rattle.std.specs.Prelude.{ℕ, List, [], ◌∷◌, ◌++◌}
use Rattle.step.specs.Step.{Event}
use Rattle.linebox.specs.Ends.{events}
use Rattle.demands.specs.Names.{Host}
use Rattle.demands.specs.Traces.{write, mode1}

-- 53,1,2 and 91,8,3,0,0,0,0,0,0,0
abbrev pub by91 : List ℕ
by91 = write ++ 53 ∷ 51 ∷ 44 ∷ 49 ∷ 44 ∷ 50 ∷ 13 ∷ write ++ 57 ∷ 49 ∷ 44 ∷ 56 ∷ 44 ∷ 51 ∷ 44 ∷ 48 ∷ 44 ∷ 48 ∷ 44 ∷ 48 ∷ 44 ∷ 48 ∷ 44 ∷ 48 ∷ 44 ∷ 48 ∷ 44 ∷ 48 ∷ 13 ∷ []

-- and then `B`
abbrev pub before : List Event
before = events Host (mode1 ++ by91 ++ 66 ∷ [])

-- `-.TC,20,2,1,1` framed
abbrev pub told : List ℕ
told = 13 ∷ 10 ∷ 45 ∷ 46 ∷ 84 ∷ 67 ∷ 44 ∷ 50 ∷ 48 ∷ 44 ∷ 50 ∷ 44 ∷ 49 ∷ 44 ∷ 49 ∷ 13 ∷ 10 ∷ []
