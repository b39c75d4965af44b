-- What the calls give to C.
use Rattle.std.specs.Prelude.{ℕ, ◌≡◌, Bool, cond, ◌&&◌, List, [], ◌∷◌, length}
use Rattle.laws.specs.Written.{fronted}
use Rattle.step.specs.State.{sound}
use Rattle.linebox.specs.Call.{Done, call, stopped}
use Rattle.board.specs.Names.{Stream}
use Rattle.spelling.specs.Spelling.{spells, spelt, state_of}

-- the bytes are the spelling of a sound state
abbrev pub spells_sound : List ℕ → Bool
spells_sound b = spells b && sound (state_of b)

-- the box's own call on the state that the bytes spell, with this room in the two buffers; answer 3 where they spell none
abbrev pub asked : Stream → List ℕ → List ℕ → ℕ → ℕ → Done
asked t b xs n m = cond (spells b) (call t (state_of b) xs n m) (stopped 3 (state_of b))

-- the state's bytes after it; what is not the spelling of a sound state stays
abbrev pub after : List ℕ → Done → List ℕ
after b d = cond (spells_sound b) (spelt d.state) b

-- A call: the answer's number, the state's bytes, what was taken and what was written to each buffer in the
-- order lent, and every byte of the buffers.
pub record Boards (b : List ℕ) (d : Done) (old₁ old₂ state now₁ now₂ done : List ℕ) (r : ℕ) : Type 0 where
  pub answer : r ≡ d.answer
  pub bytes : state ≡ after b d
  pub told : done ≡ d.taken ∷ length d.first ∷ length d.second ∷ []
  pub one : now₁ ≡ fronted old₁ d.first
  pub two : now₂ ≡ fronted old₂ d.second

-- The promise of a call, on the state's bytes b.
abbrev pub Boarded : Stream → List ℕ → List ℕ → List ℕ → List ℕ → List ℕ → List ℕ → List ℕ → List ℕ → ℕ → Type 0
Boarded t b xs old₁ old₂ state now₁ now₂ done r = Boards b (asked t b xs (length old₁) (length old₂)) old₁ old₂ state now₁ now₂ done r
