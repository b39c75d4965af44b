-- Bytes read in pieces are read as a whole, however they are cut.
-- Assumes nothing.
use Prim.Native.Nat.{ℕ}
use mathlib.Core.Path.{◌≡◌, refl}
use mathlib.Core.List.{List, [], ◌∷◌, ◌++◌}
use Rattle.command.specs.Names.{Reader}
use Rattle.command.specs.Read.{read}
use Rattle.command.specs.Reads.{after, made}

-- the reader after both pieces
pub after_append : (r : Reader) (xs ys : List ℕ) → after r (xs ++ ys) ≡ after (after r xs) ys
after_append r [] ys = refl
after_append r (b ∷ xs) ys = after_append (read r b).reader xs ys

-- what both pieces made
pub made_append : (r : Reader) (xs ys : List ℕ) → made r (xs ++ ys) ≡ made r xs ++ made (after r xs) ys
made_append r [] ys = refl
made_append r (b ∷ xs) ys = rw (made_append (read r b).reader xs ys)
