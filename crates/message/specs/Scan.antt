-- A message looked for byte by byte: the definition that computes what `Find` says.
use Rattle.std.specs.Prelude.{ℕ, suc, ◌+◌, ◌*◌, ◌-◌, Bool, true, false, cond, ◌&&◌, Option, Some, None, option_map, option_and_then, List, [], ◌∷◌, ◌++◌, eqb, leb, drop}
use Rattle.std.specs.Bool.{then_some}
use Rattle.std.specs.Option.{option_map_or}
use Rattle.message.specs.declared.Phase.{Phase}
use Rattle.message.specs.declared.Phase.TheVariants.{First, Second, Rest}
use Rattle.message.specs.declared.Scan.{Scan}
use Rattle.message.specs.declared.Scan.TheVariants.{Opening, Comma, In}
use Rattle.message.specs.declared.Place.{Place}
use Rattle.message.specs.Message.{crlf, mark}

-- a number that ends: the second says how many have to come, and none comes after those
abbrev pub ended : Phase → ℕ → Option Phase
ended First v = Some Second
ended Second v = Some (Rest v)
ended (Rest n) v = cond (eqb n 0) None (Some (Rest (n - 1)))

-- as many came as the second said
abbrev pub whole : Phase → Bool
whole First = false
whole Second = false
whole (Rest n) = eqb n 0

abbrev pub is_digit : ℕ → Bool
is_digit b = leb 48 b && leb b 57

-- one digit more, unless it follows a leading zero or makes the number too large
abbrev pub more : Phase → ℕ → ℕ → Option Scan
more p v b = cond (eqb v 0) None (cond (leb (v * 10 + (b - 48)) 255) (Some (In p (v * 10 + (b - 48)))) None)

-- one byte more, if the bytes may be the numbers of a message still
abbrev pub scan : Scan → ℕ → Option Scan
scan Opening b = cond (eqb b 44) (Some (Comma First)) None
scan (Comma p) b = cond (is_digit b) (Some (In p (b - 48))) None
scan (In p v) b = cond (eqb b 44) (option_map Comma (ended p v)) (cond (is_digit b) (more p v b) None)

-- the numbers may end here
abbrev pub complete : Scan → Bool
complete Opening = false
complete (Comma p) = false
complete (In p v) = option_map_or whole (ended p v) false

abbrev pub prefix : List ℕ → List ℕ → Bool
prefix [] s = true
prefix (x ∷ w) [] = false
prefix (x ∷ w) (y ∷ s) = eqb y x && prefix w s

-- the k bytes of numbers that are read, if they may end here and CR LF follows
abbrev pub ends_here : Scan → ℕ → List ℕ → Option ℕ
ends_here st k s = then_some (prefix crlf s && complete st) k

-- how many bytes the numbers take, up to a CR LF, of which k are read; none where they are not those of a message
abbrev pub numbers_from : Scan → ℕ → List ℕ → Option ℕ
numbers_from st k [] = None
numbers_from st k (b ∷ s) = cond (eqb b 13) (ends_here st k (b ∷ s)) (option_and_then (λ x. numbers_from x (suc k) s) (scan st b))

-- the numbers of the message that begins with the first byte, if one does
abbrev pub message_at : List ℕ → Option ℕ
message_at s = cond (prefix (crlf ++ mark) s) (numbers_from Opening 0 (drop 6 s)) None

abbrev pub placed : ℕ → Option ℕ → Option Place → Option Place
placed i None other = other
placed i (Some k) other = Some (record { start = i + 2; len = 4 + k })

-- the earliest message, counted from i, if there is one
abbrev pub located_from : ℕ → List ℕ → Option Place
located_from i [] = None
located_from i (b ∷ s) = placed i (message_at (b ∷ s)) (located_from (suc i) s)

unfoldable pub located : List ℕ → Option Place
located s = located_from 0 s
