-- A few bytes, and the stretch that is found in them, by computation.
-- Assumes nothing.
use mathlib.Core.Path.{◌≡◌, refl}
use mathlib.Core.List.{[], ◌∷◌, ◌++◌}
use Rattle.message.specs.Message.{crlf, mark, digits, body, message}
use Rattle.message.specs.Located.{found}
use Rattle.message.specs.Scan.{located}

-- -.TC,255,2,4,4, after a CR LF of its own
pub error_found : found (crlf ++ message 255 (4 ∷ 4 ∷ [])) ≡ mark ++ (44 ∷ 50 ∷ 53 ∷ 53 ∷ 44 ∷ 50 ∷ 44 ∷ 52 ∷ 44 ∷ 52 ∷ [])
unfolding located digits
error_found = refl

-- ,10,00 has a leading zero
pub leading_zero : found (crlf ++ mark ++ (44 ∷ 49 ∷ 48 ∷ 44 ∷ 48 ∷ 48 ∷ []) ++ crlf) ≡ []
unfolding located
leading_zero = refl

-- ,10,1 has too few; the CR LF that ends it begins the message of 11
pub next_candidate : found (crlf ++ mark ++ (44 ∷ 49 ∷ 48 ∷ 44 ∷ 49 ∷ []) ++ message 11 []) ≡ body (11 ∷ 0 ∷ [])
unfolding located digits
next_candidate = refl
