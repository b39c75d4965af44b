-- One code with its shifts, by whether it depends on case and whether a shift leads it.
-- Assumes nothing.
use Prim.Native.Nat.{ℕ}
use mathlib.Core.Path.{◌≡◌, refl, sym, ◌∙◌}
use mathlib.Core.Bool.{Bool, false}
use mathlib.Core.List.{[], ◌∷◌, ◌++◌}
use Rattle.code.specs.Kinds.{kind_of, shifts, dependent}
use Rattle.sender.specs.Names.{Case, Kind, Still, Space, Return, Shift, Char, Settings, Option}
use Rattle.sender.specs.Code.{shift_to, follow, send_as}

-- a kind that is not Char
pub not_char : (k : Kind) → ((bell : Bool) → k ≡ Char bell → ⊥) → dependent k ≡ false
not_char Still h = refl
not_char Space h = refl
not_char Return h = refl
not_char (Shift to) h = refl
not_char (Char bell) h = absurd (h bell refl)

-- a code of this kind depends on case, and no LTRS follows it
pub cased : (o : Settings) (n : Option Case) (want : Case) (c : ℕ) (k : Kind) (bell : Bool) → k ≡ kind_of c → k ≡ Char bell → send_as o n want c ≡ shifts (shift_to n want) ++ c ∷ []
cased o n want c k bell q e = rw (sym q ∙ e)

-- and no shift leads any other
pub uncased : (o : Settings) (n : Option Case) (want : Case) (c : ℕ) (k : Kind) → k ≡ kind_of c → ((bell : Bool) → k ≡ Char bell → ⊥) → send_as o n want c ≡ c ∷ shifts (follow o n k)
uncased o n want c k q h = rw (← q, not_char k h)
