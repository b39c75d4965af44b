-- The promise of a call leaves one outcome: each number has one answer, so what is told fixes what the code gives.
-- Assumes nothing.
use Prim.Native.Nat.{ℕ}
use mathlib.Core.Path.{◌≡◌, refl, sym, ap, ◌∙◌}
use mathlib.Core.Bool.{cond}
use mathlib.Core.List.{List}
use lib.Dec.{eqb}
use Rattle.linebox.specs.Names.{Answer, All, NoRoom, NoCode, Unsound, Called}
use Rattle.linebox.specs.Call.{number_of, Done, Told, told, Calls}

-- the answer that has a number
abbrev answer_of : ℕ → Answer
answer_of n = cond (eqb n (number_of All)) All (cond (eqb n (number_of NoRoom)) NoRoom (cond (eqb n (number_of NoCode)) NoCode Unsound))

numbered : (a : Answer) → answer_of (number_of a) ≡ a
numbered All = refl
numbered NoRoom = refl
numbered NoCode = refl
numbered Unsound = refl

abbrev called_by : Told → Called
called_by x = record { answer = answer_of x.answer; taken = x.taken; first = x.first; second = x.second; state = x.state }

told_back : (r : Called) → called_by (told r) ≡ r
told_back r = ap (λ (a : Answer). record { answer = a; taken = r.taken; first = r.first; second = r.second; state = r.state }) (numbered r.answer)

told_once : (r q : Called) → told r ≡ told q → r ≡ q
told_once r q e = sym (told_back r) ∙ ap called_by e ∙ told_back q

-- any two outcomes that a promise allows are equal: what is given, and each buffer
pub calls_once : (d : Done) (old₁ old₂ now₁ now₂ then₁ then₂ : List ℕ) (r q : Called) → Calls d old₁ old₂ now₁ now₂ r → Calls d old₁ old₂ then₁ then₂ q → (r ≡ q) × ((now₁ ≡ then₁) × (now₂ ≡ then₂))
calls_once d old₁ old₂ now₁ now₂ then₁ then₂ r q h k = (told_once r q (h.gives ∙ sym k.gives), (h.one ∙ sym k.one, h.two ∙ sym k.two))
