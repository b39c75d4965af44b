-- The call on bytes that spell a sound state, and on any others.
-- Assumes nothing.
use Prim.Native.Nat.{ℕ}
use mathlib.Core.Path.{◌≡◌, refl, sym, ap, subst}
use mathlib.Core.Bool.{Bool, true, false, cond, ◌&&◌, false≢true}
use mathlib.Core.List.{List, [], ◌∷◌}
use Rattle.std.specs.Prelude.{Some}
use Rattle.std.specs.Bool.{then_some}
use Rattle.std.proofs.lemmas.Bool.{and_parts}
use Rattle.step.specs.declared.State.{State}
use Rattle.step.specs.State.{sound}
use Rattle.linebox.specs.Call.{Done, Told, taking, stopped, number_of}
use Rattle.linebox.specs.Call.{Calls}
use Rattle.board.specs.Names.{Stream, Called}
use Rattle.spelling.specs.Spelling.{spells, spelt, state_of}
use Rattle.board.specs.Calls.{spells_sound, asked, Boards}

-- bytes that spell a sound state spell a state that is sound
pub the_sound : (b : List ℕ) → spells_sound b ≡ true → sound (state_of b) ≡ true
the_sound b h = (and_parts (spells b) (sound (state_of b)) h).1

-- what is opened is the state that they spell
pub opened : (b : List ℕ) (s : State) → Some s ≡ then_some (spells_sound b) (state_of b) → (spells_sound b ≡ true) × (s ≡ state_of b)
opened b s = go (spells_sound b)
  where
    go : (x : Bool) → Some s ≡ then_some x (state_of b) → (x ≡ true) × (s ≡ state_of b)
    go true h = (refl, cc)
    go false h = cc

module _ (t : Stream) (b xs : List ℕ) (n m : ℕ) where
  -- answer 3 comes before all
  abbrev ended : Bool → Done
  ended ok = cond ok (taking t (state_of b) xs n m) (stopped 3 (state_of b))

  abbrev begun : Bool → Bool → Done
  begun read ok = cond read (ended ok) (stopped 3 (state_of b))

  -- what is not the spelling of a sound state is answer 3, and nothing is taken or written
  pub three : spells_sound b ≡ false → asked t b xs n m ≡ stopped 3 (state_of b)
  three = go (spells b) (sound (state_of b))
    where
      go : (x y : Bool) → x && y ≡ false → begun x y ≡ stopped 3 (state_of b)
      go true true h = absurd (false≢true (sym h))
      go true false h = refl
      go false y h = refl

  -- and on the spelling of a sound state the box takes bytes
  pub taken_on : spells_sound b ≡ true → asked t b xs n m ≡ taking t (state_of b) xs n m
  taken_on = go (spells b) (sound (state_of b))
    where
      go : (x y : Bool) → x && y ≡ true → begun x y ≡ taking t (state_of b) xs n m
      go true true h = refl
      go true false h = absurd (false≢true h)
      go false y h = absurd (false≢true h)

  -- bytes that spell a sound state: the box's own call is told
  pub boarded : (old₁ old₂ now₁ now₂ : List ℕ) (r : Called) → spells_sound b ≡ true → Calls (taking t (state_of b) xs n m) old₁ old₂ now₁ now₂ r → Boards b (asked t b xs n m) old₁ old₂ (spelt r.state) now₁ now₂ (r.taken ∷ r.first ∷ r.second ∷ []) (number_of r.answer)
  boarded old₁ old₂ now₁ now₂ r h e =
      subst (λ (d : Done). Boards b d old₁ old₂ (spelt r.state) now₁ now₂ (r.taken ∷ r.first ∷ r.second ∷ []) (number_of r.answer)) (sym (taken_on h))
      (record {
        answer = ap (λ (x : Told). x.answer) e.gives;
        bytes = rw h (ap (λ (x : Told). spelt x.state) e.gives);
        told = ap (λ (x : Told). x.taken ∷ x.first ∷ x.second ∷ []) e.gives;
        one = e.one;
        two = e.two;
      })
