-- Where a byte can lead, and what follows of every byte: a sound reader stays sound, the fields stay eleven, and a finished
-- command has 2 to 12 of them.
-- Assumes nothing.
use Prim.Native.Nat.{ℕ, ◌+◌, ◌≤◌, min}
use mathlib.Core.Path.{◌≡◌, refl, ◌∙◌}
use mathlib.Core.Bool.{Bool, true, false, cond, ◌&&◌, ◌||◌}
use mathlib.Core.List.{List, [], ◌∷◌}
use native.Mathlib.Nat.{min-le_left}
use native.Mathlib.Omega.{arith}
use borrow.Author.Tests.{le-leb, leb-true, eqb-false}
use lib.Dec.{eqb, leb}
use lib.ListN.{length, set, length-set}
use Rattle.command.specs.Names.{Verb, Form, Empty, Digits, Ex, Stage, Text, Swallow, Held, Begun, Lettered, Typed, Fields, Discard, Reader, Out, Nothing, One, Two, Finished, Step}
use Rattle.command.specs.Read.{unused, at, in_field, afresh, over, ends, inside, is_small, is_capital, alike, is_letter, verb, is_digit, opened, digit, ex, field, finish, read_at, read, sound_stage}
use Rattle.command.specs.Reads.{after}
use Rattle.std.proofs.lemmas.Bool.{and_parts}

-- a finished command has 2 to 12 fields
abbrev pub proper : Out → Bool
proper Nothing = true
proper (One b) = true
proper (Two b) = true
proper (Finished v count) = leb 2 count && leb count 12

-- where a byte can lead: to a stage in which no field is read, to the first field, to the next one, or on in the same
data Leads : Stage → List ℕ → Step → Type 0 where
  plain : {s : Stage} {values : List ℕ} (stage : Stage) (out : Out) → sound_stage stage ≡ true → proper out ≡ true → Leads s values (at stage out)
  begins : {s : Stage} {values : List ℕ} (v : Verb) → Leads s values (in_field v Empty 0 unused)
  opens : {v : Verb} {f : Form} {last : ℕ} {values : List ℕ} → Leads (Fields v f last) values (opened v last values)
  keeps : {v : Verb} {f : Form} {last : ℕ} {values : List ℕ} (g : Form) (x : ℕ) → Leads (Fields v f last) values (in_field v g last (set values last x))

either : {s : Stage} {values : List ℕ} (t : Bool) {x y : Step} → Leads s values x → Leads s values y → Leads s values (cond t x y)
either true p q = p
either false p q = q

sound_over : (b : ℕ) → sound_stage (over b) ≡ true
sound_over b = go (eqb b 13)
  where
    go : (t : Bool) → sound_stage (cond t Swallow Text) ≡ true
    go true = refl
    go false = refl

proper_finish : (v : Verb) (last : ℕ) → proper (finish v last) ≡ true
proper_finish v last = go (eqb last 0) refl
  where
    go : (t : Bool) → eqb last 0 ≡ t → proper (cond t Nothing (Finished v (min 12 (last + 1)))) ≡ true
    go true e = refl
    go false e =
        let p : 2 ≤ min 12 (last + 1) = omega (arith, eqb-false last 0 e) in
        rw (le-leb _ _ p, le-leb _ _ (min-le_left 12 (last + 1)))

module _ {s : Stage} {values : List ℕ} where
  discards : Leads s values (at Discard Nothing)
  discards = plain Discard Nothing refl refl

  holds : (out : Out) → proper out ≡ true → Leads s values (at Held out)
  holds out p = plain Held out refl p

  leads_afresh : (b : ℕ) → Leads s values (afresh b)
  leads_afresh b = either (eqb b 47) (holds Nothing refl) (plain Text (One b) refl refl)

  leads_inside : (b : ℕ) (finished : Out) {other : Step} → proper finished ≡ true → Leads s values other → Leads s values (inside b finished other)
  leads_inside b finished p l = either (ends b) (plain (over b) finished (sound_over b) p) (either (eqb b 47) (holds Nothing refl) l)

leads_field : (v : Verb) (f : Form) (last : ℕ) (values : List ℕ) (b : ℕ) → Leads (Fields v f last) values (field v f last values b)
leads_field v f last values b = either (eqb b 44) opens (either (is_digit b) (more f) (either (eqb b 88) (alone f) discards))
  where
    more : (g : Form) → Leads (Fields v f last) values (digit v g last values b)
    more Empty = keeps Digits _
    more Digits = keeps Digits _
    more Ex = discards

    alone : (g : Form) → Leads (Fields v f last) values (ex v g last values)
    alone Empty = keeps Ex 255
    alone Digits = discards
    alone Ex = discards

leads : (s : Stage) (values : List ℕ) (b : ℕ) → Leads s values (read_at s values b)
leads Text values b = leads_afresh b
leads Swallow values b = either (eqb b 10) (plain Text Nothing refl refl) (leads_afresh b)
leads Held values b = either (eqb b 46) (plain Begun Nothing refl refl) (either (eqb b 47) (holds (One 47) refl) (plain Text (Two b) refl refl))
leads Begun values b = leads_inside b Nothing refl (either (is_small b || is_capital b) (plain (Lettered (is_small b) (is_letter 84 b)) Nothing refl refl) discards)
leads (Lettered small t) values b = leads_inside b Nothing refl (either (alike small b) (plain (Typed (verb t b)) Nothing refl refl) discards)
leads (Typed v) values b = leads_inside b Nothing refl (either (eqb b 44) (begins v) discards)
leads (Fields v f last) values b = leads_inside b (finish v last) (proper_finish v last) (leads_field v f last values b)
leads Discard values b = leads_inside b Nothing refl discards

sound_leads : {s : Stage} {values : List ℕ} {n : Step} → Leads s values n → sound_stage s ≡ true → sound_stage n.reader.stage ≡ true
sound_leads (plain stage out p q) h = p
sound_leads (begins v) h = refl
sound_leads (opens {last = last}) h = le-leb _ _ (min-le_left 11 (last + 1))
sound_leads (keeps g x) h = h

eleven_leads : {s : Stage} {values : List ℕ} {n : Step} → Leads s values n → length values ≡ 11 → length n.reader.values ≡ 11
eleven_leads (plain stage out p q) h = refl
eleven_leads (begins v) h = refl
eleven_leads (opens {last = last} {values = values}) h = length-set values (last + 1) 0 ∙ h
eleven_leads (keeps {last = last} {values = values} g x) h = length-set values last x ∙ h

proper_leads : {s : Stage} {values : List ℕ} {n : Step} → Leads s values n → proper n.out ≡ true
proper_leads (plain stage out p q) = q
proper_leads (begins v) = refl
proper_leads opens = refl
proper_leads (keeps g x) = refl

-- a sound reader stays sound
pub sound_read : (r : Reader) (b : ℕ) → sound_stage r.stage ≡ true → sound_stage (read r b).reader.stage ≡ true
sound_read r b = sound_leads (leads r.stage r.values b)

pub sound_after : (r : Reader) (bs : List ℕ) → sound_stage r.stage ≡ true → sound_stage (after r bs).stage ≡ true
sound_after r [] h = h
sound_after r (b ∷ bs) h = sound_after (read r b).reader bs (sound_read r b h)

-- the fields stay eleven
pub eleven_read : (r : Reader) (b : ℕ) → length r.values ≡ 11 → length (read r b).reader.values ≡ 11
eleven_read r b = eleven_leads (leads r.stage r.values b)

pub eleven_after : (r : Reader) (bs : List ℕ) → length r.values ≡ 11 → length (after r bs).values ≡ 11
eleven_after r [] h = h
eleven_after r (b ∷ bs) h = eleven_after (read r b).reader bs (eleven_read r b h)

-- a finished command has 2 to 12 fields
pub finished_read : (r : Reader) (b : ℕ) (v : Verb) (count : ℕ) → (read r b).out ≡ Finished v count → (2 ≤ count) × (count ≤ 12)
finished_read r b v count e =
    let p = and_parts (leb 2 count) (leb count 12) (rw e at (proper_leads (leads r.stage r.values b))) in
    (leb-true 2 count p.0, leb-true count 12 p.1)
