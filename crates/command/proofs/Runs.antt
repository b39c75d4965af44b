-- A run of bytes that made nothing: a loop's turns towards it, and where it ends.
-- Assumes nothing.
use Prim.Native.Nat.{ℕ, suc, ◌+◌, ◌≤◌, ◌<◌}
use mathlib.Core.Path.{◌≡◌, refl, ap, sym, ◌∙◌}
use mathlib.Core.Bool.{Bool, true, false, cond}
use mathlib.Core.List.{List, [], ◌∷◌}
use native.Mathlib.Nat.{add-zero, zero-add, not-suc-le-zero}
use native.Mathlib.Numerals.{add-one}
use native.Mathlib.Omega.{arith}
use lib.ListN.{length, drop, get_or, drop_of_length-le}
use lib.Seq.{drop-cons}
use Rattle.command.specs.Names.{Reader, Nothing, Running}
use Rattle.command.specs.Read.{is_nothing, read, sound_stage}
use Rattle.command.specs.Reads.{further, running}
use Rattle.command.proofs.Leads.{sound_read}

-- a run with n bytes more before it
abbrev pub ahead : ℕ → Running → Running
ahead n u = record { reader = u.reader; next = u.next; taken = n + u.taken }

pub run_begins : (r : Reader) (bs : List ℕ) → running r bs ≡ ahead 0 (running r (drop 0 bs))
run_begins r bs = rw (zero-add (running r bs).taken)

ahead_further : (k : ℕ) (u : Running) → ahead k (further u) ≡ ahead (k + 1) u
ahead_further k u =
    let e : k + (u.taken + 1) ≡ k + 1 + u.taken = omega arith in
    rw e

-- where the loop is, from the first byte on: a byte that makes nothing
pub run_goes : (r : Reader) (bs : List ℕ) (k : ℕ) → k < length bs → is_nothing (read r (get_or bs k 0)).out ≡ true → ahead k (running r (drop k bs)) ≡ ahead (k + 1) (running (read r (get_or bs k 0)).reader (drop (k + 1) bs))
run_goes r bs k h e =
    let next = (read r (get_or bs k 0)).reader in
    let turn : ahead k (running r (drop k bs)) ≡ ahead k (further (running next (drop (suc k) bs))) = rw (drop-cons bs k 0 h, e) in
    turn ∙ ahead_further k (running next (drop (suc k) bs)) ∙ ap (λ (j : ℕ). ahead (k + 1) (running next (drop j bs))) (sym (add-one k))

-- a byte that makes something
pub run_stops : (r : Reader) (bs : List ℕ) (k : ℕ) → k < length bs → is_nothing (read r (get_or bs k 0)).out ≡ false → ahead k (running r (drop k bs)) ≡ record { reader = r; next = read r (get_or bs k 0); taken = k }
run_stops r bs k h e = rw (drop-cons bs k 0 h, e, add-zero k)

-- no byte left
pub run_ends : (r : Reader) (bs : List ℕ) (k : ℕ) → length bs ≤ k → ahead k (running r (drop k bs)) ≡ record { reader = r; next = record { reader = r; out = Nothing }; taken = k }
run_ends r bs k h = rw (drop_of_length-le bs h, add-zero k)

-- no more bytes than there are
pub run_within : (r : Reader) (bs : List ℕ) → (running r bs).taken ≤ length bs
run_within r [] = omega arith
run_within r (b ∷ bs) = go (is_nothing (read r b).out) (run_within (read r b).reader bs)
  where
    go : (t : Bool) → (running (read r b).reader bs).taken ≤ length bs → (cond t (further (running (read r b).reader bs)) (record { reader = r; next = read r b; taken = 0 })).taken ≤ suc (length bs)
    go true h = omega (arith, h)
    go false h = omega arith

-- where a byte is left, the next step is that byte's
pub run_next : (r : Reader) (bs : List ℕ) → (running r bs).taken < length bs → (running r bs).next ≡ read (running r bs).reader (get_or bs (running r bs).taken 0)
run_next r [] h = absurd (not-suc-le-zero h)
run_next r (b ∷ bs) h = go (is_nothing (read r b).out) (run_next (read r b).reader bs) h
  where
    go : (t : Bool) → ((running (read r b).reader bs).taken < length bs → (running (read r b).reader bs).next ≡ read (running (read r b).reader bs).reader (get_or bs (running (read r b).reader bs).taken 0)) → let u = cond t (further (running (read r b).reader bs)) (record { reader = r; next = read r b; taken = 0 }) in u.taken < suc (length bs) → u.next ≡ read u.reader (get_or (b ∷ bs) u.taken 0)
    go true rest h = rw (add-one (running (read r b).reader bs).taken) (rest (omega (arith, h)))
    go false rest h = refl

-- a sound reader stays sound
pub run_sound : (r : Reader) (bs : List ℕ) → sound_stage r.stage ≡ true → sound_stage (running r bs).reader.stage ≡ true
run_sound r [] h = h
run_sound r (b ∷ bs) h = go (is_nothing (read r b).out) (run_sound (read r b).reader bs (sound_read r b h))
  where
    go : (t : Bool) → sound_stage (running (read r b).reader bs).reader.stage ≡ true → sound_stage (cond t (further (running (read r b).reader bs)) (record { reader = r; next = read r b; taken = 0 })).reader.stage ≡ true
    go true e = e
    go false e = h
