-- A run of bytes that the command reader keeps stands before what the rest gives.
-- Assumes nothing.
use Prim.Native.Nat.{ℕ, suc, ◌+◌}
use mathlib.Core.Path.{◌≡◌, refl}
use mathlib.Core.Bool.{Bool, true, false, cond, false≢true}
use mathlib.Core.List.{List, [], ◌∷◌}
use native.Mathlib.Omega.{arith}
use native.Mathlib.Numerals.{add-one}
use native.Mathlib.Nat.{zero-add, sub-zero}
use lib.Dec.{leb-zero}
use lib.ListN.{drop}
use Rattle.command.specs.declared.Running.{Running}
use Rattle.command.specs.declared.Step.{Step as Read}
use Rattle.command.specs.Read.{is_nothing, read}
use Rattle.command.specs.Reads.{further, running}
use Rattle.linebox.specs.Names.{Out, Nothing, One, Two, Finished, State, Host}
use Rattle.step.specs.State.{sound, with_reader}
use Rattle.step.specs.Step.{quiet, hosted}
use Rattle.linebox.specs.Call.{Done, before, taking}
use Rattle.step.proofs.Stays.{sound_step}

nothing_made : (s : State) (fields : List ℕ) (out : Out) → is_nothing out ≡ true → hosted s fields out ≡ quiet s
nothing_made s fields Nothing e = refl
nothing_made s fields (One b) e = absurd (false≢true e)
nothing_made s fields (Two b) e = absurd (false≢true e)
nothing_made s fields (Finished v n) e = absurd (false≢true e)

-- the state after the run is sound, and the run stands before the rest
pub record Kept (s : State) (xs : List ℕ) (a b : ℕ) (u : Running) : Type 0 where
  pub is_sound : sound (with_reader s u.reader) ≡ true
  pub rest : taking Host s xs a b ≡ before u.taken [] [] (taking Host (with_reader s u.reader) (drop u.taken xs) a b)

none_kept : (s : State) (xs : List ℕ) (a b : ℕ) (next : Read) → sound s ≡ true → Kept s xs a b (record { reader = s.reader; next = next; taken = 0 })
none_kept s xs a b next ok = record { is_sound = ok; rest = rw zero-add }

one_more : (n : ℕ) (d : Done) → record { answer = d.answer; taken = suc (n + d.taken); state = d.state; first = d.first; second = d.second } ≡ before (suc n) [] [] d
one_more n d =
    let u : suc (n + d.taken) ≡ suc n + d.taken = omega arith in
    rw u

one_kept : (s : State) (x : ℕ) (xs : List ℕ) (a b : ℕ) → is_nothing (read s.reader x).out ≡ true
    → Kept (with_reader s (read s.reader x).reader) xs a b (running (read s.reader x).reader xs) → Kept s (x ∷ xs) a b (further (running (read s.reader x).reader xs))
one_kept s x xs a b e k =
    let u = nothing_made (with_reader s (read s.reader x).reader) s.reader.values (read s.reader x).out e in
    record { is_sound = k.is_sound; rest = rw (u, leb-zero a, leb-zero b, sub-zero a, sub-zero b, k.rest, add-one (running (read s.reader x).reader xs).taken) (one_more _ _) }

pub kept : (s : State) (xs : List ℕ) (a b : ℕ) → sound s ≡ true → Kept s xs a b (running s.reader xs)
kept s [] a b ok = none_kept s [] a b _ ok
kept s (x ∷ xs) a b ok = go (is_nothing (read s.reader x).out) refl (λ h. kept (with_reader s (read s.reader x).reader) xs a b h)
  where
    go : (z : Bool) → is_nothing (read s.reader x).out ≡ z
        → (sound (with_reader s (read s.reader x).reader) ≡ true → Kept (with_reader s (read s.reader x).reader) xs a b (running (read s.reader x).reader xs))
        → Kept s (x ∷ xs) a b (cond z (further (running (read s.reader x).reader xs)) (record { reader = s.reader; next = read s.reader x; taken = 0 }))
    go true e rest =
        let t = with_reader s (read s.reader x).reader in
        let u = nothing_made t s.reader.values (read s.reader x).out e in
        one_kept s x xs a b e (rest (rw u at (sound_step Host s x ok)))
    go false e rest = none_kept s (x ∷ xs) a b _ ok
