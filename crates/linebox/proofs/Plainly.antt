-- A run of plain bytes stands before what the rest gives: text in mode 1 with nothing held, TU codes in mode 4.
-- Assumes nothing.
use Prim.Native.Nat.{ℕ, suc, ◌+◌, ◌-◌}
use mathlib.Core.Path.{◌≡◌, refl, ◌∙◌}
use mathlib.Core.Bool.{Bool, true, false, and-true}
use mathlib.Core.List.{List, [], ◌∷◌, ◌++◌, append_assoc}
use native.Mathlib.Omega.{arith}
use native.Mathlib.Nat.{zero-add, sub-zero}
use borrow.Author.Tests.{le-leb, leb-true}
use lib.Dec.{leb, leb-zero}
use lib.ListN.{length, drop, length-append}
use Rattle.sender.specs.Item.{items, after_items, converted, wanted_by}
use Rattle.sender.specs.Run.{asks_next, stops_at, Run, most, run_of}
use Rattle.sender.proofs.Few.{byte_most}
use Rattle.linebox.specs.Names.{Settings, Sender, Asks, Until, State, Stream}
use Rattle.step.specs.Step.{step}
use Rattle.linebox.specs.Call.{first_of, second_of, refuses, fits, Done, before, taking}

-- a byte that is taken as its items go out, and writes to the first buffer alone
pub record Plain (t : Stream) (o : Settings) (st : Sender → Asks → State) (x : Sender) (a : Asks) (b : ℕ) : Type 0 where
  pub is_taken : refuses t (st x a) b ≡ false
  pub state : (step t (st x a) b).state ≡ st (after_items o x (wanted_by o a b)) (asks_next o a b)
  pub first : first_of t (step t (st x a) b) ≡ items o x (wanted_by o a b)
  pub second : second_of t (step t (st x a) b) ≡ []

-- one byte's codes before what stands before the rest
nested : (n : ℕ) (cs p : List ℕ) (d : Done) → record { answer = d.answer; taken = suc (n + d.taken); state = d.state; first = cs ++ (p ++ d.first); second = d.second } ≡ before (suc n) (cs ++ p) [] d
nested n cs p d =
    let u : suc n + d.taken ≡ suc (n + d.taken) = omega arith in
    rw (u, append_assoc cs p d.first)

module _ (t : Stream) (o : Settings) (st : Sender → Asks → State) where
  -- the bytes sent stand before the rest
  abbrev Stands : Sender → Asks → List ℕ → ℕ → ℕ → Run → Type 0
  Stands x a xs room more d = taking t (st x a) xs room more ≡ before d.taken d.codes [] (taking t (st d.sender d.asks) (drop d.taken xs) (room - length d.codes) more)

  none_stand : (x : Sender) (a : Asks) (xs : List ℕ) (room more : ℕ) → Stands x a xs room more (record { sender = x; asks = a; taken = 0; codes = [] })
  none_stand x a xs room more = rw (sub-zero room, zero-add)

  -- a byte fits exactly if its codes do
  one_fits : (x : Sender) (a : Asks) (b : ℕ) (room more : ℕ) → Plain t o st x a b → fits t (step t (st x a) b) room more ≡ leb (length (items o x (wanted_by o a b))) room
  one_fits x a b room more p = rw (p.first, p.second, leb-zero, and-true)

  -- where the most that a byte can be has room, it fits
  pub most_fits : (x : Sender) (a : Asks) (b : ℕ) (room more : ℕ) → Plain t o st x a b → leb most room ≡ true → fits t (step t (st x a) b) room more ≡ true
  most_fits x a b room more p h =
      let n = length (items o x (wanted_by o a b)) in
      one_fits x a b room more p ∙ le-leb n room (omega (arith, byte_most o x (converted o a b), leb-true most room h))

  one_more : (until : Until) (x : Sender) (a : Asks) (b : ℕ) (xs : List ℕ) (room more : ℕ) → (stops_at until b ≡ false → Plain t o st x a b)
      → (let y = after_items o x (wanted_by o a b) in let r = room - length (items o x (wanted_by o a b)) in Stands y (asks_next o a b) xs r more (run_of o y (asks_next o a b) until xs r))
      → Stands x a (b ∷ xs) room more (run_of o x a until (b ∷ xs) room)
  one_more until x a b xs room more plain rest = go (stops_at until b) refl (leb most room) refl
    where
      go : (halts : Bool) → stops_at until b ≡ halts → (fit : Bool) → leb most room ≡ fit → Stands x a (b ∷ xs) room more (run_of o x a until (b ∷ xs) room)
      go true e fit f = rw e (none_stand x a (b ∷ xs) room more)
      go false e false f = rw (e, f) (none_stand x a (b ∷ xs) room more)
      go false e true f =
          let p = plain e in
          let cs = items o x (wanted_by o a b) in
          let d = run_of o (after_items o x (wanted_by o a b)) (asks_next o a b) until xs (room - length cs) in
          let u : room - length cs - length d.codes ≡ room - length (cs ++ d.codes) = omega (arith, length-append cs d.codes) in
          rw (e, f, p.is_taken, most_fits x a b room more p f, p.state, p.first, p.second, sub-zero more, rest, u) (nested d.taken cs d.codes _)

  -- the bytes up to the first that stops the run
  module _ (until : Until) (how : Asks → Bool) (keeps : (a : Asks) (b : ℕ) → how a ≡ true → how (asks_next o a b) ≡ true)
      (plain : (x : Sender) (a : Asks) (b : ℕ) → how a ≡ true → stops_at until b ≡ false → Plain t o st x a b) where
    pub plainly : (xs : List ℕ) (x : Sender) (a : Asks) (room more : ℕ) → how a ≡ true → Stands x a xs room more (run_of o x a until xs room)
    plainly [] x a room more h = none_stand x a [] room more
    plainly (b ∷ xs) x a room more h = one_more until x a b xs room more (plain x a b h) (plainly xs _ _ _ more (keeps a b h))
