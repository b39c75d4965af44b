-- Feeding an input in any cutting, with any rooms: the calls together are the fold over the bytes that they took.
-- Assumes nothing.
use Prim.Native.Nat.{ℕ, ◌+◌, ◌≤◌, min}
use mathlib.Core.Path.{◌≡◌, refl, sym, ap, ◌∙◌}
use mathlib.Core.List.{List, [], ◌∷◌, ◌++◌, append_assoc}
use native.Mathlib.Omega.{arith}
use lib.ListN.{length, take, drop, length-append, length-take}
use lib.Seq.{take-length, take-take, take-add, length-take-le}
use Rattle.linebox.specs.Names.{State, Stream}
use Rattle.step.specs.Step.{Step, step, steps}
use Rattle.linebox.specs.Call.{first_of, second_of, Done, call}
use Rattle.linebox.specs.Ends.{events, outputs, state_after, firsts_of, seconds_of, outcome, Cut, Fed, joined, feeding, fed}
use Rattle.linebox.proofs.Ending.{folds, within}

module _ (t : Stream) where
  state_append : (s : State) (xs ys : List ℕ) → state_after t s (xs ++ ys) ≡ state_after t (state_after t s xs) ys
  state_append s [] ys = refl
  state_append s (x ∷ xs) ys = state_append (step t s x).state xs ys

  outputs_append : (f : Step → List ℕ) (s : State) (xs ys : List ℕ) → outputs f (steps s (events t (xs ++ ys))) ≡ outputs f (steps s (events t xs)) ++ outputs f (steps (state_after t s xs) (events t ys))
  outputs_append f s [] ys = refl
  outputs_append f s (x ∷ xs) ys =
      let s' = (step t s x).state in
      ap (λ (r : List ℕ). f (step t s x) ++ r) (outputs_append f s' xs ys)
      ∙ sym (append_assoc (f (step t s x)) (outputs f (steps s' (events t xs))) (outputs f (steps (state_after t s' xs) (events t ys))))

  -- a call that took these bytes
  abbrev taking : State → ℕ → ℕ → List ℕ → Done
  taking s w n ps = record { answer = w; taken = n; state = state_after t s ps; first = firsts_of t s ps; second = seconds_of t s ps }

  fed_append : (s : State) (w n : ℕ) (ps qs : List ℕ) → n ≡ length ps → joined (taking s w n ps) (fed t (state_after t s ps) qs) ≡ fed t s (ps ++ qs)
  fed_append s w n ps qs e = rw (state_append s ps qs, outputs_append (first_of t) s ps qs, outputs_append (second_of t) s ps qs, length-append ps qs, e)

  -- a call was given ys, and the others took more
  joins : (s : State) (xs ys : List ℕ) (d : Done) (f : Fed) → take d.taken ys ≡ take d.taken xs → d.taken ≤ length xs → d ≡ outcome t s ys d.answer d.taken → f ≡ fed t d.state (take f.taken (drop d.taken xs))
      → joined d f ≡ fed t s (take (d.taken + f.taken) xs)
  joins s xs ys d f e inside p q =
      let n = d.taken in
      let ps = take n xs in
      let qs = take f.taken (drop n xs) in
      let p' : d ≡ taking s d.answer n ps = p ∙ ap (taking s d.answer n) e in
      let q' : f ≡ fed t (state_after t s ps) qs = q ∙ ap (λ (r : Done). fed t r.state qs) p' in
      ap (λ (r : Done). joined r f) p'
      ∙ ap (joined (taking s d.answer n ps)) q'
      ∙ fed_append s d.answer n ps qs (sym (length-take-le n xs inside))
      ∙ ap (fed t s) (sym (take-add n f.taken xs))

  -- the first n of the first k bytes, where there are as many
  first_of_law : (n k : ℕ) (xs : List ℕ) → n ≤ length (take k xs) → (take n (take k xs) ≡ take n xs) × (n ≤ length xs)
  first_of_law n k xs h =
      let l : n ≤ min k (length xs) = rw length-take at h in
      (take-take n k xs (omega (arith, l)), omega (arith, l))

  -- whatever the calls are given, they are the fold over the bytes that they took
  pub feeding_folds : (s : State) (xs : List ℕ) (cs : List Cut) → feeding t s xs cs ≡ fed t s (take (feeding t s xs cs).taken xs)
  feeding_folds s xs [] = refl
  feeding_folds s xs (c ∷ cs) =
      let ys = take c.bytes xs in
      let d = call t s ys c.first c.second in
      let g = first_of_law d.taken c.bytes xs (within t s ys c.first c.second) in
      joins s xs ys d (feeding t d.state (drop d.taken xs) cs) g.0 g.1 (folds t s ys c.first c.second) (feeding_folds d.state (drop d.taken xs) cs)

  -- any cutting, with any rooms that let it go on to the end, gives the same codes, host bytes and state
  pub cutting : (s : State) (xs : List ℕ) (cs : List Cut) → (feeding t s xs cs).taken ≡ length xs → feeding t s xs cs ≡ fed t s xs
  cutting s xs cs e = feeding_folds s xs cs ∙ ap (λ (n : ℕ). fed t s (take n xs)) e ∙ ap (fed t s) (take-length xs)
