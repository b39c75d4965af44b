-- `laws::copy` meets its contract: one byte more, and at the end all.
use Prim.Native.Nat.{ℕ, ◌≤◌, ◌<◌, ◌+◌}
use mathlib.Core.Path.{◌≡◌, refl, sym, ◌∙◌}
use mathlib.Core.List.{List}
use native.Mathlib.Omega.{arith}
use native.Mathlib.Numerals.{add-one}
use lib.ListN.{length, get_or, take, set, length-set}
use lib.Seq.{take-suc, take-suc-set, take_all}
use Rattle.laws.proofs.copy.Goals as goal

-- one place more, in any list
turn : (r xs : List ℕ) (i : ℕ) → i < length r → i < length xs → take i r ≡ take i xs → take (i + 1) (set r i (get_or xs i 0)) ≡ take (i + 1) xs
turn r xs i h k e = rw (add-one, take-suc-set r i (get_or xs i 0) h, take-suc xs i 0 k, e)

-- all places
whole : (r xs : List ℕ) (i : ℕ) → length r ≡ length xs → length xs ≤ i → take i r ≡ take i xs → r ≡ xs
whole r xs i l h e =
    let k : length r ≤ i = omega arith in
    sym (take_all i r k) ∙ e ∙ take_all i xs h

pub loop-i-init : goal.loop-i-init
loop-i-init c = (c.requires, refl)

pub loop-i-preserved : goal.loop-i-preserved
loop-i-preserved c =
    let l = c.loop-i in
    let h : l.i < length c.args.from.now = c.loop-i-test.true in
    let k : l.i < length l.to = omega (arith, h, l.invariant.0) in
    (simp length-set l.invariant.0, turn l.to c.args.from.now l.i k h l.invariant.1)

pub returns-clause-after : goal.returns-clause-after
returns-clause-after c =
    let l = c.loop-i in
    whole l.to c.args.from.now l.i l.invariant.0 (omega arith) l.invariant.1
