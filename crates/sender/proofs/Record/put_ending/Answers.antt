-- `sender::Record::put_ending` meets its contract. The invariant: the codes sent so far stand before those left of the string.
use Prim.Native.Nat.{ℕ, ◌+◌, ◌<◌}
use mathlib.Core.Path.{◌≡◌, ap}
use mathlib.Core.List.{List, ◌∷◌}
use native.Mathlib.Omega.{arith}
use native.Mathlib.Numerals.{add-one}
use lib.ListN.{length, get_or, drop}
use lib.Seq.{drop-cons}
use borrow.Author.Tests.{ne_eqb}
use Rattle.sender.proofs.Endings.{ending_turn}
use Rattle.sender.proofs.Record.put_ending.Goals as goal

-- the next code and those after it
first : (s : List ℕ) (i : ℕ) → length s ≡ 8 → i < 8 → drop i s ≡ get_or s i 0 ∷ drop (i + 1) s
first s i n lt =
    let h : i < length s = omega (arith, n, lt) in
    rw add-one (drop-cons s i 0 h)

pub loop-c-preserved : goal.loop-c-preserved
loop-c-preserved c =
    let a = c.args in
    let l = c.loop-c in
    let s = c.unpack-c-items.result in
    let f = first s l.c-index (ap length c.unpack-c-items.ensures) c.loop-c-test.true in
    (l.invariant.0, ending_turn a.o a.self s a.out.now (drop l.c-index s) l.out _ l.invariant.1 _ _ f (ne_eqb _ _ c.if-c-eq0.false) _ c.put_code-x.result (rw c.on_record.ensures at c.put_code-x.ensures))
