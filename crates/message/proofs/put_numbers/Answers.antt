-- The invariant: the numbers so far are put from `at` on, and the next place is `k`.
use native.Mathlib.Omega.{arith}
use lib.ListN.{take, get_or, length}
use Prim.Native.Nat.{◌<◌}
use mathlib.Core.List.{◌∷◌}
use Rattle.message.specs.Message.{digits, marked}
use Rattle.message.proofs.Puts.{put_next}
use Rattle.message.proofs.Sizes.{one_more, part_length}
use Rattle.message.proofs.put_numbers.Goals as goal

pub put_number-k-requires : goal.put_number-k-requires
put_number-k-requires c =
    let a = c.args in let l = c.loop-n in
    let h : l.n-index < length a.ns.now = omega arith in
    omega (arith, l.invariant.place, part_length a.mark a.ns.now l.n-index h)

pub loop-n-preserved : goal.loop-n-preserved
loop-n-preserved c =
    let a = c.args in let l = c.loop-n in
    let h : l.n-index < length a.ns.now = omega arith in
    let f = part_length a.mark a.ns.now l.n-index h in
    rw (one_more a.mark a.ns.now l.n-index h) (put_next a.out.now (marked a.mark (take l.n-index a.ns.now)) l.out (a.mark ∷ digits (get_or a.ns.now l.n-index 0)) _ a.at l.k _ (omega arith) l.invariant c.put_number-k.ensures)
