-- The four parts, one put after another, are the message.
use Prim.Native.Nat.{◌+◌, ◌≤◌}
use mathlib.Core.List.{◌++◌}
use native.Mathlib.Omega.{arith}
use lib.ListN.{length}
use Rattle.message.specs.Message.{crlf, mark, numbers}
use Rattle.message.proofs.Sizes.{framed_length}
use Rattle.message.proofs.Puts.{put_next}
use Rattle.message.proofs.put_message.Goals as goal

pub returns : goal.returns
returns c =
    let a = c.args in let ns = a.ns.now in let o = a.out.now in let l = framed_length ns in
    let p = put_next o crlf _ mark _ 0 _ _ (omega arith) c.put-a.ensures c.put-b.ensures in
    let q = put_next o (crlf ++ mark) _ (numbers ns) _ 0 _ _ (omega arith) p c.put_numbers-c.ensures in
    let h : 0 + length ((crlf ++ mark) ++ numbers ns) ≤ length o = omega arith in
    put_next o ((crlf ++ mark) ++ numbers ns) _ crlf _ 0 _ _ h q c.put.ensures
