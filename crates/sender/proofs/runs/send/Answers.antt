-- `sender::runs::send` meets its contract. The invariant: the bytes taken and their codes stand before what the rest gives.
use Prim.Native.Nat.{◌≤◌, ◌-◌}
use native.Mathlib.Omega.{arith}
use lib.ListN.{length, get_or}
use borrow.Author.Tests.{le-leb}
use Rattle.laws.proofs.Filled.{free_length}
use Rattle.sender.specs.Item.{converted}
use Rattle.sender.specs.Run.{most}
use Rattle.sender.proofs.Few.{byte_most}
use Rattle.sender.proofs.Sending.{sends_on}
use Rattle.sender.proofs.runs.send.Goals as goal

pub put_asked-y-requires : goal.put_asked-y-requires
put_asked-y-requires c =
    let l = c.loop-taken in
    let a = c.args in
    let x = converted a.o l.asks (get_or a.bytes.now l.taken 0) in
    let room : most ≤ length l.out - l.count = c.if-out-count-lt-MOST.false in
    rw (free_length l.out l.count, c.wanted.ensures, c.convert-x.ensures) (omega (arith, room, byte_most a.o l.sender x))

pub loop-taken-preserved : goal.loop-taken-preserved
loop-taken-preserved c =
    let l = c.loop-taken in
    let a = c.args in
    let room : most ≤ length l.out - l.count = c.if-out-count-lt-MOST.false in
    rw c.next-asks.ensures
    (sends_on a.o a.start a.first a.until a.bytes.now a.out.now l.sender l.asks l.taken l.out l.count l.invariant c.loop-taken-test.true (rw c.stops.ensures at c.if-stops.false) (le-leb most _ room) _ c.put_asked-y.result (rw (c.wanted.ensures, c.convert-x.ensures) at c.put_asked-y.ensures))
