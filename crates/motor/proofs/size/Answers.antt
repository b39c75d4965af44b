-- `motor::size` meets its contract. The loop's invariant: the codes counted and those left are the string's.
use Rattle.motor.proofs.Walks.{none_counted, one_counted, none_left, all_counted}
use native.Mathlib.Omega.{arith}
use Rattle.motor.proofs.size.Goals as goal

pub loop-n-init : goal.loop-n-init
loop-n-init c = none_counted c.args.string

pub returns-then-rest-eq0 : goal.returns-then-rest-eq0
returns-then-rest-eq0 c =
    let l = c.loop-n in
    (none_left c.args.string l.n l.rest l.invariant c.loop-n-test.true c.if-rest-eq0.true, l.invariant.within)

pub loop-n-preserved : goal.loop-n-preserved
loop-n-preserved c =
    let l = c.loop-n in
    one_counted c.args.string l.n l.rest l.invariant c.loop-n-test.true c.if-rest-eq0.false

pub returns : goal.returns
returns c =
    let l = c.loop-n in
    let e = all_counted c.args.string l.n l.rest l.invariant c.loop-n-test.false in
    (omega (arith, l.invariant.within), omega arith)
