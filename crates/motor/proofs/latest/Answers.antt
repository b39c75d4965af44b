-- `motor::latest` meets its contract. The loop's invariant: what is left of the codes heard holds the last ones asked for.
use Rattle.motor.specs.Motor.{latest}
use Rattle.motor.proofs.Walks.{all_heard, fewer_heard, last_heard}
use Rattle.motor.proofs.latest.Goals as goal

pub loop-init : goal.loop-init
loop-init c = all_heard c.args.n c.args.heard

pub loop-preserved : goal.loop-preserved
loop-preserved c =
    let l = c.loop in
    fewer_heard (latest c.args.n c.args.heard) l.counter l.rest c.loop-test.true l.invariant

pub returns : goal.returns
returns c =
    let l = c.loop in
    last_heard (latest c.args.n c.args.heard) l.counter l.rest c.loop-test.false l.invariant
