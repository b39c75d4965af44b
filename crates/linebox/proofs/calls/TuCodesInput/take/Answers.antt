-- `take` of `linebox::calls::TuCodes` meets its contract. The invariant: the codes taken and what they wrote stand before what the rest gives;
-- the state stays sound.
use Rattle.std.proofs.Common.{◌+◌, ◌-◌, length, take, drop, sym, ◌∙◌, arith, drop-cons}
use borrow.Author.Tests.{lt-ltb, le-ltb, eqb-true}
use borrow.Rule.Slice.PartMut.{put_mid}
use Rattle.laws.proofs.Tail.{to_end}
use Rattle.linebox.specs.Names.{Tu}
use Rattle.linebox.proofs.Turns.{Reached, reached, ran, all_taken, no_code, stays, turn}
use Rattle.linebox.proofs.calls.TuCodesInput.take.Goals as goal
use Rattle.linebox.proofs.calls.TuCodesInput.take.Goals.{After-take_codes-run}

-- after a run of codes
run_of : (d : After-take_codes-run)
    → let a = d.args in
    let l = d.loop-rest in
    let x = d.take_codes-run.result in
    Reached Tu a.start a.codes.now a.line.now a.host.now x.state (take (length l.rest.now - x.taken) (drop x.taken l.rest.now)) (put_mid l.one (length l.line - l.one) l.line d.take_codes-run.new.line) l.host (l.one + x.count) l.two
run_of d =
    let a = d.args in
    let l = d.loop-rest in
    let x = d.take_codes-run.result in
    rw (to_end l.rest.now x.taken) (ran Tu a.start a.codes.now a.line.now a.host.now l.state l.rest.now l.line l.host _ l.one l.two x l.invariant d.take_codes-run.ensures)

pub loop-rest-init : goal.loop-rest-init
loop-rest-init c =
    let a = c.args in
    reached Tu a.start a.codes.now a.line.now a.host.now c.requires

pub returns-in_default : goal.returns-in_default
returns-in_default c =
    let l = c.loop-rest in
    let a = c.args in
    let x = c.take_codes-run.result in
    rw c.ended.ensures (all_taken Tu a.start a.codes.now a.line.now a.host.now x.state _ _ l.host (l.one + x.count) l.two (omega (arith, c.in_default.len_below)) (run_of (goal.at.returns-in_default c).After-take_codes-run))

pub returns-then-code-gt31 : goal.returns-then-code-gt31
returns-then-code-gt31 c =
    let l = c.loop-rest in
    let a = c.args in
    let x = c.take_codes-run.result in
    rw c.ended-then-code-gt31.ensures
    (no_code Tu a.start a.codes.now a.line.now a.host.now x.state _ _ _ (drop-cons _ 0 0 (omega (arith, c.in-len1-up.len_at_least))) _ l.host (l.one + x.count) l.two (run_of (goal.at.returns-then-code-gt31 c).After-take_codes-run) (lt-ltb _ _ c.if-code-gt31.true))

pub returns-in_default-put_tu : goal.returns-in_default-put_tu
returns-in_default-put_tu c =
    let l = c.loop-rest in
    let a = c.args in
    let x = c.take_codes-run.result in
    rw c.ended-in_default-put_tu.ensures
    (stays Tu a.start a.codes.now a.line.now a.host.now x.state _ _ _ (drop-cons _ 0 0 (omega (arith, c.in-len1-up.len_at_least))) _ l.host (l.one + x.count) l.two (run_of (goal.at.returns-in_default-put_tu c).After-take_codes-run) _ _ _ (le-ltb _ _ c.if-code-gt31.false) c.in_default-put_tu.ensures)

pub loop-rest-preserved : goal.loop-rest-preserved
loop-rest-preserved c =
    let l = c.loop-rest in
    let a = c.args in
    let x = c.take_codes-run.result in
    rw (to_end (take (length l.rest.now - x.taken) (drop x.taken l.rest.now)) 1)
    (turn Tu a.start a.codes.now a.line.now a.host.now x.state _ _ _ (drop-cons _ 0 0 (omega (arith, c.in-len1-up.len_at_least))) _ l.host (l.one + x.count) l.two (run_of (goal.at.loop-rest-preserved c).After-take_codes-run) _ _ c.in-Ok.x (le-ltb _ _ c.if-code-gt31.false) c.in-Ok.ensures)

pub returns : goal.returns
returns c =
    let l = c.loop-rest in
    let a = c.args in
    rw c.ended-2.ensures (all_taken Tu a.start a.codes.now a.line.now a.host.now l.state l.rest.now l.line l.host l.one l.two (eqb-true _ _ (sym c.is_empty.ensures ∙ c.loop-rest-test.false)) l.invariant)
