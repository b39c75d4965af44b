-- `take` of `linebox::calls::HostBytes` meets its contract. The invariant: the bytes taken and what they wrote stand before what the rest gives;
-- the state stays sound.
use Rattle.std.proofs.Common.{◌≡◌, ◌+◌, ◌-◌, ◌<◌, length, get_or, take, drop, refl, sym, ◌∙◌, arith, drop-cons}
use borrow.Author.Tests.{eqb-true}
use borrow.Rule.Slice.PartMut.{put_mid}
use Rattle.laws.proofs.Tail.{to_end}
use Rattle.command.proofs.Runs.{run_within}
use Rattle.step.specs.State.{with_reader}
use Rattle.step.specs.Step.{hosted, step}
use Rattle.linebox.specs.Names.{Host}
use Rattle.linebox.proofs.Turns.{Reached, reached, ran, kept_on, read_next, all_taken, stays, turn}
use Rattle.linebox.proofs.calls.HostBytesInput.take.Goals as goal
use Rattle.linebox.proofs.calls.HostBytesInput.take.Goals.{After-run-kept}

-- after a run of text, and a run of bytes that the command reader keeps
kept_of : (d : After-run-kept)
    → let a = d.args in
    let l = d.loop-rest in
    let x = d.take_text-text.result in
    let u = d.run-kept.result in
    let left = take (length l.rest.now - x.taken) (drop x.taken l.rest.now) in
    Reached Host a.start a.input.now a.line.now a.host.now (with_reader x.state u.reader) (take (length left - u.taken) (drop u.taken left)) (put_mid l.one (length l.line - l.one) l.line d.take_text-text.new.line) l.host (l.one + x.count) l.two
kept_of d =
    let a = d.args in
    let l = d.loop-rest in
    let x = d.take_text-text.result in
    let u = d.run-kept.result in
    let left = take (length l.rest.now - x.taken) (drop x.taken l.rest.now) in
    let text = rw (← to_end l.rest.now x.taken) at (ran Host a.start a.input.now a.line.now a.host.now l.state l.rest.now l.line l.host d.take_text-text.new.line l.one l.two x l.invariant d.take_text-text.ensures) in
    rw (to_end left u.taken) (kept_on a.start a.input.now a.line.now a.host.now x.state left _ l.host (l.one + x.count) l.two text u d.run-kept.ensures)

-- what the next byte does
next_of : (d : After-run-kept)
    → let l = d.loop-rest in
    let x = d.take_text-text.result in
    let u = d.run-kept.result in
    let left = take (length l.rest.now - x.taken) (drop x.taken l.rest.now) in
    let next = take (length left - u.taken) (drop u.taken left) in
    0 < length next → hosted (with_reader (with_reader x.state u.reader) u.next.reader) u.reader.values u.next.out ≡ step Host (with_reader x.state u.reader) (get_or next 0 0)
next_of d some =
    let l = d.loop-rest in
    let x = d.take_text-text.result in
    let u = d.run-kept.result in
    let left = take (length l.rest.now - x.taken) (drop x.taken l.rest.now) in
    let next = take (length left - u.taken) (drop u.taken left) in
    read_next x.state left u (get_or next 0 0) (drop 1 next) d.run-kept.ensures (sym (to_end left u.taken) ∙ drop-cons next 0 0 some)

pub loop-rest-init : goal.loop-rest-init
loop-rest-init c =
    let a = c.args in
    reached Host a.start a.input.now a.line.now a.host.now c.requires

pub slice_bounds-rest-count-in-loop-rest : goal.slice_bounds-rest-count-in-loop-rest
slice_bounds-rest-count-in-loop-rest c = rw c.run-kept.ensures (run_within _ _)

pub slice_bounds-rest-start-in-loop-rest : goal.slice_bounds-rest-start-in-loop-rest
slice_bounds-rest-start-in-loop-rest c = rw c.run-kept.ensures (run_within _ _)

pub returns-in_default : goal.returns-in_default
returns-in_default c =
    let l = c.loop-rest in
    let a = c.args in
    let x = c.take_text-text.result in
    rw c.ended.ensures (all_taken Host a.start a.input.now a.line.now a.host.now (with_reader x.state c.run-kept.result.reader) _ _ l.host (l.one + x.count) l.two (omega (arith, c.in_default.len_below)) (kept_of (goal.at.returns-in_default c).After-run-kept))

pub returns-in_default-put_read : goal.returns-in_default-put_read
returns-in_default-put_read c =
    let l = c.loop-rest in
    let a = c.args in
    let x = c.take_text-text.result in
    let w = (goal.at.returns-in_default-put_read c).After-run-kept in
    let some = c.in-len1-up.len_at_least in
    rw c.ended-in_default-put_read.ensures
    (stays Host a.start a.input.now a.line.now a.host.now (with_reader x.state c.run-kept.result.reader) _ _ _ (drop-cons _ 0 0 some) _ l.host (l.one + x.count) l.two (kept_of w) _ _ _ refl (rw (next_of w some) at c.in_default-put_read.ensures))

pub overflow_add-one-in-loop-rest : goal.overflow_add-one-in-loop-rest
overflow_add-one-in-loop-rest c =
    let l = c.loop-rest in
    let a = c.args in
    let x = c.take_text-text.result in
    let w = (goal.at.overflow_add-one-in-loop-rest c).After-run-kept in
    let some = c.in-len1-up.len_at_least in
    let t = turn Host a.start a.input.now a.line.now a.host.now (with_reader x.state c.run-kept.result.reader) _ _ _ (drop-cons _ 0 0 some) _ l.host (l.one + x.count) l.two (kept_of w) _ _ c.in-Ok.x refl (rw (next_of w some) at c.in-Ok.ensures) in
    omega (arith, t.one.room, c.well_formed)

pub overflow_add-two : goal.overflow_add-two
overflow_add-two c =
    let l = c.loop-rest in
    let a = c.args in
    let x = c.take_text-text.result in
    let w = (goal.at.overflow_add-two c).After-run-kept in
    let some = c.in-len1-up.len_at_least in
    let t = turn Host a.start a.input.now a.line.now a.host.now (with_reader x.state c.run-kept.result.reader) _ _ _ (drop-cons _ 0 0 some) _ l.host (l.one + x.count) l.two (kept_of w) _ _ c.in-Ok.x refl (rw (next_of w some) at c.in-Ok.ensures) in
    omega (arith, t.two.room, c.well_formed)

pub loop-rest-preserved : goal.loop-rest-preserved
loop-rest-preserved c =
    let l = c.loop-rest in
    let a = c.args in
    let x = c.take_text-text.result in
    let u = c.run-kept.result in
    let w = (goal.at.loop-rest-preserved c).After-run-kept in
    let some = c.in-len1-up.len_at_least in
    let left = take (length l.rest.now - x.taken) (drop x.taken l.rest.now) in
    rw (to_end (take (length left - u.taken) (drop u.taken left)) 1)
    (turn Host a.start a.input.now a.line.now a.host.now (with_reader x.state u.reader) _ _ _ (drop-cons _ 0 0 some) _ l.host (l.one + x.count) l.two (kept_of w) _ _ c.in-Ok.x refl (rw (next_of w some) at c.in-Ok.ensures))

pub returns : goal.returns
returns c =
    let l = c.loop-rest in
    let a = c.args in
    rw c.ended-2.ensures (all_taken Host a.start a.input.now a.line.now a.host.now l.state l.rest.now l.line l.host l.one l.two (eqb-true _ _ (sym c.is_empty.ensures ∙ c.loop-rest-test.false)) l.invariant)
