-- The invariant: the earliest message from here on is the earliest of all.
use mathlib.Core.Path.{sym, ◌∙◌}
use native.Mathlib.Omega.{arith}
use Rattle.std.proofs.lemmas.Bool.{ne_eqb}
use Rattle.laws.proofs.Tail.{to_end}
use Rattle.message.proofs.Right.{located_is, locate_start, locate_here, locate_next, locate_other, locate_over, room_here}
use Rattle.message.proofs.locate.Goals as goal
use Rattle.message.proofs.locate.Goals.{then-s-i-eq13+in_default, else-s-i-eq13}

pub loop-i-init : goal.loop-i-init
loop-i-init c = locate_start c.args.s.now

pub overflow_add-result-in-Some : goal.overflow_add-result-in-Some
overflow_add-result-in-Some c =
    let s = c.args.s.now in let l = c.loop-i in
    let e = rw (to_end s l.i) at (sym c.message_at.ensures ∙ c.in-Some.is) in
    record { fits = omega (arith, room_here s l.i c.loop-i-test.true _ e) }

pub returns-in-Some : goal.returns-in-Some
returns-in-Some c =
    let s = c.args.s.now in let l = c.loop-i in
    let e = rw (to_end s l.i) at (sym c.message_at.ensures ∙ c.in-Some.is) in
    located_is s _ (l.invariant ∙ locate_here s l.i c.loop-i-test.true _ e)

pub loop-i-preserved : goal.loop-i-preserved
loop-i-preserved c =
    let s = c.args.s.now in let l = c.loop-i in
    let h = c.loop-i-test.true in
    elim c.if-s-i-eq13.branch [
      | then-s-i-eq13+in_default w ↦ let e = rw (to_end s l.i) at (sym w.message_at.ensures ∙ w.in_default.is) in l.invariant ∙ locate_next s l.i h e
      | else-s-i-eq13 w ↦ l.invariant ∙ locate_next s l.i h (locate_other s l.i h (ne_eqb _ 13 w.if-s-i-eq13.false))
    ]

pub returns : goal.returns
returns c =
    let s = c.args.s.now in let l = c.loop-i in
    located_is s _ (l.invariant ∙ locate_over s l.i c.loop-i-test.false)
