-- `convert::look_up` meets its contract. The invariant: the capital has not stood in the rows yet; so the place where the loop stops
-- is what the search finds.
use Rattle.std.proofs.Common.{length, ◌∙◌, rules, arith}
use Rattle.convert.proofs.Search.{in_letters, in_figures, in_neither, placed_at, placed_nowhere}
use Rattle.convert.proofs.look_up.Goals as goal

pub returns-then-place-lt32 : goal.returns-then-place-lt32
returns-then-place-lt32 c =
    let l = c.loop-place in
    let e = placed_at c.args.table.now c.args.b c.to_ascii_uppercase-capital.result c.requires.lent c.to_ascii_uppercase-capital.ensures.cases l.place c.loop-place-test.true c.if-x-capital.true l.invariant in
    c.found.ensures ∙ in_letters c.args.b l.place e c.if-place-lt32.true

pub returns-else-place-lt32 : goal.returns-else-place-lt32
returns-else-place-lt32 c =
    let l = c.loop-place in
    let e = placed_at c.args.table.now c.args.b c.to_ascii_uppercase-capital.result c.requires.lent c.to_ascii_uppercase-capital.ensures.cases l.place c.loop-place-test.true c.if-x-capital.true l.invariant in
    c.found-else-place-lt32.ensures ∙ in_figures c.args.b l.place e c.if-place-lt32.false (search rules)

pub returns : goal.returns
returns c =
    let l = c.loop-place in
    let e = placed_nowhere c.args.table.now c.args.b c.to_ascii_uppercase-capital.result c.requires.lent c.to_ascii_uppercase-capital.ensures.cases (λ k d z h. l.invariant k d z (omega arith)) in
    in_neither c.args.b (length c.args.table.now) e (search rules)
