-- `command::Reader::run` meets its contract. The invariant: the run from the first byte on is the run of the reader reached over
-- the bytes that are left, with the bytes taken counted before it.
use Rattle.std.proofs.Common.{◌≡◌, true, false, length, sym, arith, ◌∙◌, rules, tests}
use Rattle.command.specs.Read.{is_nothing}
use Rattle.command.proofs.Runs.{run_begins, run_goes, run_stops, run_ends}
use Rattle.command.proofs.Reader.run.Goals as goal

pub loop-taken-init : goal.loop-taken-init
loop-taken-init c = run_begins c.args.self c.args.bytes.now

pub returns-then-ne : goal.returns-then-ne
returns-then-ne c =
    let l = c.loop-taken in
    let bytes = c.args.bytes.now in
    let n = c.read-next.ensures.gives in
    let e : is_nothing c.read-next.result.out ≡ false = search (rules, tests) in
    rw n (sym (l.invariant ∙ run_stops l.reader bytes l.taken c.loop-taken-test.true (rw n at e)))

pub loop-taken-preserved : goal.loop-taken-preserved
loop-taken-preserved c =
    let l = c.loop-taken in
    let bytes = c.args.bytes.now in
    let n = c.read-next.ensures.gives in
    let e : is_nothing c.read-next.result.out ≡ true = search (rules, tests) in
    rw n (l.invariant ∙ run_goes l.reader bytes l.taken c.loop-taken-test.true (rw n at e))

pub returns : goal.returns
returns c =
    let l = c.loop-taken in
    let bytes = c.args.bytes.now in
    let e : l.taken ≡ length bytes = omega arith in
    sym (rw e at (l.invariant ∙ run_ends l.reader bytes l.taken c.loop-taken-test.false))
