-- `take` of `linebox::calls::LineCodes` meets its contract. The invariant: the codes taken and what they wrote stand before what the rest gives;
-- the state stays sound.
use Rattle.std.proofs.Common.{◌≡◌, ◌∷◌, ◌+◌, ◌-◌, ◌<◌, List, ℕ, length, get_or, drop, arith, length-drop, drop-cons, add-one}
use borrow.Author.Tests.{lt-ltb, le-ltb}
use Rattle.linebox.specs.Names.{Line}
use Rattle.linebox.proofs.Turns.{reached, no_code, stays, turn}
use Rattle.linebox.proofs.calls.LineCodesInput.take.Goals as goal

-- the code at a place, and what is left after it
here : (codes : List ℕ) (n : ℕ) → n < length codes → drop n codes ≡ get_or codes n 0 ∷ drop (n + 1) codes
here codes n lt = rw (drop-cons codes n 0 lt, add-one)

taken : (codes : List ℕ) (n : ℕ) → n < length codes → length codes - length (drop n codes) ≡ n
taken codes n lt = omega (arith, length-drop n codes, lt)

pub loop-taken-init : goal.loop-taken-init
loop-taken-init c =
    let a = c.args in
    reached Line a.start a.codes.now a.host.now a.tu.now c.requires

pub returns-then-c-gt31 : goal.returns-then-c-gt31
returns-then-c-gt31 c =
    let l = c.loop-taken in
    let a = c.args in
    let lt = c.loop-taken-test.true in
    rw c.ended.ensures
    (rw (taken a.codes.now l.taken lt) at (no_code Line a.start a.codes.now a.host.now a.tu.now l.state _ _ _ (here a.codes.now l.taken lt) l.host l.tu l.one l.two l.invariant (lt-ltb _ _ c.if-c-gt31.true)))

pub returns-in_default : goal.returns-in_default
returns-in_default c =
    let l = c.loop-taken in
    let a = c.args in
    let lt = c.loop-taken-test.true in
    rw c.ended-in_default.ensures
    (rw (taken a.codes.now l.taken lt) at (stays Line a.start a.codes.now a.host.now a.tu.now l.state _ _ _ (here a.codes.now l.taken lt) l.host l.tu l.one l.two l.invariant _ _ _ (le-ltb _ _ c.if-c-gt31.false) c.in_default.ensures))

pub loop-taken-preserved : goal.loop-taken-preserved
loop-taken-preserved c =
    let l = c.loop-taken in
    let a = c.args in
    turn Line a.start a.codes.now a.host.now a.tu.now l.state _ _ _ (here a.codes.now l.taken c.loop-taken-test.true) l.host l.tu l.one l.two l.invariant _ _ c.in-Ok.x (le-ltb _ _ c.if-c-gt31.false) c.in-Ok.ensures
