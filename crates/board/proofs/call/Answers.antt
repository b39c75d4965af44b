-- `board::call` meets its contract: bytes that spell no sound state are refused, and from a sound one the box goes on.
use mathlib.Core.Path.{sym, ◌∙◌}
use Rattle.board.proofs.Asked.{opened, the_sound, boarded}
use Rattle.board.proofs.call.Goals as goal

pub take-c-requires : goal.take-c-requires
take-c-requires g c =
    let b = c.args.state.now in
    let o = opened b c.in-Some.s (sym c.in-Some.is ∙ c.open_state.ensures) in
    rw o.1 (the_sound b o.0)

pub returns : goal.returns
returns g c =
    let a = c.args in
    let o = opened a.state.now c.in-Some.s (sym c.in-Some.is ∙ c.open_state.ensures) in
    rw (c.save.ensures, c.from-2.ensures) (boarded g.T.Input.stream a.state.now a.input.now _ _ a.first.now a.second.now _ _ c.take-c.result o.0 (rw o.1 at c.take-c.ensures))
