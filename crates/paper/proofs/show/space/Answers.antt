-- `paper::show::space` meets its contract: what is passed has spaces in it, and what remains is as it was.
use Rattle.std.proofs.Common.{◌≡◌, ◌<◌, ℕ, length, get_or, arith}
use Rattle.std.proofs.lemmas.List.{get_or_default}
use Rattle.std.proofs.lemmas.List.Edits.{map_over_more}
use Rattle.paper.specs.Show.{inked}
use Rattle.paper.proofs.show.space.Goals as goal

pub loop-x-preserved : goal.loop-x-preserved
loop-x-preserved c =
    let l = c.loop-x in
    let x : ℕ = get_or l.row l.x-index 0 in
    let h : l.x-index < length c.args.row.now = omega arith in
    let same : x ≡ get_or l.row l.x-index x = get_or_default l.row l.x-index 0 x (omega arith) in
    rw c.inked.ensures (map_over_more inked c.args.row.now l.row l.x-index x h l.invariant same)
