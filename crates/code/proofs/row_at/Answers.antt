-- `code::row_at` meets its contract: past the end of a row there is no character.
use Rattle.std.proofs.Common.{◌≡◌, rules, tests, get_or}
use Rattle.code.specs.Rows.{row_at}
use Rattle.code.proofs.row_at.Goals as goal
use Rattle.code.proofs.row_at.Goals.{in-Letters, in-Figures}

pub returns : goal.returns
unfolding row_at
returns c =
    let e : c.unwrap_or.result ≡ get_or c.match-case.row.now c.args.c 0 = search (rules, tests) in
    elim c.match-case.branch [
      | in-Letters w ↦ simp (e, w.in-Letters.is, w.row-is)
      | in-Figures w ↦ simp (e, w.in-Figures.is, w.row-is)
    ]
