-- `convert::convert` meets its contract: what it looks up is the conversion, which has the paper's mark and code.
use Prim.Native.Nat.{ℕ, ◌<◌}
use mathlib.Core.Path.{◌≡◌}
use borrow.Author.Rules.{rules}
use Rattle.code.specs.declared.Conversion.{Conversion}
use Rattle.code.specs.Convert.{conversion}
use Rattle.code.proofs.Values.{mark_right, code_right}
use Rattle.convert.specs.Entry.{Converts}
use Rattle.convert.proofs.convert.Goals as goal

converts : (b : ℕ) (r : Conversion) → b < 256 → r ≡ conversion b → Converts b r
converts b r l e = record { gives = e; mark = rw e (mark_right b l); code = rw e (code_right b l) }

pub returns : goal.returns
returns c =
    let b = c.args.b in
    let l : b < 256 = search rules in
    converts b _ l c.look_up.ensures
