-- `settings::faults::by_number` meets its contract: a number has the bytes that it was made of.
use mathlib.Core.Path.{◌∙◌}
use borrow.Author.Rules.{rules}
use Rattle.std.proofs.lemmas.Nat.{le_bytes_8}
use Rattle.settings.proofs.faults.by_number.Goals as goal

pub returns : goal.returns
returns c = c.to_le_bytes.ensures ∙ le_bytes_8 c.args.bytes _ (search rules) (search rules) c.from_le_bytes.ensures
