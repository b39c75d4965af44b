-- `sender::Record::end_before` meets its contract: the ending goes out where one goes before the code.
use mathlib.Core.Path.{sym, ◌∙◌}
use Rattle.settings.specs.Options.{ending_codes}
use Rattle.sender.proofs.Record.end_before.Goals as goal

pub put_ending-requires : goal.put_ending-requires
unfolding ending_codes
put_ending-requires c = rw c.ending_word.ensures (rw (c.if-moves.true, sym c.is_due.ensures ∙ c.if-is_due.true) at c.requires)

pub returns-then-is_due : goal.returns-then-is_due
unfolding ending_codes
returns-then-is_due c = rw (c.if-moves.true, sym c.is_due.ensures ∙ c.if-is_due.true) (rw c.ending_word.ensures at c.put_ending.ensures)
