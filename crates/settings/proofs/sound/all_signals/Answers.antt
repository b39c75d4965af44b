-- `settings::sound::all_signals` meets its contract: each is tested.
use mathlib.Core.Path.{◌∙◌}
use borrow.Author.Rules.{rules}
use borrow.Author.Tests.{tests}
use Rattle.std.proofs.lemmas.Iterator.{YieldsList-from_slice}
use Rattle.std.proofs.lemmas.Iterator.Search.{all_from_yields_List}
use Rattle.settings.specs.Table.{is_signal}
use Rattle.settings.proofs.Strings.{each_signal}
use Rattle.settings.proofs.sound.all_signals.Goals as goal

pub returns : goal.returns
returns c = all_from_yields_List is_signal _ _ _ c.all.ensures.ran (YieldsList-from_slice c.args.ns cc) (λ x b q k. search (rules, tests)) ∙ each_signal c.args.ns
