-- `settings::string::all_codes` meets its contract: each is tested.
use mathlib.Core.Path.{◌∙◌}
use borrow.Author.Rules.{rules}
use borrow.Author.Tests.{tests}
use lib.Dec.{ltb}
use Rattle.std.proofs.lemmas.Iterator.{YieldsList-from_slice}
use Rattle.std.proofs.lemmas.Iterator.Search.{all_from_yields_List}
use Rattle.settings.proofs.Strings.{each_code}
use Rattle.settings.proofs.string.all_codes.Goals as goal

pub returns : goal.returns
returns c = all_from_yields_List (λ x. ltb x 32) _ _ _ c.all.ensures.ran (YieldsList-from_slice c.args.s cc) (λ x b q k. search (rules, tests)) ∙ each_code c.args.s
