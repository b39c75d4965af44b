-- `settings::Settings::has_sound_values` meets its contract: each value is tested by the row of its option.
use Prim.Native.Nat.{ℕ}
use mathlib.Core.Path.{◌≡◌, ◌∙◌}
use mathlib.Core.Bool.{Bool}
use mathlib.Core.List.{List, [], ◌∷◌}
use borrow.Author.Rules.{rules}
use borrow.Author.Tests.{tests}
use lib.ListN.{length, replicate}
use Rattle.std.specs.List.{list_all, zip}
use Rattle.std.proofs.lemmas.Iterator.{YieldsList-from_slice, YieldsList-from_zip}
use Rattle.std.proofs.lemmas.Iterator.Search.{all_from_yields_List}
use Rattle.settings.specs.Table.{in_range, row, options, all_in}
use Rattle.settings.proofs.Walk.{spread_all}
use Rattle.settings.proofs.Settings.has_sound_values.Goals as goal

ids : List ℕ
ids = 49 ∷ 50 ∷ 70 ∷ 71 ∷ 72 ∷ 74 ∷ 77 ∷ []

test : ℕ × ℕ → Bool
test p = in_range (row p.0).home (p.1 ∷ replicate 8 0)

each : (v : List ℕ) → length v ≡ 7 → list_all test (zip ids v) ≡ all_in options v
unfolding row ids test
each v n = rw (spread_all 7 0 v n)

pub returns : goal.returns
unfolding ids test
returns c =
    let v = c.args.self.values in
    all_from_yields_List test c.all.new.self _ _ c.all.ensures.ran (YieldsList-from_zip (YieldsList-from_slice ids cc) (YieldsList-from_slice v cc)) (λ x b q k. search (rules, tests)) ∙ each v (search rules)
