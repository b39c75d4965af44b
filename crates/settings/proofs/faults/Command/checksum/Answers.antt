-- `settings::faults::Command::checksum` meets its contract: adding modulo 256 is adding, modulo 256.
use Prim.Native.Nat.{ℕ, ◌+◌, ◌%◌}
use mathlib.Core.Path.{◌≡◌, ◌∙◌}
use mathlib.Core.List.{List, [], ◌∷◌}
use native.Mathlib.Nat.{mod-add-mod, add_assoc, add-zero, zero-add}
use borrow.Author.Rules.{rules}
use borrow.Author.Tests.{tests}
use lib.ListN.{take}
use Rattle.std.specs.List.{fold}
use Rattle.std.proofs.lemmas.Iterator.{YieldsList-from_slice, YieldsList-from_take}
use Rattle.std.proofs.lemmas.Iterator.Consumers.{fold_from_yields_List}
use Rattle.settings.specs.Command.{sum}
use Rattle.settings.proofs.faults.Command.checksum.Goals as goal

added : (a : ℕ) (xs : List ℕ) → fold (λ t x. (t + x) % 256) (a % 256) xs ≡ (a + sum xs) % 256
added a [] = rw add-zero
added a (x ∷ xs) = rw mod-add-mod (added (a + x) xs ∙ rw add_assoc)

pub returns : goal.returns
returns c =
    let a = c.args in
    fold_from_yields_List _ (λ t x. (t + x) % 256) 0 _ c.fold.ensures.ran (YieldsList-from_take a.n (YieldsList-from_slice a.self.fields cc) cc) (λ t x b q k. search (rules, tests)) ∙ (added 0 (take a.n a.self.fields) ∙ rw zero-add)
