-- `entries::text::find` meets its contract: the place that the search finds, or else the length, is the first.
use Rattle.std.proofs.Common.{◌≡◌, ℕ, ◌≤◌, ◌∙◌, not, length, ltb, cond, refl, Option, Some, None, unwrap_or, ◌==◌, arith, rules, tests}
use Rattle.std.specs.List.{position_or_len}
use Rattle.std.proofs.lemmas.List.Sums.{prefix_len-le-length}
use Rattle.std.proofs.lemmas.Iterator.{YieldsList-from_slice}
use Rattle.std.proofs.lemmas.Iterator.Search.{position_from_yields_List}
use Rattle.std.proofs.lemmas.Bool.Decides.{nat_tests}
use Rattle.entries.proofs.text.find.Goals as goal

-- the place n that was found among k bytes, or else k
found : (n k : ℕ) (r : Option ℕ) → n ≤ k → r ≡ cond (ltb n k) (Some n) None → unwrap_or r k ≡ n
found n k r h e = rw e (grind (arith, nat_tests))

pub returns : goal.returns
returns c =
    let s = c.args.s.now in
    let first : ℕ = position_or_len (λ y. y == c.args.x) s in
    let e : c.position.result ≡ cond (ltb first (length s)) (Some first) None = position_from_yields_List (λ y. y == c.args.x) _ _ _ c.position.ensures.ran (YieldsList-from_slice s cc) (λ x b q k. search (rules, tests)) in
    let w : first ≤ length s = prefix_len-le-length (λ y. not (y == c.args.x)) s in
    let q : c.unwrap_or.result ≡ first = c.unwrap_or.ensures ∙ found first (length s) _ w e in
    rw q (w, refl)
