-- `judgement::lines::count_of` meets its contract: it is the count of the places that are the verdict's number.
use Rattle.std.proofs.Common.{◌≡◌, ◌+◌, ℕ, Bool, true, false, cond, List, nat_eq, refl, sym, ◌∙◌, zero-add, arith, rules, count_by}
use Rattle.std.proofs.lemmas.List.Recursion.{is_count_by}
use Rattle.std.proofs.lemmas.List.Sums.{count_by-le-length}
use Rattle.judgement.specs.Line.{count_of}
use Rattle.judgement.specs.Verdict.{number_of}
use Rattle.judgement.proofs.lines.count_of.Goals as goal

one : (b : Bool) (n : ℕ) → cond b 1 0 + n ≡ cond b (1 + n) n
one true n = refl
one false n = zero-add n

by_test : (v : ℕ) (xs : List ℕ) → count_of v xs ≡ count_by (λ x. nat_eq x v) xs
by_test v xs = is_count_by (count_of v) (λ x. nat_eq x v) refl (λ x xs. one (nat_eq x v) (count_of v xs)) xs

pub returns-clause-most : goal.returns-clause-most
returns-clause-most c =
    let v : ℕ = number_of c.args.v in
    let e : c.count.result ≡ count_by (λ x. nat_eq x v) c.args.stand.now = search rules in
    omega (arith, e, count_by-le-length (λ x. nat_eq x v) c.args.stand.now)

pub returns-clause-count : goal.returns-clause-count
returns-clause-count c =
    let v : ℕ = number_of c.args.v in
    let e : c.count.result ≡ count_by (λ x. nat_eq x v) c.args.stand.now = search rules in
    e ∙ sym (by_test v c.args.stand.now)
