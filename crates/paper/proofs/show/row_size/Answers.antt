-- `paper::show::row_size` meets its contract: after the last character all places are bare, and where there is none all are.
use Rattle.std.proofs.Common.{◌≡◌, ◌≢◌, ◌≤◌, ◌<◌, ℕ, zero, suc, ◌+◌, List, [], ◌∷◌, length, get_or, cond, Option, Some, None, MatchOption, refl, sym, ◌∙◌, arith, rules, nat_eq, eq-eqb, ne_eqb}
use Rattle.std.specs.Option.{option_map_or}
use Rattle.paper.specs.Show.{size_from}
use Rattle.paper.proofs.show.row_size.Goals as goal

-- every place is bare from n on
abbrev Bare : ℕ → List ℕ → Type 0
Bare n xs = (k : ℕ) → n ≤ k → k < length xs → get_or xs k 0 ≡ 0

all_bare : (n i : ℕ) (xs : List ℕ) → Bare 0 xs → size_from n i xs ≡ n
all_bare n i [] h = refl
all_bare n i (x ∷ xs) h =
    let e : x ≡ 0 = h 0 (omega arith) (omega arith) in
    rw (eq-eqb x 0 e) (all_bare n (i + 1) xs (λ k l m. h (suc k) (omega arith) (omega arith)))

last_at : (n i : ℕ) (xs : List ℕ) (k : ℕ) → k < length xs → get_or xs k 0 ≢ 0 → Bare (k + 1) xs → size_from n i xs ≡ i + k + 1
last_at n i [] k l d h = absurd (omega arith)
last_at n i (x ∷ xs) zero l d h = rw (ne_eqb x 0 d) (omega (arith, all_bare (i + 1) (i + 1) xs (λ k p m. h (suc k) (omega arith) (omega arith))))
last_at n i (x ∷ xs) (suc k) l d h = omega (arith, last_at (cond (nat_eq x 0) n (i + 1)) (i + 1) xs k (omega arith) d (λ j p m. h (suc j) (omega arith) (omega arith)))

-- where the last character is, if there is one
abbrev Last : List ℕ → Option ℕ → Type 0
Last xs o = MatchOption o (Bare 0 xs) (λ i. (i < length xs) × (get_or xs i 0 ≢ 0) × Bare (i + 1) xs)

sized : (xs : List ℕ) (o : Option ℕ) → Last xs o → option_map_or (λ i. i + 1) o 0 ≡ size_from 0 0 xs
sized xs None h = sym (all_bare 0 0 xs h)
sized xs (Some i) h = omega (arith, last_at 0 0 xs i h.0 h.1 h.2)

pub returns-clause-size : goal.returns-clause-size
returns-clause-size c =
    let row = c.args.row.now in
    let last : Last row c.rposition.result = search rules in
    let e : c.map_or.result ≡ option_map_or (λ i. i + 1) c.rposition.result 0 = search rules in
    e ∙ sized row c.rposition.result last
