-- `entries::text::decode` meets its contract. The invariant: the whole outcome is what is written so far and what the rest of the
-- text is decoded to.
use Rattle.std.proofs.Common.{◌≡◌, ℕ, ◌<◌, ◌∙◌, List, [], length, drop, drop_of_length-le, Option, Some, None, unwrap_or, Bor, ap, sym, refl, arith, rules, tests}
use Rattle.std.specs.Slice.{IsGetRangeResult}
use Rattle.std.proofs.lemmas.Slice.{between_to_end}
use Rattle.std.proofs.lemmas.List.{set-get_or}
use Rattle.entries.proofs.Decoding.{turn, text_ends}
use Rattle.entries.proofs.text.decode.Goals as goal

-- what a `get` up to the end gives, or nothing where there is less
beyond : (t : List ℕ) (n : ℕ) (r : Option (Bor (List ℕ))) (q d : Bor (List ℕ)) → IsGetRangeResult t n (length t) r → d.now ≡ [] → q ≡ unwrap_or r d → q.now ≡ drop n t
beyond t n None q d g e u = ap (λ (b : Bor (List ℕ)). b.now) u ∙ e ∙ sym (drop_of_length-le t {i = n} (omega (arith, g.0)))
beyond t n (Some x) q d g e u = ap (λ (b : Bor (List ℕ)). b.now) u ∙ g.0.2 ∙ between_to_end t n (length t) (omega arith)

pub returns-then-is_empty : goal.returns-then-is_empty
returns-then-is_empty c =
    let a = c.args in
    let l = c.loop-k in
    let z : length l.rest.now ≡ 0 = search (rules, tests) in
    rw (set-get_or l.out l.k 0) (text_ends a.form a.s.now a.out.now l.out l.rest.now l.k l.invariant z)

pub loop-k-preserved : goal.loop-k-preserved
loop-k-preserved c =
    let a = c.args in
    let l = c.loop-k in
    let some : 0 < length l.rest.now = search (rules, tests) in
    let room : l.k < length l.out = search rules in
    let past : c.unwrap_or-rest.result.now ≡ drop c.first_piece-p.result.width l.rest.now = beyond l.rest.now c.first_piece-p.result.width c.get.result _ _ c.get.ensures.lookup refl c.unwrap_or-rest.ensures in
    rw (past, c.first_piece-p.ensures) (turn a.form a.s.now a.out.now l.out l.rest.now l.k l.invariant some (omega (arith, room, l.invariant.same_length)))
