-- Demands 2 and 3 of calls for C: each meets demand 1 from the state that the last one's bytes spell, and so all of them together meet the
-- others.
-- Assumes nothing.
use Prim.Native.Nat.{ℕ}
use mathlib.Core.Path.{◌≡◌, ap, ◌∙◌, subst}
use mathlib.Core.Bool.{true}
use mathlib.Core.List.{List, [], ◌∷◌}
use Rattle.std.proofs.lemmas.Bool.{and_parts}
use Rattle.step.specs.State.{sound, fresh_box}
use Rattle.step.proofs.Stays.{fresh_sound}
use Rattle.spelling.specs.Spelling.{spells, spelt, state_of}
use Rattle.spelling.proofs.Same.{its_spelling}
use Rattle.board.specs.Calls.{spells_sound}
use Rattle.demands.specs.Lent.{left}
use Rattle.demands.proofs.Lent.{Meets, meets_reads_back, meets_prints}
use Rattle.onboard.specs.Names.{State}
use Rattle.onboard.specs.OneCall.{Wire}
use Rattle.onboard.specs.Session.{as_exchanges, Session, last_bytes, Demanded}
use Rattle.onboard.proofs.OneCall.{spelt_back, one_call}

-- from bytes that spell a sound state on
session_meets : (b : List ℕ) (cs : List Wire) → spells_sound b ≡ true → Session b cs → Meets (state_of b) (as_exchanges cs)
session_meets b [] h k = tt
session_meets b (c ∷ cs) h k =
    let e = k.0.0 in
    let one = one_call c k.0.1 in
    let from : spells_sound c.state ≡ true = rw e h in
    ((subst (λ (s : List ℕ). Meets (state_of s) (as_exchanges (c ∷ []))) e (one.ended from, tt)).0, session_meets c.after cs (one.spelt from) k.1)

session_left : (b : List ℕ) (cs : List Wire) → spells_sound b ≡ true → Session b cs → last_bytes b cs ≡ spelt (left (state_of b) (as_exchanges cs))
session_left b [] h k = its_spelling b (and_parts (spells b) (sound (state_of b)) h).0
session_left b (c ∷ cs) h k =
    let from : spells_sound c.state ≡ true = rw k.0.0 h in
    session_left c.after cs ((one_call c k.0.1).spelt from) k.1

-- What the calls for C are given and write, from `linebox_fresh` on, meets the demands.
pub session_demanded : (cs : List Wire) → Session (spelt fresh_box) cs → Demanded cs
session_demanded cs k =
    let e = spelt_back fresh_box fresh_sound in
    let h : spells_sound (spelt fresh_box) ≡ true = rw (e.0, e.1) fresh_sound in
    let met : Meets fresh_box (as_exchanges cs) = subst (λ (s : State). Meets s (as_exchanges cs)) e.1 (session_meets (spelt fresh_box) cs h k) in
    record {
      reads_back = meets_reads_back fresh_box (as_exchanges cs) met;
      prints = meets_prints (as_exchanges cs) met;
      state = session_left (spelt fresh_box) cs h k ∙ ap (λ (s : State). spelt (left s (as_exchanges cs))) e.1;
    }
