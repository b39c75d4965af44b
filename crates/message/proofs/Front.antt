-- A message at the very front of some bytes is found there, and nothing else is.
-- Assumes nothing.
use Prim.Native.Nat.{ℕ, suc, ◌+◌}
use mathlib.Core.Path.{◌≡◌, refl, sym, ap, ◌∙◌}
use mathlib.Core.Bool.{Bool, true, false, cond, ◌&&◌, false≢true}
use mathlib.Core.List.{List, [], ◌∷◌, ◌++◌}
use native.Mathlib.Nat.{add-zero, zero-add}
use native.Mathlib.Omega.{arith}
use borrow.Author.Tests.{eqb-true}
use lib.Dec.{eqb}
use lib.ListN.{length, drop}
use Rattle.std.proofs.lemmas.Bool.{and_parts}
use Rattle.message.specs.declared.Scan.{Scan}
use Rattle.message.specs.declared.Scan.TheVariants.{Opening, Comma, In}
use Rattle.std.proofs.Common.{Option, Some, None, option_and_then}
use Rattle.std.specs.Bool.{then_some}
use Rattle.std.proofs.lemmas.Option.{none-some, same_Some}
use Rattle.message.specs.Message.{crlf, mark, numbers, framed}
use Rattle.message.specs.Find.{AllBytes, Counted}
use Rattle.message.specs.Scan.{scan, complete, prefix, ends_here, numbers_from, message_at}
use Rattle.message.proofs.Prefix.{prefix_front}
use Rattle.message.proofs.Reading.{run, run_none, all_complete, all_read, read_numbered}
use Rattle.message.proofs.Turns.{ends_here_law}

-- ---- up to the next CR LF
-- the bytes before it are w
record Ended (st : Scan) (k : ℕ) (s : List ℕ) (m : ℕ) : Type 0 where
  w : List ℕ
  rest : List ℕ
  spelt : s ≡ w ++ crlf ++ rest
  long : m ≡ k + length w
  done : all_complete (run (Some st) w) ≡ true

ended_here : (st : Scan) (k : ℕ) (s : List ℕ) (m : ℕ) → ends_here st k s ≡ Some m → Ended st k s m
ended_here st k s m e = go (prefix crlf s && complete st) refl e
  where
    go : (t : Bool) → prefix crlf s && complete st ≡ t → then_some t k ≡ Some m → Ended st k s m
    go true f d =
        let b = and_parts (prefix crlf s) (complete st) f in
        record { w = []; rest = drop 2 s; spelt = prefix_front crlf s b.0; long = sym (same_Some k m d) ∙ sym (add-zero k); done = b.1 }
    go false f d = absurd (none-some m d)

ended_at : (st : Scan) (k : ℕ) (s : List ℕ) (m : ℕ) → numbers_from st k s ≡ Some m → Ended st k s m
ended_at st k [] m e = absurd (none-some m e)
ended_at st k (b ∷ s) m e = go (eqb b 13) e (λ x. ended_at x (suc k) s m)
  where
    more : (o : Option Scan) → scan st b ≡ o → option_and_then (λ x. numbers_from x (suc k) s) o ≡ Some m
        → ((x : Scan) → numbers_from x (suc k) s ≡ Some m → Ended x (suc k) s m) → Ended st k (b ∷ s) m
    more None f d rest = absurd (none-some m d)
    more (Some x) f d rest =
        let r = rest x d in
        let l = r.long in
        record { w = b ∷ r.w; rest = r.rest; spelt = ap (λ (x : List ℕ). b ∷ x) r.spelt; long = omega arith; done = rw f r.done }

    go : (t : Bool) → cond t (ends_here st k (b ∷ s)) (option_and_then (λ x. numbers_from x (suc k) s) (scan st b)) ≡ Some m
        → ((x : Scan) → numbers_from x (suc k) s ≡ Some m → Ended x (suc k) s m) → Ended st k (b ∷ s) m
    go true d rest = ended_here st k (b ∷ s) m d
    go false d rest = more (scan st b) refl d rest

-- a CR is no byte of the numbers
cr_none : (st : Scan) → scan st 13 ≡ None
cr_none Opening = refl
cr_none (Comma p) = refl
cr_none (In p v) = refl

reaches : (st : Scan) (k : ℕ) (w rest : List ℕ) → all_complete (run (Some st) w) ≡ true → numbers_from st k (w ++ crlf ++ rest) ≡ Some (k + length w)
reaches st k [] rest e = sym (ends_here_law st k (crlf ++ rest) refl e) ∙ rw add-zero
reaches st k (b ∷ w) rest e = go (eqb b 13) refl (λ x. reaches x (suc k) w rest)
  where
    more : (o : Option Scan) → all_complete (run o w) ≡ true
        → ((x : Scan) → all_complete (run (Some x) w) ≡ true → numbers_from x (suc k) (w ++ crlf ++ rest) ≡ Some (suc k + length w))
        → option_and_then (λ x. numbers_from x (suc k) (w ++ crlf ++ rest)) o ≡ Some (k + suc (length w))
    more None d r = absurd (false≢true (rw (run_none w) at d))
    more (Some x) d r = let l : suc k + length w ≡ k + suc (length w) = omega arith in r x d ∙ rw l

    go : (t : Bool) → eqb b 13 ≡ t
        → ((x : Scan) → all_complete (run (Some x) w) ≡ true → numbers_from x (suc k) (w ++ crlf ++ rest) ≡ Some (suc k + length w))
        → cond t (ends_here st k (b ∷ w ++ crlf ++ rest)) (option_and_then (λ x. numbers_from x (suc k) (w ++ crlf ++ rest)) (scan st b)) ≡ Some (k + suc (length w))
    go true d r = absurd (false≢true (rw (eqb-true b 13 d, cr_none st, run_none w) at e))
    go false d r = more (scan st b) e r

-- ---- a message
-- some message is the front, and its numbers take k bytes
pub record Front (s : List ℕ) (k : ℕ) : Type 0 where
  pub ns : List ℕ
  pub bytes : AllBytes ns
  pub counted : Counted ns
  pub rest : List ℕ
  pub spelt : s ≡ framed ns ++ rest
  pub long : k ≡ length (numbers ns)

spelt_out : (s t w ns rest : List ℕ) → s ≡ (crlf ++ mark) ++ t → t ≡ w ++ crlf ++ rest → w ≡ numbers ns → s ≡ framed ns ++ rest
spelt_out s t w ns rest a b c = a ∙ rw (b, c)

pub front_of : (s : List ℕ) (k : ℕ) → message_at s ≡ Some k → Front s k
front_of s k e = go (prefix (crlf ++ mark) s) refl e
  where
    go : (t : Bool) → prefix (crlf ++ mark) s ≡ t → cond t (numbers_from Opening 0 (drop 6 s)) None ≡ Some k → Front s k
    go true f d =
        let r = ended_at Opening 0 (drop 6 s) k d in
        let n = read_numbered r.w r.done in
        let l = r.long in
        record {
          ns = n.ns;
          bytes = n.bytes;
          counted = n.count;
          rest = r.rest;
          spelt = spelt_out s (drop 6 s) r.w n.ns r.rest (prefix_front (crlf ++ mark) s f) r.spelt n.spelt;
          long = omega (arith, ap length n.spelt);
        }
    go false f d = absurd (none-some k d)

pub at_front : (ns rest : List ℕ) → AllBytes ns → Counted ns → message_at (framed ns ++ rest) ≡ Some (length (numbers ns))
at_front ns rest h c = reaches Opening 0 (numbers ns) rest (all_read ns h c) ∙ rw zero-add
