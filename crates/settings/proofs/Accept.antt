-- A command without error passed every test; one with an error changes nothing.
-- Assumes nothing.
use Prim.Native.Nat.{ℕ}
use mathlib.Core.Path.{◌≡◌, refl}
use mathlib.Core.Bool.{Bool, true, false, cond}
use mathlib.Core.List.{List}
use borrow.Author.Tests.{eqb-true}
use lib.Dec.{eqb}
use lib.ListN.{get_or}
use Rattle.std.specs.Prelude.{Option, Some, None, Result, Ok, Err}
use Rattle.settings.specs.Names.{Verb, Write, Read, Other, Settings, Calling, Connection, Row, Fault}
use Rattle.settings.specs.Names.fault
use Rattle.std.proofs.lemmas.Bool.{and_parts}
use Rattle.settings.specs.Table.{row, taken_by}
use Rattle.settings.specs.Command.{checked, fitting, ranged, fault_in, fault_of, jointly, succeeded, refused, wrong, commanded}

-- the id takes n parameters, n is the number field, and the values are in their range
pub record Accepted (t : Option ℕ) (v : Verb) (r : Row) (fields : List ℕ) : Type 0 where
  pub n : ℕ
  pub takes : t ≡ Some n
  pub number : get_or fields 1 0 ≡ n
  pub inside : ranged v r fields ≡ true

accepted_in : (t : Option ℕ) (v : Verb) (r : Row) (count : ℕ) (fields : List ℕ) → fault_in t v r count fields ≡ Ok tt → Accepted t v r fields
accepted_in None v r count fields e = absurd (cc)
accepted_in (Some n) v r count fields e = go (fitting n count fields) refl (checked n count fields) (ranged v r fields) refl e
  where
    go : (a : Bool) → fitting n count fields ≡ a → (b d : Bool) → ranged v r fields ≡ d → cond a (cond b (cond d (Ok (tt {0})) (Err fault.Range)) (Err fault.Checksum)) (Err fault.Parameters) ≡ Ok tt → Accepted (Some n) v r fields
    go true p true true q e = record { n = n; takes = refl; number = eqb-true (get_or fields 1 0) n (and_parts (eqb (get_or fields 1 0) n) _ p).0; inside = q }
    go true p true false q e = absurd (cc)
    go true p false d q e = absurd (cc)
    go false p b d q e = absurd (cc)

-- a command without error
pub accepted : (v : Verb) (r : Row) (count : ℕ) (fields : List ℕ) → fault_of v r count fields ≡ Ok tt → Accepted (taken_by v r) v r fields
accepted Write r count fields e = accepted_in (taken_by Write r) Write r count fields e
accepted Read r count fields e = accepted_in (taken_by Read r) Read r count fields e
accepted Other r count fields e = absurd (cc)

-- nothing is wrong where there is no other error, and the values go together
pub judged : (f : Result (Unit {0}) Fault) (ok : Bool) → jointly f ok ≡ Ok tt → (f ≡ Ok tt) × (ok ≡ true)
judged (Ok u) true e = (refl, refl)
judged (Ok u) false e = absurd (cc)
judged (Err f) ok e = absurd (cc)

-- any other error goes first
pub unjudged : (f : Result (Unit {0}) Fault) (ok : Bool) → (f ≡ Ok tt → ⊥) → jointly f ok ≡ f
unjudged (Ok u) ok h = absurd (h refl)
unjudged (Err f) ok h = refl

module _ (s : Settings) (k : Calling) (c : Connection) (v : Verb) (count : ℕ) (fields : List ℕ) where
  -- a command without error succeeds
  pub success : wrong s k c v count fields ≡ Ok tt → commanded s k c v count fields ≡ succeeded s k c v (row (get_or fields 0 0)) fields
  unfolding commanded
  success h = rw h

  -- an error changes nothing, and answers its number
  pub refusal : (f : Fault) → wrong s k c v count fields ≡ Err f → commanded s k c v count fields ≡ refused s k c (get_or fields 0 0) f
  unfolding commanded
  refusal f e = rw e
