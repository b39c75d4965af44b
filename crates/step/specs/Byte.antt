-- What putting one byte's output into the free parts of the lent buffers gives.
use Rattle.std.specs.Prelude.{ℕ, ◌≡◌, Bool, cond, ◌&&◌, List, leb, length, Option, Result, Ok, Err}
use Rattle.std.specs.Bool.{then_some}
use Rattle.laws.specs.Written.{fronted}
use Rattle.step.specs.Names.{State, Stream, Host, Line, Tu, NoRoom, Taken}
use Rattle.step.specs.Step.{Step}

-- A host call and a TU call lend a line and a host buffer, a line call a host and a TU buffer.

abbrev pub first_of : Stream → Step → List ℕ
first_of Host x = x.line
first_of Line x = x.host
first_of Tu x = x.line

abbrev pub second_of : Stream → Step → List ℕ
second_of Host x = x.host
second_of Line x = x.tu
second_of Tu x = x.host

-- the next byte's whole output fits both buffers
abbrev pub fits : Stream → Step → ℕ → ℕ → Bool
fits t x a b = leb (length (first_of t x)) a && leb (length (second_of t x)) b

-- one buffer: all of `new` at its front, or no place touched where it does not fit
pub record Puts (new old now : List ℕ) (r : Option ℕ) : Type 0 where
  pub gives : r ≡ then_some (leb (length new) (length old)) (length new)
  pub places : now ≡ cond (leb (length new) (length old)) (fronted old new) old

-- both buffers: the byte's whole output, or no place touched where it does not fit
pub record Offers (t : Stream) (x : Step) (old₁ old₂ now₁ now₂ : List ℕ) (r : Result Taken NoRoom) : Type 0 where
  pub gives : r ≡ cond (fits t x (length old₁) (length old₂)) (Ok (record { state = x.state; first = length (first_of t x); second = length (second_of t x) })) (Err (record { state = x.state }))
  pub one : now₁ ≡ cond (fits t x (length old₁) (length old₂)) (fronted old₁ (first_of t x)) old₁
  pub two : now₂ ≡ cond (fits t x (length old₁) (length old₂)) (fronted old₂ (second_of t x)) old₂

-- nothing to put
abbrev pub nothing : State → Taken
nothing s = record { state = s; first = 0; second = 0 }
