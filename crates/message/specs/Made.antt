-- What the maker answers and leaves in the buffer that it is lent.
use Rattle.std.specs.Prelude.{ℕ, ◌+◌, ◌≡◌, cond, Option, List, leb, length}
use Rattle.std.specs.Bool.{then_some}
use Rattle.laws.specs.Written.{written, fronted}
use Rattle.message.specs.Message.{framed}

-- `new` is written from `at` in the buffer, which was `old`, and ends before `end`
pub record Put (old : List ℕ) (at : ℕ) (new now-there : List ℕ) (end : ℕ) : Type 0 where
  pub place : end ≡ at + length new
  pub contents : now-there ≡ written old at new

-- the length of the message where the room is enough for it, otherwise none
abbrev pub made_count : List ℕ → ℕ → Option ℕ
made_count ns room = then_some (leb (length (framed ns)) room) (length (framed ns))

-- the message at the front of the buffer where the room is enough for it, otherwise the buffer as it was
abbrev pub made_bytes : List ℕ → List ℕ → List ℕ
made_bytes ns old = cond (leb (length (framed ns)) (length old)) (fronted old (framed ns)) old

pub record Made (ns old new : List ℕ) (count : Option ℕ) : Type 0 where
  pub counted : count ≡ made_count ns (length old)
  pub contents : new ≡ made_bytes ns old
