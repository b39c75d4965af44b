-- What it is for a complete message to stand in some bytes, and for a stretch of them to be the earliest one's.
use Rattle.std.specs.Prelude.{ℕ, ◌+◌, ◌<◌, ◌≤◌, ◌≡◌, List, [], ◌∷◌, ◌++◌, length, drop}
use Rattle.message.specs.Message.{body, framed}

-- every number is 0 to 255
abbrev pub AllBytes : List ℕ → Type 0
AllBytes [] = Unit {0}
AllBytes (n ∷ ns) = (n ≤ 255) × AllBytes ns

-- at least two, the second counting the rest
abbrev pub Counted : List ℕ → Type 0
Counted [] = ⊥
Counted (id ∷ []) = ⊥
Counted (id ∷ n ∷ values) = n ≡ length values

-- a complete message of these numbers, with its CR LF on both sides, stands at place i
pub record Stands (s : List ℕ) (i : ℕ) (ns : List ℕ) : Type 0 where
  pub bytes : AllBytes ns
  pub counted : Counted ns
  pub rest : List ℕ
  pub spelt : drop i s ≡ framed ns ++ rest

-- no complete message stands at any place before n
abbrev pub NoneBefore : List ℕ → ℕ → Type 0
NoneBefore s n = (j : ℕ) → j < n → (ns : List ℕ) → Stands s j ns → ⊥

-- the stretch of len bytes from start is the earliest complete message, from its hyphen to its last digit
pub record Earliest (s : List ℕ) (start len : ℕ) : Type 0 where
  pub place : ℕ
  pub ns : List ℕ
  pub stands : Stands s place ns
  pub none_before : NoneBefore s place
  pub after_crlf : start ≡ place + 2
  pub long : len ≡ length (body ns)

-- or there is none, exactly if no message stands anywhere
abbrev pub NoMessage : List ℕ → Type 0
NoMessage s = (j : ℕ) (ns : List ℕ) → Stands s j ns → ⊥
