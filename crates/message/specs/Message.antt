-- What a message is: CR LF, -.TC, a comma and a number for each value, CR LF.
use Rattle.std.specs.Prelude.{ℕ, ◌+◌, ◌/◌, ◌%◌, cond, List, [], ◌∷◌, ◌++◌, ltb, length}

abbrev pub crlf : List ℕ
crlf = 13 ∷ 10 ∷ []

-- -.TC
abbrev pub mark : List ℕ
mark = 45 ∷ 46 ∷ 84 ∷ 67 ∷ []

abbrev pub digit : ℕ → ℕ
digit d = 48 + d

-- a number from 0 to 255, without leading zeros
unfoldable pub digits : ℕ → List ℕ
digits n =
    cond (ltb n 10) (digit n ∷ [])
    (cond (ltb n 100) (digit (n / 10) ∷ digit (n % 10) ∷ [])
    (digit (n / 100) ∷ digit (n / 10 % 10) ∷ digit (n % 10) ∷ []))

-- a mark before each number
abbrev pub marked : ℕ → List ℕ → List ℕ
marked m [] = []
marked m (n ∷ ns) = m ∷ digits n ++ marked m ns

-- a comma before each number
abbrev pub numbers : List ℕ → List ℕ
numbers ns = marked 44 ns

-- from the hyphen to the last digit
abbrev pub body : List ℕ → List ℕ
body ns = mark ++ numbers ns

-- with CR LF before and after
abbrev pub framed : List ℕ → List ℕ
framed ns = crlf ++ (body ns ++ crlf)

-- the numbers of a message: its id, how many values follow, and the values
abbrev pub message : ℕ → List ℕ → List ℕ
message id values = framed (id ∷ length values ∷ values)
