-- What a match says of the codes heard: they end with the string's.
use Rattle.std.specs.Prelude.{ℕ, ◌≡◌, true, cond, List, [], ◌∷◌, ◌++◌, eqb}
use Rattle.word.specs.Word.{unpacked, is_word}
use Rattle.settings.specs.Table.{padded}
use Rattle.motor.specs.Motor.{heard_with}

-- a string ends at its first 0
abbrev pub until_zero : List ℕ → List ℕ
until_zero [] = []
until_zero (c ∷ cs) = cond (eqb c 0) [] (c ∷ until_zero cs)

-- its codes
unfoldable pub string_codes : ℕ → List ℕ
string_codes string = until_zero (unpacked string)

-- the rules of strings 91 to 95: a word with only 0 after the first 0
pub record Ruled (string : ℕ) : Type 0 where
  pub word : is_word string ≡ true
  pub rule : padded (unpacked string) ≡ true

-- what is kept of several codes more
abbrev pub heard_on : ℕ → List ℕ → ℕ
heard_on heard [] = heard
heard_on heard (c ∷ cs) = heard_on (heard_with heard c) cs

-- and of all codes since the last forgetting
abbrev pub heard_of : List ℕ → ℕ
heard_of hs = heard_on 0 hs

-- a list ends with these codes, of which there are some
pub record EndsWith (cs hs : List ℕ) : Type 0 where
  pub before : List ℕ
  pub whole : hs ≡ before ++ cs
  pub some : cs ≡ [] → ⊥
