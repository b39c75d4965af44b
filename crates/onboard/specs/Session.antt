-- Demands 2 and 3 of calls for C, one after the other from a fresh box on.
use Rattle.std.specs.Prelude.{◌≡◌, List, [], ◌∷◌, ℕ}
use Rattle.step.specs.State.{fresh_box}
use Rattle.spelling.specs.Spelling.{spelt}
use Rattle.demands.specs.Lent.{Exchange, took_all, sent_all, left}
use Rattle.demands.specs.ReadingBack.{ReadsBack}
use Rattle.demands.specs.Printing.{Prints}
use Rattle.onboard.specs.OneCall.{Wire, Promised, seen}

-- what a call for C was given and gave, with the states that its bytes spell
abbrev pub as_exchange : Wire → Exchange
as_exchange c = record { lent = record { stream = c.stream; bytes = c.bytes; one = c.one; two = c.two }; gave = seen c }

-- and many
abbrev pub as_exchanges : List Wire → List Exchange
as_exchanges [] = []
as_exchanges (c ∷ cs) = as_exchange c ∷ as_exchanges cs

-- any calls, each handed the state's bytes that the last one left, and each as its promise says
abbrev pub Session : List ℕ → List Wire → Type 0
Session b [] = Unit {0}
Session b (c ∷ cs) = ((c.state ≡ b) × Promised c) × Session c.after cs

-- the state's bytes after them
abbrev pub last_bytes : List ℕ → List Wire → List ℕ
last_bytes b [] = b
last_bytes b (c ∷ cs) = last_bytes c.after cs

-- What is demanded of calls that began with the bytes of `linebox_fresh`.
pub record Demanded (cs : List Wire) : Type 0 where
  -- the codes that they wrote to the line read back
  pub reads_back : ReadsBack fresh_box (took_all (as_exchanges cs)) (sent_all (as_exchanges cs))
  -- and print
  pub prints : Prints (took_all (as_exchanges cs)) (sent_all (as_exchanges cs)) (left fresh_box (as_exchanges cs))
  -- and the bytes that the last one left are the spelling of the state that it left
  pub state : last_bytes (spelt fresh_box) cs ≡ spelt (left fresh_box (as_exchanges cs))
