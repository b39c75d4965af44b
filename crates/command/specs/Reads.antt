-- Many bytes: the reader after them, and what they made.
use Rattle.std.specs.Prelude.{ℕ, ◌+◌, cond, List, [], ◌∷◌}
use Rattle.command.specs.Names.{Reader, Out, Nothing, Running}
use Rattle.command.specs.Read.{is_nothing, read}

-- the reader after the bytes
abbrev pub after : Reader → List ℕ → Reader
after r [] = r
after r (b ∷ bs) = after (read r b).reader bs

-- what each byte made
abbrev pub made : Reader → List ℕ → List Out
made r [] = []
made r (b ∷ bs) = (read r b).out ∷ made (read r b).reader bs

-- a run with one byte more before it
abbrev pub further : Running → Running
further u = record { reader = u.reader; next = u.next; taken = u.taken + 1 }

-- the bytes up to the first that makes something
abbrev pub running : Reader → List ℕ → Running
running r [] = record { reader = r; next = record { reader = r; out = Nothing }; taken = 0 }
running r (b ∷ bs) = cond (is_nothing (read r b).out) (further (running (read r b).reader bs)) (record { reader = r; next = read r b; taken = 0 })
