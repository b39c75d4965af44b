-- A record as far as it was read.
use Rattle.std.specs.Prelude.{ℕ, ◌+◌, ◌%◌, ◌^◌, cond, List, [], ◌∷◌, Option, Some, None, Result, Ok, Err}
use Rattle.judgement.specs.declared.Start.{Start}
use Rattle.judgement.specs.Page.{start, feeds, step}
use Rattle.words.specs.declared.BadWord.{BadWord}
use Rattle.words.specs.declared.Read.{Read}
use Rattle.words.specs.Words.{fresh, read, finish}
use Rattle.paper.specs.declared.reading.Record.{Record}

-- a record of which nothing was read
abbrev pub begun : Start → Record
begun o = record { reader = fresh; page = start o.case o.spot o.stop o.onspace o.onreturn; number = 1 }

-- what comes of something read: whether the record goes on, and how far it is read
pub record Taken : Type 0 where
  pub answer : Result (Unit {0}) BadWord
  pub upto : Record

-- after a code; a line feed ends a line
abbrev pub after_code : Record → ℕ → Record
after_code r c = record { reader = r.reader; page = (step r.page c).page; number = cond (feeds c) ((r.number + 1) % 2 ^ 64) r.number }

-- after a word, if one was read; a bad one ends it
abbrev pub after_item : Record → Result (Option ℕ) BadWord → Taken
after_item r (Ok None) = record { answer = Ok tt; upto = r }
after_item r (Ok (Some c)) = record { answer = Ok tt; upto = after_code r c }
after_item r (Err e) = record { answer = Err e; upto = r }

abbrev pub after_read : Record → Read → Taken
after_read r q = after_item (record r { reader = q.reader }) q.item

-- after a byte
abbrev pub after_byte : Record → ℕ → Taken
after_byte r b = after_read r (read r.reader b)

-- the rest is read if the record goes on
abbrev pub unless_bad : Result (Unit {0}) BadWord → Taken → Taken → Taken
unless_bad (Ok u) t rest = rest
unless_bad (Err e) t rest = t

-- after some bytes
abbrev pub after_bytes : Record → List ℕ → Taken
after_bytes r [] = record { answer = Ok tt; upto = r }
after_bytes r (b ∷ bs) = unless_bad (after_byte r b).answer (after_byte r b) (after_bytes (after_byte r b).upto bs)

-- at the end of the bytes, which ends the last word
abbrev pub after_last : Record → Taken
after_last r = after_read r (finish r.reader)
