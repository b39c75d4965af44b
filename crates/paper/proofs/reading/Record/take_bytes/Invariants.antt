-- `paper::reading::Record::take_bytes` meets its contract. The invariant: what remains gives, from here, what all bytes give.
use Rattle.std.proofs.Common.{◌≡◌, drop}
use Rattle.paper.specs.Reading.{after_bytes}
use Rattle.paper.proofs.reading.Record.take_bytes.Given as goal

abbrev pub invariant-loop-b : goal.invariant-loop-b
invariant-loop-b g l = after_bytes l.initial.self l.s ≡ after_bytes l.self (drop l.b-index l.s)
