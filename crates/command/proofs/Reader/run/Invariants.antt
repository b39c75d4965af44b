-- `command::Reader::run` meets its contract. The invariant: the run from the first byte on is the run of the reader reached over
-- the bytes that are left, with the bytes taken counted before it.
use Rattle.std.proofs.Common.{◌≡◌, drop}
use Rattle.command.specs.Reads.{running}
use Rattle.command.proofs.Runs.{ahead}
use Rattle.command.proofs.Reader.run.Given as goal

abbrev pub invariant-loop-taken : goal.invariant-loop-taken
invariant-loop-taken l = running l.initial.reader l.bytes ≡ ahead l.taken (running l.reader (drop l.taken l.bytes))
