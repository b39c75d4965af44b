-- `sender::runs::send` meets its contract. The invariant: the bytes taken and their codes stand before what the rest gives.
use Rattle.sender.proofs.Sending.{Sending}
use Rattle.sender.proofs.runs.send.Given as goal

abbrev pub invariant-loop-taken : goal.invariant-loop-taken
invariant-loop-taken l = Sending l.o l.initial.sender l.initial.asks l.until l.bytes l.initial.out l.sender l.asks l.taken l.out l.count
