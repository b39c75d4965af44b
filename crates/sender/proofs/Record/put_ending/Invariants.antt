-- `sender::Record::put_ending` meets its contract. The invariant: the codes sent so far stand before those left of the string.
use Prim.Native.Nat.{◌≤◌}
use lib.ListN.{length, drop}
use Rattle.sender.specs.Ending.{ending_of, until_zero}
use Rattle.sender.proofs.Endings.{Ending}
use Rattle.sender.proofs.Record.put_ending.Given as goal

abbrev pub invariant-loop-c : goal.invariant-loop-c
invariant-loop-c l =
    (length (ending_of l.o l.initial.held (until_zero l.c-items)) ≤ length l.initial.out)
    × Ending l.o l.initial.held l.c-items l.initial.out (drop l.c-index l.c-items) l.out (record { held = l.held; count = l.count })
