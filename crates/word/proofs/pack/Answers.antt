-- `word::pack` meets its contract. The loop's invariant: the codes behind those that are left are packed.
use Rattle.std.proofs.Common.{◌≡◌, rules}
use Rattle.word.proofs.Packs.{none_packed, room, one_packed, all_packed}
use Rattle.word.proofs.pack.Goals as goal

pub loop-c-init : goal.loop-c-init
loop-c-init c =
    let s : c.into_iter-c-iterator.result.iter.rest.now ≡ c.args.cs = search rules in
    rw s (none_packed c.args.cs)

pub beneath-n-requires : goal.beneath-n-requires
beneath-n-requires c = room c.args.cs _ _ _ (rw c.in-Some.ensures.steps at c.loop-c.invariant) (search rules)

pub loop-c-preserved : goal.loop-c-preserved
loop-c-preserved c = one_packed c.args.cs _ _ _ (rw c.in-Some.ensures.steps at c.loop-c.invariant) c.beneath-n.result c.beneath-n.ensures.0 c.beneath-n.ensures.1

pub returns : goal.returns
returns c = all_packed c.args.cs c.loop-c.c-iterator.iter.rest.now c.loop-c.n c.in-None.ensures.steps.0 c.loop-c.invariant
