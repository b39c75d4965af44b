-- `sender::Record::put_character` meets its contract: the code goes after the ending, and the record notes both.
use Rattle.sender.proofs.OneItem.{moved, character_put}
use Rattle.sender.proofs.Record.put_character.Goals as goal

pub returns : goal.returns
returns c =
    let a = c.args in
    let e = rw (moved a.o a.self a.w a.k _ c.requires.0 c.moves.ensures) at c.end_before-ended.ensures in
    character_put a.o a.self a.w a.out.now _ c.end_before-ended.result e _ c.put_code-x.result c.put_code-x.ensures
