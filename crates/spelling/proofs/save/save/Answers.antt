-- `spelling::save::save` meets its contract: over 128 zeros, the parts make the spelling.
use Rattle.spelling.proofs.Parts.{put_all}
use Rattle.spelling.proofs.save.save.Goals as goal

pub returns : goal.returns
returns c =
    put_all c.args.s c.put_settings.ensures c.put.ensures c.put-2.ensures c.put-3.ensures c.put-4.ensures c.put-5.ensures c.put-6.ensures c.put-7.ensures c.put-8.ensures c.put_calling.ensures c.put-9.ensures c.put-10.ensures
