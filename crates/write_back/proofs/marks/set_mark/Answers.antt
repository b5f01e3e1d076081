use Rattle.write_back.proofs.Marking.{gains}
use Rattle.write_back.proofs.marks.set_mark.Goals as goal

pub returns : goal.returns
returns c = gains c.args.masks.now c.args.page c.args.tid c.requires.page c.requires.tid
