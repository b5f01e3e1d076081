use Rattle.std.proofs.lemmas.List.{take_more}
use Rattle.script_text.proofs.Words.{IsWord-push}
use Rattle.dump_text.proofs.record.split_word.Goals as goal

pub loop-i-preserved : goal.loop-i-preserved
loop-i-preserved c = rw (take_more c.args.bytes.now c.loop-i.i 0 c.loop-i-test.true) (IsWord-push _ _ c.loop-i.invariant c.if-byte-eq32.false)
