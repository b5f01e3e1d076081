use Rattle.history.proofs.ReadAgain.{log_full_written}
use Rattle.history.proofs.packing.append_log_full.Goals as goal

pub returns : goal.returns
returns c = record {
  items = log_full_written c.args.bytes.now.items c.append_number.new.bytes.items c.append_word.new.bytes.items c.append_word-2.new.bytes.items _ _ _ c.args.logger c.args.held c.args.needed
      c.from.ensures c.from-2.ensures c.from-3.ensures c.append_number.ensures.items c.append_word.ensures.items c.append_word-2.ensures.items;
}
