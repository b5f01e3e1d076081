use Rattle.std.proofs.Common.{sym, ap, ◌∙◌}
use Rattle.dump_text.proofs.Gathering.{same_names, is_put}
use Rattle.dump_text.proofs.gathered.put.Goals as goal

pub returns-in_err-had-clause-names : goal.returns-in_err-had-clause-names
returns-in_err-had-clause-names c = same_names c.args.tables.now.items c.args.place c.index_mut.result.now c.insert.new.self c.index_mut.ensures.value

pub returns : goal.returns
returns c = record {
  names = same_names c.args.tables.now.items c.args.place c.index_mut.result.now c.insert.new.self c.index_mut.ensures.value;
  put = is_put c.args.tables.now.items c.args.place c.index_mut.result.now c.insert.new.self c.args.key c.args.value c.in_ok-had.had c.requires c.index_mut.ensures.value c.in_ok-had.ensures.had c.in_ok-had.ensures.rows;
}
