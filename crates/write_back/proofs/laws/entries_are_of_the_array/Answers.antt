use Rattle.write_back.proofs.laws.entries_are_of_the_array.Goals as goal

pub returns : goal.returns
returns c = c.args.parts.now.kept.entries
