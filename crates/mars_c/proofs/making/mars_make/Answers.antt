use Rattle.std.proofs.Common.{rules}
use Rattle.mars_c.proofs.NewTable.{made}
use Rattle.mars_c.proofs.making.mars_make.Goals as goal

pub returns-in-Ok : goal.returns-in-Ok
returns-in-Ok c =
    made c.args.table.now c.args.number.now c.in-Ok.at c.args.m.now.held.array c.put.new.self.held.array c.in-Some.array.value c.in-Ok.array.value (search (rules, c.in-Some.ensures.array)) (search (rules, c.put.ensures))
    (search (rules, c.in-Ok.ensures.made))
