use Rattle.std.proofs.Common.{rules, ◌-◌}
use Rattle.long_values.specs.Values.{part_at}
use Rattle.long_values.proofs.Pieces.{part_small, row_spells, one_more, whole}
use Rattle.long_values.proofs.reading.bytes_in.Goals as goal

pub returns-in_err-push_part-clause-err : goal.returns-in_err-push_part-clause-err
returns-in_err-push_part-clause-err c first bytes small are =
    let n = c.loop-n.n in
    let refused = c.in_err-push_part.ensures.err (part_at bytes (n - 1)) (part_small bytes (n - 1) small)
    (row_spells c.args.rows.now first bytes n c.index-rows-n.result are c.loop-n.auto.n c.loop-n-test.true) in
    search (rules, refused)

pub loop-n-preserved : goal.loop-n-preserved
loop-n-preserved c first bytes small are =
    let n = c.loop-n.n in
    one_more bytes c.loop-n.spelled.items c.push_part.new.bytes.items n c.loop-n.auto.n (c.loop-n.invariant first bytes small are)
    (c.in_ok-push_part.ensures.ok (part_at bytes (n - 1)) (part_small bytes (n - 1) small)
    (row_spells c.args.rows.now first bytes n c.index-rows-n.result are c.loop-n.auto.n c.loop-n-test.true))

pub returns-clause-some : goal.returns-clause-some
returns-clause-some c first bytes small are = whole c.args.rows.now first bytes c.loop-n.spelled.items c.loop-n.n are c.loop-n-test.false (c.loop-n.invariant first bytes small are)
