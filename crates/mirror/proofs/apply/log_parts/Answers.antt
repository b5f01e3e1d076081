use Rattle.mirror.proofs.Logging.{logs_first, logs_last, will_read, read_some, read_inside, read_fault, read_logged, read_moments}
use Rattle.mirror.proofs.apply.log_parts.Goals as goal

pub loop-part-init : goal.loop-part-init
loop-part-init g c =
    let s = g.S.EawStore in
    let old = s.view c.args.store.now in
    logs_first s.tells s.opens c.args.number c.args.count 0 c.args.bytes.now c.args.bytes.now old old c.requires.parts c.requires.alive

pub cut_part-addr-requires : goal.cut_part-addr-requires
cut_part-addr-requires g c =
    let s = g.S.EawStore in
    will_read s.tells s.opens c.args.number c.args.count c.loop-part._part c.args.bytes.now c.loop-part.rest.now (s.view c.args.store.now) (s.view c.loop-part.store) c.loop-part.invariant c.loop-part-test.true

pub log_write-requires-clause-some : goal.log_write-requires-clause-some
log_write-requires-clause-some g c =
    let s = g.S.EawStore in
    let cut = c.cut_part-addr in
    read_some s.tells s.opens c.args.number c.args.count c.loop-part._part c.args.bytes.now c.loop-part.rest.now (s.view c.args.store.now) (s.view c.loop-part.store) c.loop-part.invariant c.loop-part-test.true
    cut.result.0 cut.result.1.now cut.result.2.now cut.ensures.addr cut.ensures.part cut.ensures.rest

pub log_write-requires-clause-inside : goal.log_write-requires-clause-inside
log_write-requires-clause-inside g c =
    let s = g.S.EawStore in
    let cut = c.cut_part-addr in
    read_inside s.tells s.opens c.args.number c.args.count c.loop-part._part c.args.bytes.now c.loop-part.rest.now (s.view c.args.store.now) (s.view c.loop-part.store) c.loop-part.invariant c.loop-part-test.true
    cut.result.0 cut.result.1.now cut.result.2.now cut.ensures.addr cut.ensures.part cut.ensures.rest

pub loop-part-preserved : goal.loop-part-preserved
loop-part-preserved g c =
    let s = g.S.EawStore in
    let cut = c.cut_part-addr in
    read_logged s.tells s.opens c.args.number c.args.count c.loop-part._part c.args.bytes.now c.loop-part.rest.now (s.view c.args.store.now) (s.view c.loop-part.store) c.loop-part.invariant c.loop-part-test.true
    cut.result.0 cut.result.1.now cut.result.2.now cut.ensures.addr cut.ensures.part cut.ensures.rest c.requires.free c.requires.number (s.view c.log_write.new.self) c.in_default.field-0 c.in_default.ensures.does

pub returns-in-Err-clause-fault : goal.returns-in-Err-clause-fault
returns-in-Err-clause-fault g c =
    let s = g.S.EawStore in
    let cut = c.cut_part-addr in
    read_fault s.tells s.opens c.args.number c.args.count c.loop-part._part c.args.bytes.now c.loop-part.rest.now (s.view c.args.store.now) (s.view c.loop-part.store) c.loop-part.invariant c.loop-part-test.true
    cut.result.0 cut.result.1.now cut.result.2.now cut.ensures.addr cut.ensures.part cut.ensures.rest c.requires.free c.requires.number (s.view c.log_write.new.self) c.in-Err.fault c.in-Err.ensures.does

pub returns-in-Err-clause-moments : goal.returns-in-Err-clause-moments
returns-in-Err-clause-moments g c =
    let s = g.S.EawStore in
    let cut = c.cut_part-addr in
    read_moments s.tells s.opens c.args.number c.args.count c.loop-part._part c.args.bytes.now c.loop-part.rest.now (s.view c.args.store.now) (s.view c.loop-part.store) c.loop-part.invariant c.loop-part-test.true
    cut.result.0 cut.result.1.now cut.result.2.now cut.ensures.addr cut.ensures.part cut.ensures.rest c.requires.free c.requires.number (s.view c.log_write.new.self) c.log_write.result c.log_write.ensures.does

pub returns-clause-wrote : goal.returns-clause-wrote
returns-clause-wrote g c =
    let s = g.S.EawStore in
    logs_last s.tells s.opens c.args.number c.args.count c.loop-part._part c.args.bytes.now c.loop-part.rest.now (s.view c.args.store.now) (s.view c.loop-part.store) c.loop-part.invariant c.loop-part-test.false

pub returns-clause-moments : goal.returns-clause-moments
returns-clause-moments g c = c.loop-part.invariant.moments
