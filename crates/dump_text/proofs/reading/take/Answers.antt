use Rattle.std.proofs.Common.{refl}
use Rattle.dump_text.proofs.Taken.{read_more, refused_more, refused_short}
use Rattle.dump_text.proofs.reading.take.Goals as goal

pub returns-in-Ok-2 : goal.returns-in-Ok-2
returns-in-Ok-2 c = λ read has.
    let added = rw c.in-Ok-2.is at c.in_ok-add.ensures in
    (c.in-Ok.record, c.in-Ok.ensures.1, read_more c.args.gathered.now c.add.new.self read c.in-Ok.record has c.in-Ok.ensures.0 added.0 added.1 added.2)

pub returns-in-Err-2 : goal.returns-in-Err-2
returns-in-Err-2 c = λ read has.
    let added = rw c.in-Err-2.is at c.in_ok-add.ensures in
    let refused = refused_more c.args.gathered.now read c.args.line.now c.in-Ok.record c.in-Err-2.fault c.add.new.self has c.in-Ok.ensures.0 c.in-Ok.ensures.1 added in
    (refl, refused.0, refused.1)

pub returns-in-Err : goal.returns-in-Err
returns-in-Err c = λ read has.
    let refused = refused_short read c.args.line.now c.in-Err.fault (c.in-Err.ensures.0, c.requires) c.in-Err.ensures.1 in
    (refl, refused.0, refused.1)
