use Rattle.std.proofs.Common.{◌∙◌, sym}
use Rattle.mirror.proofs.Endings.{leads_on, pushed}
use Rattle.mirror.proofs.reader.FrameReader.take.Goals as goal

pub returns-clause-leads : goal.returns-clause-leads
returns-clause-leads c =
    let self = c.args.self.now in
    leads_on self.shape self.shape.in_range self.place c.in-Some.place self.bytes.items c.push.new.self.items c.args.byte
    (pushed c.push.result c.push.new.self.items self.bytes.items c.args.byte (sym c.is_err.ensures.value ∙ c.if-is_err.false) c.push.ensures.items) c.requires c.in-Some.ensures
