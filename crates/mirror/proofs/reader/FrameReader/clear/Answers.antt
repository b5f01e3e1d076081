use Rattle.mirror.proofs.Endings.{leads_first}
use Rattle.mirror.proofs.reader.FrameReader.clear.Goals as goal

pub returns-clause-leads : goal.returns-clause-leads
returns-clause-leads c =
    let shape = c.args.self.now.shape in
    leads_first shape shape.in_range c.start-self.result c.clear.new.self.items c.clear.ensures.items (c.start-self.ensures.ready shape) c.start-self.ensures.begins (c.start-self.ensures.same shape)
