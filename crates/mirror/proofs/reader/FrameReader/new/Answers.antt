use Rattle.mirror.proofs.Endings.{leads_first}
use Rattle.mirror.proofs.reader.FrameReader.new.Goals as goal

pub returns-clause-leads : goal.returns-clause-leads
returns-clause-leads c = leads_first c.args.shape c.args.shape.in_range c.start.result c.new.result.items c.new.ensures.items (c.start.ensures.ready c.args.shape) c.start.ensures.begins (c.start.ensures.same c.args.shape)
