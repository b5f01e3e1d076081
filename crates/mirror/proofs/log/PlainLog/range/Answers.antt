use Rattle.std.proofs.Common.{◌<◌, length, sym, ◌∙◌}
use Rattle.mirror.proofs.Parts.{range_at-part}
use Rattle.mirror.proofs.log.PlainLog.range.Goals as goal

pub returns : goal.returns
returns c =
    let items = c.self.inside.parts.items in
    let lt : c.args.pos < length items = rw (← c.self.view_is) at c.requires in
    rw (← c.self.view_is) (c.range.ensures ∙ sym (range_at-part items c.args.pos c.index.result.now lt c.index.ensures))
