use Rattle.std.proofs.Common.{sym, ◌∙◌, ap}
use Rattle.std.specs.Prelude.{is_some}
use Rattle.std.proofs.lemmas.Bool.{true≢false}
use Rattle.snapshot_readers.proofs.Rooming.{filled, stays}
use Rattle.snapshot_readers.proofs.records.set.Goals as goal

pub unreachable-requires : goal.unreachable-requires
unreachable-requires c = true≢false (sym c.requires ∙ ap is_some c.in_default.ensures.absent)

pub returns-clause-set : goal.returns-clause-set
returns-clause-set c = filled c.args.rooms.now c.insert.new.self c.args.key c.args.value c.in-Ok.ensures.updates

pub returns-clause-kept : goal.returns-clause-kept
returns-clause-kept c = stays c.args.rooms.now c.insert.new.self c.args.key c.args.value c.in-Ok.ensures.updates
