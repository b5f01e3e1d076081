use Rattle.std.proofs.Common.{◌≡◌, ◌+◌, drop, ap, ◌∙◌}
use Rattle.snapshot_readers.specs.declared.snapshot.Snapshot.{Snapshot}
use Rattle.snapshot_readers.proofs.Leading.{right_next, count_next}
use Rattle.snapshot_readers.proofs.Standing.{shows}
use Rattle.snapshot_readers.proofs.feed.publish.Goals as goal

pub publish_as-writer-requires : goal.publish_as-writer-requires
publish_as-writer-requires g c =
    let writer = c.args.writer in
    let shown = writer.desk.shown.value in
    let waiting = drop writer.behind writer.log.items in
    let more : c.in-Some.count ≡ shown.count + 1 = c.in-Some.ensures.1 ∙ ap (λ (s : Snapshot). s.count + 1) c.published.ensures in
    rw (c.in-Ok.ensures.desk, c.in-Ok.ensures.pending, c.again.ensures) (λ next is.
    let right = right_next shown next waiting c.args.list.now _ c.requires.leads is in
    shows _ _ shown next right.0 right.1 c.requires.counted (count_next shown next waiting c.args.list.now _ is ∙ more))
