use Rattle.std.proofs.Common.{◌≡◌, ap, sym, ◌∙◌, fold, List, [], subst, length, ◌∷◌, arith, length-append}
use Rattle.std.proofs.lemmas.List.Elements.{All-push}
use Rattle.std.specs.Prelude.{All}
use Rattle.snapshot_readers.specs.declared.snapshot.Snapshot.{Snapshot}
use Rattle.snapshot_readers.specs.declared.snapshot.Change.{Change}
use Rattle.snapshot_readers.specs.Shown.{changed, base_known, lists_known, list_of}
use Rattle.history.specs.Rows.{table_of}
use Rattle.snapshot_readers.specs.Feeds.{IsFresh, HasReadNone}
use Rattle.snapshot_readers.specs.declared.prefix.Prefix.{Prefix}
use Rattle.snapshot_readers.specs.Batches.{Batch}
use Rattle.snapshot_readers.proofs.Cases.{when_ok}
use Rattle.snapshot_readers.proofs.Copies.{same_copies}
use Rattle.snapshot_readers.proofs.Standing.{claims_same, first_stands}
use Rattle.snapshot_readers.proofs.opening.open_readers.Goals as goal

pub new-requires-clause-alike : goal.new-requires-clause-alike
new-requires-clause-alike g c = same_copies c.in_ok-first.first c.in_ok-second.second (table_of c.args.base.now) c.open-word.result.1 1 c.in_ok-first.ensures c.in_ok-second.ensures

pub new-requires-clause-rule : goal.new-requires-clause-rule
new-requires-clause-rule g c = first_stands c.in_ok-first.first c.in_ok-first.ensures.2

pub publish_as-writer-requires : goal.publish_as-writer-requires
publish_as-writer-requires g c next is = claims_same _ _ c.in_ok-writer.writer.desk.shown.value next (ap list_of c.in_ok-writer.ensures.0 ∙ ap (λ (f : Prefix). f.seen.log) c.in_ok-first.ensures.1 ∙ c.open-word.ensures.1) (ap (λ (s : Snapshot). s.count) c.in_ok-writer.ensures.0 ∙ c.in_ok-first.ensures.2) (is ∙ ap (λ (waiting : List Change). fold changed c.in_ok-writer.writer.desk.shown.value waiting) c.in_ok-writer.ensures.1)

pub loop-preserved : goal.loop-preserved
loop-preserved g c =
    let now = c.new_reader-reader.ensures in
    let was = c.loop.invariant in
    let made = c.new_reader-reader.result in
    let claimed = when_ok _ _ _ _ c.in-Ok.is c.publish_as-writer.ensures.rule in
    let values = when_ok _ _ _ _ c.in-Ok.is c.publish_as-writer.ensures.values in
    let same : c.publish_as-writer.result.0.desk.shown.value ≡ c.in_ok-first.first = values.0 ∙ ap (λ (waiting : List Change). fold changed c.in_ok-writer.writer.desk.shown.value waiting) c.in_ok-writer.ensures.1 ∙ c.in_ok-writer.ensures.0 in
    record {
      knows = now.writer.0 ∙ was.knows;
      shown = now.writer.1 ∙ was.shown;
      log = now.writer.2 ∙ was.log;
      behind = now.writer.3 ∙ was.behind;
      count = ap length c.in-Ok-push.ensures.ok ∙ omega (arith, was.count, length-append c.loop.opened (made ∷ []));
      fresh = subst (All (IsFresh c.open-word.result.1.seen.book (table_of c.args.base.now))) (sym c.in-Ok-push.ensures.ok)
          (All-push (IsFresh c.open-word.result.1.seen.book (table_of c.args.base.now)) c.loop.opened made was.fresh (now.reader.0 ∙ c.open-word.ensures.1, now.reader.1, now.reader.2 ∙ ap base_known (was.knows ∙ claimed) ∙ ap (λ (s : Snapshot). s.records) same ∙ c.in_ok-first.ensures.0));
      lists = subst (All HasReadNone) (sym c.in-Ok-push.ensures.ok) (All-push HasReadNone c.loop.opened made was.lists
          (now.lists ∙ ap lists_known (was.knows ∙ claimed) ∙ ap (λ (l : List Batch). l ∷ []) (ap list_of same ∙ ap (λ (f : Prefix). f.seen.log) c.in_ok-first.ensures.1 ∙ c.open-word.ensures.1)));
    }

pub returns-clause-readers : goal.returns-clause-readers
returns-clause-readers g c = (omega (arith, c.loop.invariant.count, c.loop-test.false, c.loop.auto.counter-end), c.loop.invariant.fresh)
