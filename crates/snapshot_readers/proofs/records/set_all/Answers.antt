use Rattle.std.proofs.Common.{sym, ◌∙◌, ap, subst, get_or, take, ◌++◌, ◌∷◌, []}
use Rattle.std.proofs.lemmas.List.{take_more}
use Rattle.history.specs.Writes.{Table, Write, write_into, all_written}
use Rattle.snapshot_readers.specs.Rooms.{table_in, HasRoom}
use Rattle.snapshot_readers.proofs.Writings.{all_written-append}
use Rattle.snapshot_readers.proofs.records.set_all.Goals as goal

pub set-requires : goal.set-requires
set-requires c = subst (λ (write : Write). HasRoom c.loop-key.rooms write.0) (sym c.loop-key-item.is) (c.loop-key.invariant.room c.loop-key.key-index c.loop-key-item.result c.loop-key-test.true)

pub loop-key-preserved : goal.loop-key-preserved
loop-key-preserved c =
    let all = c.args.writes.now in
    let i = c.loop-key.key-index in
    let item = c.loop-key-item.result in
    let start = table_in c.args.rooms.now.entries in
    record {
      set = c.set.ensures.set
          ∙ ap (λ (t : Table). write_into t item) c.loop-key.invariant.set
          ∙ sym (ap (all_written start) (take_more all i item c.loop-key-test.true ∙ ap (λ (w : Write). take i all ++ w ∷ []) (sym c.loop-key-item.is)) ∙ all_written-append start (take i all) (item ∷ []));
      room = λ k d lt. c.set.ensures.kept (get_or all k d).0 (c.loop-key.invariant.room k d lt);
    }
