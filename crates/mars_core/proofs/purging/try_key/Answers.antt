use Rattle.std.proofs.Common.{◌<◌, ap, subst, sym, ◌∙◌, List, ℕ, arith}
use Rattle.std.specs.Prelude.{slice_get, length, unwrap_or}
use Rattle.history.specs.Key.{of_table}
use Rattle.history.specs.declared.key.Key.{Key}
use Rattle.history.specs.declared.call.TableCall.TheVariants.{Del}
use Rattle.page_store.specs.Shown.{pages_of}
use Rattle.record_table.specs.Removing.{IsAbsent, IsUnwritten}
use Rattle.mars_core.proofs.Clearing.{all_unwritten, busy_tries, removed_tries, called_key}
use Rattle.mars_core.proofs.Passing.{there}
use Rattle.mars_core.proofs.purging.try_key.Goals as goal

pub remove-requires-clause-there : goal.remove-requires-clause-there
remove-requires-clause-there g c = λ told alive.
    subst (λ (ns : List (List ℕ)). c.args.table < length ns) (sym (c.requires.may.ready told).named) (there c.args.seats.now.names c.args.table c.args.name.now c.requires.named)

pub remove-requires-clause-absent : goal.remove-requires-clause-absent
remove-requires-clause-absent g c = λ told alive.
    let V = g.S.EawStore.view in
    let bytes = (V c.args.records.now.store).state.bytes in
    let key = of_table c.args.name.now c.args.key in
    let called = ap (λ (ns : List (List ℕ)). slice_get ns c.args.table) (c.requires.may.ready told).named ∙ c.requires.named in
    subst (λ (k : Key). IsAbsent g.K.KeyIndex.index (g.S.EawStore.view c.args.records.now.store).state.bytes k) (sym (called_key bytes c.args.table key called)) (c.requires.absent told)

pub remove-requires-clause-unwritten : goal.remove-requires-clause-unwritten
remove-requires-clause-unwritten g c = λ told alive.
    let V = g.S.EawStore.view in
    let old = c.args.records.now in
    let key = of_table c.args.name.now c.args.key in
    let called = ap (λ (ns : List (List ℕ)). slice_get ns c.args.table) (c.requires.may.ready told).named ∙ c.requires.named in
    subst (λ (k : Key). IsUnwritten g.K.KeyIndex.index (pages_of (g.S.EawStore.view c.args.records.now.store) c.args.records.now) k) (sym (called_key (V old.store).state.bytes c.args.table key called))
    (all_unwritten g.S.EawStore.tells (g.S.EawStore.opens (V old.store).shape) g.K.KeyIndex.index c.args.seats.now c.args.caller c.args.table key (omega arith) c.requires.named (pages_of (V old.store) old) c.requires.may.alive c.requires.may.unheld c.requires.may.ready c.requires.may.idle (c.in-None.ensures.free (Del c.args.name.now c.args.key) (c.touched_by.ensures c.args.seats.now.names (sym (c.unwrap_or-number.ensures ∙ (λ i. unwrap_or (c.number_for.ensures.number i) ((c.count.ensures.count ∙ ap length c.names.ensures) i)))))) told)

pub returns-in-None : goal.returns-in-None
returns-in-None g c =
    let V = g.S.EawStore.view in
    let old = c.args.records.now in
    let new = c.remove.new.self in
    let key = of_table c.args.name.now c.args.key in
    record {
      tries = removed_tries g.S.EawStore.tells (g.S.EawStore.opens (V old.store).shape) g.K.KeyIndex.index c.args.seats.now c.args.caller c.args.table key (omega arith) c.requires.named (pages_of (V old.store) old) c.requires.may.alive c.requires.may.unheld c.requires.may.ready c.requires.may.idle
          (c.in-None.ensures.free (Del c.args.name.now c.args.key) (c.touched_by.ensures c.args.seats.now.names (sym (c.unwrap_or-number.ensures ∙ (λ i. unwrap_or (c.number_for.ensures.number i) ((c.count.ensures.count ∙ ap length c.names.ensures) i))))))
          (g.met.S.EawStore.shaped old.store).some_entries (pages_of (V new.store) new) c.remove.result c.remove.ensures.removes;
    }

pub returns-in-Some : goal.returns-in-Some
returns-in-Some g c =
    let V = g.S.EawStore.view in
    let old = c.args.records.now in
    let key = of_table c.args.name.now c.args.key in
    record {
      tries = busy_tries g.S.EawStore.tells (g.S.EawStore.opens (V old.store).shape) g.K.KeyIndex.index c.args.seats.now c.args.caller c.args.table key (omega arith) c.requires.named (pages_of (V old.store) old) c.requires.may.alive c.requires.may.unheld c.requires.may.ready
          c.in-Some.field-0
          (c.in-Some.ensures.busy (Del c.args.name.now c.args.key) (c.touched_by.ensures c.args.seats.now.names (sym (c.unwrap_or-number.ensures ∙ (λ i. unwrap_or (c.number_for.ensures.number i) ((c.count.ensures.count ∙ ap length c.names.ensures) i))))));
    }
