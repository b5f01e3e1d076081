use Rattle.std.proofs.Common.{◌*◌, List, [], ◌∷◌, ◌++◌, length, get_or, refl, sym, ◌∙◌, ap, subst, arith}
use Rattle.std.proofs.lemmas.List.{take_more, length-take}
use Rattle.array_shape.specs.declared.shape.Shape.{Shape}
use Rattle.write_back.specs.declared.entry.Entry.{Entry}
use Rattle.write_back.specs.Entries.{IsEntry}
use Rattle.write_back.proofs.deferred.DeferredParts.add.Goals as goal

abbrev none : Entry
none = record { addr = 0; len = 0; cell = 0 }

pub loop-entry-init : goal.loop-entry-init
loop-entry-init c = record { shape = refl; places = λ was. was; here = c.requires.none; others = λ u ne. refl }

pub add_entry-requires-clause-places : goal.add_entry-requires-clause-places
add_entry-requires-clause-places c = c.loop-entry.invariant.places c.requires.places

pub add_entry-requires-clause-tid : goal.add_entry-requires-clause-tid
add_entry-requires-clause-tid c = omega (arith, ap (λ (s : Shape). s.numbers) c.loop-entry.invariant.shape, c.requires.tid)

pub add_entry-requires-clause-entry : goal.add_entry-requires-clause-entry
add_entry-requires-clause-entry c = subst (λ (s : Shape). IsEntry s (get_or c.args.entries.now c.loop-entry.entry-index none)) (sym c.loop-entry.invariant.shape) (c.requires.entries c.loop-entry.entry-index none c.loop-entry-test.true)

pub add_entry-requires-clause-few : goal.add_entry-requires-clause-few
add_entry-requires-clause-few c =
    let most = ap (λ (s : Shape). s.loggers * s.entries) c.loop-entry.invariant.shape in
    omega (arith, ap length c.loop-entry.invariant.here, length-take c.loop-entry.entry-index c.args.entries.now, c.requires.few, most, c.loop-entry-test.true)

pub loop-entry-preserved : goal.loop-entry-preserved
loop-entry-preserved c =
    let so_far = c.loop-entry.invariant in
    let one = c.add_entry.ensures in
    record {
      shape = one.shape ∙ so_far.shape;
      places = λ was. one.places (so_far.places was);
      here = one.here ∙ ap (λ (l : List Entry). l ++ get_or c.args.entries.now c.loop-entry.entry-index none ∷ []) so_far.here ∙ sym (take_more c.args.entries.now c.loop-entry.entry-index none c.loop-entry-test.true);
      others = λ u ne. one.others u ne ∙ so_far.others u ne;
    }
