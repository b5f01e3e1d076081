use Rattle.std.proofs.Common.{◌≡◌, ◌∙◌, ◌<◌, ◌+◌, ℕ, ap, take, length, get_or, List, arith}
use Rattle.std.specs.Prelude.{slice_index}
use Rattle.std.proofs.lemmas.List.{length-take, get_or-take, length-set}
use Rattle.array_shape.specs.Places.{logger_of}
use Rattle.write_back.specs.declared.entry.Entry.{Entry}
use Rattle.eaw_device.proofs.Keeping.{entry_placed, counts_more, at_below, first_few}
use Rattle.eaw_device.proofs.log.Log.counts_of_first.Goals as goal

abbrev none : Entry
none = record { addr = 0; len = 0; cell = 0 }

-- the entry of this turn is one of the log
same_entry : (n : ℕ) (items es : List Entry) (i : ℕ) → es ≡ items → i < length (take n es) → (i < n) × (i < length items) × (get_or (take n es) i none ≡ get_or items i none)
same_entry n items es i is lt =
    let long = length-take n es in
    let count = ap length is in
    let below : i < n = omega arith in
    (below, omega arith, get_or-take n es i none below ∙ ap (λ (l : List Entry). get_or l i none) is)

pub place-requires : goal.place-requires
place-requires c =
    let s = c.args.self.now in
    let here = same_entry c.args.len s.entries.items c.deref.result.now c.loop-entry.entry-index c.deref.ensures.value c.loop-entry-test.true in
    let placed = entry_placed c.args.shape.now s.entries.items c.loop-entry.entry-index none here.1 c.requires.kept.placed in
    omega (arith, ap (λ (e : Entry). e.addr) here.2, placed.inside, placed.some)

pub overflow_add-counts : goal.overflow_add-counts
overflow_add-counts c =
    let s = c.args.self.now in
    let shape = c.args.shape.now in
    let here = same_entry c.args.len s.entries.items c.deref.result.now c.loop-entry.entry-index c.deref.ensures.value c.loop-entry-test.true in
    let at : c.from-at.result ≡ logger_of shape (get_or s.entries.items c.loop-entry.entry-index none).addr =
    c.from-at.ensures ∙ c.place.ensures.logger ∙ ap (λ (e : Entry). logger_of shape e.addr) here.2 in
    let below = at_below shape shape.in_range s.entries.items c.loop-entry.entry-index none here.1 c.loop-entry.counts c.loop-entry.invariant.long c.loop-entry.invariant.counts c.from-at.result at in
    omega (
      arith,
      c.loop-entry.invariant.counts c.from-at.result below,
      first_few shape c.loop-entry.entry-index s.entries.items s.held c.requires.kept.cells c.from-at.result below,
      c.requires.kept.fits c.from-at.result below,
      shape.in_range.most_entries,
    )

pub loop-entry-preserved : goal.loop-entry-preserved
loop-entry-preserved c =
    let s = c.args.self.now in
    let shape = c.args.shape.now in
    let here = same_entry c.args.len s.entries.items c.deref.result.now c.loop-entry.entry-index c.deref.ensures.value c.loop-entry-test.true in
    let at : c.from-at.result ≡ logger_of shape (get_or s.entries.items c.loop-entry.entry-index none).addr =
    c.from-at.ensures ∙ c.place.ensures.logger ∙ ap (λ (e : Entry). logger_of shape e.addr) here.2 in
    record {
      long = length-set c.loop-entry.counts c.from-at.result (slice_index c.loop-entry.counts c.from-at.result + 1) ∙ c.loop-entry.invariant.long;
      counts = counts_more shape shape.in_range s.entries.items c.loop-entry.entry-index none here.1 c.loop-entry.counts c.loop-entry.invariant.long c.loop-entry.invariant.counts c.from-at.result at;
    }
