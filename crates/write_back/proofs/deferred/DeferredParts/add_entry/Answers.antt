use Rattle.std.proofs.Common.{◌≡◌, ◌<◌, ℕ, ◌&&◌, ◌||◌, nat_eq, List, [], ◌∷◌, ◌++◌, length, refl, sym, ◌∙◌, ap, subst, arith}
use Rattle.std.specs.Prelude.{slice_index, vec_capacity}
use Rattle.std.proofs.Math.ListN.{set}
use Rattle.std.proofs.lemmas.List.{with_items_is, length-set}
use Rattle.array_shape.specs.NumberSet.{has}
use Rattle.array_shape.specs.Places.{page_count}
use Rattle.write_back.specs.declared.entry.Entry.{Entry}
use Rattle.write_back.specs.declared.deferred.NumberParts.{NumberParts}
use Rattle.write_back.specs.Kept.{IsKept, HasMemory, entries_at}
use Rattle.write_back.proofs.Keeping.{entries_at-set_same, entries_at-set_other, kept_more, memory_at, page_inside, read_at}
use Rattle.write_back.proofs.deferred.DeferredParts.add_entry.Goals as goal

pub set_mark-requires-clause-page : goal.set_mark-requires-clause-page
set_mark-requires-clause-page c =
    let s = c.args.self.now in
    let pages : length s.masks.items ≡ page_count s.shape = s.kept.pages (omega (arith, c.requires.places, c.requires.tid)) in
    omega (arith, page_inside s.shape c.args.entry c.requires.entry, pages, ap length c.deref_mut.ensures.value, c.page_of.ensures)

pub push_reserved-requires : goal.push_reserved-requires
push_reserved-requires c =
    let s = c.args.self.now in
    let below : c.args.tid < length s.table.items = omega (arith, c.requires.places, c.requires.tid) in
    let es = read_at s.table.items c.from.result c.args.tid c.index_mut.result.now c.from.ensures below c.index_mut.ensures.value in
    omega (
      arith,
      c.index_mut.result.now.entries.ok.0,
      ap length es,
      c.requires.few,
      ap (λ (m : NumberParts). vec_capacity m.entries) c.index_mut.ensures.value,
      memory_at s.shape s.table.items c.from.result c.index_mut.result.now (omega (arith, c.from.ensures)) s.kept.memory,
    )

pub invariant_of-self : goal.invariant_of-self
invariant_of-self c =
    let s = c.args.self.now in
    let at = c.from.ensures in
    let n : NumberParts = record { entries = c.push_reserved.new.self } in
    let below : c.args.tid < length s.table.items = omega (arith, c.requires.places, c.requires.tid) in
    let es = read_at s.table.items c.from.result c.args.tid c.index_mut.result.now at below c.index_mut.ensures.value in
    let same_masks = with_items_is s.masks c.set_mark.new.masks (omega (arith, c.set_mark.auto.masks, c.deref_mut.ensures.len)) in
    let long : length c.set_mark.new.masks ≡ length s.masks.items = c.set_mark.auto.masks ∙ ap length c.deref_mut.ensures.value in
    let memory : HasMemory s.shape n = omega (arith, c.push_reserved.ensures.capacity, ap (λ (m : NumberParts). vec_capacity m.entries) c.index_mut.ensures.value, memory_at s.shape s.table.items c.from.result c.index_mut.result.now (omega (arith, at)) s.kept.memory) in
    let gains : (p u : ℕ) → u < 64 → has (slice_index c.set_mark.new.masks p) u ≡ ((nat_eq c.page_of.result p && nat_eq u c.args.tid) || has (slice_index s.masks.items p) u) =
    λ p u small. c.set_mark.ensures p u small ∙ (λ i. (nat_eq c.page_of.result p && nat_eq u c.args.tid) || has (slice_index (c.deref_mut.ensures.value i) p) u) in
    record {
      kept = subst (λ (l : List ℕ). IsKept s.shape (set s.table.items c.from.result n) l) (sym same_masks)
          (subst (λ (k : ℕ). IsKept s.shape (set s.table.items k n) c.set_mark.new.masks) (sym at)
          (kept_more s.shape s.table.items s.masks.items c.set_mark.new.masks c.args.tid n s.kept long below memory c.args.entry c.page_of.result c.requires.entry c.page_of.ensures
          (c.push_reserved.ensures.items ∙ ap (λ (l : List Entry). l ++ c.args.entry ∷ []) es) gains));
    }

pub returns : goal.returns
returns c =
    let s = c.args.self.now in
    let at : c.from.result ≡ c.args.tid = c.from.ensures in
    let n : NumberParts = record { entries = c.push_reserved.new.self } in
    let below : c.args.tid < length s.table.items = omega (arith, c.requires.places, c.requires.tid) in
    let es = read_at s.table.items c.from.result c.args.tid c.index_mut.result.now at below c.index_mut.ensures.value in
    record {
      shape = refl;
      places = λ was. length-set s.table.items c.from.result n ∙ was;
      here = ap (λ (k : ℕ). entries_at (set s.table.items k n) c.args.tid) at ∙ entries_at-set_same s.table.items c.args.tid n below ∙ c.push_reserved.ensures.items ∙ ap (λ (l : List Entry). l ++ c.args.entry ∷ []) es;
      others = λ u ne. ap (λ (k : ℕ). entries_at (set s.table.items k n) u) at ∙ entries_at-set_other s.table.items c.args.tid u n ne;
    }
