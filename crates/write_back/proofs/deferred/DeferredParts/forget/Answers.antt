use Rattle.std.proofs.Common.{◌≡◌, ◌<◌, ℕ, ◌&&◌, not, nat_eq, List, length, refl, sym, ◌∙◌, ap, subst, arith}
use Rattle.std.specs.Prelude.{slice_index, vec_capacity, All}
use Rattle.std.proofs.Math.ListN.{set}
use Rattle.std.proofs.lemmas.List.{with_items_is, length-set}
use Rattle.array_shape.specs.NumberSet.{has}
use Rattle.array_shape.specs.Places.{page_count}
use Rattle.write_back.specs.declared.deferred.NumberParts.{NumberParts}
use Rattle.write_back.specs.Entries.{IsEntry}
use Rattle.write_back.specs.Kept.{IsKept, HasMemory, entries_at, lies_on}
use Rattle.write_back.proofs.Keeping.{entries_at-set_same, entries_at-set_other, kept_none, memory_at, page_inside, read_at}
use Rattle.write_back.proofs.deferred.DeferredParts.forget.Goals as goal

pub clear_marks-requires-clause-pages : goal.clear_marks-requires-clause-pages
clear_marks-requires-clause-pages c k d lt =
    let s = c.args.self.now in
    let below : c.args.tid < length s.table.items = omega (arith, c.requires.places, c.requires.tid) in
    let es = c.deref.ensures.value ∙ read_at s.table.items c.from-at.result c.args.tid c.index.result.now c.from-at.ensures below c.index.ensures in
    let all : All (IsEntry s.shape) c.deref.result.now = subst (All (IsEntry s.shape)) (sym es) (s.kept.entries c.args.tid) in
    let pages : length s.masks.items ≡ page_count s.shape = s.kept.pages (omega arith) in
    omega (arith, page_inside s.shape _ (all k d lt), pages, ap length c.deref_mut.ensures.value)

pub invariant_of-self : goal.invariant_of-self
invariant_of-self c =
    let s = c.args.self.now in
    let at = c.from-at.ensures in
    let n : NumberParts = record { entries = c.clear.new.self } in
    let below : c.args.tid < length s.table.items = omega (arith, c.requires.places, c.requires.tid) in
    let es = c.deref.ensures.value ∙ read_at s.table.items c.from-at.result c.args.tid c.index.result.now at below c.index.ensures in
    let same_masks = with_items_is s.masks c.clear_marks.new.masks (omega (arith, c.clear_marks.auto.masks, c.deref_mut.ensures.len)) in
    let long : length c.clear_marks.new.masks ≡ length s.masks.items = c.clear_marks.auto.masks ∙ ap length c.deref_mut.ensures.value in
    let memory : HasMemory s.shape n = omega (arith, c.clear.ensures.capacity, ap (λ (m : NumberParts). vec_capacity m.entries) c.index_mut.ensures.value, memory_at s.shape s.table.items c.from-at.result c.index_mut.result.now (omega arith) s.kept.memory) in
    let loses : (p u : ℕ) → u < 64 → has (slice_index c.clear_marks.new.masks p) u ≡ (not (nat_eq u c.args.tid && lies_on p (entries_at s.table.items c.args.tid)) && has (slice_index s.masks.items p) u) =
    λ p u small. c.clear_marks.ensures p u small ∙ (λ i. not (nat_eq u c.args.tid && lies_on p (es i)) && has (slice_index (c.deref_mut.ensures.value i) p) u) in
    record {
      kept = subst (λ (l : List ℕ). IsKept s.shape (set s.table.items c.from-at.result n) l) (sym same_masks)
          (subst (λ (k : ℕ). IsKept s.shape (set s.table.items k n) c.clear_marks.new.masks) (sym at)
          (kept_none s.shape s.table.items s.masks.items c.clear_marks.new.masks c.args.tid n s.kept long below memory c.clear.ensures.items loses));
    }

pub returns : goal.returns
returns c =
    let at : c.from-at.result ≡ c.args.tid = c.from-at.ensures in
    let n : NumberParts = record { entries = c.clear.new.self } in
    let below : c.args.tid < length c.args.self.now.table.items = omega (arith, c.requires.places, c.requires.tid) in
    record {
      shape = refl;
      places = λ was. length-set c.args.self.now.table.items c.from-at.result n ∙ was;
      here = ap (λ (k : ℕ). entries_at (set c.args.self.now.table.items k n) c.args.tid) at ∙ entries_at-set_same c.args.self.now.table.items c.args.tid n below ∙ c.clear.ensures.items;
      others = λ u ne. ap (λ (k : ℕ). entries_at (set c.args.self.now.table.items k n) u) at ∙ entries_at-set_other c.args.self.now.table.items c.args.tid u n ne;
    }
