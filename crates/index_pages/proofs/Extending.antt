-- A super page that names further tables: all but the index of each table.
use Rattle.std.proofs.Common.{◌≡◌, ℕ, ◌-◌, List, sym, ◌∙◌, ap, subst, arith}
use Rattle.record_slots.specs.Free.{member_at, free_said}
use Rattle.record_slots.specs.IndexHead.{index_head_said}
use Rattle.record_slots.specs.Slots.{slot_said}
use Rattle.record_slots.specs.Places.{next_page, next_slot, free_slots, free_pages, free_slot, free_page, free_slot_of, free_page_of, IsOfKey, Carries, IsSuper}
use Rattle.record_slots.specs.declared.index_head.IndexHead.{IndexHead}
use Rattle.page_store.specs.Index.{IsEmptyRoot, Extends}
use Rattle.mars_base.specs.Check.{Check}
use Rattle.index_pages.specs.Page.{kind_said, level_said, count_said, link_said}
use Rattle.index_pages.specs.Ways.{Keeps}
use Rattle.index_pages.proofs.Stacks.{IsList, list_kept, member_is}
use Rattle.index_pages.proofs.Tabled.{IsWhole}

-- what an empty root says
pub empty_root : (page : List ℕ) → IsEmptyRoot page → (kind_said page ≡ 1) × (level_said page ≡ 0) × (link_said page ≡ 0) × (count_said page ≡ 0)
unfolding index_head_said kind_said level_said link_said count_said
empty_root page is = (ap (λ (h : IndexHead). h.kind) is, ap (λ (h : IndexHead). h.level) is, ap (λ (h : IndexHead). h.link) is, ap (λ (h : IndexHead). h.count) is)

pub record FrontExtends (form : ℕ) (old new : List ℕ) : Type 0 where
  pub front : IsSuper form new
  pub slots : IsList (free_slot_of new) 0 (next_slot new) (free_slots new) (free_slot new)
  pub pages : IsList (free_page_of new) 2 (next_page new) (free_pages new) (free_page new)
  pub keeps : Keeps old new

keeps_of : (old new : List ℕ) → Extends old new → Keeps old new
unfolding Carries
keeps_of old new x = record {
  pages = x.later;
  slots = omega (arith, x.next_slot_same);
  carried = λ table p lt carries. subst (λ (b : List ℕ). IsOfKey table p.0 (slot_said b)) (sym (x.slots p.1)) carries;
}

pub front_extends : (form : ℕ) (check : List ℕ → ℕ → ℕ → Check ℕ) (old new : List ℕ) → IsWhole form check old → Extends old new → FrontExtends form old new
front_extends form check old new w x =
    let slots = list_kept (free_slot_of old) 0 (next_slot old) (free_slot_of new) (next_slot new) (free_slots old) (free_slot old) (omega (arith, x.next_slot_same)) w.slots
    (λ i lt. ap (free_said 0xF0 2) (x.slots (member_at (free_slot_of old) (free_slot old) i - 1))) in
    let pages = list_kept (free_page_of old) 2 (next_page old) (free_page_of new) (next_page new) (free_pages old) (free_page old) x.later w.pages
    (λ i lt.
    let m = member_is (free_page_of old) 2 (next_page old) (free_pages old) i (free_page old) w.pages lt in
    ap (free_said 0xFF 4) (x.pages (member_at (free_page_of old) (free_page old) i - 1) (omega (arith, m.0.0)) (omega (arith, m.0.0, m.0.1)))) in
    record {
      front = record {
        has_mark = x.mark;
        form_is = x.form ∙ w.front.form_is;
        slots = omega (arith, x.next_slot_same, x.size, w.front.slots);
        some_pages = omega (arith, x.later, w.front.some_pages);
        pages = omega (arith, x.most, x.size);
        tables = x.tables;
      };
      slots = subst (λ (k : ℕ). IsList (free_slot_of new) 0 (next_slot new) (free_slots new) k) (sym x.free_slot_same) (subst (λ (k : ℕ). IsList (free_slot_of new) 0 (next_slot new) k (free_slot old)) (sym x.free_slots_same) slots);
      pages = subst (λ (k : ℕ). IsList (free_page_of new) 2 (next_page new) (free_pages new) k) (sym x.free_page_same) (subst (λ (k : ℕ). IsList (free_page_of new) 2 (next_page new) k (free_page old)) (sym x.free_pages_same) pages);
      keeps = keeps_of old new x;
    }
