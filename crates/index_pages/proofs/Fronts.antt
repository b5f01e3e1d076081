-- The super page after a write of the part that changes, and after writes into slots.
use Rattle.std.proofs.Common.{◌≡◌, ℕ, ◌+◌, ◌*◌, ◌<◌, ◌≤◌, List, get_or, take, sym, ◌∙◌, ap, subst, arith}
use Rattle.std.proofs.lemmas.List.{get_or-take, take-take}
use Rattle.mars_base.specs.Bytes.{range}
use Rattle.record_slots.specs.Super.{HasSuperMark, HasTables, SaysSuper, AreTables, version_said, form_said, next_said, entries_said, tables_said, tables_in, part_bytes, tables_used}
use Rattle.record_slots.specs.declared.super_page.Super.{Super}
use Rattle.record_slots.specs.declared.super_page.TableEntry.{TableEntry}
use Rattle.record_slots.specs.Places.{page_bytes, next_slot, next_page, page_count, tables_of, IsSuper}
use Rattle.record_slots.proofs.ReadingBack.{IsWritable, part_says, range_in}
use Rattle.page_store.specs.Index.{KeepsIndex}
use Rattle.index_pages.specs.Ways.{Keeps}

-- mark, version and form stay if the first eight bytes do
module _ (old new : List ℕ) (same : range new 0 8 ≡ range old 0 8) where
  byte_kept : (i : ℕ) → i < 8 → get_or (page_bytes new 0) i 0 ≡ get_or (page_bytes old 0) i 0
  unfolding page_bytes
  byte_kept i lt =
      get_or-take 512 new i 0 (omega arith) ∙ sym (get_or-take 8 new i 0 lt) ∙ ap (λ (l : List ℕ). get_or l i 0) same ∙ get_or-take 8 old i 0 lt ∙ sym (get_or-take 512 old i 0 (omega arith))

  pub version_kept : version_said (page_bytes new 0) ≡ version_said (page_bytes old 0)
  unfolding version_said
  version_kept = byte_kept 4 (omega arith)

  pub form_kept : form_said (page_bytes new 0) ≡ form_said (page_bytes old 0)
  unfolding form_said
  form_kept = byte_kept 5 (omega arith)

  four_kept : take 4 (page_bytes new 0) ≡ take 4 (page_bytes old 0)
  unfolding page_bytes
  four_kept = take-take 4 512 new (omega arith) ∙ sym (take-take 4 8 new (omega arith)) ∙ ap (take 4) same ∙ take-take 4 8 old (omega arith) ∙ sym (take-take 4 512 old (omega arith))

  pub mark_kept : HasSuperMark (page_bytes old 0) → HasSuperMark (page_bytes new 0)
  mark_kept marked = record { mark = four_kept ∙ marked.mark; some = omega (arith, version_kept, marked.some); known = omega (arith, version_kept, marked.known) }

-- the super page says what was written
pub super_written : (old new : List ℕ) (front after : Super) → range new 0 8 ≡ range old 0 8 → range new 8 280 ≡ part_bytes after → SaysSuper (page_bytes old 0) front
    → after.version ≡ front.version → after.form ≡ front.form → IsWritable after → SaysSuper (page_bytes new 0) after
unfolding page_bytes
super_written old new front after same written says version form fits = part_says after fits (page_bytes new 0) (record {
  has_mark = mark_kept old new same says.has_mark;
  version = version ∙ says.version ∙ sym (version_kept old new same);
  form = form ∙ says.form ∙ sym (form_kept old new same);
  part = range_in new 8 280 504 (omega arith) ∙ written;
})

-- roots below so many pages are below more
tables_more : (pages more : ℕ) (tables : List TableEntry) → pages ≤ more → AreTables pages tables → AreTables more tables
tables_more pages more tables le are = record {
  main = are.main;
  inside = λ j t some is. let h = are.inside j t some is in (h.0, omega (arith, h.1, le));
  other = are.other;
}

pub has_tables_more : (version pages more : ℕ) (entries : List ℕ) → pages ≤ more → HasTables version pages entries → HasTables version more entries
has_tables_more version pages more entries le has = λ two. ((has two).0, tables_more pages more (tables_used entries) le (has two).1)

-- The super page of data in which its part was written with more slots and pages given out, and the same entries.
pub super_kept : (form : ℕ) (old new : List ℕ) (front after : Super) (half : ℕ) → page_count new ≡ half + half → SaysSuper (page_bytes old 0) front → SaysSuper (page_bytes new 0) after
    → after.version ≡ front.version → after.form ≡ front.form → after.entries ≡ front.entries → after.next_slot ≤ 8 * half → front.next_page ≤ after.next_page → after.next_page ≤ half
    → IsSuper form old → IsSuper form new × (tables_of new ≡ tables_of old)
unfolding tables_said
super_kept form old new front after half count says now version form_same entries slots later pages is =
    let version_is : version_said (page_bytes new 0) ≡ version_said (page_bytes old 0) = sym now.version ∙ version ∙ says.version in
    let entries_is : entries_said (page_bytes new 0) ≡ entries_said (page_bytes old 0) = sym now.entries ∙ entries ∙ says.entries in
    let grown : next_page old ≤ next_page new = omega (arith, says.next_page, now.next_page, later) in (
      record {
        has_mark = now.has_mark;
        form_is = sym now.form ∙ form_same ∙ says.form ∙ is.form_is;
        slots = omega (arith, now.next_slot, count, slots);
        some_pages = omega (arith, is.some_pages, grown);
        pages = omega (arith, now.next_page, count, pages);
        tables = subst (λ (x : ℕ × List ℕ). HasTables x.0 (next_page new) x.1) (λ i. (sym version_is i, sym entries_is i)) (has_tables_more _ _ _ _ grown is.tables);
      },
      (λ i. tables_in (version_is i) (entries_is i)),
    )

-- The super page of data whose index pages were not written.
pub super_rests : (form : ℕ) (old new : List ℕ) → IsSuper form old → KeepsIndex old new → IsSuper form new × Keeps old new × (page_bytes new 0 ≡ page_bytes old 0)
super_rests form old new front keeps =
    let same : page_bytes new 0 ≡ page_bytes old 0 = keeps.pages 0 (omega (arith, front.some_pages, front.pages)) in
    let slot : next_slot new ≡ next_slot old = ap (next_said 8) same in
    let page : next_page new ≡ next_page old = ap (next_said 12) same in
    let count : page_count new ≡ page_count old = omega (arith, keeps.size) in (
      record {
        has_mark = subst (λ (b : List ℕ). HasSuperMark b) (sym same) front.has_mark;
        form_is = ap form_said same ∙ front.form_is;
        slots = omega (arith, front.slots);
        some_pages = omega (arith, front.some_pages);
        pages = omega (arith, front.pages);
        tables = subst (λ (b : List ℕ). HasTables (version_said b) (next_said 12 b) (entries_said b)) (sym same) front.tables;
      },
      record { pages = omega arith; slots = omega arith; carried = keeps.carried },
      same,
    )
