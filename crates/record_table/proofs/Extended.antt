-- Data of version 2 once a table was made: an empty root in the page that was next, and a super page that names it.
use Rattle.std.proofs.Common.{◌≡◌, ◌≢◌, ℕ, zero, suc, ◌+◌, ◌-◌, ◌*◌, ◌/◌, ◌<◌, ◌≤◌, ◌⊎◌, inl, inr, IsTrue, List, [], ◌∷◌, ◌++◌, length, map, Option, Some, None, refl, sym, ◌∙◌, ap, subst, arith}
use Rattle.std.specs.Prelude.{nat_eq, if◌then◌else◌, slice_get}
use Rattle.std.specs.Option.{option_map}
use Rattle.mars_base.specs.Bytes.{range, put}
use Rattle.mars_base.proofs.Puts.{length-put}
use Rattle.pcm_media.proofs.Ranges.{range-put}
use Rattle.array_shape.specs.Logged.{applied}
use Rattle.record_slots.specs.Fresh.{fresh_page, fresh_root}
use Rattle.record_slots.specs.IndexHead.{index_head_said}
use Rattle.record_slots.specs.Names.{with_last, with_entries}
use Rattle.record_slots.specs.Super.{IsWhole, SaysSuper, HasTables, super_bytes, tables_in, tables_used, tables_said}
use Rattle.record_slots.specs.Places.{page_bytes, slot_of, next_slot, next_page, tables_of, root_of, version_of, first_slot_page, free_slot, free_page, free_slots, free_pages}
use Rattle.record_slots.specs.declared.super_page.Super.{Super}
use Rattle.record_slots.specs.declared.super_page.TableEntry.{TableEntry}
use Rattle.record_slots.proofs.ReadingBack.{length-super_bytes, page_says}
use Rattle.page_store.specs.Index.{Index, IsTable, IsEmptyRoot, HasCounts, Extends}
use Rattle.page_store.proofs.Reading.{part_missed}
use Rattle.record_table.specs.Making.{IsFit, with_page}
use Rattle.record_table.specs.Shown.{found_key, in_table, pairs_from, table_in, table_of, pairs_of, keys_of}
use Rattle.record_table.specs.State.{Keys}
use Rattle.record_table.proofs.Sharing.{Laws, level_under}
use Rattle.record_table.proofs.Upgraded.{same_slots}

-- the root of a table among others, and of one that is added
abbrev root_in : List TableEntry → ℕ → Option ℕ
root_in tables j = option_map (λ entry. entry.root) (slice_get tables j)

first_root : (ts : List TableEntry) (t : TableEntry) (j root : ℕ) → root_in ts j ≡ Some root → root_in (ts ++ t ∷ []) j ≡ Some root
first_root [] t j root is = absurd (cc)
first_root (u ∷ ts) t zero root is = is
first_root (u ∷ ts) t (suc j) root is = first_root ts t j root is

last_root : (ts : List TableEntry) (t : TableEntry) (j root : ℕ) → root_in (ts ++ t ∷ []) j ≡ Some root → (root_in ts j ≡ Some root) ⊎ (t.root ≡ root)
last_root [] t zero root is = inr (cc)
last_root [] t (suc j) root is = absurd (cc)
last_root (u ∷ ts) t zero root is = inl is
last_root (u ∷ ts) t (suc j) root is = last_root ts t j root is

pub root_of_last : (ts : List TableEntry) (t : TableEntry) → root_in (ts ++ t ∷ []) (length ts) ≡ Some t.root
root_of_last [] t = refl
root_of_last (u ∷ ts) t = root_of_last ts t

-- an empty index adds no pairs
pairs_last : (index : Index) (d e : List ℕ) (t : TableEntry) → index.pairs e t.root ≡ [] → (ts : List TableEntry) → ((j root : ℕ) → root_in ts j ≡ Some root → index.pairs e root ≡ index.pairs d root)
    → pairs_from index e (ts ++ t ∷ []) ≡ pairs_from index d ts
pairs_last index d e t none [] same = (λ i. map (in_table t.name) (none i) ++ [])
pairs_last index d e t none (u ∷ ts) same =
    (λ i. map (in_table u.name) (same 0 u.root refl i) ++ pairs_last index d e t none ts (λ j root is. same (suc j) root is) i)

empty_leaf : index_head_said (fresh_page 1) ≡ fresh_root
unfolding index_head_said
empty_leaf = refl

-- The tables have the indexes and the records that they had, and there is one more, without pairs.
pub record Extended (index : Index) (name : List ℕ) (d e : List ℕ) : Type 0 where
  pub sound : index.sound e
  pub size : length e ≡ length d
  pub version : version_of e ≡ 2
  pub tables : tables_of e ≡ with_last (tables_of d) name (next_page d)
  pub empty : index.pairs e (next_page d) ≡ []
  pub indexes : (table root : ℕ) → IsTable d table root → index.pairs e root ≡ index.pairs d root
  pub pairs : pairs_of index e ≡ pairs_of index d
  pub records : table_of index e ≡ table_of index d
  pub keys : keys_of index e ≡ with_page (keys_of index d)

module _ (index : Index) (laws : Laws index) (d : List ℕ) (front after : Super) (name : List ℕ) (sound : index.sound d) (says : SaysSuper (page_bytes d 0) front) (fit : IsFit front) (below : front.next_page < first_slot_page d)
    (said : after ≡ with_entries front after.entries) (tables : tables_used after.entries ≡ with_last (tables_used front.entries) name front.next_page) (has : HasTables 2 after.next_page after.entries) (whole : IsWhole after) where
  leaf : List ℕ
  leaf = fresh_page 1

  abbrev bytes : List ℕ
  bytes = super_bytes after

  -- with the root, and then with the super page
  abbrev d1 : List ℕ
  d1 = put d (512 * front.next_page + 0) (fresh_page 1)

  abbrev e : List ℕ
  e = applied ((512 * front.next_page + 0, fresh_page 1) ∷ (512 * 0 + 0, super_bytes after) ∷ []) d

  counts : HasCounts d
  counts = laws.counts d sound

  long-bytes : length bytes ≡ 512
  long-bytes = length-super_bytes after whole.entries

  leaf_fits : 512 * front.next_page + 0 + length (fresh_page 1) ≤ length d
  leaf_fits = let long : length (fresh_page 1) ≡ 512 = refl in omega (arith, long, below)

  long1 : length d1 ≡ length d
  long1 = length-put d (512 * front.next_page + 0) (fresh_page 1) leaf_fits

  front_fits : 512 * 0 + 0 + length bytes ≤ length d1
  front_fits = omega (arith, long-bytes, long1, below)

  size : length e ≡ length d
  size = length-put d1 (512 * 0 + 0) bytes front_fits ∙ long1

  front_is : page_bytes e 0 ≡ bytes
  unfolding page_bytes
  front_is = range-put d1 bytes (512 * 0 + 0) 512 (sym long-bytes) front_fits

  away : (at n : ℕ) → 512 ≤ at → (at + n ≤ 512 * front.next_page) ⊎ (512 * front.next_page + 512 ≤ at) → range e at n ≡ range d at n
  away at n le apart =
      let long : length (fresh_page 1) ≡ 512 = refl in
      part_missed d1 (512 * 0 + 0, bytes) at n front_fits (inr (omega (arith, long-bytes, le)))
      ∙ part_missed d (512 * front.next_page + 0, fresh_page 1) at n leaf_fits (elim apart [ inl before ↦ inl (omega (arith, before)) | inr after ↦ inr (omega (arith, after, long)) ])

  leaf_is : page_bytes e front.next_page ≡ fresh_page 1
  unfolding page_bytes
  leaf_is =
      let at : 512 * front.next_page ≡ 512 * front.next_page + 0 = omega arith in
      part_missed d1 (512 * 0 + 0, bytes) (512 * front.next_page) 512 front_fits (inr (omega (arith, long-bytes, fit.some)))
      ∙ ap (λ (n : ℕ). range d1 n 512) at ∙ range-put d (fresh_page 1) (512 * front.next_page + 0) 512 refl leaf_fits

  page_kept : (p : ℕ) → 1 ≤ p → p < front.next_page → page_bytes e p ≡ page_bytes d p
  unfolding page_bytes
  page_kept p some lt = away (512 * p) 512 (omega (arith, some)) (inl (omega (arith, lt)))

  slot_kept : (slot : ℕ) → slot_of e slot ≡ slot_of d slot
  unfolding slot_of
  slot_kept slot =
      ap (λ (n : ℕ). range e (64 * (4 * (n / 512) + slot)) 64) size
      ∙ away (64 * (4 * (length d / 512) + slot)) 64 (omega (arith, below)) (inr (omega (arith, below)))

  two : after.version ≡ 2
  two = ap (λ (f : Super). f.version) said ∙ fit.version

  now : SaysSuper (page_bytes e 0) after
  now = subst (λ (b : List ℕ). SaysSuper b after) (sym front_is) (page_says after whole two)

  tables_now : tables_of e ≡ tables_used after.entries
  unfolding tables_said
  tables_now = λ i. tables_in ((sym now.version ∙ two) i) (sym now.entries i)

  tables_then : tables_of d ≡ tables_used front.entries
  unfolding tables_said
  tables_then = λ i. tables_in ((sym says.version ∙ fit.version) i) (sym says.entries i)

  tables_more : tables_of e ≡ with_last (tables_of d) name (next_page d)
  tables_more = tables_now ∙ tables ∙ (λ i. with_last (sym tables_then i) name (says.next_page i))

  page_more : next_page e ≡ suc (next_page d)
  page_more = omega (arith, now.next_page, says.next_page, ap (λ (f : Super). f.next_page) said)

  slot_same : next_slot e ≡ next_slot d
  slot_same = sym now.next_slot ∙ ap (λ (f : Super). f.next_slot) said ∙ says.next_slot

  free_slot_same : free_slot e ≡ free_slot d
  free_slot_same = sym now.free_slot ∙ ap (λ (f : Super). f.free_slot) said ∙ says.free_slot

  free_page_same : free_page e ≡ free_page d
  free_page_same = sym now.free_page ∙ ap (λ (f : Super). f.free_page) said ∙ says.free_page

  free_slots_same : free_slots e ≡ free_slots d
  free_slots_same = sym now.free_slots ∙ ap (λ (f : Super). f.free_slots) said ∙ says.free_slots

  free_pages_same : free_pages e ≡ free_pages d
  free_pages_same = sym now.free_pages ∙ ap (λ (f : Super). f.free_pages) said ∙ says.free_pages

  is_empty : (root : ℕ) → root ≡ next_page d → IsEmptyRoot (page_bytes e root)
  is_empty root is = ap (λ (p : ℕ). index_head_said (page_bytes e p)) (is ∙ sym says.next_page) ∙ ap index_head_said leaf_is ∙ empty_leaf

  abbrev new : TableEntry
  new = record { name = name; root = next_page d }

  named : (table root : ℕ) → IsTable e table root → IsTable d table root ⊎ (root ≡ next_page d)
  named table root is = elim (last_root (tables_of d) new table root (ap (λ (ts : List TableEntry). root_in ts table) (sym tables_more) ∙ is)) [ inl was ↦ inl was | inr last ↦ inr (sym last) ]

  extends : Extends d e
  extends = record {
    size = size;
    mark = now.has_mark;
    form = sym now.form ∙ ap (λ (f : Super). f.form) said ∙ says.form;
    tables = subst (λ (x : ℕ × ℕ × List ℕ). HasTables x.0 x.1 x.2) (λ i. ((sym two ∙ now.version) i, now.next_page i, now.entries i)) has;
    named = λ table root is. elim (named table root is) [ inl was ↦ inl was | inr last ↦ inr (omega (arith, last), is_empty root last) ];
    next_slot_same = slot_same;
    later = omega (arith, page_more);
    most = omega (arith, page_more, says.next_page, below);
    free_slot_same = free_slot_same;
    free_page_same = free_page_same;
    free_slots_same = free_slots_same;
    free_pages_same = free_pages_same;
    pages = λ p some lt. page_kept p some (omega (arith, lt, says.next_page));
    slots = slot_kept;
  }

  its_laws : index.sound e × ((table root : ℕ) → IsTable d table root → (index.pairs e root ≡ index.pairs d root) × (index.level e root ≡ index.level d root))
      × ((table root : ℕ) → IsTable e table root → next_page d ≤ root → IsEmptyRoot (page_bytes e root) → (index.pairs e root ≡ []) × (index.level e root ≡ 0))
  its_laws = laws.extends d e sound extends

  last_there : IsTable e (length (tables_of d)) (next_page d)
  last_there = ap (λ (ts : List TableEntry). root_in ts (length (tables_of d))) tables_more ∙ root_of_last (tables_of d) new

  last_empty : (index.pairs e (next_page d) ≡ []) × (index.level e (next_page d) ≡ 0)
  last_empty = its_laws.2 (length (tables_of d)) (next_page d) last_there (omega arith) (is_empty (next_page d) refl)

  pairs_same : pairs_of index e ≡ pairs_of index d
  unfolding pairs_of
  pairs_same =
      ap (pairs_from index e) tables_more
      ∙ pairs_last index d e new last_empty.0 (tables_of d) (λ j root is. (its_laws.1 j root is).0)

  records_same : table_of index e ≡ table_of index d
  unfolding table_of
  records_same = ap (table_in e) pairs_same ∙ same_slots d e slot_kept (pairs_of index d)

  level_last : (table : ℕ) (o : Option ℕ) → root_of d table ≡ o → level_under index e (root_of e table) ≡ level_under index d o
  level_last table (Some root) is =
      ap (level_under index e) (ap (λ (ts : List TableEntry). root_in ts table) tables_more ∙ first_root (tables_of d) new table root is) ∙ (its_laws.1 table root is).1
  level_last table None is = go (root_of e table) refl
    where
      go : (p : Option ℕ) → root_of e table ≡ p → level_under index e p ≡ 0
      go None there = refl
      go (Some root) there = elim (named table root there) [
        | inl was ↦ absurd (let n : None ≡ Some root = sym is ∙ was in cc)
        | inr last ↦ ap (index.level e) last ∙ last_empty.1
      ]

  keys_more : keys_of index e ≡ with_page (keys_of index d)
  keys_more =
      let pages : next_page e - free_pages e ≡ suc (next_page d - free_pages d) = omega (arith, page_more, free_pages_same, counts.free_pages_few) in
      λ i. record {
        slot_of = found_key (pairs_same i);
        due = if nat_eq (free_slots_same i) 0 then slot_same i else free_slot_same i - 1;
        used_slots = slot_same i - free_slots_same i;
        used_pages = pages i;
        next_page = page_more i;
        levels = λ table. level_last table (root_of d table) refl i;
      }

  pub extended : Extended index name d (applied ((512 * front.next_page + 0, fresh_page 1) ∷ (512 * 0 + 0, super_bytes after) ∷ []) d)
  extended = record {
    sound = its_laws.0;
    size = size;
    version = sym now.version ∙ two;
    tables = tables_more;
    empty = last_empty.0;
    indexes = λ table root is. (its_laws.1 table root is).0;
    pairs = pairs_same;
    records = records_same;
    keys = keys_more;
  }
