-- Data of version 1 once its super page is of version 2.
use Rattle.std.proofs.Common.{◌≡◌, ◌≢◌, ◌^◌, ℕ, zero, suc, ◌+◌, ◌-◌, ◌*◌, ◌/◌, ◌<◌, ◌≤◌, true, false, inl, inr, IsTrue, List, [], ◌∷◌, length, refl, sym, ◌∙◌, ap, subst, arith, eq-eqb, ne_eqb}
use Rattle.std.specs.Prelude.{nat_eq, if◌then◌else◌, slice_get, Some}
use Rattle.std.specs.Option.{option_map}
use Rattle.std.proofs.lemmas.Bool.{cases_eq}
use Rattle.mars_base.specs.Bytes.{range, put}
use Rattle.mars_base.proofs.Puts.{length-put}
use Rattle.pcm_media.proofs.Ranges.{range-put}
use Rattle.record_slots.specs.Slots.{slot_said}
use Rattle.record_slots.specs.Super.{SaysSuper, HasTables, AreTables, main_bytes, main_entries, main_super, main_table, are_named, tables_in, tables_used, tables_said, version_said, form_said, entries_said, free_in}
use Rattle.record_slots.specs.Places.{page_bytes, slot_of, next_slot, next_page, tables_of, version_of, free_slot, free_page, free_slots, free_pages}
use Rattle.record_slots.proofs.MainAlone.{says_main, length-main}
use Rattle.record_slots.specs.declared.super_page.Super.{Super}
use Rattle.record_slots.specs.declared.super_page.TableEntry.{TableEntry}
use Rattle.page_store.specs.Index.{Index, IsTable, HasCounts, Extends}
use Rattle.page_store.proofs.Reading.{part_missed}
use Rattle.history.specs.Writes.{write_into}
use Rattle.page_store.specs.Records.{value_of}
use Rattle.history.specs.declared.key.Key.{Key}
use Rattle.record_table.specs.Shown.{found_key, table_in, table_of, pairs_of, keys_of}
use Rattle.record_table.specs.Upgrading.{upgraded}
use Rattle.record_table.proofs.Sharing.{Laws, pairs_rest, level_same}

-- the entries of `main` alone are those of tables
one_table : (j : ℕ) (entry : TableEntry) → slice_get (main_table ∷ []) j ≡ Some entry → j ≡ 0
one_table zero entry is = refl
one_table (suc j) entry is = absurd (cc)

main_named : IsTrue (are_named main_entries)
unfolding are_named
main_named = refl

pub main_used : tables_used main_entries ≡ main_table ∷ []
unfolding tables_used
main_used = refl

are_main : (pages : ℕ) → AreTables pages (main_table ∷ [])
are_main pages = record {
  main = (refl, refl);
  inside = λ j entry some is. absurd (omega (arith, some, one_table j entry is));
  other = λ j i one two lt is also. absurd (omega (arith, lt, one_table j two also));
}

pub has_main : (pages : ℕ) → HasTables 2 pages main_entries
has_main pages = λ two. (main_named, subst (AreTables pages) (sym main_used) (are_main pages))

-- the super page of version 2 that data of version 1 gets
abbrev pub front_of : List ℕ → Super
front_of d = main_super (form_said (page_bytes d 0)) (next_slot d) (next_page d)

-- its bytes
abbrev pub main_of : List ℕ → List ℕ
main_of d = main_bytes (form_said (page_bytes d 0)) (next_slot d) (next_page d)

-- records whose slots are as they were
pub same_slots : (d e : List ℕ) → ((slot : ℕ) → slot_of e slot ≡ slot_of d slot) → (ps : List (Key × ℕ)) → table_in e ps ≡ table_in d ps
same_slots d e same [] = refl
same_slots d e same (p ∷ ps) = λ i. write_into (same_slots d e same ps i) (p.0, value_of (slot_said (same p.1 i)))

-- Indexes and records are as they were, and the super page is of version 2.
pub record Upgraded (index : Index) (d e : List ℕ) : Type 0 where
  pub sound : index.sound e
  pub size : length e ≡ length d
  pub version : version_of e ≡ 2
  pub tables : tables_of e ≡ tables_of d
  pub indexes : (table root : ℕ) → IsTable d table root → index.pairs e root ≡ index.pairs d root
  pub pairs : pairs_of index e ≡ pairs_of index d
  pub records : table_of index e ≡ table_of index d
  pub keys : keys_of index e ≡ keys_of index d

-- data of version 2 is as it is, and other data gets a super page
pub two_upgraded : (d : List ℕ) → version_of d ≡ 2 → upgraded d ≡ d
unfolding upgraded
two_upgraded d two = (let b : nat_eq (version_of d) 2 ≡ true = eq-eqb (version_of d) 2 two in rw b refl)

pub older_upgraded : (d : List ℕ) → version_of d ≢ 2 → upgraded d ≡ put d 0 (main_of d)
unfolding upgraded
older_upgraded d older = (let b : nat_eq (version_of d) 2 ≡ false = ne_eqb (version_of d) 2 older in rw b refl)

module _ (index : Index) (laws : Laws index) (d page : List ℕ) (sound : index.sound d) (long : length page ≡ 512) (older : version_of d ≢ 2) (written : SaysSuper page (front_of d)) where
  abbrev e : List ℕ
  e = put d 0 page

  abbrev after : Super
  after = front_of d

  counts : HasCounts d
  counts = laws.counts d sound

  one : version_said (page_bytes d 0) ≡ 1
  one = omega (arith, older, counts.oldest, counts.newest)

  fits : 0 + length page ≤ length d
  fits = omega (arith, long, counts.some, counts.pages)

  size : length e ≡ length d
  size = length-put d 0 page fits

  front_is : page_bytes e 0 ≡ page
  unfolding page_bytes
  front_is = range-put d page 0 512 (sym long) fits

  now : SaysSuper (page_bytes e 0) after
  now = subst (λ (bytes : List ℕ). SaysSuper bytes after) (sym front_is) written

  away : (at n : ℕ) → 512 ≤ at → range e at n ≡ range d at n
  away at n le = part_missed d (0, page) at n fits (inr (omega (arith, long)))

  page_kept : (p : ℕ) → 1 ≤ p → page_bytes e p ≡ page_bytes d p
  unfolding page_bytes
  page_kept p some = away (512 * p) 512 (omega arith)

  slot_kept : (slot : ℕ) → slot_of e slot ≡ slot_of d slot
  unfolding slot_of
  slot_kept slot =
      ap (λ (n : ℕ). range e (64 * (4 * (n / 512) + slot)) 64) size
      ∙ away (64 * (4 * (length d / 512) + slot)) 64 (omega (arith, counts.some, counts.pages))

  tables_now : tables_of e ≡ main_table ∷ []
  unfolding tables_said
  tables_now = (λ i. tables_in (sym now.version i) (sym now.entries i)) ∙ main_used

  tables_then : tables_of d ≡ main_table ∷ []
  unfolding tables_said
  tables_then = ap (λ (v : ℕ). tables_in v (entries_said (page_bytes d 0))) one

  tables_same : tables_of e ≡ tables_of d
  tables_same = tables_now ∙ sym tables_then

  slot_same : next_slot e ≡ next_slot d
  slot_same = sym now.next_slot

  page_same : next_page e ≡ next_page d
  page_same = sym now.next_page

  none_then : (place : ℕ) → free_in place (page_bytes d 0) ≡ 0
  unfolding free_in
  none_then place = rw (eq-eqb (version_of d) 1 one) refl

  free_slot_same : free_slot e ≡ free_slot d
  free_slot_same = sym now.free_slot ∙ sym (none_then _)

  free_page_same : free_page e ≡ free_page d
  free_page_same = sym now.free_page ∙ sym (none_then _)

  free_slots_same : free_slots e ≡ free_slots d
  free_slots_same = sym now.free_slots ∙ sym (none_then _)

  free_pages_same : free_pages e ≡ free_pages d
  free_pages_same = sym now.free_pages ∙ sym (none_then _)

  extends : Extends d e
  extends = record {
    size = size;
    mark = now.has_mark;
    form = sym now.form;
    tables = subst (λ (x : ℕ × List ℕ). HasTables x.0 (next_page e) x.1) (λ i. (now.version i, now.entries i)) (has_main (next_page e));
    named = λ table root is. inl (subst (λ (ts : List TableEntry). option_map (λ entry. entry.root) (slice_get ts table) ≡ Some root) tables_same is);
    next_slot_same = slot_same;
    later = omega (arith, page_same);
    most = omega (arith, page_same, counts.pages);
    free_slot_same = free_slot_same;
    free_page_same = free_page_same;
    free_slots_same = free_slots_same;
    free_pages_same = free_pages_same;
    pages = λ p some lt. page_kept p some;
    slots = slot_kept;
  }

  pairs_same : pairs_of index e ≡ pairs_of index d
  pairs_same = pairs_rest index d e tables_same (λ table root is. ((laws.extends d e sound extends).1 table root is).0)

  records_same : table_of index e ≡ table_of index d
  unfolding table_of
  records_same = ap (table_in e) pairs_same ∙ same_slots d e slot_kept (pairs_of index d)

  keys_kept : keys_of index e ≡ keys_of index d
  keys_kept = λ i. record {
    slot_of = found_key (pairs_same i);
    due = if nat_eq (free_slots_same i) 0 then slot_same i else free_slot_same i - 1;
    used_slots = slot_same i - free_slots_same i;
    used_pages = page_same i - free_pages_same i;
    next_page = page_same i;
    levels = λ table. level_same index d e table tables_same (λ root is. ((laws.extends d e sound extends).1 table root is).1) i;
  }

  pub is_upgraded : Upgraded index d (put d 0 page)
  is_upgraded = record {
    sound = (laws.extends d e sound extends).0;
    size = size;
    version = sym now.version;
    tables = tables_same;
    indexes = λ table root is. ((laws.extends d e sound extends).1 table root is).0;
    pairs = pairs_same;
    records = records_same;
    keys = keys_kept;
  }

-- Indexes and records of sound data that is not too long are the same in version 2.
pub upgrade_keeps : (index : Index) → Laws index → (d : List ℕ) → index.sound d → length d < 2 ^ 32 → Upgraded index d (upgraded d)
upgrade_keeps index laws d sound short = elim (cases_eq (version_of d) 2) [
  | inl two ↦ subst (Upgraded index d) (sym (two_upgraded d two)) (record { sound = sound; size = refl; version = two; tables = refl; indexes = λ table root is. refl; pairs = refl; records = refl; keys = refl })
  | inr older ↦
      let counts = laws.counts d sound in
      let front = says_main (form_said (page_bytes d 0)) (next_slot d) (next_page d) (omega (arith, counts.slots, short)) (omega (arith, counts.pages, short)) in
      subst (Upgraded index d) (sym (older_upgraded d older)) (is_upgraded index laws d (main_of d) sound (length-main (form_said (page_bytes d 0)) (next_slot d) (next_page d)) older front)
]
