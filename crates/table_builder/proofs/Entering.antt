-- The entries of tables as they stand in a super page.
use Rattle.std.proofs.Common.{◌≡◌, ◌≢◌, ℕ, zero, suc, ◌+◌, ◌-◌, ◌*◌, ◌^◌, ◌<◌, ◌≤◌, true, List, [], ◌∷◌, ◌++◌, length, take, drop, replicate, refl, sym, ◌∙◌, ap, subst, append_assoc, arith}
use Rattle.std.specs.Prelude.{Some, slice_get}
use Rattle.std.proofs.lemmas.List.{append-nil, length-append, length-replicate, take_at, drop_at, drop-drop, drop-replicate}
use Rattle.mars_base.specs.Bytes.{put}
use Rattle.record_slots.specs.Names.{names_in}
use Rattle.record_slots.specs.Super.{AreTables, SaysSuper, entry_bytes, are_named, main_table, super_bytes, tables_used}
use Rattle.record_slots.specs.Text.{IsName}
use Rattle.record_slots.specs.declared.super_page.TableEntry.{TableEntry}
use Rattle.record_slots.proofs.Naming.{added, are_more, long_entry}
use Rattle.record_slots.proofs.ReadingBack.{page_says}
use Rattle.history.specs.Rows.{NamedRows}
use Rattle.record_table.proofs.Upgraded.{main_used, has_main}
use Rattle.table_builder.specs.Plan.{AreSorted, BeginsWithMain, HasOwnName, entries_bytes, entries_for, entries_from, front_for, rows_count}
use Rattle.table_builder.proofs.Planning.{get_left, get_right}

-- ---- what the entries say

-- what is put behind the bytes that there are
put_end : (xs b : List ℕ) (n m : ℕ) → m ≡ length xs → put (xs ++ replicate n 0) m b ≡ (xs ++ b) ++ replicate (n - length b) 0
put_end xs b n m at =
    let front : take m (xs ++ replicate n 0) ≡ xs = take_at xs (replicate n 0) m (sym at) in
    let rest : drop (m + length b) (xs ++ replicate n 0) ≡ replicate (n - length b) 0 =
    sym (drop-drop (length b) m (xs ++ replicate n 0)) ∙ ap (drop (length b)) (drop_at xs (replicate n 0) m (sym at)) ∙ drop-replicate (length b) n 0 in
    λ i. (front i ++ b) ++ rest i

-- the bytes of entries, with zeros behind them
abbrev pub whole : List TableEntry → List ℕ
whole entries = entries_bytes entries ++ replicate (256 - length (entries_bytes entries)) 0

-- they say these entries, and are as long as they should be
record AreSaid (entries : List TableEntry) : Type 0 where
  long : length (entries_bytes entries) ≡ 32 * length entries
  used : tables_used (whole entries) ≡ entries
  named : are_named (whole entries) ≡ true

entries_more : (done : List TableEntry) (t : TableEntry) → entries_bytes (done ++ t ∷ []) ≡ entries_bytes done ++ entry_bytes t
entries_more [] t = append-nil (entry_bytes t)
entries_more (d ∷ done) t = ap (λ (l : List ℕ). entry_bytes d ++ l) (entries_more done t) ∙ sym (append_assoc (entry_bytes d) (entries_bytes done) (entry_bytes t))

none_said : AreSaid []
unfolding tables_used are_named
none_said = record { long = refl; used = refl; named = refl }

more_said : (done : List TableEntry) (t : TableEntry) → length done < 8 → IsName t.name → t.root < 2 ^ 32 → AreSaid done → AreSaid (done ++ t ∷ [])
more_said done t few name small said =
    let size : length (whole done) ≡ 256 =
    length-append (entries_bytes done) (replicate (256 - length (entries_bytes done)) 0) ∙ omega (arith, length-replicate {A = ℕ} (256 - length (entries_bytes done)) 0, said.long, few) in
    let count : length (tables_used (whole done)) ≡ length done = ap (λ (l : List TableEntry). length l) said.used in
    let h = added t name small (whole done) size said.named (omega (arith, count, few)) in
    let entry : length (entry_bytes t) ≡ 32 = long_entry t name small in
    let now : put (whole done) (32 * length (tables_used (whole done))) (entry_bytes t) ≡ whole (done ++ t ∷ []) =
    put_end (entries_bytes done) (entry_bytes t) (256 - length (entries_bytes done)) (32 * length (tables_used (whole done))) (omega (arith, count, said.long))
    ∙ ap (λ (n : ℕ). (entries_bytes done ++ entry_bytes t) ++ replicate n 0)
    (let e : 256 - length (entries_bytes done) - length (entry_bytes t) ≡ 256 - length (entries_bytes done ++ entry_bytes t) = omega (arith, length-append (entries_bytes done) (entry_bytes t)) in e)
    ∙ ap (λ (l : List ℕ). l ++ replicate (256 - length l) 0) (sym (entries_more done t)) in
    record {
      long = ap (λ (l : List ℕ). length l) (entries_more done t) ∙ length-append (entries_bytes done) (entry_bytes t) ∙ omega (arith, said.long, entry, length-append done (t ∷ []));
      used = ap tables_used (sym now) ∙ h.0 ∙ ap (λ (l : List TableEntry). l ++ t ∷ []) said.used;
      named = ap are_named (sym now) ∙ h.1;
    }

-- those of tables, which have names
all_said : (done : List TableEntry) (root : ℕ) (tables : List NamedRows) → length done + length tables ≤ 8 → root + length tables ≤ 2 ^ 32 → AreSorted tables → AreSaid done → AreSaid (done ++ entries_from root tables)
all_said done root [] few small sorted said = subst AreSaid (sym (append-nil done)) said
all_said done root (table ∷ tables) few small sorted said =
    let t : TableEntry = record { name = table.0; root = root } in
    let next = more_said done t (omega (arith, few)) sorted.0 (omega (arith, small)) said in
    subst AreSaid (append_assoc done (t ∷ []) (entries_from (suc root) tables))
    (all_said (done ++ t ∷ []) (suc root) tables (omega (arith, few, length-append done (t ∷ []))) (omega (arith, small)) sorted.2 next)

module _ (tables : List NamedRows) (few : length tables ≤ 8) (sorted : AreSorted tables) where
  said : AreSaid (entries_from 1 tables)
  said = all_said [] 1 tables (omega (arith, few)) (omega (arith, few)) sorted none_said

  pub length-entries_for : length (entries_for tables) ≡ 256
  unfolding entries_for
  length-entries_for =
      length-append (entries_bytes (entries_from 1 tables)) (replicate (256 - length (entries_bytes (entries_from 1 tables))) 0)
      ∙ omega (arith, length-replicate {A = ℕ} (256 - length (entries_bytes (entries_from 1 tables))) 0, said.long, length-entries_from 1 tables, few)
    where
      length-entries_from : (root : ℕ) (ts : List NamedRows) → length (entries_from root ts) ≡ length ts
      length-entries_from root [] = refl
      length-entries_from root (t ∷ ts) = ap suc (length-entries_from (suc root) ts)

  pub used_entries_are : tables_used (entries_for tables) ≡ entries_from 1 tables
  unfolding entries_for
  used_entries_are = said.used

  pub named_entries_are : are_named (entries_for tables) ≡ true
  unfolding entries_for
  named_entries_are = said.named

  -- so the super page says them
  pub says_front : (pages : ℕ) → rows_count tables < 2 ^ 32 → pages < 2 ^ 32 → SaysSuper (super_bytes (front_for tables pages)) (front_for tables pages)
  says_front pages rows small = page_says (front_for tables pages) (record {
    entries = length-entries_for;
    next_slot = rows;
    next_page = small;
    free_slot = omega arith;
    free_page = omega arith;
    free_slots = omega arith;
    free_pages = omega arith;
  }) refl

-- ---- they are those of tables

-- more pages are given
more_tables : (pages more : ℕ) (entries : List TableEntry) → pages ≤ more → AreTables pages entries → AreTables more entries
more_tables pages more entries le are =
    record { main = are.main; inside = λ j table some is. (let h = are.inside j table some is in (h.0, omega (arith, h.1, le))); other = are.other }

entries_last : (root : ℕ) (front : List NamedRows) (t : NamedRows) → entries_from root (front ++ t ∷ []) ≡ entries_from root front ++ record { name = t.0; root = root + length front } ∷ []
entries_last root [] t = ap (λ (n : ℕ). record { name = t.0; root = n } ∷ []) (let e : root ≡ root + 0 = omega arith in e)
entries_last root (f ∷ front) t =
    ap (λ (l : List TableEntry). record { name = f.0; root = root } ∷ l)
    (entries_last (suc root) front t ∙ ap (λ (n : ℕ). entries_from (suc root) front ++ record { name = t.0; root = n } ∷ []) (let e : suc root + length front ≡ root + suc (length front) = omega arith in e))

-- a name of the first tables is that of one of them
named_by : (root : ℕ) (front : List NamedRows) (i : ℕ) (name : List ℕ) → slice_get (names_in (entries_from root front)) i ≡ Some name
    → (one : NamedRows) × (slice_get front i ≡ Some one) × (one.0 ≡ name) × (i < length front)
named_by root [] i name is = absurd (cc)
named_by root (f ∷ front) zero name is = (f, refl, (let e : f.0 ≡ name = cc in e), omega arith)
named_by root (f ∷ front) (suc i) name is = let h = named_by (suc root) front i name is in (h.0, h.1, h.2, omega (arith, h.3))

are_tables : (front left : List NamedRows) → 1 ≤ length front → ((j : ℕ) → HasOwnName (front ++ left) j) → AreTables (suc (length front)) (entries_from 1 front)
    → AreTables (suc (length (front ++ left))) (entries_from 1 (front ++ left))
are_tables front [] some apart are = subst (λ (l : List NamedRows). AreTables (suc (length l)) (entries_from 1 l)) (sym (append-nil front)) are
are_tables front (t ∷ left) some apart are =
    let whole : (front ++ t ∷ []) ++ left ≡ front ++ t ∷ left = append_assoc front (t ∷ []) left in
    let long : length (front ++ t ∷ []) ≡ suc (length front) = length-append front (t ∷ []) ∙ omega arith in
    let here : slice_get (front ++ t ∷ left) (length front) ≡ Some t = ap (slice_get (front ++ t ∷ left)) (let e : length front ≡ length front + 0 = omega arith in e) ∙ get_right front (t ∷ left) 0 in
    let other : (i : ℕ) → slice_get (names_in (entries_from 1 front)) i ≢ Some t.0 =
    λ i is. (let h = named_by 1 front i t.0 is in absurd (apart (length front) i h.0 t h.3 (get_left front (t ∷ left) i h.0 h.1) here h.2)) in
    let next = are_more (entries_from 1 front) (suc (length front)) t.0 are (omega (arith, some)) other in
    let entries : entries_from 1 front ++ record { name = t.0; root = suc (length front) } ∷ [] ≡ entries_from 1 (front ++ t ∷ []) =
    ap (λ (n : ℕ). entries_from 1 front ++ record { name = t.0; root = n } ∷ []) (let e : suc (length front) ≡ 1 + length front = omega arith in e) ∙ sym (entries_last 1 front t) in
    let count : suc (length front) + 1 ≡ suc (length (front ++ t ∷ [])) = omega (arith, long) in
    let now : AreTables (suc (length (front ++ t ∷ []))) (entries_from 1 (front ++ t ∷ [])) =
    subst (λ (l : List TableEntry). AreTables (suc (length (front ++ t ∷ []))) l) entries (subst (λ (n : ℕ). AreTables n (entries_from 1 front ++ record { name = t.0; root = suc (length front) } ∷ [])) count next) in
    subst (λ (l : List NamedRows). AreTables (suc (length l)) (entries_from 1 l)) whole
    (are_tables (front ++ t ∷ []) left (omega (arith, long)) (subst (λ (l : List NamedRows). (j : ℕ) → HasOwnName l j) (sym whole) apart) now)

pub tables_are : (tables : List NamedRows) (pages : ℕ) → BeginsWithMain tables → ((j : ℕ) → HasOwnName tables j) → suc (length tables) ≤ pages → AreTables pages (entries_from 1 tables)
tables_are [] pages main apart le = absurd main
tables_are (table ∷ tables) pages main apart le =
    let first : AreTables 2 (main_table ∷ []) = subst (AreTables 2) main_used (has_main 2 refl).1 in
    let named : AreTables 2 (entries_from 1 (table ∷ [])) = subst (λ (name : List ℕ). AreTables 2 (record { name = name; root = 1 } ∷ [])) (sym main) first in
    more_tables (suc (length (table ∷ tables))) pages (entries_from 1 (table ∷ tables)) le (are_tables (table ∷ []) tables (omega arith) apart named)
