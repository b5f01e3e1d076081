-- The rows that a number sees, key by key.
use Rattle.std.proofs.Common.{◌≡◌, ◌^◌, ℕ, suc, ◌<◌, ◌≤◌, List, [], ◌++◌, sym, ◌∙◌, ap}
use Rattle.std.specs.Prelude.{filter, Option, Some, None}
use Rattle.std.proofs.lemmas.List.{append-nil, append_assoc}
use Rattle.array_shape.specs.Logged.{applied}
use Rattle.eaw_face.specs.State.{listed}
use Rattle.record_slots.specs.Slots.{slot_said}
use Rattle.record_slots.specs.Places.{slot_of}
use Rattle.record_slots.specs.declared.slot.Slot.{Slot}
use Rattle.history.specs.Key.{of_table}
use Rattle.history.specs.declared.key.Key.{Key}
use Rattle.history.specs.Writes.{Table, is_within, rows_within}
use Rattle.page_store.specs.Index.{Index, IsTable}
use Rattle.page_store.specs.Pairs.{Pair, Rise, found, next}
use Rattle.page_store.specs.Records.{row_at, rows_of, value_of}
use Rattle.page_store.specs.Shown.{PagesView}
use Rattle.record_table.specs.Causes.{slot_in}
use Rattle.record_table.specs.Invariant.{IsTied}
use Rattle.record_table.specs.Scanned.{rows_seen}
use Rattle.record_table.specs.Names.{IsCalled}
use Rattle.record_table.specs.Shown.{table_in, table_of, pairs_of}
use Rattle.record_table.proofs.RowsOf.{rows_are, none_from, none_past, none_between, first_from}
use Rattle.record_table.proofs.Sharing.{Laws, found_in}
use Rattle.record_table.proofs.Tables.{record_at}
use Rattle.record_table.proofs.SlotParts.{applied_parts}

module _ (index : Index) (laws : Laws index) (t : ℕ) (old : PagesView) (tied : IsTied index old) (table root : ℕ) (name : List ℕ) (called : IsCalled old.store.state.bytes table name) (named : IsTable old.store.state.bytes table root) where
  rising : Rise 0 (2 ^ 64) (index.pairs old.store.state.bytes root)
  rising = laws.rises old.store.state.bytes table root tied.sound named

  seen_are : (low high : ℕ) → rows_seen index t name old low high ≡ filter (is_within low high) (rows_of (applied (listed (old.store.state.logs t)) old.store.state.bytes) (index.pairs old.store.state.bytes root))
  unfolding table_of
  seen_are low high =
      let w = applied_parts index laws (listed (old.store.state.logs t)) old.store.state.bytes tied.sound (tied.parts t) in
      ap (λ (m : Table). rows_within name low high m) (sym w.table)
      ∙ ap (λ (l : List (Key × ℕ)). rows_within name low high (table_in (applied (listed (old.store.state.logs t)) old.store.state.bytes) l)) w.pairs
      ∙ ap (filter (is_within low high)) (rows_are (applied (listed (old.store.state.logs t)) old.store.state.bytes) name (pairs_of index old.store.state.bytes) 0 (2 ^ 64) (index.pairs old.store.state.bytes root) rising
      (λ k. found_in index laws old.store.state.bytes table root k name tied.sound called named))

  pub follows_past : (from high : ℕ) → high < from → rows_seen index t name old from high ≡ []
  follows_past from high lt = seen_are from high ∙ none_past (applied (listed (old.store.state.logs t)) old.store.state.bytes) from high (index.pairs old.store.state.bytes root) lt

  module _ (from high : ℕ) where
    -- the table has no further key
    pub follows_end : next (index.pairs old.store.state.bytes root) from ≡ None → rows_seen index t name old from high ≡ []
    follows_end none = seen_are from high ∙ none_from (applied (listed (old.store.state.logs t)) old.store.state.bytes) from high (index.pairs old.store.state.bytes root) none

    module _ (key slot : ℕ) (is : next (index.pairs old.store.state.bytes root) from ≡ Some (key, slot)) where
      first : key ≤ high → (from ≤ key) × (found (index.pairs old.store.state.bytes root) key ≡ Some slot)
          × (filter (is_within from high) (rows_of (applied (listed (old.store.state.logs t)) old.store.state.bytes) (index.pairs old.store.state.bytes root))
          ≡ row_at key (record_at (applied (listed (old.store.state.logs t)) old.store.state.bytes) (Some slot))
          ++ filter (is_within (suc key) high) (rows_of (applied (listed (old.store.state.logs t)) old.store.state.bytes) (index.pairs old.store.state.bytes root)))
      first le = first_from (applied (listed (old.store.state.logs t)) old.store.state.bytes) from high key slot 0 (2 ^ 64) (index.pairs old.store.state.bytes root) rising is le

      pub follows_above : high < key → rows_seen index t name old from high ≡ []
      follows_above lt =
          seen_are from high ∙ none_between (applied (listed (old.store.state.logs t)) old.store.state.bytes) from high key slot 0 (2 ^ 64) (index.pairs old.store.state.bytes root) rising is lt

      pub next_is : key ≤ high → (from ≤ key) × (slot_in index old (of_table name key) ≡ Some slot)
      next_is le = let f = first le in (f.0, found_in index laws old.store.state.bytes table root key name tied.sound called named ∙ f.1)

      pub follows_some : key ≤ high → (said : Option Slot) → said ≡ slot_said (slot_of (applied (listed (old.store.state.logs t)) old.store.state.bytes) slot)
          → rows_seen index t name old from high ≡ row_at key (value_of said) ++ rows_seen index t name old (suc key) high
      follows_some le said read =
          let f = first le in
          seen_are from high ∙ f.2 ∙ (λ i. row_at key (value_of (sym read i)) ++ sym (seen_are (suc key) high) i)

-- the last row, after which there is none
pub last_row : (rows row all from behind new : List (ℕ × List ℕ)) → rows ++ from ≡ all → from ≡ row ++ behind → behind ≡ [] → new ≡ rows ++ row → new ≡ all
last_row rows row all from behind new sum is none e =
    e ∙ ap (λ (l : List (ℕ × List ℕ)). rows ++ l) (sym (append-nil row)) ∙ ap (λ (l : List (ℕ × List ℕ)). rows ++ (row ++ l)) (sym none) ∙ ap (λ (l : List (ℕ × List ℕ)). rows ++ l) (sym is) ∙ sum

pub no_row : (rows all from : List (ℕ × List ℕ)) → rows ++ from ≡ all → from ≡ [] → rows ≡ all
no_row rows all from sum none = sym (append-nil rows) ∙ ap (λ (l : List (ℕ × List ℕ)). rows ++ l) (sym none) ∙ sum

pub more_row : (rows row all from behind new : List (ℕ × List ℕ)) → rows ++ from ≡ all → from ≡ row ++ behind → new ≡ rows ++ row → new ++ behind ≡ all
more_row rows row all from behind new sum is e = ap (λ (l : List (ℕ × List ℕ)). l ++ behind) e ∙ append_assoc rows row behind ∙ ap (λ (l : List (ℕ × List ℕ)). rows ++ l) (sym is) ∙ sum
