-- What is said of a table by its name, as it is said by its number.
use Rattle.std.proofs.Common.{◌≡◌, ℕ, suc, Bool, true, false, cond, nat_eq, List, [], ◌∷◌, Option, Some, None, unwrap_or, refl, sym, ◌∙◌}
use Rattle.std.specs.Prelude.{slice_get, option_map}
use Rattle.std.specs.List.{find}
use lib.Pointwise.{pointwise}
use Rattle.record_slots.specs.declared.super_page.TableEntry.{TableEntry}
use Rattle.record_slots.specs.Names.{names_in, number_of}
use Rattle.record_slots.specs.Places.{tables_of, root_of}
use Rattle.page_store.specs.Index as below
use Rattle.caller_steps.specs.State.{Index}
use Rattle.record_table.specs.Names.{names_of, root_named}
use Rattle.record_table.specs.Shown.{keys_of}
use Rattle.record_table.specs.State.{Keys}
use Rattle.mars_core.specs.Over.{index_of}

-- what is said of a root, of the first of these tables that has the name, and by its number among them
module _ {A : Type 0} (F : Option ℕ → A) (none : A) (name : List ℕ) where
  abbrev first_said : Option TableEntry → A
  first_said o = unwrap_or (option_map (λ root. F (Some root)) (option_map (λ table. table.root) o)) none

  abbrev said_at : List TableEntry → Option ℕ → A
  said_at tables o = unwrap_or (option_map (λ k. F (option_map (λ entry. entry.root) (slice_get tables k))) o) none

  later : (table : TableEntry) (tables : List TableEntry) (o : Option ℕ) → said_at tables o ≡ said_at (table ∷ tables) (option_map suc o)
  later table tables None = refl
  later table tables (Some k) = refl

  said : (tables : List TableEntry) → first_said (find (λ (table : TableEntry). pointwise nat_eq table.name name) tables) ≡ said_at tables (number_of (names_in tables) name)
  said [] = refl
  said (table ∷ tables) = go (pointwise nat_eq table.name name) (said tables)
    where
      go : (b : Bool) → first_said (find (λ (other : TableEntry). pointwise nat_eq other.name name) tables) ≡ said_at tables (number_of (names_in tables) name)
          → first_said (cond b (Some table) (find (λ (other : TableEntry). pointwise nat_eq other.name name) tables)) ≡ said_at (table ∷ tables) (cond b (Some 0) (option_map suc (number_of (names_in tables) name)))
      go true rest = refl
      go false rest = rest ∙ later table tables (number_of (names_in tables) name)

  pub by_number : (bytes : List ℕ) → unwrap_or (option_map (λ root. F (Some root)) (root_named bytes name)) none ≡ unwrap_or (option_map (λ table. F (root_of bytes table)) (number_of (names_of bytes) name)) none
  by_number bytes = said (tables_of bytes)

-- the keys of the indexes of tables that have these names
abbrev pub index_with : List (List ℕ) → List ℕ → Keys → Index
index_with names bytes keys = record {
  keys = record {
    slot_of = keys.slot_of;
    due = keys.due;
    used_slots = keys.used_slots;
    used_pages = keys.used_pages;
    next_page = keys.next_page;
    levels = λ name. unwrap_or (option_map keys.levels (number_of names name)) 0;
  };
  bytes = bytes;
}

module _ (index : below.Index) where
  pub index_is : (bytes : List ℕ) → index_of index bytes ≡ index_with (names_of bytes) bytes (keys_of index bytes)
  index_is bytes = λ i. record {
    keys = record {
      slot_of = (keys_of index bytes).slot_of;
      due = (keys_of index bytes).due;
      used_slots = (keys_of index bytes).used_slots;
      used_pages = (keys_of index bytes).used_pages;
      next_page = (keys_of index bytes).next_page;
      levels = λ name. by_number (λ (root : Option ℕ). unwrap_or (option_map (index.level bytes) root) 0) 0 name bytes i;
    };
    bytes = bytes;
  }

  -- the same tables and keys over other data
  pub index_same : (a b : List ℕ) → tables_of b ≡ tables_of a → keys_of index b ≡ keys_of index a → index_of index b ≡ record (index_of index a) { bytes = b }
  index_same a b tables keys = index_is b ∙ (λ i. index_with (names_in (tables i)) b (keys i)) ∙ sym (λ i. record (index_is a i) { bytes = b })
