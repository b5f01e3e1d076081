-- What the change of one chain leaves of the others, and of the pages that are due.
use Rattle.std.proofs.Common.{◌≡◌, ◌≢◌, ℕ, ◌<◌, ◌≤◌, inl, inr, List, Some, None, refl, sym, ◌∙◌, ap, subst, arith}
use Rattle.std.proofs.lemmas.Bool.{cases_eq}
use Rattle.record_slots.specs.Places.{page_bytes, next_page, first_slot_page, tables_of, root_of, free_page_of, page_due, IsSuper, AreGiven}
use Rattle.page_store.specs.Index.{IsTable, IsUntouched}
use Rattle.index_pages.specs.Page.{kind_of, page_pairs}
use Rattle.index_pages.specs.Ways.{Keeps, IsOwn}
use Rattle.index_pages.proofs.Joining.{named_kept}
use Rattle.index_pages.proofs.Kept.{given_kept}
use Rattle.index_pages.proofs.Owned.{given_once}
use Rattle.index_pages.proofs.Released.{free_kind, kept_not_due}
use Rattle.index_pages.proofs.Tabled.{IsWhole, whole_seen, whole_passes, roots_apart, table_own}
use Rattle.index_pages.proofs.Taken.{FreeSlots, FreePages}
use Rattle.key_list.specs.Chain.{chain_check, page_of_key, IsSoundChain, pairs_of_chain}
use Rattle.key_list.specs.Index.{chain, IsPageOfChain}
use Rattle.key_list.specs.Resting.{sound_table, sound_chain_given}
use Rattle.key_list.specs.Seen.{pages_of_sound}
use Rattle.key_list.proofs.Chains.{key_page_own}
use Rattle.key_list.proofs.Resting.{IsMember, on_seen, chain_stays, pages_stay}

-- what sound data is made of
pub whole_of : (bytes : List ℕ) → IsSoundChain bytes → IsWhole 0 chain_check bytes
whole_of bytes sound = whole_seen 0 chain_check bytes sound

-- the root of a table is a given page
pub root_own : (bytes : List ℕ) (table root : ℕ) → IsSoundChain bytes → IsTable bytes table root → IsOwn bytes root
root_own bytes table root sound named = table_own 0 bytes table root (whole_of bytes sound).front named

-- what is known of a page of a table's chain
pub member_of : (bytes : List ℕ) (table root x : ℕ) → IsSoundChain bytes → IsTable bytes table root → IsPageOfChain bytes root x → IsMember table bytes root x
member_of bytes table root x sound named on =
    on_seen table (next_page bytes) bytes root 0 x (root_own bytes table root sound named) (pages_of_sound bytes root table (sound_table bytes table root sound named)) on

-- a page of the first kind is not free, and if it is given it is not due
pub free_apart : (bytes : List ℕ) (x : ℕ) → kind_of bytes x ≡ 1 → free_page_of bytes x ≢ None → ⊥
free_apart bytes x kind free = let is = free_kind bytes x free in omega (arith, is, kind)

pub due_apart : (bytes : List ℕ) (x i : ℕ) → FreePages bytes → IsOwn bytes x → kind_of bytes x ≡ 1 → x ≢ page_due bytes i
due_apart bytes x i list own kind = kept_not_due bytes x i list own.1 (free_apart bytes x kind)

-- one table has one root
pub roots_one : (bytes : List ℕ) (table table' root root' : ℕ) → table' ≡ table → IsTable bytes table root → IsTable bytes table' root' → root' ≡ root
roots_one bytes table table' root root' same named named' = (let e : Some root' ≡ Some root = sym named' ∙ ap (λ (t : ℕ). root_of bytes t) same ∙ named in cc)

-- a page of one table's chain is not one of another's
pub tables_apart : (bytes : List ℕ) (table root table' root' x : ℕ) → IsSoundChain bytes → IsTable bytes table root → IsTable bytes table' root' → root ≢ root'
    → IsPageOfChain bytes root x → IsPageOfChain bytes root' x → ⊥
tables_apart bytes table root table' root' x sound named named' differ on on' =
    let one = member_of bytes table root x sound named on in
    let two = member_of bytes table' root' x sound named' on' in
    elim one.some [
      | inr some ↦ apart (given_once bytes table table' (page_pairs bytes x) some one.given two.given)
      | inl is ↦ elim two.some [ inr some ↦ apart (given_once bytes table table' (page_pairs bytes x) some one.given two.given) | inl is' ↦ differ (sym is ∙ is') ]
    ]
  where
    apart : table ≡ table' → ⊥
    apart same = differ (roots_one bytes table' table root' root same named' named)

-- the slots of all tables carry their keys, if each that was given does
pub all_given : (old new : List ℕ) → IsSoundChain old → Keeps old new → (table root : ℕ) → IsTable old table root → AreGiven new table (pairs_of_chain old root)
all_given old new sound keeps table root named = given_kept old new keeps table (pairs_of_chain old root) (sound_chain_given old root table (sound_table old table root sound named))

-- One chain has changed: the data is sound with it, and the chains of all other tables are untouched.
module _ (old new : List ℕ) (table root : ℕ) (sound : IsSoundChain old) (named : IsTable old table root) (front : IsSuper 0 new) (slots : FreeSlots new) (pages : FreePages new)
    (tables : tables_of new ≡ tables_of old) (later : next_page old ≤ next_page new) (changed : chain_check new root table None)
    (given : (table' root' : ℕ) → IsTable old table' root' → root' ≢ root → AreGiven new table' (pairs_of_chain old root'))
    (kept : (table' root' : ℕ) → IsTable old table' root' → root' ≢ root → (x : ℕ) → IsPageOfChain old root' x → page_bytes new x ≡ page_bytes old x) where
  pub one_changed : IsSoundChain new
  one_changed = whole_passes 0 chain_check new (record {
    front = front;
    slots = slots;
    pages = pages;
    tables = λ table' root' is.
        let was : IsTable old table' root' = named_kept old new tables table' root' is in
        elim (cases_eq root' root) [
          | inl same ↦
              let one : table' ≡ table = roots_apart 0 old table' table root (whole_of old sound).front (subst (λ (p : ℕ). IsTable old table' p) same was) named in
              subst (λ (p : ℕ). chain_check new p table' None) (sym same) (subst (λ (t : ℕ). chain_check new root t None) (sym one) changed)
          | inr differ ↦ (chain_stays old new table' root' (root_own old table' root' sound was) (sound_table old table' root' sound was) later (given table' root' was differ) (kept table' root' was differ)).0
        ];
  })

  pub others_untouched : (table' other : ℕ) → IsTable old table' other → other ≢ root → IsUntouched chain other old new
  others_untouched table' other is differ = record {
    pairs = (chain_stays old new table' other (root_own old table' other sound is) (sound_table old table' other sound is) later (given table' other is differ) (kept table' other is differ)).1;
    level = refl;
    pages = pages_stay old new table' other (root_own old table' other sound is) (sound_table old table' other sound is) later (given table' other is differ) (kept table' other is differ);
  }

-- the page of a key is a page of the index
pub key_page_given : (bytes : List ℕ) (root table key : ℕ) → IsSoundChain bytes → IsTable bytes table root → (1 ≤ page_of_key bytes root key) × (page_of_key bytes root key < first_slot_page bytes)
key_page_given bytes root table key sound named =
    let own = (key_page_own table bytes root key (root_own bytes table root sound named) (sound_table bytes table root sound named)).0 in
    (own.0, omega (arith, own.1, (whole_of bytes sound).front.pages))
