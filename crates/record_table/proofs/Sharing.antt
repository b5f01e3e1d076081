-- What an index guarantees of the pairs of all tables.
use Rattle.std.proofs.Common.{◌≡◌, ◌≢◌, ◌^◌, ℕ, ◌+◌, ◌-◌, ◌<◌, ◌≤◌, ◌⊎◌, Bool, true, false, cond, inl, inr, List, [], ◌∷◌, length, refl, sym, ◌∙◌, ap, subst, arith}
use Rattle.std.specs.Prelude.{zero, suc, nat_eq, if◌then◌else◌, ◌&&◌, slice_get, map, Option, Some, None}
use Rattle.std.specs.Option.{option_map, unwrap_or}
use Rattle.std.proofs.lemmas.Bool.{cases_eq, cases_lt, eq-eqb, ne_eqb}
use Rattle.std.proofs.lemmas.Bool.Decides.{eqb_tells}
use Rattle.std.proofs.lemmas.Option.{same_Some}
use Rattle.record_slots.specs.Slots.{slot_said}
use Rattle.record_slots.specs.Names.{names_in}
use Rattle.record_slots.specs.Super.{next_said, tables_said, free_in}
use Rattle.record_slots.specs.Places.{page_bytes, slot_of, next_slot, next_page, tables_of, root_of, slot_due, used_slots, IsOfKey, Carries, AreGiven}
use Rattle.record_slots.specs.declared.super_page.TableEntry.{TableEntry}
use Rattle.record_slots.specs.declared.slot.Slot.{Slot}
use Rattle.record_slots.specs.declared.slot.Slot.TheVariants.{Absent, Present}
use Rattle.history.specs.declared.key.Key.{Key}
use Rattle.history.specs.Key.{of_table, is_same_key}
use Rattle.history.proofs.Keys.{cases_key, same_key, other_key}
use Rattle.page_store.specs.Pairs.{Pair, Rise, found}
use Rattle.page_store.specs.Index.{Index, IsTable, HasCounts, KeepsIndex, Grows, Rests, Gains, IsEmptyRoot, Extends}
use Rattle.index_keys.specs.Keys.{GainsKey, KeepsKeys, TakesPages}
use Rattle.record_table.specs.Names.{IsCalled, names_of, name_at, key_in}
use Rattle.record_table.specs.Shown.{found_key, write_said, pairs_from, pairs_of, keys_of}
use Rattle.record_table.proofs.Joint.{root_in, pairs_same, tables_apart, found_some, found_from, found_inserted}

-- what an index guarantees about its data
pub record Laws (index : Index) : Type 0 where
  pub rises : (bytes : List ℕ) (table root : ℕ) → index.sound bytes → IsTable bytes table root → Rise 0 (2 ^ 64) (index.pairs bytes root)
  pub given : (bytes : List ℕ) (table root : ℕ) → index.sound bytes → IsTable bytes table root → AreGiven bytes table (index.pairs bytes root)
  pub counts : (bytes : List ℕ) → index.sound bytes → HasCounts bytes
  pub rests : (old new : List ℕ) → index.sound old → KeepsIndex old new
      → index.sound new × ((table root : ℕ) → IsTable old table root → (index.pairs new root ≡ index.pairs old root) × (index.level new root ≡ index.level old root))
  pub extends : (old new : List ℕ) → index.sound old → Extends old new → index.sound new
      × ((table root : ℕ) → IsTable old table root → (index.pairs new root ≡ index.pairs old root) × (index.level new root ≡ index.level old root))
      × ((table root : ℕ) → IsTable new table root → next_page old ≤ root → IsEmptyRoot (page_bytes new root) → (index.pairs new root ≡ []) × (index.level new root ≡ 0))

-- a slot holds at most one key, of one table
one_key : (said : Option Slot) (t u a b : ℕ) → IsOfKey t a said → IsOfKey u b said → (t ≡ u) × (a ≡ b)
one_key None t u a b x y = absurd x
one_key (Some (Absent j k)) t u a b x y = (sym x.0 ∙ y.0, sym x.1 ∙ y.1)
one_key (Some (Present j k v)) t u a b x y = (sym x.0 ∙ y.0, sym x.1 ∙ y.1)

pub carries_one : (bytes : List ℕ) (t u a b slot : ℕ) → Carries bytes t (a, slot) → Carries bytes u (b, slot) → (t ≡ u) × (a ≡ b)
unfolding Carries
carries_one bytes t u a b slot x y = one_key (slot_said (slot_of bytes slot)) t u a b x y

-- the table of a number, by its name and its root
entry_there : (tables : List TableEntry) (table root : ℕ) (name : List ℕ) → slice_get (names_in tables) table ≡ Some name → root_in tables table ≡ Some root → slice_get tables table ≡ Some (record { name = name; root = root })
entry_there [] table root name called is = absurd (cc)
entry_there (entry ∷ entries) zero root name called is = λ i. Some (record { name = same_Some entry.name name called i; root = same_Some entry.root root is i })
entry_there (entry ∷ entries) (suc table) root name called is = entry_there entries table root name called is

pub name_there : (tables : List TableEntry) (table : ℕ) (entry : TableEntry) → slice_get tables table ≡ Some entry → slice_get (names_in tables) table ≡ Some entry.name
name_there [] table entry is = absurd (cc)
name_there (first ∷ entries) zero entry is = ap (option_map (λ entry. entry.name)) is
name_there (first ∷ entries) (suc table) entry is = name_there entries table entry is

-- the table of a number that has a name
has_entry : (tables : List TableEntry) (table : ℕ) (name : List ℕ) → slice_get (names_in tables) table ≡ Some name → (entry : TableEntry) × (slice_get tables table ≡ Some entry) × (entry.name ≡ name)
has_entry [] table name called = absurd (cc)
has_entry (entry ∷ entries) zero name called = (entry, refl, same_Some entry.name name called)
has_entry (entry ∷ entries) (suc table) name called = has_entry entries table name called

pub root_called : (d : List ℕ) (table : ℕ) (name : List ℕ) → IsCalled d table name → (root : ℕ) × IsTable d table root
root_called d table name called = let e = has_entry (tables_of d) table name called in (e.0.root, ap (option_map (λ entry. entry.root)) e.1)

-- a table of a number has a name
pub called_at : (d : List ℕ) (table root : ℕ) → IsTable d table root → IsCalled d table (name_at d table)
called_at d table root is = go (tables_of d) table is
  where
    go : (tables : List TableEntry) (n : ℕ) → root_in tables n ≡ Some root → slice_get (names_in tables) n ≡ Some (unwrap_or (slice_get (names_in tables) n) [])
    go [] n none = absurd (cc)
    go (entry ∷ entries) zero has = refl
    go (entry ∷ entries) (suc n) has = go entries n has

pub called_below : (d : List ℕ) (table : ℕ) → table < length (names_of d) → IsCalled d table (name_at d table)
called_below d table lt = go (names_of d) table lt
  where
    go : (names : List (List ℕ)) (n : ℕ) → n < length names → slice_get names n ≡ Some (unwrap_or (slice_get names n) [])
    go [] n lt = absurd (omega (arith, lt))
    go (name ∷ names) zero lt = refl
    go (name ∷ names) (suc n) lt = go names n (omega (arith, lt))

-- a name is that of one table
pub one_number : (d : List ℕ) → HasCounts d → (one two : ℕ) (name : List ℕ) → IsCalled d one name → IsCalled d two name → one ≡ two
one_number d counts one two name x y =
    let a = has_entry (tables_of d) one name x in
    let b = has_entry (tables_of d) two name y in
    elim (cases_eq one two) [
      | inl same ↦ same
      | inr differ ↦ elim (cases_lt one two) [
        | inl less ↦ absurd (tables_apart d counts one two a.0 b.0 less a.1 b.1 (a.2 ∙ sym b.2))
        | inr more ↦ absurd (tables_apart d counts two one b.0 a.0 (omega (arith, more, differ)) b.1 a.1 (b.2 ∙ sym a.2))
      ]
    ]

-- the same tables have the same names
pub called_same : (d e : List ℕ) → tables_of e ≡ tables_of d → (table : ℕ) (name : List ℕ) → IsCalled d table name → IsCalled e table name
called_same d e tables table name called = ap (λ (ts : List TableEntry). slice_get (names_in ts) table) tables ∙ called

-- the key of a slot of a table
pub key_said : (d : List ℕ) (said : Option Slot) (table key : ℕ) (name : List ℕ) → IsCalled d table name → IsOfKey table key said → (write_said d said).0 ≡ of_table name key
key_said d None table key name called is = absurd is
key_said d (Some (Absent j k)) table key name called is = (λ i. key_in d (is.0 i) (is.1 i)) ∙ (λ i. of_table (unwrap_or (called i) []) key)
key_said d (Some (Present j k v)) table key name called is = (λ i. key_in d (is.0 i) (is.1 i)) ∙ (λ i. of_table (unwrap_or (called i) []) key)

-- the slot of a key that is found
pub found_given : (bytes : List ℕ) (table : ℕ) (ps : List Pair) (key slot : ℕ) → AreGiven bytes table ps → found ps key ≡ Some slot → (slot < next_slot bytes) × Carries bytes table (key, slot)
found_given bytes table [] key slot given is = absurd (cc)
found_given bytes table (p ∷ ps) key slot given is = elim (eqb_tells p.0 key) [
  | inl same ↦
      let b : nat_eq p.0 key ≡ true = same.0 in
      let at : p.1 ≡ slot = same_Some p.1 slot (sym (ap (λ (x : Bool). cond x (Some p.1) (found ps key)) b) ∙ is) in
      subst (λ (s : ℕ). (s < next_slot bytes) × Carries bytes table (key, s)) at (given.0, subst (λ (k : ℕ). Carries bytes table (k, p.1)) same.1 given.1)
  | inr other ↦
      let b : nat_eq p.0 key ≡ false = other.0 in
      found_given bytes table ps key slot given.2 (sym (ap (λ (x : Bool). cond x (Some p.1) (found ps key)) b) ∙ is)
]

module _ (index : Index) (laws : Laws index) where
  -- a key that the indexes have is one of a table, whose slot was given and carries it
  pub record Placed (d : List ℕ) (q : Key) (slot : ℕ) : Type 0 where
    pub table : ℕ
    pub root : ℕ
    pub called : IsCalled d table q.table
    pub there : IsTable d table root
    pub has : found (index.pairs d root) q.key ≡ Some slot
    pub given : slot < next_slot d
    pub carries : Carries d table (q.key, slot)

  pub placed : (d : List ℕ) → index.sound d → (q : Key) (slot : ℕ) → found_key (pairs_of index d) q ≡ Some slot → Placed d q slot
  unfolding pairs_of
  placed d sound q slot is =
      let f = found_some index d q slot (tables_of d) is in
      let there : IsTable d f.number f.entry.root = ap (option_map (λ entry. entry.root)) f.there in
      let g = found_given d f.number (index.pairs d f.entry.root) q.key slot (laws.given d f.number f.entry.root sound there) f.has in
      record {
        table = f.number;
        root = f.entry.root;
        called = name_there (tables_of d) f.number f.entry f.there ∙ ap Some f.named;
        there = there;
        has = f.has;
        given = g.0;
        carries = g.1;
      }

  -- what is found for a key of a table
  pub found_in : (d : List ℕ) (table root key : ℕ) (name : List ℕ) → index.sound d → IsCalled d table name → IsTable d table root → found_key (pairs_of index d) (of_table name key) ≡ found (index.pairs d root) key
  unfolding pairs_of
  found_in d table root key name sound called is = found_from index d (tables_of d) table (record { name = name; root = root }) key (tables_apart d (laws.counts d sound)) (entry_there (tables_of d) table root name called is)

-- the tables and their pairs stay
pub pairs_rest : (index : Index) (d e : List ℕ) → tables_of e ≡ tables_of d → ((table root : ℕ) → IsTable d table root → index.pairs e root ≡ index.pairs d root) → pairs_of index e ≡ pairs_of index d
unfolding pairs_of
pairs_rest index d e tables same =
    ap (pairs_from index e) tables ∙ pairs_same index d e (tables_of d) same

-- what the index with this root says: its levels, and the pages of a removal; none without a root
abbrev pub level_under : Index → List ℕ → Option ℕ → ℕ
level_under index bytes root = unwrap_or (option_map (index.level bytes) root) 0

abbrev pub removal_under : Index → List ℕ → ℕ → Option ℕ → Option (List ℕ)
removal_under index bytes key root = unwrap_or (option_map (λ page. index.removal bytes page key) root) None

pub level_same : (index : Index) (d e : List ℕ) (table : ℕ) → tables_of e ≡ tables_of d → ((root : ℕ) → IsTable d table root → index.level e root ≡ index.level d root)
    → level_under index e (root_of e table) ≡ level_under index d (root_of d table)
level_same index d e table tables same =
    ap (λ (ts : List TableEntry). level_under index e (option_map (λ entry. entry.root) (slice_get ts table))) tables ∙ go (root_of d table) refl
  where
    go : (o : Option ℕ) → root_of d table ≡ o → level_under index e o ≡ level_under index d o
    go None is = refl
    go (Some root) is = same root is

-- the slot that is due, as the super page says it
abbrev due_said : List ℕ → ℕ
due_said page = if nat_eq (free_in 280 page) 0 then next_said 8 page else free_in 272 page - 1

-- data with the same super page, pairs and levels has the same keys
pub keys_same : (index : Index) (d e : List ℕ) → pairs_of index e ≡ pairs_of index d → page_bytes e 0 ≡ page_bytes d 0 → ((table root : ℕ) → IsTable d table root → index.level e root ≡ index.level d root)
    → keys_of index e ≡ keys_of index d
keys_same index d e pairs front levels = λ i. record {
  slot_of = found_key (pairs i);
  due = due_said (front i);
  used_slots = next_said 8 (front i) - free_in 280 (front i);
  used_pages = next_said 12 (front i) - free_in 284 (front i);
  next_page = next_said 12 (front i);
  levels = λ table. level_same index d e table (ap tables_said front) (λ root is. levels table root is) i;
}

-- an insertion into the index of a table
module _ (index : Index) (laws : Laws index) (d e : List ℕ) (table root : ℕ) (sound : index.sound d) (named : IsTable d table root) (grows : Grows index root d e) where
  -- the same table in the data after it
  pub named_there : (number other : ℕ) → IsTable d number other → IsTable e number other
  named_there number other is = ap (λ (ts : List TableEntry). option_map (λ entry. entry.root) (slice_get ts number)) grows.tables ∙ is

  pub takes : TakesPages (keys_of index d) (keys_of index e)
  takes = record {
    later = grows.later;
    few = grows.few;
    used = omega (arith, grows.later, grows.free_pages_fall);
    levels = λ number. level_grows number;
  }
    where
      level_of : (number : ℕ) (o : Option ℕ) → root_of d number ≡ o → level_under index d o ≤ level_under index e o
      level_of number None is = omega arith
      level_of number (Some other) is = elim (cases_eq other root) [
        | inl same ↦ subst (λ (r : ℕ). index.level d r ≤ index.level e r) (sym same) grows.levels
        | inr ne ↦ omega (arith, (grows.others number other is ne).level)
      ]

      level_grows : (number : ℕ) → level_under index d (root_of d number) ≤ level_under index e (root_of e number)
      level_grows number =
          subst (λ (ts : List TableEntry). level_under index d (root_of d number) ≤ level_under index e (option_map (λ entry. entry.root) (slice_get ts number))) (sym grows.tables)
          (level_of number (root_of d number) refl)

  pub pairs_kept : Rests index root d e → pairs_of index e ≡ pairs_of index d
  pairs_kept rests = pairs_rest index d e grows.tables (λ number other is. elim (cases_eq other root) [
    | inl same ↦ subst (λ (r : ℕ). index.pairs e r ≡ index.pairs d r) (sym same) rests.pairs
    | inr ne ↦ (grows.others number other is ne).pairs
  ])

  pub keeps : Rests index root d e → KeepsKeys (keys_of index d) (keys_of index e)
  keeps rests = record { slot_of = ap found_key (pairs_kept rests); slots = rests.slots; due = rests.due }

  module _ (name : List ℕ) (called : IsCalled d table name) (key : ℕ) (absent : found (index.pairs d root) key ≡ None) (gains : Gains index root table key d e) where
    gained_here : (k : ℕ) → found (index.pairs e root) k ≡ cond (nat_eq key k) (Some (slot_due d)) (found (index.pairs d root) k)
    gained_here k = ap (λ (l : List Pair). found l k) gains.pairs ∙ found_inserted (index.pairs d root) key (slot_due d) k absent

    called_now : IsCalled e table name
    called_now = called_same d e grows.tables table name called

    new_here : found (index.pairs e root) key ≡ Some (slot_due d)
    new_here = gained_here key ∙ ap (λ (b : Bool). cond b (Some (slot_due d)) (found (index.pairs d root) key)) (eq-eqb key key refl)

    still_there : (q : Key) (s : ℕ) → (p : Placed index laws d q s) → found (index.pairs e p.root) q.key ≡ Some s
    still_there q s p = elim (cases_eq p.root root) [
      | inl same ↦
          let it : found (index.pairs d root) q.key ≡ Some s = ap (λ (r : ℕ). found (index.pairs d r) q.key) (sym same) ∙ p.has in
          let apart : key ≢ q.key = λ x. (let no : Some s ≡ None = sym it ∙ ap (found (index.pairs d root)) (sym x) ∙ absent in absurd (cc)) in
          ap (λ (r : ℕ). found (index.pairs e r) q.key) same ∙ gained_here q.key ∙ ap (λ (b : Bool). cond b (Some (slot_due d)) (found (index.pairs d root) q.key)) (ne_eqb key q.key apart) ∙ it
      | inr differs ↦ ap (λ (l : List Pair). found l q.key) (grows.others p.table p.root p.there differs).pairs ∙ p.has
    ]

    still : (q : Key) (s : ℕ) → found_key (pairs_of index d) q ≡ Some s → found_key (pairs_of index e) q ≡ Some s
    still q s is =
        let p = placed index laws d sound q s is in
        found_in index laws e p.table p.root q.key q.table grows.sound (called_same d e grows.tables p.table q.table p.called) (named_there p.table p.root p.there) ∙ still_there q s p

    named_before : (number other : ℕ) → IsTable e number other → IsTable d number other
    named_before number other is = ap (λ (ts : List TableEntry). option_map (λ entry. entry.root) (slice_get ts number)) (sym grows.tables) ∙ is

    -- no other table has this root
    was_there : (q : Key) (s : ℕ) → q ≢ of_table name key → (p : Placed index laws e q s) → found (index.pairs d p.root) q.key ≡ Some s
    was_there q s ne p = elim (cases_eq p.root root) [
      | inl same ↦ elim (cases_eq key q.key) [
        | inl its ↦
            let carried = (found_given e table (index.pairs e root) key (slot_due d) (laws.given e table root grows.sound (named_there table root named)) new_here).1 in
            let slot : s ≡ slot_due d = same_Some s (slot_due d) (sym p.has ∙ (λ i. found (index.pairs e (same i)) (sym its i)) ∙ new_here) in
            let number : p.table ≡ table = (carries_one e p.table table q.key key s p.carries (subst (λ (x : ℕ). Carries e table (key, x)) (sym slot) carried)).0 in
            let name_is : q.table ≡ name = same_Some q.table name (sym p.called ∙ ap (λ (n : ℕ). slice_get (names_in (tables_of e)) n) number ∙ called_now) in
            absurd (ne (λ i. of_table (name_is i) (sym its i)))
        | inr apart ↦
            ap (λ (r : ℕ). found (index.pairs d r) q.key) same
            ∙ sym (gained_here q.key ∙ ap (λ (b : Bool). cond b (Some (slot_due d)) (found (index.pairs d root) q.key)) (ne_eqb key q.key apart))
            ∙ ap (λ (r : ℕ). found (index.pairs e r) q.key) (sym same) ∙ p.has
      ]
      | inr differs ↦ ap (λ (l : List Pair). found l q.key) (sym (grows.others p.table p.root (named_before p.table p.root p.there) differs).pairs) ∙ p.has
    ]

    was : (q : Key) (s : ℕ) → q ≢ of_table name key → found_key (pairs_of index e) q ≡ Some s → found_key (pairs_of index d) q ≡ Some s
    was q s ne is =
        let p = placed index laws e grows.sound q s is in
        found_in index laws d p.table p.root q.key q.table sound (called_same e d (sym grows.tables) p.table q.table p.called) (named_before p.table p.root p.there) ∙ was_there q s ne p

    other_same : (q : Key) → q ≢ of_table name key → found_key (pairs_of index e) q ≡ found_key (pairs_of index d) q
    other_same q ne = go (found_key (pairs_of index d) q) refl (found_key (pairs_of index e) q) refl
      where
        go : (o : Option ℕ) → found_key (pairs_of index d) q ≡ o → (n : Option ℕ) → found_key (pairs_of index e) q ≡ n → n ≡ o
        go (Some s) is n now = sym now ∙ still q s is
        go None is None now = refl
        go None is (Some s) now = sym (was q s ne now) ∙ is

    pub gained : (q : Key) → found_key (pairs_of index e) q ≡ cond (is_same_key (of_table name key) q) (Some (slot_due d)) (found_key (pairs_of index d) q)
    gained q = elim (cases_key (of_table name key) q) [
      | inl same ↦
          ap (found_key (pairs_of index e)) (sym same) ∙ found_in index laws e table root key name grows.sound called_now (named_there table root named) ∙ new_here
          ∙ sym (ap (λ (b : Bool). cond b (Some (slot_due d)) (found_key (pairs_of index d) q)) (same_key (of_table name key) q same))
      | inr ne ↦ other_same q (λ x. ne (sym x)) ∙ sym (ap (λ (b : Bool). cond b (Some (slot_due d)) (found_key (pairs_of index d) q)) (other_key (of_table name key) q ne))
    ]

    pub gains_key : GainsKey (of_table name key) (keys_of index d) (keys_of index e)
    gains_key = record { slot_of = λ i q. gained q i; slots = gains.slots }
