-- The next key of a table in the data, and its record.
use Rattle.std.proofs.Common.{◌≡◌, ◌^◌, ℕ, suc, ◌<◌, ◌≤◌, Bool, true, false, cond, inl, inr, List, [], ◌∷◌, refl, sym, ◌∙◌, ap, subst, arith}
use Rattle.std.specs.Prelude.{nat_le, Option, Some, None, IsSome}
use Rattle.std.specs.FinMap.{get}
use Rattle.std.proofs.lemmas.Bool.{cases_eq, cases_lt, cases_Bool, eq-eqb, ne_eqb, false≢true}
use Rattle.eaw_face.specs.Causes.{IsAlive}
use Rattle.record_slots.specs.Slots.{slot_said}
use Rattle.record_slots.specs.Places.{slot_of, Carries}
use Rattle.record_slots.specs.declared.slot.Slot.{Slot}
use Rattle.page_store.specs.Index.{Index, IsTable}
use Rattle.page_store.specs.Pairs.{Pair, Rise, found, next}
use Rattle.page_store.specs.Looks.{Looks}
use Rattle.page_store.specs.Records.{value_of}
use Rattle.page_store.specs.Shown.{PagesView}
use Rattle.record_table.specs.Invariant.{Holds}
use Rattle.record_table.specs.Removing.{HasNoAbsent, IsNextAbsent, ComesNext}
use Rattle.record_table.specs.Shown.{found_key, table_of, pairs_of}
use Rattle.record_table.specs.Names.{IsCalled}
use Rattle.record_table.specs.declared.scanning.Next.{Next}
use Rattle.history.specs.Key.{of_table}
use Rattle.record_table.proofs.Joint.{rise_bounds}
use Rattle.record_table.proofs.Looking.{looks_as}
use Rattle.record_table.proofs.Lost.{found_below}
use Rattle.record_table.proofs.Moving.{moved_by_look, rests_moved}
use Rattle.record_table.proofs.Seeking.{no_slot}
use Rattle.record_table.proofs.Sharing.{Laws, found_given, found_in}
use Rattle.record_table.proofs.Tables.{record_at, get-table_in}

lt_of : (a b : ℕ) → nat_le a b ≡ false → b < a
lt_of a b e = grind arith

le_of : (a b : ℕ) → nat_le a b ≡ true → a ≤ b
le_of a b e = grind arith

-- no pair is there from a key on
none_from : (ps : List Pair) (from : ℕ) → next ps from ≡ None → (k : ℕ) → from ≤ k → found ps k ≡ None
none_from [] from none k le = refl
none_from (p ∷ ps) from none k le = elim (cases_Bool (nat_le from p.0)) [
  | inl b ↦ absurd (let e : Some p ≡ None = sym (ap (λ (x : Bool). cond x (Some p) (next ps from)) b) ∙ none in cc)
  | inr b ↦
      let lt = lt_of from p.0 b in
      ap (λ (x : Bool). cond x (Some p.1) (found ps k)) (ne_eqb p.0 k (λ e. absurd (omega (arith, e, le, lt))))
      ∙ none_from ps from (sym (ap (λ (x : Bool). cond x (Some p) (next ps from)) b) ∙ none) k le
]

-- the first pair from a key on
pub record IsFirst (ps : List Pair) (high from key slot : ℕ) : Type 0 where
  pub le : from ≤ key
  pub small : key < high
  pub has : found ps key ≡ Some slot
  pub none : (k : ℕ) → from ≤ k → k < key → found ps k ≡ None

first_from : (low high from key slot : ℕ) (ps : List Pair) → Rise low high ps → next ps from ≡ Some (key, slot) → IsFirst ps high from key slot
first_from low high from key slot [] rise is = absurd (cc)
first_from low high from key slot (p ∷ ps) rise is = elim (cases_Bool (nat_le from p.0)) [
  | inl b ↦
      let e : Some p ≡ Some (key, slot) = sym (ap (λ (x : Bool). cond x (Some p) (next ps from)) b) ∙ is in
      let at : p ≡ (key, slot) = cc in
      let k : p.0 ≡ key = λ i. (at i).0 in
      let s : p.1 ≡ slot = λ i. (at i).1 in
      record {
        le = omega (arith, k, le_of from p.0 b);
        small = omega (arith, k, rise_bounds (suc p.0) high ps rise.1);
        has = ap (λ (x : Bool). cond x (Some p.1) (found ps key)) (eq-eqb p.0 key k) ∙ ap Some s;
        none = λ q le lt. ap (λ (x : Bool). cond x (Some p.1) (found ps q)) (ne_eqb p.0 q (λ x. absurd (omega (arith, x, k, lt)))) ∙ found_below (suc p.0) high q ps rise.1 (omega (arith, k, lt));
      }
  | inr b ↦
      let lt = lt_of from p.0 b in
      let rest = first_from (suc p.0) high from key slot ps rise.1 (sym (ap (λ (x : Bool). cond x (Some p) (next ps from)) b) ∙ is) in
      record {
        le = rest.le;
        small = rest.small;
        has = ap (λ (x : Bool). cond x (Some p.1) (found ps key)) (ne_eqb p.0 key (λ x. absurd (omega (arith, x, lt, rest.le)))) ∙ rest.has;
        none = λ q le less. ap (λ (x : Bool). cond x (Some p.1) (found ps q)) (ne_eqb p.0 q (λ x. absurd (omega (arith, x, lt, le)))) ∙ rest.none q le less;
      }
]

module _ (index : Index) (laws : Laws index) (table root from : ℕ) (name : List ℕ) (d : List ℕ) (called : IsCalled d table name) (sound : index.sound d) (named : IsTable d table root) where
  in_table_too : (k : ℕ) → found (index.pairs d root) k ≡ None → found_key (pairs_of index d) (of_table name k) ≡ None
  in_table_too k none = found_in index laws d table root k name sound called named ∙ none

  -- the table has no further key
  pub comes_none : next (index.pairs d root) from ≡ None → ComesNext index d name from None
  comes_none none k le small = in_table_too k (none_from (index.pairs d root) from none k le)

  module _ (key slot : ℕ) (is : next (index.pairs d root) from ≡ Some (key, slot)) where
    pub it : IsFirst (index.pairs d root) (2 ^ 64) from key slot
    it = first_from 0 (2 ^ 64) from key slot (index.pairs d root) (laws.rises d table root sound named) is

    here : found_key (pairs_of index d) (of_table name key) ≡ Some slot
    here = found_in index laws d table root key name sound called named ∙ it.has

    record_is : get (table_of index d) (of_table name key) ≡ value_of (slot_said (slot_of d slot))
    unfolding table_of
    record_is = get-table_in d (pairs_of index d) (of_table name key) ∙ ap (record_at d) here

    -- its next key, with what its slot says
    pub comes_some : (said : Option Slot) → said ≡ slot_said (slot_of d slot) → (from ≤ key) × IsSome (found_key (pairs_of index d) (of_table name key)) × (get (table_of index d) (of_table name key) ≡ value_of said)
        × ((k : ℕ) → from ≤ k → k < key → found_key (pairs_of index d) (of_table name k) ≡ None)
    comes_some said read = (it.le, subst (λ (o : Option ℕ). IsSome o) (sym here) refl, record_is ∙ ap value_of (sym read), λ k le lt. in_table_too k (it.none k le lt))

    -- a pair's slot says something
    pub says_some : None ≡ slot_said (slot_of d slot) → ⊥
    unfolding Carries
    says_some none =
        let given = found_given d table (index.pairs d root) key slot (laws.given d table root sound named) it.has in
        no_slot table key (slot_said (slot_of d slot)) (sym none) given.1

-- a key that the index lacks is not absent
not_there : (o : Option ℕ) → o ≡ None → IsSome o → ⊥
not_there None none some = absurd (cc)
not_there (Some slot) none some = absurd (cc)

module _ (index : Index) (d : List ℕ) (name : List ℕ) (from low : ℕ) (before : HasNoAbsent index d name from low) where
  -- none is absent up to a key before which there is none
  none_to : (to : ℕ) → ((k : ℕ) → low ≤ k → k < to → found_key (pairs_of index d) (of_table name k) ≡ None) → HasNoAbsent index d name from to
  none_to to none k le lt is = elim (cases_lt k low) [ inl less ↦ before k le less is | inr more ↦ not_there (found_key (pairs_of index d) (of_table name k)) (none k (omega (arith, more)) lt) is.0 ]

  pub none_left : ComesNext index d name low None → HasNoAbsent index d name from (2 ^ 64)
  none_left none = none_to (2 ^ 64) none

  module _ (next : Next) (comes : ComesNext index d name low (Some next)) where
    -- the next key is the first that is absent, if it has no record
    pub first_absent : from ≤ low → next.value ≡ None → IsNextAbsent index d name from (Some next.key)
    first_absent le none = (omega (arith, le, comes.0), (comes.1, comes.2 ∙ none), none_to next.key comes.3)

    -- and otherwise none is absent up to it
    pub none_past : IsSome next.value → HasNoAbsent index d name from (suc next.key)
    none_past some k le lt is = elim (cases_eq k next.key) [
      | inl same ↦ has_record (next.value) some (sym comes.2 ∙ ap (λ (x : ℕ). get (table_of index d) (of_table name x)) (sym same) ∙ is.1)
      | inr ne ↦ none_to next.key comes.3 k le (omega (arith, lt, ne)) is
    ]
      where
        has_record : (o : Option (List ℕ)) → IsSome o → o ≡ None → ⊥
        has_record None some none = absurd (cc)
        has_record (Some value) some none = absurd (cc)

-- a look keeps the invariant
pub holds_looked : (tells : Bool) (Opens : List ℕ → List ℕ → Type 0) (index : Index) (old new : PagesView) (failed : Bool) → IsAlive old.store → Holds tells index old → Looks tells Opens failed old new → Holds tells index new
holds_looked tells Opens index old new true alive holds looks living = absurd (false≢true (sym living ∙ (looks.dies refl).0))
holds_looked tells Opens index old new false alive holds looks living = rests_moved tells Opens index 0 old new (holds alive) (moved_by_look tells Opens index 0 old new alive (holds alive) (looks_as tells Opens 0 false old new looks))
