-- What a look finds for a key, and how records begin.
use Rattle.std.proofs.Common.{◌≡◌, ℕ, ◌+◌, ◌*◌, ◌/◌, Bool, false, IsTrue, List, [], ◌∷◌, length, refl, sym, ◌∙◌, ap, subst, arith}
use Rattle.std.specs.Prelude.{Option, Some, None}
use Rattle.std.specs.Option.{option_map}
use Rattle.std.specs.FinMap.{get}
use Rattle.mars_base.specs.Bytes.{range}
use Rattle.array_shape.specs.declared.shape.Shape.{Shape}
use Rattle.array_shape.specs.Places.{data_len}
use Rattle.array_shape.specs.Logged.{Part, ranges_of, applied}
use Rattle.eaw_face.specs.State.{State, listed}
use Rattle.eaw_face.specs.Causes.{IsAlive}
use Rattle.record_slots.specs.Slots.{slot_said}
use Rattle.record_slots.specs.Places.{slot_of, IsOfKey, Carries}
use Rattle.record_slots.specs.declared.slot.Slot.{Slot}
use Rattle.page_store.specs.Index.{Index, slots_of}
use Rattle.page_store.specs.Looks.{Looks}
use Rattle.history.specs.declared.key.Key.{Key}
use Rattle.page_store.specs.Records.{value_of}
use Rattle.page_store.specs.Shown.{PagesView}
use Rattle.page_store.specs.Shown as pages
use Rattle.page_store.specs.State.{view_of}
use Rattle.record_table.specs.Attached.{Attached}
use Rattle.record_table.specs.Causes.{slot_in}
use Rattle.record_table.specs.Invariant.{AreSlotParts, IsTied, Holds}
use Rattle.record_table.specs.Shown.{found_key, table_of, writes_of, state_of}
use Rattle.record_table.specs.Sought.{Finds, value_at}
use Rattle.record_table.specs.State.{seen_by}
use Rattle.record_table.specs.declared.slots.Place.{Place}
use Rattle.record_table.proofs.Tables.{record_at}
use Rattle.record_table.proofs.Sharing.{Laws, placed}
use Rattle.record_table.proofs.SlotParts.{IsWritten, applied_parts, seen_at}

pub slot_read : (e : List ℕ) (shape : Shape) (slot : ℕ) → length e ≡ data_len shape → range e (64 * (slots_of shape + slot)) 64 ≡ slot_of e slot
unfolding slot_of
slot_read e shape slot long = let at : 64 * (slots_of shape + slot) ≡ 64 * (4 * (length e / 512) + slot) = omega (arith, long) in ap (λ (n : ℕ). range e n 64) at

pub no_slot : (table key : ℕ) (said : Option Slot) → said ≡ None → IsOfKey table key said → ⊥
no_slot table key said none of = subst (IsOfKey table key) none of

module _ (index : Index) (laws : Laws index) (t : ℕ) (key : Key) (old : PagesView) (tied : IsTied index old) where
  pub seen_none : slot_in index old key ≡ None → get (seen_by (state_of index old) t) key ≡ None
  seen_none none = seen_at index laws (listed (old.store.state.logs t)) old.store.state.bytes tied.sound (tied.parts t) key ∙ ap (record_at (applied (listed (old.store.state.logs t)) old.store.state.bytes)) none

  module _ (mid : PagesView) (shape : mid.store.shape ≡ old.store.shape) (same : mid.store.state ≡ old.store.state) (long : length old.store.state.bytes ≡ data_len old.store.shape) (slot : ℕ) (is : slot_in index old key ≡ Some slot) where
    seen : List ℕ
    seen = applied (listed (old.store.state.logs t)) old.store.state.bytes

    pub read_is : slot_said (range (view_of t (pages.state_of mid)) (64 * (slots_of mid.store.shape + slot)) 64) ≡ slot_said (slot_of (applied (listed (old.store.state.logs t)) old.store.state.bytes) slot)
    read_is =
        (λ i. slot_said (range (applied (listed ((same i).logs t)) (same i).bytes) (64 * (slots_of (shape i) + slot)) 64))
        ∙ ap slot_said (slot_read (applied (listed (old.store.state.logs t)) old.store.state.bytes) old.store.shape slot
        (IsWritten.size (applied_parts index laws (listed (old.store.state.logs t)) old.store.state.bytes tied.sound (tied.parts t)) ∙ long))

    pub seen_some : (said : Option Slot) → said ≡ slot_said (range (view_of t (pages.state_of mid)) (64 * (slots_of mid.store.shape + slot)) 64) → get (seen_by (state_of index old) t) key ≡ value_of said
    seen_some said read =
        seen_at index laws (listed (old.store.state.logs t)) old.store.state.bytes tied.sound (tied.parts t) key
        ∙ ap (record_at (applied (listed (old.store.state.logs t)) old.store.state.bytes)) is
        ∙ sym (ap value_of (read ∙ read_is))

    pub some_slot : None ≡ slot_said (range (view_of t (pages.state_of mid)) (64 * (slots_of mid.store.shape + slot)) 64) → ⊥
    unfolding Carries
    some_slot read =
        let w = applied_parts index laws (listed (old.store.state.logs t)) old.store.state.bytes tied.sound (tied.parts t) in
        let p = placed index laws (applied (listed (old.store.state.logs t)) old.store.state.bytes) w.sound key slot (ap (λ (l : List (Key × ℕ)). found_key l key) w.pairs ∙ is) in
        no_slot p.table key.key (slot_said (slot_of (applied (listed (old.store.state.logs t)) old.store.state.bytes) slot)) (sym (read ∙ read_is)) p.carries

-- the value of what was found
pub found_value : (index : Index) (t : ℕ) (key : Key) (old : PagesView) (found : Option Place) → Finds index t key old found → get (seen_by (state_of index old) t) key ≡ value_at found
found_value index t key old None finds = finds.1
found_value index t key old (Some place) finds = finds.1

-- without ranges there are no parts
no_parts : (log : Option (List Part)) → listed (option_map ranges_of log) ≡ [] → listed log ≡ []
no_parts None e = refl
no_parts (Some []) e = refl
no_parts (Some (p ∷ ps)) e = absurd (cc)

module _ (tells : Bool) (Opens : List ℕ → List ℕ → Type 0) (index : Index) (old new : PagesView) (looks : Looks tells Opens false old new) (alive : IsAlive old.store) (closed : (t : ℕ) → old.top t ≡ None)
    (idle : (t : ℕ) → listed (old.store.ranges t) ≡ []) (outlines : IsTrue tells → (t : ℕ) → old.store.ranges t ≡ option_map ranges_of (old.store.state.logs t))
    (sound : IsTrue tells → index.sound old.store.state.bytes) where
  empty_log : IsTrue tells → (t : ℕ) → listed (new.store.state.logs t) ≡ []
  empty_log told t = ap (λ (s : State). listed (s.logs t)) ((looks.still refl).state told) ∙ no_parts (old.store.state.logs t) (sym (ap listed (outlines told t)) ∙ idle t)

  pub attached : Attached tells Opens index old new
  attached = record {
    looks = looks;
    alive = alive;
    sound = sound;
    table = λ told. ap (λ (s : State). table_of index s.bytes) ((looks.still refl).state told);
    idle = λ told t. ap (λ (l : List Part). writes_of new.store.state.bytes l) (empty_log told t);
  }

  pub begins : Holds tells index new
  begins living = record {
    closed = λ t. ap (λ (f : ℕ → Option ℕ). f t) looks.tops ∙ closed t;
    tied = λ told. record {
      sound = subst (λ (s : State). index.sound s.bytes) (sym ((looks.still refl).state told)) (sound told);
      parts = λ t. subst (AreSlotParts index new.store.state.bytes) (sym (empty_log told t)) tt;
    };
  }
