-- One write of a slot, as records see it.
use Rattle.std.proofs.Common.{◌≡◌, ◌≢◌, ◌^◌, ℕ, ◌+◌, ◌*◌, ◌<◌, ◌≤◌, Bool, true, false, cond, inl, inr, IsTrue, List, [], ◌∷◌, length, Result, Ok, Err, refl, sym, ◌∙◌, ap, subst, arith}
use Rattle.std.specs.Prelude.{nat_eq, is_some, Option, Some, None}
use Rattle.std.proofs.lemmas.Bool.{false≢true}
use Rattle.mars_base.proofs.Going.{weaker}
use Rattle.array_shape.specs.declared.shape.Shape.{Shape}
use Rattle.array_shape.specs.Places.{logger_of}
use Rattle.eaw_face.specs.State.{listed, count_on}
use Rattle.eaw_face.specs.StoreView.{LeavesOnly}
use Rattle.eaw_face.specs.Causes.{IsAlive}
use Rattle.record_slots.specs.Slots.{slot_said, slot_bytes}
use Rattle.record_slots.specs.Places.{IsOfKey}
use Rattle.record_slots.specs.declared.slot.Slot.{Slot}
use Rattle.page_store.specs.Command.{write_as}
use Rattle.page_store.specs.Does.{Does}
use Rattle.page_store.specs.Edit.{edit_pos}
use Rattle.page_store.specs.Index.{Index, slots_of}
use Rattle.page_store.specs.Kept.{IsOrdered}
use Rattle.page_store.specs.Outline.{Outline, floor_in}
use Rattle.page_store.specs.Records.{value_of}
use Rattle.page_store.specs.Shown.{PagesView, outline_of}
use Rattle.page_store.specs.Shown as pages
use Rattle.page_store.specs.State.{PagesState, log_of}
use Rattle.page_store.specs.declared.fault.PageFault.{PageFault}
use Rattle.page_store.specs.declared.fault.PageFault.TheVariants.{LogFull, Media}
use Rattle.page_store.proofs.Outline.{listed-ranges}
use Rattle.page_store.proofs.Outline as outline
use Rattle.page_store.proofs.Shown.{IsTold, outlined}
use Rattle.record_table.specs.Causes.{HasRoom, IsFull, IsShort}
use Rattle.record_table.specs.Does.{OpensAs}
use Rattle.record_table.specs.Invariant.{IsSlotPart, AreSlotParts, IsTied, Rests}
use Rattle.record_table.specs.Shown.{found_key, write_of, state_of, shown_by, pairs_of, held_on}
use Rattle.history.specs.declared.key.Key.{Key}
use Rattle.history.specs.Key.{of_table}
use Rattle.record_table.specs.Names.{IsCalled}
use Rattle.history.specs.Log.{floor_of, is_rewritten}
use Rattle.record_table.proofs.Sharing.{Laws, key_said}
use Rattle.record_table.proofs.Tables.{value_is}
use Rattle.record_table.proofs.Writing.{rewrites}
use Rattle.record_table.proofs.States.{written, floors, shown_write, parts_write}
use Rattle.record_table.proofs.Moving.{Failed}
use Rattle.eaw_face.specs.Mirroring.{Mirrors}
use Rattle.eaw_face.proofs.Rooms.{first_unfit}

-- a write was logged
pub record Wrote (tells : Bool) (Opens : List ℕ → List ℕ → Type 0) (index : Index) (t : ℕ) (key : Key) (value : Option (List ℕ)) (slot : ℕ) (old new : PagesView) : Type 0 where
  pub shape : new.store.shape ≡ old.store.shape
  pub depth : new.store.depth ≡ old.store.depth
  pub dead : new.store.is_dead ≡ old.store.is_dead
  pub faults : new.store.faults ≡ old.store.faults
  pub counts : new.counts ≡ old.counts
  pub tops : new.top ≡ old.top
  pub others : (u : ℕ) → u ≢ t → new.store.ranges u ≡ old.store.ranges u
  pub bytes : IsTrue tells → new.store.state.bytes ≡ old.store.state.bytes
  pub state : IsTrue tells → state_of index new ≡ written (state_of index old) t key value
  pub tied : IsTrue tells → IsTied index new
  pub room : IsTrue tells → HasRoom index t old key slot
  pub time : IsTrue tells → LeavesOnly (λ image. OpensAs Opens index image old.store.state.bytes (state_of index old).table) old.store new.store
  pub mirrors : Mirrors tells old.store new.store

pub none_is : {A : Type 0} (o : Option A) → is_some o ≡ false → o ≡ None
none_is None e = refl
none_is (Some k) e = absurd (false≢true (sym e))

one_on : (shape : Shape) (g addr len : ℕ) → count_on shape g ((addr, len) ∷ []) ≡ cond (nat_eq (logger_of shape addr) g) 1 0
one_on shape g addr len = go (nat_eq (logger_of shape addr) g)
  where
    go : (b : Bool) → length (cond b (let r : ℕ × ℕ = (addr, len) in r ∷ []) []) ≡ cond b 1 0
    go true = refl
    go false = refl

at_most_one : (b : Bool) → cond b 1 0 ≤ 4
at_most_one true = omega arith
at_most_one false = omega arith

module _ (tells : Bool) (Opens : List ℕ → List ℕ → Type 0) (index : Index) (laws : Laws index) (t slot : ℕ) (said : Slot) (old new : PagesView) (alive : IsAlive old.store) (rests : Rests tells index old)
    (table key : ℕ) (name : List ℕ) (called : IsTrue tells → IsCalled old.store.state.bytes table name) (of : IsOfKey table key (Some said)) (told_by : IsTrue tells → IsTold old.store) (ordered : IsOrdered (outline_of old)) (named : IsTrue tells → found_key (pairs_of index old.store.state.bytes) (of_table name key) ≡ Some slot)
    (reads : slot_said (slot_bytes said) ≡ Some said) (whole : length (slot_bytes said) ≡ 64) where
  addr : ℕ
  addr = 64 * (slots_of old.store.shape + slot)

  says_it : IsOfKey table key (slot_said (slot_bytes said))
  says_it = subst (λ (s : Option Slot). IsOfKey table key s) (sym reads) of

  key_is : IsTrue tells → (write_of old.store.state.bytes (64 * (slots_of old.store.shape + slot), slot_bytes said)).0 ≡ of_table name key
  key_is told = key_said old.store.state.bytes (slot_said (slot_bytes said)) table key name (called told) says_it

  part_is : IsTrue tells → IsSlotPart index old.store.state.bytes (64 * (slots_of old.store.shape + slot), slot_bytes said)
  part_is told = record {
    slot = slot;
    named = ap (found_key (pairs_of index old.store.state.bytes)) (key_is told) ∙ named told;
    place = omega (arith, (told_by told).long);
    size = whole;
    table = table;
    key = key;
    called = subst (λ (k : Key). IsCalled old.store.state.bytes table k.table) (sym (key_is told)) (called told);
    says = says_it;
  }

  floor_is : IsTrue tells → floor_in (outline_of old) t ≡ floor_of ((state_of index old).logs t)
  floor_is told =
      ap (λ (o : Outline). floor_in o t) (sym (outlined old (told_by told) ordered)) ∙ outline.floors (pages.state_of old) t ∙ floors index (pages.state_of old) t (rests.closed t)

  edits_is : IsTrue tells → is_some (edit_pos (floor_in (outline_of old) t) (64 * (slots_of old.store.shape + slot), length (slot_bytes said)) (listed (old.store.ranges t))) ≡ is_rewritten ((state_of index old).logs t) (of_table name key)
  edits_is told =
      (λ i. is_some (edit_pos (floor_is told i) (64 * (slots_of old.store.shape + slot), length (slot_bytes said)) ((ap listed ((told_by told).outlines t) ∙ listed-ranges (old.store.state.logs t)) i)))
      ∙ rewrites index laws old.store.state.bytes (rests.tied told).sound (64 * (slots_of old.store.shape + slot), slot_bytes said) (part_is told) (floor_of ((state_of index old).logs t)) (listed (old.store.state.logs t)) ((rests.tied told).parts t)
      ∙ ap (is_rewritten ((state_of index old).logs t)) (key_is told)

  write_time : {T : Type 0} (r : Result T PageFault) → Does tells Opens (write_as t (64 * (slots_of old.store.shape + slot)) (slot_bytes said)) old new r → IsTrue tells
      → LeavesOnly (λ image. OpensAs Opens index image old.store.state.bytes (state_of index old).table) old.store new.store
  write_time r does told = weaker (λ image either. record {
    bytes = old.store.state.bytes;
    opened = elim either [ inl before ↦ before | inr behind ↦ behind ];
    sound = (rests.tied told).sound;
    version = λ two. two;
    named = refl;
    shows = refl;
  }) (does.time told alive)

  pub wrote : {T : Type 0} (answer : T) → (let r : Result T PageFault = Ok answer in Does tells Opens (write_as t (64 * (slots_of old.store.shape + slot)) (slot_bytes said)) old new r)
      → Wrote tells Opens index t (of_table name key) (value_of (Some said)) slot old new
  wrote {T} answer does =
      let out = does.done.outline in
      let now = λ (told : IsTrue tells). does.done.state told in
      record {
        shape = does.shape;
        depth = does.depth;
        mirrors = does.mirrors;
        dead = does.done.alive ∙ sym alive;
        faults = does.kept;
        counts = ap (λ (o : Outline). o.counts) out;
        tops = ap (λ (o : Outline). o.top) out;
        others = λ u ne. does.others u ne;
        bytes = λ told. ap (λ (s : PagesState). s.store.bytes) (now told);
        state = λ told.
            ap (shown_by index) (now told)
            ∙ shown_write index laws (pages.state_of old) t (rests.tied told).sound (rests.closed t) (64 * (slots_of old.store.shape + slot), slot_bytes said) (part_is told) ((rests.tied told).parts t)
            ∙ (λ i. written (state_of index old) t (key_is told i) ((sym (value_is old.store.state.bytes (slot_said (slot_bytes said))) ∙ ap value_of reads) i));
        tied = λ told. record {
          sound = subst (λ (s : PagesState). index.sound s.store.bytes) (sym (now told)) (rests.tied told).sound;
          parts = λ u. subst (λ (s : PagesState). AreSlotParts index s.store.bytes (log_of s u)) (sym (now told))
              (parts_write index laws (pages.state_of old) t (rests.tied told).sound (rests.tied told).parts (64 * (slots_of old.store.shape + slot), slot_bytes said) (part_is told) u);
        };
        room = λ told anew g lt. subst (λ (n : ℕ). held_on old t g + n ≤ old.store.shape.entries) (one_on old.store.shape g (64 * (slots_of old.store.shape + slot)) (length (slot_bytes said)))
            (does.cause.1 (none_is _ (edits_is told ∙ anew)) g lt);
        time = write_time (let r : Result T PageFault = Ok answer in r) does;
      }

  pub write_failed : {T : Type 0} → (let r : Result T PageFault = Err Media in Does tells Opens (write_as t (64 * (slots_of old.store.shape + slot)) (slot_bytes said)) old new r) → Failed tells Opens index t old new
  write_failed {T} does = record {
    shape = does.shape;
    depth = does.depth;
    mirrors = does.mirrors;
    dies = (does.dies refl, does.cause.2);
    counts = does.marks.0;
    others = λ u ne. does.others u ne;
    time = write_time (let r : Result T PageFault = Err Media in r) does;
  }

  -- no logger has room
  pub write_short : {T : Type 0} (g h n : ℕ) → (let r : Result T PageFault = Err (LogFull g h n) in Does tells Opens (write_as t (64 * (slots_of old.store.shape + slot)) (slot_bytes said)) old new r)
      → IsShort old t g h n × (IsTrue tells → IsFull index t old (of_table name key) slot g h n)
  write_short g h n does =
      let full = first_unfit old.store.shape (listed (old.store.ranges t)) ((64 * (slots_of old.store.shape + slot), length (slot_bytes said)) ∷ []) g h n does.cause.1.1 in
      let one = one_on old.store.shape g (64 * (slots_of old.store.shape + slot)) (length (slot_bytes said)) in
      let most = at_most_one (nat_eq (logger_of old.store.shape (64 * (slots_of old.store.shape + slot))) g) in (
        (omega (arith, full.needed_is, one, most), (λ k. count_on old.store.shape k ((64 * (slots_of old.store.shape + slot), length (slot_bytes said)) ∷ [])), record { logger = full.logger; held_is = full.held_is; needed_is = full.needed_is; full = full.full; before = full.before }),
        λ told. (
          sym (edits_is told) ∙ ap is_some does.cause.1.0,
          record {
            logger = full.logger;
            held_is = full.held_is;
            needed_is = full.needed_is ∙ one;
            full = full.full;
            before = λ k lt. subst (λ (m : ℕ). held_on old t k + m ≤ old.store.shape.entries) (one_on old.store.shape k (64 * (slots_of old.store.shape + slot)) (length (slot_bytes said))) (full.before k lt);
          },
        ),
      )
