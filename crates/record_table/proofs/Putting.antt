-- A put: the key is looked up in the index, inserted if it is new, and its slot is written.
use Rattle.std.proofs.Common.{◌≡◌, ◌≢◌, ◌^◌, ℕ, suc, ◌+◌, ◌-◌, ◌*◌, ◌<◌, ◌≤◌, Bool, true, false, cond, inl, inr, IsTrue, List, [], ◌∷◌, length, Result, Ok, Err, refl, sym, ◌∙◌, ap, subst, arith}
use Rattle.std.specs.Prelude.{filter, Option, Some, None, is_some, IsFalse}
use Rattle.std.specs.Option.{option_map, unwrap_or}
use Rattle.std.specs.FinMap.{get}
use Rattle.std.proofs.lemmas.Bool.{false≢true}
use Rattle.array_shape.specs.declared.shape.Shape.{Shape}
use Rattle.eaw_face.specs.State.{listed, count_on}
use Rattle.eaw_face.specs.StoreView.{StoreView}
use Rattle.eaw_face.specs.Causes.{IsAlive}
use Rattle.record_slots.specs.Slots.{slot_said, slot_bytes}
use Rattle.record_slots.specs.Places.{used_slots, slot_due, root_of, IsOfKey}
use Rattle.record_slots.specs.declared.slot.Slot.{Slot}
use Rattle.record_slots.specs.declared.slot.Slot.TheVariants.{Absent, Present}
use Rattle.page_store.specs.Command.{write_as}
use Rattle.page_store.specs.Does as page_does
use Rattle.page_store.specs.Fits.{FitAll, IsFirstLacking, held_on, needed_on, is_page_on}
use Rattle.page_store.specs.Index.{Action, Index, IsTable, slots_of, index_pages_of, Grows}
use Rattle.page_store.specs.Index as face
use Rattle.page_store.specs.Inserts.{AllFit, LackPages, LackRoom, Inserts, pages_left, is_insert_failed}
use Rattle.page_store.specs.Inserts as face_inserts
use Rattle.history.specs.Table as history
use Rattle.history.specs.declared.call.Call.{Call}
use Rattle.history.specs.declared.call.Call.TheVariants.{Table as OnTable}
use Rattle.history.specs.declared.call.TableCall.TheVariants.{Put, Del}
use Rattle.history.specs.declared.call.Reply.{Reply}
use Rattle.history.specs.declared.call.Reply.TheVariants.{Fine}
use Rattle.page_store.specs.Kept.{IsOrdered}
use Rattle.page_store.specs.Pairs.{found}
use Rattle.page_store.specs.Records.{value_of}
use Rattle.page_store.specs.Shown.{PagesView, outline_of}
use Rattle.page_store.specs.declared.fault.PageFault.{PageFault}
use Rattle.page_store.specs.declared.fault.PageFault.TheVariants as fault
use Rattle.page_store.specs.declared.index_fault.IndexFault.{IndexFault}
use Rattle.page_store.specs.declared.index_fault.IndexFault.TheVariants as insert
use Rattle.page_store.proofs.Shown.{IsTold}
use Rattle.record_table.specs.Calls.{Replies, after, saves_after}
use Rattle.record_table.specs.Causes.{actions_in, ComesTo, MaySave, Fits, Lacks, MayLack, HasRoom, IsFull, PutFits, PutLacks, IsSeen, IsShort, slot_in}
use Rattle.record_table.specs.Does.{Does, Indexed, IndexedAt, Inserted, IsQuiet, replied}
use Rattle.record_table.specs.Faults.{as_table, told_as, inserted_as}
use Rattle.record_table.specs.Invariant.{Rests, Holds}
use Rattle.record_table.specs.Shown.{found_key, state_of, pairs_of, keys_of}
use Rattle.record_table.specs.Sought.{LooksAs}
use Rattle.index_keys.specs.Keys.{GainsKey, KeepsKeys, TakesPages}
use Rattle.record_table.specs.State.{Keys, seen_by}
use Rattle.history.specs.Key.{of_table}
use Rattle.record_table.specs.Names.{IsCalled}
use Rattle.record_table.proofs.States.{written}
use Rattle.record_table.specs.declared.fault.TableFault.{TableFault}
use Rattle.record_table.specs.declared.fault.TableFault.TheVariants.{SlotsFull, PagesFull, LogFull, Damaged}
use Rattle.record_table.proofs.Doing.{look_bytes, look_keys, does_moved, does_wrote, does_failed, holds_dead, holds_moved, room_behind, full_behind, short_behind}
use Rattle.record_table.proofs.Moving.{Moved, moved_by_look, moved_then, failed_then, rests_moved, moved_by_insert, failed_by_insert, found_due}
use Rattle.record_table.proofs.Sharing.{Laws, level_under, called_same, found_in, named_there, takes, keeps, gains_key}
use Rattle.record_table.proofs.Wrote.{wrote, write_failed, write_short}

-- stores of one shape whose parts lie at the same places
module _ (a b : StoreView) (t : ℕ) (shape : b.shape ≡ a.shape) (ranges : listed (b.ranges t) ≡ listed (a.ranges t)) where
  held_same : (pages : List ℕ) (g : ℕ) → held_on b t g + needed_on b pages g ≡ held_on a t g + needed_on a pages g
  held_same pages g = λ i. count_on (shape i) g (ranges i) + length (filter (is_page_on (shape i).loggers g) pages)

  fit_same : (pages : List ℕ) → FitAll b t pages → FitAll a t pages
  fit_same pages fit g lt = subst (λ (s : Shape). held_on a t g + needed_on a pages g ≤ s.entries) shape (subst (λ (n : ℕ). n ≤ b.shape.entries) (held_same pages g) (fit g (subst (λ (s : Shape). g < s.loggers) (sym shape) lt)))

  pub lacking_same : (pages : List ℕ) (g h n : ℕ) → IsFirstLacking b t pages g h n → IsFirstLacking a t pages g h n
  lacking_same pages g h n lacks = record {
    logger = subst (λ (s : Shape). g < s.loggers) shape lacks.logger;
    held_is = lacks.held_is ∙ (λ i. count_on (shape i) g (ranges i));
    needed_is = lacks.needed_is ∙ ap (λ (s : Shape). length (filter (is_page_on s.loggers g) pages)) shape;
    full = subst (λ (s : Shape). s.entries < h + n) shape lacks.full;
    before = λ k lt. subst (λ (s : Shape). held_on a t k + needed_on a pages k ≤ s.entries) shape (subst (λ (m : ℕ). m ≤ b.shape.entries) (held_same pages k) (lacks.before k lt));
  }

  all_same : (left : ℕ) (acts : List Action) → AllFit b t left acts → AllFit a t left acts
  all_same left [] fit = tt
  all_same left (x ∷ xs) fit = ((fit.0.0, fit_same x.pages fit.0.1), all_same (left - x.takes) xs fit.1)

  pages_same : (left : ℕ) (acts : List Action) → LackPages b t left acts → LackPages a t left acts
  pages_same left [] lack = absurd lack
  pages_same left (x ∷ xs) lack = elim lack [ inl few ↦ inl few | inr more ↦ inr ((more.0.0, fit_same x.pages more.0.1), pages_same (left - x.takes) xs more.1) ]

  room_same : (g h n left : ℕ) (acts : List Action) → LackRoom b t g h n left acts → LackRoom a t g h n left acts
  room_same g h n left [] lack = absurd lack
  room_same g h n left (x ∷ xs) lack = elim lack [
    | inl here ↦ inl (here.0, lacking_same x.pages g h n here.1)
    | inr more ↦ inr ((more.0.0, fit_same x.pages more.0.1), room_same g h n (left - x.takes) xs more.1)
  ]

  module _ (index : Index) (table root key : ℕ) (same : b.state.bytes ≡ a.state.bytes) (named : IsTable a.state.bytes table root) where
    acts_are : actions_in index a.state.bytes table key ≡ index.actions a.state.bytes root key
    acts_are = ap (λ (o : Option ℕ). unwrap_or (option_map (λ root. index.actions a.state.bytes root key) o) []) named

    comes : (B A : ℕ → List Action → Type 0) → ((left : ℕ) (acts : List Action) → B left acts → A left acts) → face_inserts.ComesTo index root key b B → ComesTo index table key a A
    comes B A over to = (
      subst (λ (s : Shape). used_slots a.state.bytes < slots_of s) shape (subst (λ (d : List ℕ). used_slots d < slots_of b.shape) same to.0),
      over _ _ (subst (λ (acts : List Action). B (pages_left a.shape a.state.bytes) acts) (sym acts_are)
          (subst (λ (s : Shape). B (pages_left s a.state.bytes) (index.actions a.state.bytes root key)) shape (subst (λ (d : List ℕ). B (pages_left b.shape d) (index.actions d root key)) same to.1))),
    )

    pub comes_fit : face_inserts.ComesTo index root key b (AllFit b t) → ComesTo index table key a (AllFit a t)
    comes_fit = comes (AllFit b t) (AllFit a t) all_same

    pub comes_pages : face_inserts.ComesTo index root key b (LackPages b t) → ComesTo index table key a (LackPages a t)
    comes_pages = comes (LackPages b t) (LackPages a t) pages_same

    pub comes_room : (g h n : ℕ) → face_inserts.ComesTo index root key b (LackRoom b t g h n) → ComesTo index table key a (LackRoom a t g h n)
    comes_room g h n = comes (LackRoom b t g h n) (LackRoom a t g h n) (room_same g h n)

-- the reply to a call whose last step is a write
abbrev pub answered : Reply → Result (Unit {0}) PageFault → Result Reply TableFault
answered x (Ok done) = Ok x
answered x (Err f) = Err (as_table f)

pub told_is_answered : (r : Result (Unit {0}) PageFault) → replied {T = Unit {0}} (λ done. Fine) (told_as r) ≡ answered Fine r
told_is_answered (Ok tt) = refl
told_is_answered (Err f) = refl

-- a write to a slot, after only the index has changed
module _ (tells : Bool) (Opens : List ℕ → List ℕ → Type 0) (index : Index) (laws : Laws index) (table t key : ℕ) (name : List ℕ) (c : Call) (said : Slot) (of : IsOfKey table key (Some said)) (old : PagesView) (alive : IsAlive old.store) (holds : Holds tells index old)
    (called : IsTrue tells → IsCalled old.store.state.bytes table name) (mid : PagesView) (moved : Moved tells Opens index t old mid) (new : PagesView) (slot : ℕ) (named : IsTrue tells → found_key (pairs_of index mid.store.state.bytes) (of_table name key) ≡ Some slot)
    (told_by : IsTrue tells → IsTold mid.store) (ordered : IsOrdered (outline_of mid)) (reads : slot_said (slot_bytes said) ≡ Some said) (whole : length (slot_bytes said) ≡ 64)
    (x : Reply) (may : MaySave old t c) (short : (g h n : ℕ) → IsShort old t g h n → MayLack old g h n t c)
    (fits : IsTrue tells → HasRoom index t old (of_table name key) slot → Fits index table old t c)
    (lacks : IsTrue tells → (g h n : ℕ) → IsFull index t old (of_table name key) slot g h n → Lacks index table old g h n t c)
    (replies : IsTrue tells → Replies (state_of index old) t c x)
    (one : IsTrue tells → after t c x (state_of index old) ≡ written (state_of index old) t (of_table name key) (value_of (Some said)))
    (indexed : IsTrue tells → (let r : Result Reply TableFault = Ok x in Indexed table c (keys_of index old.store.state.bytes) (keys_of index mid.store.state.bytes) r))
    (indexed_full : IsTrue tells → (g h n : ℕ) → (let r : Result Reply TableFault = Err (LogFull g h n) in Indexed table c (keys_of index old.store.state.bytes) (keys_of index mid.store.state.bytes) r))
    (quiet : IsTrue tells → IsQuiet index old t c → mid.store.state.bytes ≡ old.store.state.bytes) (saves : length (old.counts t) ≡ saves_after c (length (old.counts t))) where
  mid_alive : IsAlive mid.store
  mid_alive = moved.dead ∙ alive

  mid_rests : Rests tells index mid
  mid_rests = rests_moved tells Opens index t old mid (holds alive) moved

  called_mid : IsTrue tells → IsCalled mid.store.state.bytes table name
  called_mid told = called_same old.store.state.bytes mid.store.state.bytes (moved.tables told) table name (called told)

  pub slot_written : (r : Result (Unit {0}) PageFault) → page_does.Does tells Opens (write_as t (64 * (slots_of mid.store.shape + slot)) (slot_bytes said)) mid new r
      → ((f : PageFault) → r ≡ Err f → f ≢ fault.Media → new ≡ mid) → Does tells Opens index table t c old new (answered x r) × Holds tells index new
  slot_written (Ok tt) does same =
      let w = wrote tells Opens index laws t slot said mid new mid_alive mid_rests table key name called_mid of told_by ordered named reads whole tt does in (
        does_wrote tells Opens index table t c old new x mid (of_table name key) slot (value_of (Some said)) moved w
            (alive, may, λ told. fits told (room_behind tells Opens index table t c old new mid moved told (of_table name key) slot (w.room told))) replies one indexed quiet saves,
        λ living. record { closed = λ u. ap (λ (f : ℕ → Option ℕ). f u) w.tops ∙ mid_rests.closed u; tied = w.tied },
      )
  slot_written (Err fault.Media) does same =
      let failed = write_failed tells Opens index laws t slot said mid new mid_alive mid_rests table key name called_mid of told_by ordered named reads whole does in
      (does_failed tells Opens index table t c old new alive (failed_then tells Opens index t old mid new moved failed), holds_dead tells Opens index table t c old new failed.dies.0)
  slot_written (Err fault.Dead) does same = absurd (false≢true (sym mid_alive ∙ does.cause))
  slot_written (Err fault.SavesFull) does same = absurd does.cause.1
  slot_written (Err (fault.Damaged bad)) does same = absurd does.cause
  slot_written (Err (fault.LogFull g h n)) does same =
      let full = write_short tells Opens index laws t slot said mid new mid_alive mid_rests table key name called_mid of told_by ordered named reads whole g h n does in
      let e = same (fault.LogFull g h n) refl (λ x. cc) in (
        subst (λ (v : PagesView). Does tells Opens index table t c old v (Err (LogFull g h n))) (sym e)
            (does_moved tells Opens index table t c old mid (Err (LogFull g h n)) alive refl moved (
              alive,
              short g h n (short_behind tells Opens index table t c old new mid moved g h n full.0),
              λ told. lacks told g h n (full_behind tells Opens index table t c old new mid moved told (of_table name key) slot g h n (full.1 told)),
            )
            (λ told. tt) (λ told. indexed_full told g h n) quiet tt),
        subst (Holds tells index) (sym e) (λ living. mid_rests),
      )

-- a record that is seen is removed
module _ (tells : Bool) (Opens : List ℕ → List ℕ → Type 0) (index : Index) (laws : Laws index) (table t key : ℕ) (name : List ℕ) (old : PagesView) (alive : IsAlive old.store) (holds : Holds tells index old) (called : IsTrue tells → IsCalled old.store.state.bytes table name) (mid : PagesView)
    (looks : LooksAs tells Opens t false old mid) (new : PagesView) (slot : ℕ) (named : IsTrue tells → slot_in index old (of_table name key) ≡ Some slot) (seen : IsTrue tells → IsSeen index old t (of_table name key))
    (told_by : IsTrue tells → IsTold mid.store) (ordered : IsOrdered (outline_of mid)) (reads : slot_said (slot_bytes (Absent table key)) ≡ Some (Absent table key)) (whole : length (slot_bytes (Absent table key)) ≡ 64) where
  found_fine : (o : Option (List ℕ)) → is_some o ≡ true → Fine ≡ history.removed o
  found_fine None some = absurd (false≢true some)
  found_fine (Some value) some = refl

  pub removed : (r : Result (Unit {0}) PageFault) → page_does.Does tells Opens (write_as t (64 * (slots_of mid.store.shape + slot)) (slot_bytes (Absent table key))) mid new r
      → ((f : PageFault) → r ≡ Err f → f ≢ fault.Media → new ≡ mid) → Does tells Opens index table t (OnTable (Del name key)) old new (answered Fine r) × Holds tells index new
  removed =
      let keys = look_keys tells Opens index table t (OnTable (Del name key)) old mid holds looks in
      slot_written tells Opens index laws table t key name (OnTable (Del name key)) (Absent table key) (refl, refl) old alive holds called mid (moved_by_look tells Opens index t old mid alive (holds alive) looks) new slot
      (λ told. ap (λ (k : Keys). k.slot_of (of_table name key)) (keys told) ∙ named told) told_by ordered reads whole Fine tt (λ g h n short. short)
      (λ told room was. (slot, named told, room)) (λ told g h n full. (seen told, slot, named told, full))
      (λ told. found_fine (get (seen_by (state_of index old) t) (of_table name key)) (seen told)) (λ told. refl) keys (λ told g h n. keys told)
      (λ told _. look_bytes tells Opens index table t (OnTable (Del name key)) old mid holds looks told) refl

pub filter_short : (f : ℕ → Bool) (xs : List ℕ) → length (filter f xs) ≤ length xs
filter_short f [] = omega arith
filter_short f (x ∷ xs) = go (f x) (filter_short f xs)
  where
    go : (b : Bool) → length (filter f xs) ≤ length xs → length (cond b (x ∷ filter f xs) (filter f xs)) ≤ suc (length xs)
    go true le = omega arith
    go false le = omega arith

module _ (tells : Bool) (Opens : List ℕ → List ℕ → Type 0) (index : Index) (laws : Laws index) (table root t key : ℕ) (name : List ℕ) (value : List ℕ) (old : PagesView) (alive : IsAlive old.store) (holds : Holds tells index old)
    (called : IsTrue tells → IsCalled old.store.state.bytes table name)
    (there : IsTrue tells → IsTable old.store.state.bytes table root) (mid : PagesView) (looks : LooksAs tells Opens t false old mid) where
  keys : IsTrue tells → keys_of index mid.store.state.bytes ≡ keys_of index old.store.state.bytes
  keys = look_keys tells Opens index table t (OnTable (Put name key value)) old mid holds looks

  same_data : IsTrue tells → mid.store.state.bytes ≡ old.store.state.bytes
  same_data = look_bytes tells Opens index table t (OnTable (Put name key value)) old mid holds looks

  first : Moved tells Opens index t old mid
  first = moved_by_look tells Opens index t old mid alive (holds alive) looks

  -- a key that the index has
  module _ (new : PagesView) (slot : ℕ) (named : IsTrue tells → slot_in index old (of_table name key) ≡ Some slot) (told_by : IsTrue tells → IsTold mid.store) (ordered : IsOrdered (outline_of mid))
      (reads : slot_said (slot_bytes (Present table key value)) ≡ Some (Present table key value)) (whole : length (slot_bytes (Present table key value)) ≡ 64) where
    pub put_known : (r : Result (Unit {0}) PageFault) → page_does.Does tells Opens (write_as t (64 * (slots_of mid.store.shape + slot)) (slot_bytes (Present table key value))) mid new r
        → ((f : PageFault) → r ≡ Err f → f ≢ fault.Media → new ≡ mid) → Does tells Opens index table t (OnTable (Put name key value)) old new (answered Fine r) × Holds tells index new
    put_known = slot_written tells Opens index laws table t key name (OnTable (Put name key value)) (Present table key value) (refl, refl) old alive holds called mid first new slot (λ told. ap (λ (k : Keys). k.slot_of (of_table name key)) (keys told) ∙ named told) told_by ordered reads whole
        Fine tt
        (λ g h n short. short) (λ told room. subst (PutFits index table t (of_table name key) old) (sym (named told)) room) (λ told g h n full. subst (PutLacks index table t (of_table name key) old g h n) (sym (named told)) full) (λ told. refl) (λ told. refl)
        (λ told. subst (λ (o : Option ℕ). (let r : Result Reply TableFault = Ok Fine in IndexedAt table (of_table name key) o (keys_of index old.store.state.bytes) (keys_of index mid.store.state.bytes) r)) (sym (named told)) (keys told))
        (λ told g h n. subst (λ (o : Option ℕ). (let r : Result Reply TableFault = Err (LogFull g h n) in IndexedAt table (of_table name key) o (keys_of index old.store.state.bytes) (keys_of index mid.store.state.bytes) r)) (sym (named told)) (keys told)) (λ told _. same_data told) refl

  -- a new key
  module _ (absent : IsTrue tells → found (index.pairs old.store.state.bytes root) key ≡ None) (far : PagesView) (reads_absent : slot_said (slot_bytes (Absent table key)) ≡ Some (Absent table key)) where
    called_there : IsTrue tells → IsCalled mid.store.state.bytes table name
    called_there told = subst (λ (d : List ℕ). IsCalled d table name) (sym (same_data told)) (called told)

    there_still : IsTrue tells → IsTable mid.store.state.bytes table root
    there_still told = subst (λ (d : List ℕ). IsTable d table root) (sym (same_data told)) (there told)

    absent_there : IsTrue tells → found (index.pairs mid.store.state.bytes root) key ≡ None
    absent_there told = ap (λ (d : List ℕ). found (index.pairs d root) key) (same_data told) ∙ absent told

    absent_all : IsTrue tells → slot_in index old (of_table name key) ≡ None
    absent_all told = found_in index laws old.store.state.bytes table root key name ((holds alive).tied told).sound (called told) (there told) ∙ absent told

    mid_lives : IsAlive mid.store
    mid_lives = first.dead ∙ alive

    mid_holds : Rests tells index mid
    mid_holds = rests_moved tells Opens index t old mid (holds alive) first

    mid_sound : (told : IsTrue tells) → index.sound mid.store.state.bytes
    mid_sound told = (mid_holds.tied told).sound

    -- the call writes into the data
    loud : IsTrue tells → IsQuiet index old t (OnTable (Put name key value)) → far.store.state.bytes ≡ old.store.state.bytes
    loud told some = absurd (false≢true (sym (ap is_some (absent_all told)) ∙ some))

    same_ranges : listed (mid.store.ranges t) ≡ listed (old.store.ranges t)
    same_ranges = first.ranges t

    takes_of : (told : IsTrue tells) → Grows index root mid.store.state.bytes far.store.state.bytes → TakesPages (keys_of index old.store.state.bytes) (keys_of index far.store.state.bytes)
    takes_of told grows = subst (λ (k : Keys). TakesPages k (keys_of index far.store.state.bytes)) (keys told) (takes index laws mid.store.state.bytes far.store.state.bytes table root (mid_sound told) (there_still told) grows)

    -- the key was inserted, and its slot is written
    module _ (slot : ℕ) (inserts : (let r : Result ℕ IndexFault = Ok slot in Inserts tells Opens index t root table key mid far r)) (new : PagesView) (told_by : IsTrue tells → IsTold far.store) (ordered : IsOrdered (outline_of far))
        (reads : slot_said (slot_bytes (Present table key value)) ≡ Some (Present table key value)) (whole : length (slot_bytes (Present table key value)) ≡ 64) where
      second : Moved tells Opens index t mid far
      second = moved_by_insert tells Opens index laws t table root key name reads_absent mid far mid_lives mid_holds called_there there_still absent_there (let r : Result ℕ IndexFault = Ok slot in r) inserts refl

      slot_is : IsTrue tells → slot ≡ slot_due old.store.state.bytes
      slot_is told = (inserts.made told mid_lives).0 ∙ ap (λ (d : List ℕ). slot_due d) (same_data told)

      pub put_new : (r : Result (Unit {0}) PageFault) → page_does.Does tells Opens (write_as t (64 * (slots_of far.store.shape + slot)) (slot_bytes (Present table key value))) far new r
          → ((f : PageFault) → r ≡ Err f → f ≢ fault.Media → new ≡ far) → Does tells Opens index table t (OnTable (Put name key value)) old new (answered Fine r) × Holds tells index new
      put_new = slot_written tells Opens index laws table t key name (OnTable (Put name key value)) (Present table key value) (refl, refl) old alive holds called far (moved_then tells Opens index t old mid far first second) new slot
          (λ told. let made = inserts.made told mid_lives in found_due index laws table root key name mid.store.state.bytes far.store.state.bytes (called_there told) (mid_sound told) (there_still told) (absent_there told) made.1 made.2 ∙ ap Some (sym made.0))
          told_by ordered reads whole Fine tt (λ g h n short. short)
          (λ told room. subst (PutFits index table t (of_table name key) old) (sym (absent_all told)) (fit told, subst (HasRoom index t old (of_table name key)) (slot_is told) room))
          (λ told g h n full. subst (PutLacks index table t (of_table name key) old g h n) (sym (absent_all told)) (inr (fit told, subst (λ (s : ℕ). IsFull index t old (of_table name key) s g h n) (slot_is told) full)))
          (λ told. refl) (λ told. refl)
          (λ told. subst (λ (o : Option ℕ). (let r : Result Reply TableFault = Ok Fine in IndexedAt table (of_table name key) o (keys_of index old.store.state.bytes) (keys_of index far.store.state.bytes) r)) (sym (absent_all told)) (taken told, gains told))
          (λ told g h n. subst (λ (o : Option ℕ). (let r : Result Reply TableFault = Err (LogFull g h n) in IndexedAt table (of_table name key) o (keys_of index old.store.state.bytes) (keys_of index far.store.state.bytes) r)) (sym (absent_all told)) (taken told, inr (gains told)))
          loud refl
        where
          fit : IsTrue tells → ComesTo index table key old.store (AllFit old.store t)
          fit told = comes_fit old.store mid.store t first.shape same_ranges index table root key (same_data told) (there told) (inserts.cause.2 told)

          taken : IsTrue tells → TakesPages (keys_of index old.store.state.bytes) (keys_of index far.store.state.bytes)
          taken told = takes_of told (inserts.made told mid_lives).1

          gains : IsTrue tells → GainsKey (of_table name key) (keys_of index old.store.state.bytes) (keys_of index far.store.state.bytes)
          gains told =
              let made = inserts.made told mid_lives in
              subst (λ (k : Keys). GainsKey (of_table name key) k (keys_of index far.store.state.bytes)) (keys told)
              (gains_key index laws mid.store.state.bytes far.store.state.bytes table root (mid_sound told) (there_still told) made.1 name (called_there told) key (absent_there told) made.2)

    -- the insertion was refused
    refused : (f : IndexFault) → (let r : Result ℕ IndexFault = Err f in IsFalse (is_insert_failed r)) → (let r : Result ℕ IndexFault = Err f in Inserts tells Opens index t root table key mid far r) → Moved tells Opens index t old far
    refused f well inserts =
        moved_then tells Opens index t old mid far first (moved_by_insert tells Opens index laws t table root key name reads_absent mid far mid_lives mid_holds called_there there_still absent_there (let r : Result ℕ IndexFault = Err f in r) inserts well)

    kept_keys : (told : IsTrue tells) → Grows index root mid.store.state.bytes far.store.state.bytes → face.Rests index root mid.store.state.bytes far.store.state.bytes
        → TakesPages (keys_of index old.store.state.bytes) (keys_of index far.store.state.bytes) × KeepsKeys (keys_of index old.store.state.bytes) (keys_of index far.store.state.bytes)
    kept_keys told grows rests = (
      takes_of told grows,
      subst (λ (k : Keys). KeepsKeys k (keys_of index far.store.state.bytes)) (keys told) (keeps index laws mid.store.state.bytes far.store.state.bytes table root (mid_sound told) (there_still told) grows rests),
    )

    at_none : (f : TableFault) → IsTrue tells → (let r : Result Reply TableFault = Err f in Inserted table (of_table name key) (keys_of index old.store.state.bytes) (keys_of index far.store.state.bytes) r)
        → (let r : Result Reply TableFault = Err f in IndexedAt table (of_table name key) (slot_in index old (of_table name key)) (keys_of index old.store.state.bytes) (keys_of index far.store.state.bytes) r)
    at_none f told inserted =
        subst (λ (o : Option ℕ). (let r : Result Reply TableFault = Err f in IndexedAt table (of_table name key) o (keys_of index old.store.state.bytes) (keys_of index far.store.state.bytes) r)) (sym (absent_all told)) inserted

    -- the level of the table after it
    level_is : (told : IsTrue tells) → Grows index root mid.store.state.bytes far.store.state.bytes → level_under index far.store.state.bytes (root_of far.store.state.bytes table) ≡ index.level far.store.state.bytes root
    level_is told grows = ap (level_under index far.store.state.bytes) (named_there index laws mid.store.state.bytes far.store.state.bytes table root (mid_sound told) (there_still told) grows table root (there_still told))

    pub put_refused : (f : IndexFault) → (let r : Result ℕ IndexFault = Err f in Inserts tells Opens index t root table key mid far r)
        → (let r : Result Reply TableFault = Err (inserted_as f) in Does tells Opens index table t (OnTable (Put name key value)) old far r) × Holds tells index far
    put_refused insert.Media inserts =
        let failed = failed_then tells Opens index t old mid far first
        (failed_by_insert tells Opens index laws t table root key name reads_absent mid far mid_lives mid_holds called_there there_still absent_there (let r : Result ℕ IndexFault = Err insert.Media in r) inserts refl) in
        (does_failed tells Opens index table t (OnTable (Put name key value)) old far alive failed, holds_dead tells Opens index table t (OnTable (Put name key value)) old far failed.dies.0)
    put_refused insert.Dead inserts = absurd (false≢true (sym mid_lives ∙ inserts.cause))
    put_refused (insert.Damaged bad) inserts =
        let moved = refused (insert.Damaged bad) refl inserts in
        let r : Result Reply TableFault = Err (Damaged bad) in (
          does_moved tells Opens index table t (OnTable (Put name key value)) old far r alive refl moved (alive, tt, inserts.cause.1) (λ told. tt) (λ told. absurd (inserts.cause.1 told)) loud tt,
          holds_moved tells Opens index table t (OnTable (Put name key value)) old far holds alive moved,
        )
    put_refused (insert.SlotsFull n) inserts =
        let moved = refused (insert.SlotsFull n) refl inserts in
        let r : Result Reply TableFault = Err (SlotsFull n) in (
          does_moved tells Opens index table t (OnTable (Put name key value)) old far r alive refl moved
              (alive, tt, inserts.cause.1 ∙ ap slots_of first.shape, λ told. (absent_all told, ap (λ (d : List ℕ). used_slots d) (sym (same_data told)) ∙ inserts.cause.2 told)) (λ told. tt)
              (λ told. let made = inserts.made told mid_lives in at_none (SlotsFull n) told (kept_keys told made.0 made.1)) loud tt,
          holds_moved tells Opens index table t (OnTable (Put name key value)) old far holds alive moved,
        )
    put_refused (insert.PagesFull n) inserts =
        let moved = refused (insert.PagesFull n) refl inserts in
        let r : Result Reply TableFault = Err (PagesFull n) in (
          does_moved tells Opens index table t (OnTable (Put name key value)) old far r alive refl moved
              (alive, tt, inserts.cause.1 ∙ ap (λ (s : Shape). index_pages_of s - 1) first.shape, λ told. (absent_all told, comes_pages old.store mid.store t first.shape same_ranges index table root key (same_data told) (there told) (inserts.cause.2 told)))
              (λ told. tt)
              (λ told. let made = inserts.made told mid_lives in let k = kept_keys told made.0 made.1 in
              at_none (PagesFull n) told (k.0, k.1, elim made.2 [ inl out ↦ inl out | inr high ↦ inr (subst (λ (l : ℕ). 7 ≤ l) (sym (level_is told made.0)) high) ])) loud tt,
          holds_moved tells Opens index table t (OnTable (Put name key value)) old far holds alive moved,
        )
    put_refused (insert.LogFull g h n) inserts =
        let moved = refused (insert.LogFull g h n) refl inserts in
        let full = inserts.cause.1 in
        let lacks = lacking_same old.store mid.store t first.shape same_ranges full.0 g h n full.2 in
        let few = filter_short (is_page_on old.store.shape.loggers g) full.0 in
        let r : Result Reply TableFault = Err (LogFull g h n) in (
          does_moved tells Opens index table t (OnTable (Put name key value)) old far r alive refl moved (
            alive,
            (omega (arith, lacks.needed_is, few, full.1), (λ k. length (filter (is_page_on old.store.shape.loggers k) full.0)), record { logger = lacks.logger; held_is = lacks.held_is; needed_is = lacks.needed_is; full = lacks.full; before = lacks.before }),
            λ told. subst (PutLacks index table t (of_table name key) old g h n) (sym (absent_all told))
                (inl (comes_room old.store mid.store t first.shape same_ranges index table root key (same_data told) (there told) g h n (inserts.cause.2 told))),
          ) (λ told. tt)
              (λ told. let made = inserts.made told mid_lives in let k = kept_keys told made.0 made.1 in at_none (LogFull g h n) told (k.0, inl k.1)) loud tt,
          holds_moved tells Opens index table t (OnTable (Put name key value)) old far holds alive moved,
        )
