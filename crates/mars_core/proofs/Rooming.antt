-- The room of an array for writes, as callers see it.
use Rattle.std.proofs.Common.{◌≡◌, ◌≢◌, ◌≤◌, ◌<◌, ◌+◌, ◌*◌, ◌⊎◌, ℕ, inl, inr, Bool, true, false, cond, nat_eq, List, [], ◌∷◌, length, filter, map, ◌-◌, ◌%◌, Option, Some, None, unwrap_or, refl, sym, ap, subst, ◌∙◌, arith, eq-eqb, ne_eqb, eqb-true}
use Rattle.std.specs.Prelude.{IsSome, is_none, option_map, option_to_list, not}
use Rattle.std.specs.FinMap.{get}
use Rattle.std.proofs.lemmas.Bool.{cases_eq, true≢false}
use Rattle.mars_base.specs.Check.{Check, test, unless, each}
use Rattle.mars_base.proofs.Rooms.{full_told}
use Rattle.array_shape.specs.declared.shape.Shape.{Shape}
use Rattle.array_shape.proofs.Apart.{logger_below}
use Rattle.page_store.specs.Index.{slots_of, index_pages_of}
use Rattle.page_store.specs.Index as below
use Rattle.page_store.specs.Shown.{PagesView}
use Rattle.record_slots.specs.Places.{used_slots, slot_due}
use Rattle.history.specs.Key.{of_table}
use Rattle.history.specs.declared.key.Key.{Key}
use Rattle.history.specs.Writes.{Table, Write}
use Rattle.history.specs.Table.{IsRight}
use Rattle.history.specs.Log.{Log, log_of, log_after, save_at}
use Rattle.history.specs.Log as log
use Rattle.history.specs.declared.call.Call.TheVariants.{Table as OnTable}
use Rattle.history.specs.declared.call.TableCall.{TableCall}
use Rattle.history.specs.declared.call.TableCall.TheVariants.{Put, Del}
use Rattle.history.specs.declared.call.Reply.{Reply}
use Rattle.history.specs.declared.call.Reply.TheVariants.{Fine}
use Rattle.history.specs.declared.call.Reply.TheVariants as reply
use Rattle.history.proofs.Counting.{length-filter-rewritten, length-filter-anew}
use Rattle.record_table.proofs.States.{log_written}
use Rattle.record_table.specs.Causes as table_causes
use Rattle.record_table.specs.Shown.{state_of, pairs_of, keys_of, logger_of_slot, needed_on}
use Rattle.record_table.specs.Shown as shown
use Rattle.caller_steps.specs.State.{State, Index, calls_of, records_of, view_of}
use Rattle.caller_steps.specs.Room.{Action, Limits, is_slot_on, held_on, actions_fit, entry_fits, write_fits, room_for}
use Rattle.page_store.specs.Inserts as inserts
use Rattle.record_slots.specs.Names.{number_of}
use Rattle.record_table.specs.Names.{names_of}
use Rattle.mars_core.specs.TableCall.{number_for}
use Rattle.caller_steps.proofs.Holding.{is_write_on, AreNamed}
use Rattle.mars_core.specs.Over.{limits_of, index_of}
use Rattle.mars_core.proofs.Named.{by_number}
use Rattle.mars_core.specs.Kept.{Mirrors, HasHeld}
use Rattle.mars_core.proofs.Mirroring.{seen_is}

pub same_slot_on : (index : below.Index) (shape : Shape) (depth g : ℕ) (o : Option ℕ) → is_slot_on (limits_of index shape depth) g o ≡ shown.is_slot_on shape g o
same_slot_on index shape depth g None = refl
same_slot_on index shape depth g (Some slot) = refl

pub named_is : (index : Index) (pairs : List (Key × ℕ)) (writes : List Write) → ((key : Key) → index.keys.slot_of key ≡ shown.found_key pairs key) → shown.AreNamed pairs writes → AreNamed index writes
named_is index pairs [] same named = tt
named_is index pairs (write ∷ writes) same named = (subst (λ (o : Option ℕ). IsSome o) (sym (same write.0)) named.0, named_is index pairs writes same named.1)

-- a write of a key with this slot reuses the entry of a write since the last save, or finds a free entry
abbrev pub HasEntry : Limits → State → ℕ → Key → ℕ → Type 0
HasEntry limits old caller key slot = log.is_rewritten (log_of (calls_of old caller)) key ≡ false → held_on limits old caller (limits.logger_of slot) < limits.entries

-- the slot of a key, or the one that is due if the index lacks the key
abbrev slot_for : Index → Key → ℕ
slot_for index key = unwrap_or (index.keys.slot_of key) index.keys.due

-- the caller sees a record of the key
abbrev IsSeen : State → ℕ → Key → Type 0
IsSeen old caller key = IsSome (get (view_of old caller).table key)

-- actions as callers count them
abbrev actions_as : Shape → List below.Action → List Action
actions_as shape actions = map (λ (action : below.Action). record { takes = action.takes; needs = λ g. length (filter (λ page. nat_eq (page % shape.loggers) g) action.pages) }) actions

-- the actions of an insertion into the index of this table, if there is one
abbrev actions_at : below.Index → Shape → List ℕ → ℕ → Option ℕ → List Action
actions_at index shape bytes key o = actions_as shape (unwrap_or (option_map (λ table. table_causes.actions_in index bytes table key) o) [])

-- a test that is left out if so
unless_fits : {Bad : Type 0} (out : Bool) (Holds : Type 0) (told : Bad) → (out ≡ false → Holds) → unless out (test Holds told) None
unless_fits true Holds told has = tt
unless_fits false Holds told has = has refl

unless_fails : {Bad : Type 0} (out : Bool) (check : Check Bad) (bad : Bad) → out ≡ false → check (Some bad) → unless out check (Some bad)
unless_fails true check bad e fails = absurd (true≢false e)
unless_fails false check bad e fails = fails

unless_all : {Bad : Type 0} (out : Bool) (check : Check Bad) → (out ≡ false → check None) → unless out check None
unless_all true check fits = tt
unless_all false check fits = fits refl

-- if the call writes, there is an entry for it
abbrev pub HasEntryFor : Limits → State → ℕ → TableCall → Type 0
HasEntryFor limits old caller (Put name key value) = HasEntry limits old caller (of_table name key) (slot_for old.index (of_table name key))
HasEntryFor limits old caller (Del name key) = IsSeen old caller (of_table name key) → HasEntry limits old caller (of_table name key) (slot_for old.index (of_table name key))
HasEntryFor limits old caller _ = Unit {0}

-- A state s over what pages show, whose index is that of the data.
module _ (index : below.Index) (table : ℕ) (p : PagesView) (s : State) (indexed : s.index ≡ index_of index p.store.state.bytes) (mirrors : Mirrors (state_of index p) s)
    (held : (t g : ℕ) → shown.held_on p t g ≡ length (filter (shown.is_write_on p.store.shape (pairs_of index p.store.state.bytes) g) ((state_of index p).logs t).writes)) where
  -- what a logger holds
  pub held_is : (t g : ℕ) → held_on (limits_of index p.store.shape p.store.depth) s t g ≡ shown.held_on p t g
  held_is t g =
      ap (λ (ix : Index). length (filter (is_write_on (limits_of index p.store.shape p.store.depth) ix g) (log_of (calls_of s t)).writes)) indexed
      ∙ (λ i. length (filter (λ (write : Write). same_slot_on index p.store.shape p.store.depth g (shown.found_key (pairs_of index p.store.state.bytes) write.0) i) (sym (mirrors.logs t) i).writes))
      ∙ sym (held t g)

  anew_is : (t : ℕ) (key : Key) → log.is_rewritten (log_of (calls_of s t)) key ≡ table_causes.rewrites index p t key
  anew_is t key = ap (λ (l : Log). log.is_rewritten l key) (sym (mirrors.logs t))

  one_needed : (slot : ℕ) → needed_on p.store.shape slot (logger_of_slot p.store.shape slot) ≡ 1
  one_needed slot = ap (λ (b : Bool). cond b 1 0) (eq-eqb (logger_of_slot p.store.shape slot) (logger_of_slot p.store.shape slot) refl)

  -- a write finds an entry
  pub has_entry : (t : ℕ) (key : Key) (slot : ℕ) → table_causes.HasRoom index t p key slot → HasEntry (limits_of index p.store.shape p.store.depth) s t key slot
  has_entry t key slot room anew =
      let g = logger_of_slot p.store.shape slot in
      let fits = room (sym (anew_is t key) ∙ anew) g (logger_below p.store.shape (64 * (slots_of p.store.shape + slot))) in
      omega (arith, fits, one_needed slot, held_is t g)

  module _ (t : ℕ) (right : IsRight (records_of s) (calls_of s t)) where
    seen_to : (key : Key) → table_causes.IsSeen index p t key → IsSeen s t key
    seen_to key = subst (λ (table : Table). IsSome (get table key)) (seen_is (state_of index p) s mirrors t right)

    seen_from : (key : Key) → IsSeen s t key → table_causes.IsSeen index p t key
    seen_from key = subst (λ (table : Table). IsSome (get table key)) (sym (seen_is (state_of index p) s mirrors t right))

    put_fits : (key : Key) (o : Option ℕ) → table_causes.PutFits index table t key p o → HasEntry (limits_of index p.store.shape p.store.depth) s t key (unwrap_or o (slot_due p.store.state.bytes))
    put_fits key None fits = has_entry t key (slot_due p.store.state.bytes) fits.1
    put_fits key (Some slot) room = has_entry t key slot room

    slot_is : (key : Key) → unwrap_or (shown.found_key (pairs_of index p.store.state.bytes) key) (slot_due p.store.state.bytes) ≡ slot_for s.index key
    slot_is key = sym (ap (λ (ix : Index). slot_for ix key) indexed)

    pub entry_is : (call : TableCall) → table_causes.Fits index table p t (OnTable call) → HasEntryFor (limits_of index p.store.shape p.store.depth) s t call
    entry_is (Put name key value) fits =
        subst (λ (slot : ℕ). HasEntry (limits_of index p.store.shape p.store.depth) s t (of_table name key) slot) (slot_is (of_table name key)) (put_fits (of_table name key) (shown.found_key (pairs_of index p.store.state.bytes) (of_table name key)) fits)
    entry_is (Del name key) fits = λ seen_there.
        let at = fits (seen_from (of_table name key) seen_there) in
        subst (λ (slot : ℕ). HasEntry (limits_of index p.store.shape p.store.depth) s t (of_table name key) slot)
        (sym (ap (λ (o : Option ℕ). unwrap_or o (slot_due p.store.state.bytes)) at.1) ∙ slot_is (of_table name key)) (has_entry t (of_table name key) at.0 at.2)
    entry_is _ fits = tt

    -- Refusals of a full array, if no logger holds more than it has entries for.
    module _ (room : HasHeld (limits_of index p.store.shape p.store.depth) s) where
      -- a slot's logger is full
      slot_full : (key : Key) (slot g h n : ℕ) → table_causes.IsFull index t p key slot g h n → entry_fits (limits_of index p.store.shape p.store.depth) s t key slot (Some (reply.LogFull g h n))
      slot_full key slot g h n full = unless_fails (log.is_rewritten (log_of (calls_of s t)) key) _ (reply.LogFull g h n) (anew_is t key ∙ full.0) (go (cases_eq (logger_of_slot p.store.shape slot) g))
        where
          some : 1 ≤ n
          some = omega (arith, full.1.full, full.1.held_is, held_is t g, room t g)

          go : (logger_of_slot p.store.shape slot ≡ g) ⊎ (logger_of_slot p.store.shape slot ≢ g) → (held_on (limits_of index p.store.shape p.store.depth) s t (logger_of_slot p.store.shape slot) < p.store.shape.entries → ⊥)
              × (reply.LogFull g h n ≡ reply.LogFull (logger_of_slot p.store.shape slot) (held_on (limits_of index p.store.shape p.store.depth) s t (logger_of_slot p.store.shape slot)) 1)
          go (inr ne) = absurd (
              let none : n ≡ 0 = full.1.needed_is ∙ ap (λ (b : Bool). cond b 1 0) (ne_eqb (logger_of_slot p.store.shape slot) g ne) in
              omega (arith, none, some)
              )
          go (inl e) =
              let one : n ≡ 1 = full.1.needed_is ∙ ap (λ (b : Bool). cond b 1 0) (eq-eqb (logger_of_slot p.store.shape slot) g e) in
              let same : held_on (limits_of index p.store.shape p.store.depth) s t (logger_of_slot p.store.shape slot) ≡ held_on (limits_of index p.store.shape p.store.depth) s t g = ap (λ (k : ℕ). held_on (limits_of index p.store.shape p.store.depth) s t k) e in
              let held_there : h ≡ held_on (limits_of index p.store.shape p.store.depth) s t (logger_of_slot p.store.shape slot) = full.1.held_is ∙ sym (held_is t g) ∙ sym same in (
                λ few. omega (arith, few, same, held_is t g, full.1.held_is, full.1.full, one),
                λ i. reply.LogFull (sym e i) (held_there i) (one i),
              )

      -- The actions of an insertion fit as the records say.
      abbrev held_below : ℕ → ℕ
      held_below = shown.held_on p t

      holds : held_below ≡ held_on (limits_of index p.store.shape p.store.depth) s t
      holds = λ i k. sym (held_is t k) i

      all_fit : (left : ℕ) (actions : List below.Action) → inserts.AllFit p.store t left actions → actions_fit (limits_of index p.store.shape p.store.depth) held_below left (actions_as p.store.shape actions) None
      all_fit left [] fit = tt
      all_fit left (action ∷ later) (fits, fit) = (fits.0, (fits.1, all_fit (left - action.takes) later fit))

      lack_pages : (left : ℕ) (actions : List below.Action) → inserts.LackPages p.store t left actions
          → actions_fit (limits_of index p.store.shape p.store.depth) held_below left (actions_as p.store.shape actions) (Some (reply.PagesFull (index_pages_of p.store.shape - 1)))
      lack_pages left [] lacks = absurd lacks
      lack_pages left (action ∷ later) (inl few) = inl (λ enough. omega (arith, few, enough), refl)
      lack_pages left (action ∷ later) (inr (fits, lacks)) = inr (fits.0, inr (fits.1, lack_pages (left - action.takes) later lacks))

      lack_room : (g h n left : ℕ) (actions : List below.Action) → inserts.LackRoom p.store t g h n left actions
          → actions_fit (limits_of index p.store.shape p.store.depth) held_below left (actions_as p.store.shape actions) (Some (reply.LogFull g h n))
      lack_room g h n left [] lacks = absurd lacks
      lack_room g h n left (action ∷ later) (inl (some, lacks)) = inr (
        some,
        inl (full_told p.store.shape.loggers p.store.shape.entries held_below (λ k. length (filter (λ page. nat_eq (page % p.store.shape.loggers) k) action.pages)) reply.LogFull g h n lacks),
      )
      lack_room g h n left (action ∷ later) (inr (fits, lacks)) = inr (fits.0, inr (fits.1, lack_room g h n (left - action.takes) later lacks))

      -- in terms of the state
      module _ (key : Key) (number : number_of (names_of p.store.state.bytes) key.table ≡ Some table) where
        actions_is : actions_as p.store.shape (table_causes.actions_in index p.store.state.bytes table key.key) ≡ (limits_of index p.store.shape p.store.depth).actions s.index.bytes key
        actions_is = ap (actions_at index p.store.shape p.store.state.bytes key.key) (sym number)
            ∙ ap (actions_as p.store.shape) (sym (by_number (λ (root : Option ℕ). unwrap_or (option_map (λ r. index.actions p.store.state.bytes r key.key) root) []) [] key.table p.store.state.bytes))
            ∙ ap (λ (ix : Index). (limits_of index p.store.shape p.store.depth).actions ix.bytes key) (sym indexed)

        left_is : inserts.pages_left p.store.shape p.store.state.bytes ≡ index_pages_of p.store.shape - s.index.keys.used_pages
        left_is = ap (λ (ix : Index). index_pages_of p.store.shape - ix.keys.used_pages) (sym indexed)

        moved : (verdict : Option Reply) → actions_fit (limits_of index p.store.shape p.store.depth) held_below (inserts.pages_left p.store.shape p.store.state.bytes) (actions_as p.store.shape (table_causes.actions_in index p.store.state.bytes table key.key)) verdict
            → actions_fit (limits_of index p.store.shape p.store.depth) (held_on (limits_of index p.store.shape p.store.depth) s t) (index_pages_of p.store.shape - s.index.keys.used_pages) ((limits_of index p.store.shape p.store.depth).actions s.index.bytes key) verdict
        moved verdict is = subst (λ (x : (ℕ → ℕ) × ℕ × List Action). actions_fit (limits_of index p.store.shape p.store.depth) x.0 x.1 x.2 verdict) (λ i. (holds i, left_is i, actions_is i)) is

        due_is : slot_due p.store.state.bytes ≡ s.index.keys.due
        due_is = ap (λ (ix : Index). ix.keys.due) (sym indexed)

      -- a slot is left
      slot_left : used_slots p.store.state.bytes < slots_of p.store.shape → s.index.keys.used_slots ≢ slots_of p.store.shape
      slot_left left all = let same : used_slots p.store.state.bytes ≡ slots_of p.store.shape = ap (λ (ix : Index). ix.keys.used_slots) (sym indexed) ∙ all in omega (arith, left, same)

      fits_entry : (key : Key) (slot : ℕ) → HasEntry (limits_of index p.store.shape p.store.depth) s t key slot → entry_fits (limits_of index p.store.shape p.store.depth) s t key slot None
      fits_entry key slot has = unless_fits (log.is_rewritten (log_of (calls_of s t)) key) _ _ has

      put_lacks : (key : Key) → number_of (names_of p.store.state.bytes) key.table ≡ Some table → (g h n : ℕ) (o : Option ℕ) → table_causes.PutLacks index table t key p g h n o
          → write_fits (limits_of index p.store.shape p.store.depth) s t key o (Some (reply.LogFull g h n))
      put_lacks key number g h n None (inl comes) =
          inr (slot_left comes.0, inl (moved key number (Some (reply.LogFull g h n)) (lack_room g h n _ (table_causes.actions_in index p.store.state.bytes table key.key) comes.1)))
      put_lacks key number g h n None (inr (comes, full)) = inr (
        slot_left comes.0,
        inr (
          moved key number None (all_fit _ (table_causes.actions_in index p.store.state.bytes table key.key) comes.1),
          subst (λ (slot : ℕ). entry_fits (limits_of index p.store.shape p.store.depth) s t key slot (Some (reply.LogFull g h n))) (due_is key number) (slot_full key (slot_due p.store.state.bytes) g h n full),
        ),
      )
      put_lacks key number g h n (Some slot) full = slot_full key slot g h n full

      found_is : (key : Key) → shown.found_key (pairs_of index p.store.state.bytes) key ≡ s.index.keys.slot_of key
      found_is key = sym (ap (λ (ix : Index). ix.keys.slot_of key) indexed)

      fits_at : (key : Key) → number_of (names_of p.store.state.bytes) key.table ≡ Some table → (o : Option ℕ) → table_causes.PutFits index table t key p o → write_fits (limits_of index p.store.shape p.store.depth) s t key o None
      fits_at key number None (comes, room) = (
        slot_left comes.0,
        (
          moved key number None (all_fit _ (table_causes.actions_in index p.store.state.bytes table key.key) comes.1),
          subst (λ (slot : ℕ). entry_fits (limits_of index p.store.shape p.store.depth) s t key slot None) (due_is key number) (fits_entry key (slot_due p.store.state.bytes) (has_entry t key (slot_due p.store.state.bytes) room)),
        ),
      )
      fits_at key number (Some slot) room = fits_entry key slot (has_entry t key slot room)

      -- the caller sees a record that it removes
      seen_some : (key : Key) → is_none (get (view_of s t).table key) ≡ false → IsSeen s t key
      seen_some key some = go (get (view_of s t).table key) some
        where
          go : (o : Option (List ℕ)) → is_none o ≡ false → IsSome o
          go None e = absurd (true≢false e)
          go (Some value) e = refl

      none_seen : (key : Key) → IsSeen s t key → is_none (get (view_of s t).table key) ≡ false
      none_seen key some = ap not some

      pub fits_is : (call : TableCall) → number_for (names_of p.store.state.bytes) call ≡ Some table → table_causes.Fits index table p t (OnTable call) → room_for (limits_of index p.store.shape p.store.depth) s t call None
      fits_is (Put name key value) number fits = subst (λ (o : Option ℕ). write_fits (limits_of index p.store.shape p.store.depth) s t (of_table name key) o None) (found_is (of_table name key)) (fits_at (of_table name key) number (shown.found_key (pairs_of index p.store.state.bytes) (of_table name key)) fits)
      fits_is (Del name key) number fits = unless_all (is_none (get (view_of s t).table (of_table name key))) _ (λ some.
          let at = fits (seen_from (of_table name key) (seen_some (of_table name key) some)) in
          subst (λ (o : Option ℕ). each (entry_fits (limits_of index p.store.shape p.store.depth) s t (of_table name key)) (option_to_list o) None) (sym at.1 ∙ found_is (of_table name key))
          (fits_entry (of_table name key) at.0 (has_entry t (of_table name key) at.0 at.2), tt))
      fits_is _ number fits = tt

      pub log_lacks : (call : TableCall) (g h n : ℕ) → number_for (names_of p.store.state.bytes) call ≡ Some table → table_causes.Lacks index table p g h n t (OnTable call) → table_causes.MayLack p g h n t (OnTable call)
          → room_for (limits_of index p.store.shape p.store.depth) s t call (Some (reply.LogFull g h n))
      log_lacks (Put name key value) g h n number lacks short = subst (λ (o : Option ℕ). write_fits (limits_of index p.store.shape p.store.depth) s t (of_table name key) o (Some (reply.LogFull g h n))) (found_is (of_table name key))
          (put_lacks (of_table name key) number g h n (shown.found_key (pairs_of index p.store.state.bytes) (of_table name key)) lacks)
      log_lacks (Del name key) g h n number (seen_there, slot, at, full) short =
          unless_fails (is_none (get (view_of s t).table (of_table name key))) _ (reply.LogFull g h n) (none_seen (of_table name key) (seen_to (of_table name key) seen_there))
          (subst (λ (o : Option ℕ). each (entry_fits (limits_of index p.store.shape p.store.depth) s t (of_table name key)) (option_to_list o) (Some (reply.LogFull g h n))) (sym at ∙ found_is (of_table name key))
          (inl (slot_full (of_table name key) slot g h n full)))
      log_lacks _ g h n number lacks short = absurd short

      pub slot_lacks : (call : TableCall) (n : ℕ) → table_causes.LacksSlot index p n (OnTable call) → n ≡ slots_of p.store.shape
          → room_for (limits_of index p.store.shape p.store.depth) s t call (Some (reply.SlotsFull n))
      slot_lacks (Put name key value) n lacks most = subst (λ (o : Option ℕ). write_fits (limits_of index p.store.shape p.store.depth) s t (of_table name key) o (Some (reply.SlotsFull n))) (sym lacks.0 ∙ found_is (of_table name key))
          (inl (λ left. left (ap (λ (ix : Index). ix.keys.used_slots) indexed ∙ lacks.1 ∙ most), ap (λ (k : ℕ). reply.SlotsFull k) most))
      slot_lacks _ n lacks most = absurd lacks

      pub page_lacks : (call : TableCall) (n : ℕ) → number_for (names_of p.store.state.bytes) call ≡ Some table → table_causes.LacksPage index table p t (OnTable call) → n ≡ (limits_of index p.store.shape p.store.depth).index_pages - 1
          → room_for (limits_of index p.store.shape p.store.depth) s t call (Some (reply.PagesFull n))
      page_lacks (Put name key value) n number lacks most = subst (λ (k : ℕ). room_for (limits_of index p.store.shape p.store.depth) s t (Put name key value) (Some (reply.PagesFull k))) (sym most)
          (subst (λ (o : Option ℕ). write_fits (limits_of index p.store.shape p.store.depth) s t (of_table name key) o (Some (reply.PagesFull (index_pages_of p.store.shape - 1)))) (sym lacks.0 ∙ found_is (of_table name key))
          (inr (slot_left lacks.1.0, inl (moved (of_table name key) number (Some (reply.PagesFull (index_pages_of p.store.shape - 1))) (lack_pages _ (table_causes.actions_in index p.store.state.bytes table key) lacks.1.1)))))
      page_lacks _ n number lacks most = absurd lacks

-- a write that finds an entry leaves no logger with more than it has entries for
module _ (limits : Limits) (ix : Index) (write : Write) (slot : ℕ) (at : ix.keys.slot_of write.0 ≡ Some slot) (l : Log)
    (has : log.is_rewritten l write.0 ≡ false → length (filter (is_write_on limits ix (limits.logger_of slot)) l.writes) < limits.entries) where
  pub written_room : (g : ℕ) → length (filter (is_write_on limits ix g) l.writes) ≤ limits.entries → length (filter (is_write_on limits ix g) (log_written l write).writes) ≤ limits.entries
  written_room g room = go (log.is_rewritten l write.0) refl
    where
      alike : (one other : Write) → one.0 ≡ other.0 → is_write_on limits ix g one ≡ is_write_on limits ix g other
      alike one other same = ap (λ (k : Key). is_slot_on limits g (ix.keys.slot_of k)) same

      on : (b : Bool) → nat_eq (limits.logger_of slot) g ≡ b → length (filter (is_write_on limits ix (limits.logger_of slot)) l.writes) < limits.entries
          → length (filter (is_write_on limits ix g) l.writes) + cond b 1 0 ≤ limits.entries
      on false no_slot few = omega (arith, room)
      on true here few =
          let same : length (filter (is_write_on limits ix (limits.logger_of slot)) l.writes) ≡ length (filter (is_write_on limits ix g) l.writes) =
          ap (λ (k : ℕ). length (filter (is_write_on limits ix k) l.writes)) (eqb-true (limits.logger_of slot) g here) in
          omega (arith, few, same)

      go : (b : Bool) → log.is_rewritten l write.0 ≡ b → length (filter (is_write_on limits ix g) (log_written l write).writes) ≤ limits.entries
      go true is = subst (λ (n : ℕ). n ≤ limits.entries) (sym (length-filter-rewritten (is_write_on limits ix g) alike write (log.floor_of l) l.writes is)) room
      go false is = subst (λ (n : ℕ). n ≤ limits.entries)
          (sym (length-filter-anew (is_write_on limits ix g) alike write (log.floor_of l) l.writes is ∙ ap (λ (o : Option ℕ). length (filter (is_write_on limits ix g) l.writes) + cond (is_slot_on limits g o) 1 0) at))
          (on (nat_eq (limits.logger_of slot) g) refl (has is))
