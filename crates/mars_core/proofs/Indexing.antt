-- What a call does to the index, as callers see it.
use Rattle.std.proofs.Common.{◌≡◌, ◌≢◌, ◌≤◌, ◌⊎◌, ℕ, inl, inr, List, length, Option, Some, None, unwrap_or, Result, Ok, Err, refl, sym, ap, subst, ◌∙◌, arith}
use Rattle.std.specs.Prelude.{IsFalse, IsSome, option_map}
use Rattle.record_slots.specs.Places.{used_slots, next_page}
use Rattle.array_shape.specs.declared.shape.Shape.{Shape}
use Rattle.array_shape.specs.Places.{data_len}
use Rattle.page_store.specs.Index as below
use Rattle.history.specs.Key.{of_table}
use Rattle.history.specs.declared.key.Key.{Key}
use Rattle.history.specs.declared.call.Call.TheVariants.{Table as OnTable}
use Rattle.history.specs.declared.call.TableCall.{TableCall}
use Rattle.history.specs.declared.call.TableCall.TheVariants.{Put}
use Rattle.history.specs.declared.call.Reply.{Reply}
use Rattle.history.specs.declared.call.Reply.TheVariants.{Fine}
use Rattle.history.specs.declared.call.Reply.TheVariants as reply
use Rattle.record_table.specs.State.{Keys}
use Rattle.index_keys.specs.Keys.{GainsKey, KeepsKeys, TakesPages}
use Rattle.record_table.specs.Does.{IndexedAt, Indexed, is_failed}
use Rattle.record_table.specs.declared.fault.TableFault.{TableFault}
use Rattle.record_table.specs.declared.fault.TableFault.TheVariants.{SlotsFull, PagesFull, SavesFull, LogFull, Media, Dead, Damaged, NoMemory}
use Rattle.caller_steps.specs.State.{Index}
use Rattle.caller_steps.specs.Room.{Limits, GainsWithin, TakesWithin, IndexesAt, Indexes}
use Rattle.caller_steps.proofs.AtKeys.{at_key, at_other_key}
use Rattle.history.proofs.Keys.{cases_key}
use Rattle.record_slots.specs.Names.{number_of}
use Rattle.record_table.specs.Names.{names_of}
use Rattle.record_table.specs.Shown.{keys_of}
use Rattle.mars_core.specs.TableCall.{number_for}
use Rattle.mars_core.specs.Over.{limits_of, index_of}
use Rattle.mars_core.proofs.Named.{index_with, index_is}
use Rattle.record_table.specs.Faults.{reply_to}

-- no more slots are in use, and no more pages given out, than an array of this shape has
pub record IsWithin (shape : Shape) (keys : Keys) : Type 0 where
  pub slots : keys.used_slots ≤ below.slots_of shape
  pub pages : keys.next_page ≤ below.index_pages_of shape

pub is_within : (shape : Shape) (bytes : List ℕ) (keys : Keys) → length bytes ≡ data_len shape → below.HasCounts bytes
    → keys.used_slots ≡ used_slots bytes → keys.next_page ≡ next_page bytes → IsWithin shape keys
is_within shape bytes keys long counts s p = record { slots = omega (arith, counts.slots, long, s); pages = omega (arith, counts.pages, long, p) }

-- the call inserts no key
abbrev pub InsertsNone : Keys → TableCall → Type 0
InsertsNone keys (Put name key value) = IsSome (keys.slot_of (of_table name key))
InsertsNone keys call = Unit {0}

some_none : {X : Type 0} (slot : ℕ) → Some slot ≡ None → X
some_none slot e = absurd (cc)

-- how many levels of inner pages the index of this table has; none if there is no such table
abbrev level_of : Keys → Option ℕ → ℕ
level_of keys o = unwrap_or (option_map keys.levels o) 0

module _ (index : below.Index) (shape : Shape) (depth table : ℕ) (names : List (List ℕ)) (a b : List ℕ) (old new : Keys) (within : IsWithin shape new)
    (once : (one other : Key) (slot : ℕ) → new.slot_of one ≡ Some slot → new.slot_of other ≡ Some slot → one ≡ other) where
  both : new ≡ old → b ≡ a → index_with names b new ≡ index_with names a old
  both keys bytes = λ i. index_with names (bytes i) (keys i)

  level_rises : (o : Option ℕ) → ((j : ℕ) → old.levels j ≤ new.levels j) → level_of old o ≤ level_of new o
  level_rises None rises = omega arith
  level_rises (Some j) rises = rises j

  takes : TakesPages old new → TakesWithin (limits_of index shape depth) (index_with names a old) (index_with names b new)
  takes t = record {
    later = t.later;
    few = t.few;
    most = within.pages;
    used = t.used;
    levels = λ name. level_rises (number_of names name) t.levels;
  }

  keeps : KeepsKeys old new → KeepsKeys (index_with names a old).keys (index_with names b new).keys
  keeps k = record { slot_of = k.slot_of; slots = k.slots; due = k.due }

  -- no key had the slot that was due
  was_free : (key : Key) → old.slot_of key ≡ None → GainsKey key old new → (other : Key) → old.slot_of other ≢ Some old.due
  was_free key none g other had = elim (cases_key key other) [
    | inl same ↦ some_none old.due (sym had ∙ ap old.slot_of (sym same) ∙ none)
    | inr apart ↦
        apart (once key other old.due (ap (λ (f : Key → Option ℕ). f key) g.slot_of ∙ at_key old.slot_of key (Some old.due))
        (ap (λ (f : Key → Option ℕ). f other) g.slot_of ∙ at_other_key old.slot_of key (Some old.due) other (λ e. apart (sym e)) ∙ had))
  ]

  gains : (key : Key) → old.slot_of key ≡ None → GainsKey key old new
      → GainsWithin (limits_of index shape depth) key (index_with names a old) (index_with names b new)
  gains key none g = record {
    left = omega (arith, g.slots, within.slots);
    free = was_free key none g;
    slot_of = g.slot_of;
    slots = g.slots;
  }

  refused_at : (T : Type 0) (key : Key) (asked : number_of names key.table ≡ Some table) (o : Option ℕ) → old.slot_of key ≡ o → (IsSome o → b ≡ a) → (f : TableFault) → (let r : Result T TableFault = Err f in IsFalse (is_failed r))
      → (let r : Result T TableFault = Err f in IndexedAt table key o old new r) → IndexesAt (limits_of index shape depth) key o (reply_to f) (index_with names a old) (index_with names b new)
  refused_at T key asked (Some slot) is quiet f well same = both same (quiet refl)
  refused_at T key asked None is quiet (LogFull g h n) well (t, inl k) = (takes t, inl (keeps k))
  refused_at T key asked None is quiet (LogFull g h n) well (t, inr k) = (takes t, inr (gains key is k))
  refused_at T key asked None is quiet (PagesFull n) well (t, k, inl few) = (takes t, keeps k, inl few)
  refused_at T key asked None is quiet (PagesFull n) well (t, k, inr high) = (takes t, keeps k, inr (subst (λ (o : Option ℕ). 7 ≤ level_of new o) (sym asked) high))
  refused_at T key asked None is quiet (SlotsFull n) well (t, k) = (takes t, keeps k)
  refused_at T key asked None is quiet SavesFull well (t, k) = (takes t, keeps k)
  refused_at T key asked None is quiet Media well x = absurd (cc)
  refused_at T key asked None is quiet Dead well (t, k) = (takes t, keeps k)
  refused_at T key asked None is quiet (Damaged page) well (t, k) = (takes t, keeps k)
  refused_at T key asked None is quiet NoMemory well (t, k) = (takes t, keeps k)

  granted_at : {T : Type 0} (key : Key) (o : Option ℕ) → old.slot_of key ≡ o → (IsSome o → b ≡ a) → (answer : T)
      → (let r : Result T TableFault = Ok answer in IndexedAt table key o old new r) → IndexesAt (limits_of index shape depth) key o Fine (index_with names a old) (index_with names b new)
  granted_at key (Some slot) is quiet answer same = both same (quiet refl)
  granted_at key None is quiet answer (t, k) = (takes t, gains key is k)

  -- a refusal
  pub indexes_refused : (T : Type 0) (call : TableCall) (f : TableFault) → number_for names call ≡ Some table → (InsertsNone old call → b ≡ a) → (let r : Result T TableFault = Err f in IsFalse (is_failed r))
      → (let r : Result T TableFault = Err f in Indexed table (OnTable call) old new r) → Indexes (limits_of index shape depth) call (reply_to f) (index_with names a old) (index_with names b new)
  indexes_refused T (Put name key value) f asked quiet well indexed = refused_at T (of_table name key) asked (old.slot_of (of_table name key)) refl quiet f well indexed
  indexes_refused T _ f asked quiet well same = both same (quiet tt)

  -- a granted call
  pub indexes_granted : {T : Type 0} (call : TableCall) (answer : T) (told : Reply) → (InsertsNone old call → b ≡ a) → ((name : List ℕ) (key : ℕ) (value : List ℕ) → call ≡ Put name key value → told ≡ Fine)
      → (let r : Result T TableFault = Ok answer in Indexed table (OnTable call) old new r) → Indexes (limits_of index shape depth) call told (index_with names a old) (index_with names b new)
  indexes_granted (Put name key value) answer told quiet fine indexed =
      subst (λ (r : Reply). IndexesAt (limits_of index shape depth) (of_table name key) (old.slot_of (of_table name key)) r (index_with names a old) (index_with names b new)) (sym (fine name key value refl)) (granted_at (of_table name key) (old.slot_of (of_table name key)) refl quiet answer indexed)
  indexes_granted _ answer told quiet fine same = both same (quiet tt)

-- so it is with the indexes in data whose tables have the same names
pub indexes_shown : (limits : Limits) (call : TableCall) (told : Reply) (index : below.Index) (a b : List ℕ) → names_of b ≡ names_of a
    → Indexes limits call told (index_with (names_of a) a (keys_of index a)) (index_with (names_of a) b (keys_of index b)) → Indexes limits call told (index_of index a) (index_of index b)
indexes_shown limits call told index a b same is =
    subst (λ (x : Index). Indexes limits call told x (index_of index b)) (sym (index_is index a))
    (subst (λ (x : Index). Indexes limits call told (index_with (names_of a) a (keys_of index a)) x)
    (ap (λ (names : List (List ℕ)). index_with names b (keys_of index b)) (sym same) ∙ sym (index_is index b)) is)

-- the keys stay, or the index gains one that it lacked
abbrev pub Slots : Limits → Index → Index → Type 0
Slots limits old new = (new.keys.slot_of ≡ old.keys.slot_of) ⊎ ((key : Key) × (old.keys.slot_of key ≡ None) × GainsWithin limits key old new)

inserts_slots : (limits : Limits) (key : Key) (answer : Reply) (old new : Index) → old.keys.slot_of key ≡ None → IndexesAt limits key None answer old new → Slots limits old new
inserts_slots limits key Fine old new none (t, k) = inr (key, none, k)
inserts_slots limits key (reply.LogFull g h n) old new none (t, inl k) = inl k.slot_of
inserts_slots limits key (reply.LogFull g h n) old new none (t, inr k) = inr (key, none, k)
inserts_slots limits key (reply.PagesFull n) old new none (t, k, most) = inl k.slot_of
inserts_slots limits key (reply.Found value) old new none (t, k) = inl k.slot_of
inserts_slots limits key reply.Absent old new none (t, k) = inl k.slot_of
inserts_slots limits key (reply.Listed rows) old new none (t, k) = inl k.slot_of
inserts_slots limits key (reply.Saved n) old new none (t, k) = inl k.slot_of
inserts_slots limits key (reply.Committed n) old new none (t, k) = inl k.slot_of
inserts_slots limits key (reply.Purged n) old new none (t, k) = inl k.slot_of
inserts_slots limits key reply.NoTable old new none (t, k) = inl k.slot_of
inserts_slots limits key reply.NoTransaction old new none (t, k) = inl k.slot_of
inserts_slots limits key reply.Already old new none (t, k) = inl k.slot_of
inserts_slots limits key (reply.NoSave n) old new none (t, k) = inl k.slot_of
inserts_slots limits key reply.SavesFull old new none (t, k) = inl k.slot_of
inserts_slots limits key (reply.Busy h) old new none (t, k) = inl k.slot_of
inserts_slots limits key (reply.SlotsFull n) old new none (t, k) = inl k.slot_of
inserts_slots limits key reply.Media old new none (t, k) = inl k.slot_of
inserts_slots limits key reply.Dead old new none (t, k) = inl k.slot_of
inserts_slots limits key reply.NoMemory old new none (t, k) = inl k.slot_of
inserts_slots limits key (reply.Damaged page) old new none (t, k) = inl k.slot_of

at_slots : (limits : Limits) (key : Key) (o : Option ℕ) (answer : Reply) (old new : Index) → old.keys.slot_of key ≡ o → IndexesAt limits key o answer old new → Slots limits old new
at_slots limits key None answer old new is inserts = inserts_slots limits key answer old new is inserts
at_slots limits key (Some slot) answer old new is same = inl (ap (λ (x : Index). x.keys.slot_of) same)

pub indexes_slots : (limits : Limits) (call : TableCall) (answer : Reply) (old new : Index) → Indexes limits call answer old new → Slots limits old new
indexes_slots limits (Put name key value) answer old new indexes = at_slots limits (of_table name key) (old.keys.slot_of (of_table name key)) answer old new refl indexes
indexes_slots limits _ answer old new same = inl (ap (λ (x : Index). x.keys.slot_of) same)

-- after a granted put the index has the key, with the slot that it had or the one that was due
pub slot_after : (limits : Limits) (key : Key) (o : Option ℕ) (old new : Index) → old.keys.slot_of key ≡ o → IndexesAt limits key o Fine old new
    → (slot : ℕ) × (new.keys.slot_of key ≡ Some slot) × (slot ≡ unwrap_or o old.keys.due)
slot_after limits key None old new is (t, k) = (old.keys.due, ap (λ (f : Key → Option ℕ). f key) k.slot_of ∙ at_key old.keys.slot_of key (Some old.keys.due), refl)
slot_after limits key (Some slot) old new is same = (slot, ap (λ (x : Index). x.keys.slot_of key) same ∙ is, refl)
