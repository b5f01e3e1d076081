-- A purge: keys without records, whose stripes no live transaction touches, are taken out of the index.
use Rattle.std.specs.Prelude.{ℕ, ◌≡◌, ◌<◌, ◌^◌, ◌⊎◌, Bool, true, false, if◌then◌else◌, IsTrue, IsFalse, List, [], ◌∷◌, length, map, filter, slice_get, Contains, Some, None, IsSome}
use Rattle.std.specs.List.{AllByRecursion}
use Rattle.std.specs.FinMap.{get}
use Rattle.history.specs.declared.key.Key.{Key}
use Rattle.history.specs.Locks.{Meets}
use Rattle.history.specs.declared.call.TableCall.TheVariants.{Del}
use Rattle.history.specs.declared.call.Reply.{Reply}
use Rattle.history.specs.declared.call.Reply.TheVariants.{Purged, Already, Media, Dead, Damaged}
use Rattle.index_keys.specs.Keys.{LosesKey}
use Rattle.caller_steps.specs.State.{State, Index, calls_of, records_of}
use Rattle.caller_steps.specs.Offers.{is_engaged}
use Rattle.caller_steps.specs.Room.{Limits}

-- a live transaction touches the stripe of this key
abbrev pub IsTouched : State → Key → Type 0
IsTouched state key = (caller : ℕ) × Meets state.names (Del key.table key.key) (calls_of state caller)

-- the index has the key, and there is no record of it
abbrev pub IsAbsent : State → Key → Type 0
IsAbsent state key = IsSome (state.index.keys.slot_of key) × (get (records_of state) key ≡ None)

-- an index has lost these keys, the last one first
abbrev pub Lost : Index → List Key → Index → Type 0
Lost first [] now = now ≡ first
Lost first (key ∷ keys) now = (before : Index) × Lost first keys before × LosesKey key before.keys now.keys

-- these keys have no record, and no live transaction touches them
abbrev pub AreFree : State → List Key → Type 0
AreFree state [] = Unit {0}
AreFree state (key ∷ keys) = (IsAbsent state key × (IsTouched state key → ⊥)) × AreFree state keys

-- a key that a purge tries, and whether it is lost then
abbrev pub Try : Type 0
Try = Key × Bool

-- those that were lost
abbrev pub lost_among : List Try → List Key
lost_among [] = []
lost_among (one ∷ tries) = if one.1 then one.0 ∷ lost_among tries else lost_among tries

-- the key is one of those tried
abbrev pub IsTried : Key → List (Key × Bool) → Type 0
IsTried key [] = ⊥
IsTried key (one ∷ tries) = (one.0 ≡ key) ⊎ IsTried key tries

-- so it is with each key that was tried
abbrev pub Each : (Key → Type 0) → List (Key × Bool) → Type 0
Each P tries = AllByRecursion (λ (one : Key × Bool). P one.0) tries

-- One key is tried before another: its table has the lower number, or it is the lower key of the same table.
abbrev pub ComesBefore : List (List ℕ) → Key → Key → Type 0
ComesBefore names one other = ((i : ℕ) × (j : ℕ) × (i < j) × (slice_get names i ≡ Some one.table) × (slice_get names j ≡ Some other.table))
    ⊎ ((one.table ≡ other.table) × (one.key < other.key))

-- keys tried in this order, so each once; the last one first
abbrev pub AreInOrder : List (List ℕ) → List (Key × Bool) → Type 0
AreInOrder names [] = Unit {0}
AreInOrder names (one ∷ tries) = AllByRecursion (λ (earlier : Key × Bool). ComesBefore names earlier.0 one.0) tries × AreInOrder names tries

-- What comes of a key: it is lost, if no live transaction touches it and the index does not keep it, as it is then. Else it stays.
abbrev pub Becomes : Limits → State → Key → Bool → Index → Index → Type 0
Becomes limits old key true before now = (IsTouched old key → ⊥) × IsFalse (limits.keeps before.bytes key)
    × LosesKey key before.keys now.keys
Becomes limits old key false before now = (IsTouched old key ⊎ IsTrue (limits.keeps before.bytes key)) × (now ≡ before)

-- what comes of keys that are tried one after another, the last one first
abbrev pub Tries : Limits → State → Index → List (Key × Bool) → Index → Type 0
Tries limits old first [] now = now ≡ first
Tries limits old first (one ∷ tries) now = (before : Index) × Tries limits old first tries before × Becomes limits old one.0 one.1 before now

-- Each key of the index that has no record is tried once, by rising table and key. Of n keys the index has lost each, and nothing else has changed:
-- no record, and no live transaction. Each key that has no record and is still in the index is touched, or the index keeps it as the last of a page.
pub record Purges (limits : Limits) (old : State) (n : ℕ) (new : State) : Type 0 where
  pub tried : List (Key × Bool)
  pub order : AreInOrder old.names tried
  pub absent : AllByRecursion (λ (one : Key × Bool). IsAbsent old one.0) tried
  pub all : (key : Key) → key.key < 2 ^ 64 → IsAbsent old key → Contains (map (λ (one : Key × Bool). one.0) tried) key
  pub count : n ≡ length (filter (λ (one : Key × Bool). one.1) tried)
  pub index : Index
  pub trail : Tries limits old old.index tried index
  pub same : new ≡ record old { index = index }
  pub left : (key : Key) → key.key < 2 ^ 64 → IsAbsent new key → IsTouched new key ⊎ IsTrue (limits.keeps new.index.bytes key)

-- Why a purge is answered so, over any store: the medium has failed before, or its caller has a transaction, or neither is the case. Then it took
-- keys out, the medium failed, or a page that was read breaks the layout.
abbrev pub PurgeCause : State → ℕ → Reply → Type 0
PurgeCause old caller Dead = old.is_dead ≡ true
PurgeCause old caller Already = (old.is_dead ≡ false) × IsTrue (is_engaged old caller)
PurgeCause old caller (Purged n) = (old.is_dead ≡ false) × IsFalse (is_engaged old caller)
PurgeCause old caller Media = (old.is_dead ≡ false) × IsFalse (is_engaged old caller)
PurgeCause old caller (Damaged page) = (old.is_dead ≡ false) × IsFalse (is_engaged old caller)
PurgeCause old caller reply = ⊥
