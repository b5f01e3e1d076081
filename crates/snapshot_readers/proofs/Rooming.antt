-- Rooms for values, and the records that they stand for.
use Rattle.std.proofs.Common.{◌≡◌, ℕ, Bool, true, false, cond, List, [], ◌∷◌, Option, Some, None, refl, sym, ap, subst, ◌∙◌}
use Rattle.std.specs.Prelude.{is_some, IsSome}
use Rattle.std.specs.Ordering.{eq_by_cmp}
use Rattle.std.specs.FinMap.{get, get-empty}
use Rattle.std.specs.BTreeMap as tree
use Rattle.std.specs.BTreeMap.{BTreeMap, is_at}
use Rattle.std.specs.Map.{lookup}
use Rattle.std.proofs.lemmas.Bool.{true≢false}
use Rattle.history.specs.Key.{key_cmp, is_same_key}
use Rattle.history.specs.declared.key.Key.{Key}
use Rattle.history.specs.Writes.{Write, set_or_remove}
use Rattle.history.proofs.Keys.{tied, same_turned, same_key}
use Rattle.history.proofs.Agreeing.{get-set, same_table, remove_absent}
use Rattle.snapshot_readers.specs.Rooms.{table_in, HasRoom, room_cmp}

abbrev pub Rooms : Type 0
Rooms = BTreeMap Key (Option (List ℕ))

-- the value in a room, if there is one
abbrev pub flat : Option (Option (List ℕ)) → Option (List ℕ)
flat None = None
flat (Some value) = value

flat_cond : (b : Bool) (here rest : Option (Option (List ℕ))) → flat (cond b here rest) ≡ cond b (flat here) (flat rest)
flat_cond true here rest = refl
flat_cond false here rest = refl

room_tied : (q k : Key) → is_at (room_cmp q) k ≡ is_same_key k q
unfolding key_cmp
room_tied q k = tied q k

-- a room is of the key that a change is of
turned : (key q : Key) → is_at (room_cmp key) q ≡ is_same_key key q
turned key q = room_tied key q ∙ same_turned q key

-- what is found in the records is the value in the room of the key
pub get-table_in : (rooms : List Write) (q : Key) → get (table_in rooms) q ≡ flat (lookup (is_at (room_cmp q)) rooms)
get-table_in [] q = get-empty key_cmp q
get-table_in (room ∷ rooms) q =
    get-set (table_in rooms) room.0 room.1 q
    ∙ ap (cond (is_same_key room.0 q) room.1) (get-table_in rooms q)
    ∙ ap (λ (b : Bool). cond b room.1 (flat (lookup (is_at (room_cmp q)) rooms))) (sym (room_tied q room.0))
    ∙ sym (flat_cond (is_at (room_cmp q) room.0) (Some room.1) (lookup (is_at (room_cmp q)) rooms))

-- a change of one room is a write of its key
changed_room : (old new : Rooms) (key : Key) (room : Option (Option (List ℕ))) → tree.Updates room_cmp old new key room
    → table_in new.entries ≡ set_or_remove (table_in old.entries) key (flat room)
changed_room old new key room updates = same_table (table_in new.entries) (set_or_remove (table_in old.entries) key (flat room)) (λ q.
    get-table_in new.entries q
    ∙ ap flat (updates.0 q ∙ ap (λ (b : Bool). cond b room (tree.get room_cmp old q)) (turned key q))
    ∙ flat_cond (is_same_key key q) room (tree.get room_cmp old q)
    ∙ ap (cond (is_same_key key q) (flat room)) (sym (get-table_in old.entries q))
    ∙ sym (get-set (table_in old.entries) key (flat room) q))

-- a value that is put into a room is written
pub filled : (old new : Rooms) (key : Key) (value : Option (List ℕ)) → tree.Updates room_cmp old new key (Some value)
    → table_in new.entries ≡ set_or_remove (table_in old.entries) key value
filled old new key value updates = changed_room old new key (Some value) updates

-- a new room changes no record
pub roomed : (old new : Rooms) (key : Key) → tree.get room_cmp old key ≡ None → tree.Updates room_cmp old new key (Some None)
    → table_in new.entries ≡ table_in old.entries
roomed old new key none updates =
    changed_room old new key (Some None) updates ∙ remove_absent (table_in old.entries) key (get-table_in old.entries key ∙ ap flat none)

-- nor does an empty one that is given back
pub given_back : (old new : Rooms) (key : Key) → tree.get room_cmp old key ≡ Some None → tree.Updates room_cmp old new key None
    → table_in new.entries ≡ table_in old.entries
given_back old new key none updates =
    changed_room old new key None updates ∙ remove_absent (table_in old.entries) key (get-table_in old.entries key ∙ ap flat none)

some_cond : (b : Bool) (value : Option (List ℕ)) (rest : Option (Option (List ℕ))) → IsSome rest → IsSome (cond b (Some value) rest)
some_cond true value rest h = refl
some_cond false value rest h = h

-- rooms stay when a value is put into one
pub stays : (old new : Rooms) (key : Key) (value : Option (List ℕ)) → tree.Updates room_cmp old new key (Some value) → (other : Key) → HasRoom old other → HasRoom new other
stays old new key value updates other h = subst IsSome (sym (updates.0 other)) (some_cond (eq_by_cmp room_cmp key other) value (tree.get room_cmp old other) h)

-- and its key has one
pub has_its : (old new : Rooms) (key : Key) (value : Option (List ℕ)) → tree.Updates room_cmp old new key (Some value) → HasRoom new key
has_its old new key value updates =
    let same : tree.get room_cmp new key ≡ Some value = updates.0 key ∙ ap (λ (b : Bool). cond b (Some value) (tree.get room_cmp old key)) (turned key key ∙ same_key key key refl) in
    subst IsSome (sym same) refl

-- no room, no value
pub no_room : (rooms : Rooms) (key : Key) → is_some (tree.get room_cmp rooms key) ≡ false → tree.get room_cmp rooms key ≡ None
no_room rooms key none = none_by (tree.get room_cmp rooms key) none
  where
    none_by : (room : Option (Option (List ℕ))) → is_some room ≡ false → room ≡ None
    none_by None h = refl
    none_by (Some value) h = absurd (true≢false h)
