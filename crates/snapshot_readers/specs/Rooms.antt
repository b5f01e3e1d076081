-- What rooms for values stand for: a room has a key, and its value or none.
use Rattle.std.specs.Prelude.{ℕ, List, [], ◌∷◌, Option, IsSome, All}
use Rattle.std.specs.Ordering.{nat_cmp, on, then_cmp}
use Rattle.std.specs.declared.cmp.Ordering.{Ordering}
use Rattle.std.specs.Cmp.Lexicographic.{slice_cmp}
use Rattle.std.specs.FinMap.{empty}
use Rattle.std.specs.BTreeMap as tree
use Rattle.std.specs.BTreeMap.{BTreeMap}
use Rattle.history.specs.declared.key.Key.{Key}
use base.Stored.{Coded, coded×, coded_ℕ, coded_list, coded_via}
use Rattle.history.specs.Writes.{Table, Write, write_into}

-- how the name and the number of a key are stored
unfoldable pub key_code : Coded Key
key_code = coded_via (coded× (coded_list coded_ℕ) coded_ℕ) (λ (key : Key). (key.table, key.key)) (λ one other same i. record { table = (same i).0; key = (same i).1 })

-- the order that rooms have
abbrev pub room_cmp : Key → Key → Ordering
room_cmp = then_cmp (on (λ (k : Key). k.table) (slice_cmp nat_cmp)) (on (λ (k : Key). k.key) nat_cmp)

-- the records of the rooms that have a value
abbrev pub table_in : List Write → Table
table_in [] = empty
table_in (room ∷ rooms) = write_into (table_in rooms) room

-- there is a room for the key
abbrev pub HasRoom : BTreeMap Key (Option (List ℕ)) → Key → Type 0
HasRoom rooms key = IsSome (tree.get room_cmp rooms key)

-- there is a room for each write
abbrev pub HaveRoom : BTreeMap Key (Option (List ℕ)) → List Write → Type 0
HaveRoom rooms writes = All (λ write. HasRoom rooms write.0) writes
