-- The key of a record in an array: the name of its table, and a number.
pub use Rattle.history.specs.declared.key.Key.{Key}
use Rattle.std.specs.Prelude.{ℕ, Bool, nat_eq, ◌&&◌, List, codes}
use lib.Pointwise.{pointwise}
use Rattle.std.specs.declared.cmp.Ordering.{Ordering}
use Rattle.std.specs.Ordering.{nat_cmp, ordering_then}
use Rattle.std.specs.Cmp.Lexicographic.{slice_cmp}
use Rattle.history.specs.declared.key.Key.{Key}

-- the name of the table that each array has
abbrev pub main_name : List ℕ
main_name = codes "main"

-- the key of this number of the table of this name
abbrev pub of_table : List ℕ → ℕ → Key
of_table table key = record { table = table; key = key }

-- the same of the table `main`
abbrev pub of_main : ℕ → Key
of_main key = of_table main_name key

-- the order of keys: by the names of their tables, and within a table by number
unfoldable pub key_cmp : Key → Key → Ordering
key_cmp one other = ordering_then (slice_cmp nat_cmp one.table other.table) (nat_cmp one.key other.key)

-- two keys are the same
abbrev pub is_same_key : Key → Key → Bool
is_same_key one other = pointwise nat_eq one.table other.table && nat_eq one.key other.key

-- a key is one of the table of this name
abbrev pub is_of_table : List ℕ → Key → Bool
is_of_table name key = pointwise nat_eq name key.table
