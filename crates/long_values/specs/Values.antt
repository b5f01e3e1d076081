-- Long values as records of a table. The value under key k takes the record keys from 512 * k on, at most 411 of them: the first record has
-- its length in decimal, and each of the others 40 of its bytes in base64, the last one those that are left.
use Rattle.std.specs.Prelude.{ℕ, zero, suc, ◌≡◌, ◌+◌, ◌*◌, ◌/◌, ◌<◌, ◌≤◌, nat_eq, nat_lt, if◌then◌else◌, List, length, take, drop, Option, Some, None, [], ◌∷◌, decimal}
use Rattle.std.specs.Map.{update}
use Rattle.std.specs.FinMap.{get}
use Rattle.base64.specs.GeneralPurpose.{IsBytes, encode_of}
use Rattle.base64.specs.Engines.{standard_no_pad}
use Rattle.history.specs.Key.{of_table}
use Rattle.history.specs.Writes.{Table, Row}

-- the bytes of a part, 40 or those that are left, and how many parts there are
abbrev pub part_at : List ℕ → ℕ → List ℕ
part_at bytes n = take 40 (drop (n * 40) bytes)

abbrev pub part_count : List ℕ → ℕ
part_count bytes = (length bytes + 39) / 40

-- the text of a record: the length, or a part
abbrev pub text_at : List ℕ → ℕ → List ℕ
text_at bytes zero = decimal (length bytes)
text_at bytes (suc n) = encode_of standard_no_pad (part_at bytes n)

-- the record of this number of a value, or none; where there is no value, there is none
abbrev pub record_at : Option (List ℕ) → ℕ → Option (List ℕ)
record_at None n = None
record_at (Some bytes) n = if nat_lt (part_count bytes) n then None else Some (text_at bytes n)

-- at most 16,384 bytes, or none
abbrev pub IsLong : Option (List ℕ) → Type 0
IsLong None = Unit {0}
IsLong (Some bytes) = IsBytes bytes × (length bytes ≤ 16384)

-- the records from this record key on are those of this value
pub record IsKeptFrom (name : List ℕ) (first : ℕ) (value : Option (List ℕ)) (table : Table) : Type 0 where
  pub long : IsLong value
  pub records : (n : ℕ) → n < 512 → get table (of_table name (first + n)) ≡ record_at value n

-- the table has this value under the key, or none
abbrev pub IsKept : List ℕ → ℕ → Option (List ℕ) → Table → Type 0
IsKept name key value table = IsKeptFrom name (key * 512) value table

-- a table of long values and nothing else: under each key this one, or none
abbrev pub AreKept : List ℕ → (ℕ → Option (List ℕ)) → Table → Type 0
AreKept name values table = (key : ℕ) → IsKept name key (values key) table

-- the values with this one under a key
abbrev pub with_value : (ℕ → Option (List ℕ)) → ℕ → Option (List ℕ) → ℕ → Option (List ℕ)
with_value values key value = update nat_eq values key value

-- the records of a value as rows, from number n on, so many
abbrev pub rows_from : ℕ → List ℕ → ℕ → ℕ → List Row
rows_from first bytes n zero = []
rows_from first bytes n (suc left) = (first + n, text_at bytes n) ∷ rows_from first bytes (suc n) left

-- all of them
abbrev pub rows_of : ℕ → List ℕ → List Row
rows_of first bytes = rows_from first bytes 0 (part_count bytes + 1)

-- the length of a value, or none
abbrev pub length_of : Option (List ℕ) → Option ℕ
length_of None = None
length_of (Some bytes) = Some (length bytes)
