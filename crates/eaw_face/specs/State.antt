-- The model of a store: plain data, and the parts that each live number has logged.
use Rattle.std.specs.Prelude.{ℕ, nat_eq, if◌then◌else◌, List, [], length, filter, flat_map, slice_index_or, slice_set, Bool, Option, unwrap_or}
use Rattle.std.specs.List.{list_any}
use Rattle.mars_base.specs.Bytes.{put}
use Rattle.array_shape.specs.declared.shape.Shape.{Shape}
use Rattle.array_shape.specs.Places.{logger_of}
use Rattle.array_shape.specs.Logged.{Part}

-- a list of logged things for each live number
abbrev pub Logs : Type 0 → Type 0
Logs A = ℕ → Option (List A)

-- the data, and for each live number its parts, in the order in which they were logged
pub record State : Type 0 where
  pub bytes : List ℕ
  pub logs : ℕ → Option (List Part)

-- what a number has logged: nothing if it is not live
abbrev pub listed : {A : Type 0} → Option (List A) → List A
listed log = unwrap_or log []

-- the logs with this one for number t, or with t free
abbrev pub with_log : {A : Type 0} → (ℕ → Option (List A)) → ℕ → Option (List A) → ℕ → Option (List A)
with_log logs t log u = if nat_eq u t then log else logs u

-- number u is one of these
abbrev pub is_one_of : List ℕ → ℕ → Bool
is_one_of ts u = list_any (nat_eq u) ts

-- this for each of these numbers, and what it was for the others
abbrev pub with_each : {A : Type 0} → (ℕ → A) → List ℕ → A → ℕ → A
with_each f ts x u = if is_one_of ts u then x else f u

-- what these numbers have logged, one list after another
abbrev pub group_log : {A : Type 0} → Logs A → List ℕ → List A
group_log logs ts = flat_map (λ t. listed (logs t)) ts

-- the parts with bytes replaced within the one at a position, if there is one
abbrev pub edited : ℕ → ℕ → List ℕ → List Part → List Part
edited pos at bytes parts = slice_set parts pos ((slice_index_or parts pos (0, [])).0, put (slice_index_or parts pos (0, [])).1 at bytes)

-- the range of a part, its address and its length, at a position
abbrev pub range_at : List (ℕ × ℕ) → ℕ → ℕ × ℕ
range_at ranges pos = slice_index_or ranges pos (0, 0)

-- the part at a position
abbrev pub part_at : List Part → ℕ → Part
part_at parts pos = slice_index_or parts pos (0, [])

-- whether logger g has a range
abbrev pub is_range_on : Shape → ℕ → ℕ × ℕ → Bool
is_range_on shape g range = nat_eq (logger_of shape range.0) g

-- how many of these ranges logger g has
abbrev pub count_on : Shape → ℕ → List (ℕ × ℕ) → ℕ
count_on shape g ranges = length (filter (λ range. nat_eq (logger_of shape range.0) g) ranges)
