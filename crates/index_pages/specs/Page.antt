-- What an index page says. Numbers are little-endian.
use Rattle.std.specs.Prelude.{ℕ, ◌+◌, ◌*◌, List, map, slice_index}
use Rattle.std.specs.List.{range_with_len}
use Rattle.byteorder.specs.Endian.{little_from}
use Rattle.record_slots.specs.Places.{page_bytes}
use Rattle.page_store.specs.Pairs.{Pair}

-- what 512 bytes say: the kind (1 a leaf or a page of a chain, 2 an inner page), the level, the count, the link
unfoldable pub kind_said : List ℕ → ℕ
kind_said bytes = slice_index bytes 0

unfoldable pub level_said : List ℕ → ℕ
level_said bytes = slice_index bytes 1

unfoldable pub count_said : List ℕ → ℕ
count_said bytes = little_from 2 2 bytes

unfoldable pub link_said : List ℕ → ℕ
link_said bytes = little_from 4 4 bytes

-- pair i: a key, and the slot or the page that it leads to
unfoldable pub pair_said : List ℕ → ℕ → Pair
pair_said bytes i = (little_from (8 + 16 * i) 8 bytes, little_from (16 + 16 * i) 8 bytes)

-- n pairs from pair i on: what laws say of a part of them
abbrev pub pairs_from : List ℕ → ℕ → ℕ → List Pair
pairs_from bytes i n = map (pair_said bytes) (range_with_len i n)

-- as many as the count says
unfoldable pub pairs_said : List ℕ → List Pair
pairs_said bytes = map (pair_said bytes) (range_with_len 0 (count_said bytes))

-- the same for a page of the data
abbrev pub kind_of : List ℕ → ℕ → ℕ
kind_of bytes page = kind_said (page_bytes bytes page)

abbrev pub level_of : List ℕ → ℕ → ℕ
level_of bytes page = level_said (page_bytes bytes page)

abbrev pub count_of : List ℕ → ℕ → ℕ
count_of bytes page = count_said (page_bytes bytes page)

abbrev pub link_of : List ℕ → ℕ → ℕ
link_of bytes page = link_said (page_bytes bytes page)

abbrev pub page_pairs : List ℕ → ℕ → List Pair
page_pairs bytes page = pairs_said (page_bytes bytes page)
