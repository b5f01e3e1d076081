-- The first eight bytes of an index page. Numbers are little-endian.
use Rattle.std.specs.Prelude.{ℕ, List, ◌∷◌, ◌++◌, slice_index}
use Rattle.byteorder.specs.Endian.{little_from, little_bytes}
use Rattle.record_slots.specs.declared.index_head.IndexHead.{IndexHead}

-- the head that a page says: kind, level, count and link
unfoldable pub index_head_said : List ℕ → IndexHead
index_head_said bytes = record {
  kind = slice_index bytes 0;
  level = slice_index bytes 1;
  count = little_from 2 2 bytes;
  link = little_from 4 4 bytes;
}

-- the eight bytes of a head
abbrev pub index_head_bytes : IndexHead → List ℕ
index_head_bytes head = head.kind ∷ head.level ∷ (little_bytes 2 head.count ++ little_bytes 4 head.link)
