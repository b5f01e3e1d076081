-- What bytes of the medium say. Numbers are little-endian.
use Rattle.std.specs.Prelude.{ℕ, List, nat_eq, slice_index}
use Rattle.byteorder.specs.Endian.{little_from}
use Rattle.row_bytes.specs.declared.row.Row.{Row}
use Rattle.row_bytes.specs.declared.head.Head.{Head}

-- The row that 16 bytes say: the vote, for which 0xC3 alone stands; the mask; the first entry; the count; the group; the order number.
unfoldable pub row_said : List ℕ → Row
row_said bytes = record {
  voted = nat_eq (slice_index bytes 0) 0xC3;
  mask = slice_index bytes 1;
  first = little_from 2 2 bytes;
  count = little_from 4 2 bytes;
  group = little_from 6 8 bytes;
  order = little_from 14 2 bytes;
}

-- The head that 16 bytes say: the address and the length. The rest says nothing.
unfoldable pub head_said : List ℕ → Head
head_said bytes = record { addr = little_from 0 8 bytes; len = little_from 8 2 bytes }
