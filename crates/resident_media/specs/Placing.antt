-- A place for a block.
use Rattle.std.specs.Prelude.{ℕ, ◌+◌, ◌*◌, ◌<◌, ◌≡◌, List, true, length, get_or, set, slice_index}
use Rattle.resident_media.specs.Blocks.{Kept}

-- The block has got a place behind all others, where it begins with these bytes, and is known. Each place and each byte that there was is as it
-- was.
pub record Appends (block : ℕ) (added : List ℕ) (old new : Kept) : Type 0 where
  pub len : new.len ≡ old.len
  pub known : new.known ≡ set old.known block true
  pub last : get_or new.places block 0 * 16384 ≡ length old.room + 16384
  pub begins : (i : ℕ) → i < length added → slice_index new.room (length old.room + i) ≡ slice_index added i
  pub places : (b : ℕ) → 0 < get_or old.places b 0 → get_or new.places b 0 ≡ get_or old.places b 0
  pub bytes : (k : ℕ) → k < length old.room → slice_index new.room k ≡ slice_index old.room k
