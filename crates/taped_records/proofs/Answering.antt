-- What was told of a row.
use Rattle.std.proofs.Common.{◌≡◌, ℕ, List, length, refl, sym, subst, Option, Some, None}
use Rattle.std.specs.Prelude.{pos, slice_get, MatchOption}
use Rattle.std.specs.Borrow.{Bor}
use Rattle.std.specs.Slice.{IsItemAt}
use Rattle.std.proofs.lemmas.Option.{slice_get_past, slice_get_read}
use Rattle.taped_calls.specs.Told.{IsPutOut}
use Rattle.taped_records.specs.Tells.{IsRow}

-- what a look-up by place gives
pub row_at : {X : Type 0} (rows : List X) (at : ℕ) (found : Option (Bor X)) → IsItemAt rows at found → MatchOption found (slice_get rows at ≡ None) (λ (row : Bor X). slice_get rows at ≡ Some row.now)
row_at rows at None is = slice_get_past rows at is.3
row_at rows at (Some row) is = slice_get_read rows (length rows) at row.now refl is.3.0 is.1

-- a row was found, and its value put out
pub row_told : (rows : List (ℕ × List ℕ)) (at : ℕ) (row : ℕ × List ℕ) (bytes : List ℕ) (key_was : ℕ) (was now : List ℕ) (len_was len : ℕ) → slice_get rows at ≡ Some row → bytes ≡ row.1
    → IsPutOut (Some bytes) was now len_was len → IsRow (slice_get rows at) (pos 0) key_was row.0 was now len_was len
row_told rows at row bytes key_was was now len_was len found is put =
    subst (λ (there : Option (ℕ × List ℕ)). IsRow there (pos 0) key_was row.0 was now len_was len) (sym found)
    (refl, refl, subst (λ (text : List ℕ). IsPutOut (Some text) was now len_was len) is put)
