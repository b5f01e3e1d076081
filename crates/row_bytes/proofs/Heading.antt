-- What the bytes of a header say.
use Rattle.std.proofs.Common.{◌≡◌, ℕ, List, ◌++◌, take, replicate, refl, sym, ◌∙◌, arith}
use Rattle.std.specs.Prelude.{Bool, true, false, nat_eq, slice_index}
use Rattle.std.specs.Bool.{MatchBool}
use Rattle.std.specs.Cmp.Lexicographic.{pointwise, same_text, other_text}
use Rattle.byteorder.specs.Endian.{little_from, little_bytes}
use Rattle.byteorder.specs.Numbers.{little_number-reads_back}
use Rattle.array_shape.specs.declared.shape.Shape.{Shape}
use Rattle.array_shape.specs.declared.bad_shape.ShapeNumber.{ShapeNumber}
use Rattle.array_shape.specs.declared.bad_shape.ShapeNumber.TheVariants.{Loggers, Numbers, Entries, Pages, MediaLength}
use Rattle.array_shape.specs.Numbers.{IsFirstBad}
use Rattle.array_shape.specs.Places.{HasNumbers}
use Rattle.row_bytes.specs.Header.{mark, HasMark, entries_said, pages_said, IsBadIn, SaysShape, header_front, header_bytes}
use Rattle.row_bytes.proofs.Saying.{little_from-drop}

pub entries_said-is : (bytes : List ℕ) (n : ℕ) → n ≡ little_from 10 2 bytes → n ≡ entries_said bytes
unfolding entries_said
entries_said-is bytes n is = is

pub pages_said-is : (bytes : List ℕ) (n : ℕ) → n ≡ little_from 12 4 bytes → n ≡ pages_said bytes
unfolding pages_said
pages_said-is bytes n is = is

-- a written header says its shape
pub header_bytes-says : (shape : Shape) → SaysShape (header_bytes shape) shape
unfolding header_bytes
header_bytes-says shape = record {
  has_mark = refl;
  numbers = record {
    loggers_are = refl;
    numbers_are = refl;
    entries_are = entries_said-is (header_front shape ++ replicate 496 0) shape.entries
        (sym (sym (little_from-drop 0 10 2 (header_front shape ++ replicate 496 0)) ∙ little_number-reads_back 2 shape.entries (little_bytes 4 shape.pages ++ replicate 496 0) (omega arith)));
    pages_are = pages_said-is (header_front shape ++ replicate 496 0) shape.pages
        (sym (sym (little_from-drop 0 12 4 (header_front shape ++ replicate 496 0)) ∙ little_number-reads_back 4 shape.pages (replicate 496 0) (omega arith)));
  };
}

-- two shapes of one header are one
pub says_one : (bytes : List ℕ) (a b : Shape) → SaysShape bytes a → SaysShape bytes b → HasNumbers b.loggers b.numbers b.entries b.pages a
says_one bytes a b says says' = record {
  loggers_are = says.numbers.loggers_are ∙ sym says'.numbers.loggers_are;
  numbers_are = says.numbers.numbers_are ∙ sym says'.numbers.numbers_are;
  entries_are = says.numbers.entries_are ∙ sym says'.numbers.entries_are;
  pages_are = says.numbers.pages_are ∙ sym says'.numbers.pages_are;
}

-- the mark was found, or not
pub mark_told : (bytes : List ℕ) (r : Bool) → r ≡ pointwise nat_eq mark (take 8 bytes) → MatchBool r (HasMark bytes) (¬ HasMark bytes)
mark_told bytes true is = sym (same_text mark (take 8 bytes) is)
mark_told bytes false is = λ marked. other_text mark (take 8 bytes) is (sym marked)

-- a number out of range is wrong on every medium
pub bad_in : (bytes : List ℕ) (size : ℕ) (which : ShapeNumber) (given : ℕ) → IsFirstBad (slice_index bytes 8) (slice_index bytes 9) (entries_said bytes) (pages_said bytes) which given → IsBadIn bytes size which given
bad_in bytes size Loggers given bad = bad
bad_in bytes size Numbers given bad = bad
bad_in bytes size Entries given bad = bad
bad_in bytes size Pages given bad = bad
bad_in bytes size MediaLength given bad = absurd bad
