-- The header of an array is not refused.
use Rattle.std.proofs.Common.{◌≡◌, ℕ, List, ap, ◌∙◌, arith}
use Rattle.array_shape.specs.declared.shape.Shape.{Shape}
use Rattle.array_shape.specs.declared.bad_shape.ShapeNumber.{ShapeNumber}
use Rattle.array_shape.specs.declared.bad_shape.ShapeNumber.TheVariants.{Loggers, Numbers, Entries, Pages, MediaLength}
use Rattle.array_shape.specs.Places.{media_len}
use Rattle.row_bytes.specs.Header.{SaysShape, IsBadIn, IsFaulty}
use Rattle.row_bytes.specs.declared.header.HeaderFault.{HeaderFault}
use Rattle.row_bytes.specs.declared.header.HeaderFault.TheVariants as header
use Rattle.row_bytes.proofs.OneShape.{one_shape}

not_bad : (bytes : List ℕ) (size : ℕ) (shape : Shape) (which : ShapeNumber) (given : ℕ) → SaysShape bytes shape → size ≡ media_len shape → IsBadIn bytes size which given → ⊥
not_bad bytes size shape Loggers given says sized bad = let r = shape.in_range in bad.0 (omega (arith, r.some_loggers, says.numbers.loggers_are), omega (arith, r.most_loggers, says.numbers.loggers_are))
not_bad bytes size shape Numbers given says sized bad = let r = shape.in_range in bad.1 (omega (arith, r.some_numbers, says.numbers.numbers_are), omega (arith, r.most_numbers, says.numbers.numbers_are))
not_bad bytes size shape Entries given says sized bad = let r = shape.in_range in bad.2 (omega (arith, r.some_entries, says.numbers.entries_are), omega (arith, r.most_entries, says.numbers.entries_are))
not_bad bytes size shape Pages given says sized bad =
    let r = shape.in_range in bad.3 (omega (arith, r.some_pages, says.numbers.pages_are), omega (arith, r.most_pages, says.numbers.pages_are), omega (arith, r.even_pages, says.numbers.pages_are))
not_bad bytes size shape MediaLength given says sized bad = bad.1.2 (sized ∙ ap media_len (one_shape bytes shape bad.1.0 says bad.1.1))

pub not_faulty : (bytes : List ℕ) (size : ℕ) (shape : Shape) (fault : HeaderFault) → SaysShape bytes shape → size ≡ media_len shape → IsFaulty bytes size fault → ⊥
not_faulty bytes size shape header.NotMars says sized faulty = faulty says.has_mark
not_faulty bytes size shape (header.BadShape bad) says sized faulty = not_bad bytes size shape bad.which bad.given says sized faulty.1
