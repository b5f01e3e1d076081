-- Lists of records that compare as equal are equal.
use Rattle.std.proofs.Common.{◌≡◌, ℕ, Bool, List, refl, ap, Decides}
use Rattle.std.specs.Prelude.{nat_eq}
use lib.Pointwise.{pointwise}
use Rattle.std.proofs.lemmas.Bool.{and_parts, and_from}
use Rattle.std.proofs.lemmas.Bool.Decides.{Decides-eqb}
use Rattle.std.proofs.lemmas.Slice.Eq.{slice_eq-Decides}
use Rattle.history.specs.Rows.{is_same_row, are_same_rows}

text_decides : (one other : List ℕ) → Decides (pointwise nat_eq one other) (one ≡ other)
text_decides one other = slice_eq-Decides Decides-eqb one other (pointwise nat_eq one other) refl

row_decides : (one other : ℕ × List ℕ) → Decides (is_same_row one other) (one ≡ other)
row_decides one other = (
  λ same.
      let both = and_parts (nat_eq one.0 other.0) (pointwise nat_eq one.1 other.1) same in
      let key : one.0 ≡ other.0 = (Decides-eqb one.0 other.0).0 both.0 in
      let value : one.1 ≡ other.1 = (text_decides one.1 other.1).0 both.1 in
      λ i. (key i, value i),
  λ is. and_from (nat_eq one.0 other.0) (pointwise nat_eq one.1 other.1)
      ((Decides-eqb one.0 other.0).1 (ap (λ (row : ℕ × List ℕ). row.0) is)) ((text_decides one.1 other.1).1 (ap (λ (row : ℕ × List ℕ). row.1) is)),
)

pub rows_decide : (one other : List (ℕ × List ℕ)) (answer : Bool) → answer ≡ are_same_rows one other → Decides answer (one ≡ other)
rows_decide one other answer is = slice_eq-Decides row_decides one other answer is
