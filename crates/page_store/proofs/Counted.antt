-- How many of some pages each logger has.
use Rattle.std.proofs.Common.{◌≡◌, ℕ, ◌+◌, ◌%◌, ◌<◌, ◌≤◌, inl, inr, Bool, true, false, cond, List, length, get_or, take, sym, ◌∙◌, ap, subst, arith, mod-lt}
use Rattle.std.specs.Prelude.{filter, nat_eq, slice_index, slice_set}
use Rattle.std.proofs.lemmas.Bool.{cases_eq}
use Rattle.std.proofs.lemmas.Bool.Decides.{nat_tests}
use Rattle.std.proofs.lemmas.List.{length-take, length-set, get_or-set_same, get_or-set_other}
use Rattle.std.proofs.lemmas.List.Filters.{length-filter_more}
use Rattle.array_shape.proofs.Cutting.{filter_few}
use Rattle.page_store.specs.Fits.{is_page_on}

-- the counts are those of these pages
pub record AreCounted (loggers : ℕ) (pages counts : List ℕ) : Type 0 where
  pub long : length counts ≡ 8
  pub each : (g : ℕ) → g < loggers → slice_index counts g ≡ length (filter (is_page_on loggers g) pages)

-- one more page
module _ (loggers : ℕ) (some : 0 < loggers) (most : loggers ≤ 8) (pages : List ℕ) (i : ℕ) (lt : i < length pages)
    (counts : List ℕ) (counted : AreCounted loggers (take i pages) counts) (at : ℕ) (is : at ≡ get_or pages i 0 % loggers) where
  below : at < loggers
  below = subst (λ (k : ℕ). k < loggers) (sym is) (mod-lt (get_or pages i 0) some)

  pub counts_few : slice_index counts at ≤ i
  counts_few = omega (arith, counted.each at below, filter_few (is_page_on loggers at) (take i pages), length-take i pages)

  tested : (g : ℕ) (on : Bool) → nat_eq (get_or pages i 0 % loggers) g ≡ on → length (filter (is_page_on loggers g) (take (i + 1) pages)) ≡ length (filter (is_page_on loggers g) (take i pages)) + cond on 1 0
  tested g on test = length-filter_more (is_page_on loggers g) pages i 0 lt ∙ ap (λ (b : Bool). length (filter (is_page_on loggers g) (take i pages)) + cond b 1 0) test

  pub counts_more : AreCounted loggers (take (i + 1) pages) (slice_set counts at (slice_index counts at + 1))
  counts_more = record {
    long = length-set counts at (slice_index counts at + 1) ∙ counted.long;
    each = λ g small. elim (cases_eq g at) [
      | inl same ↦
          let here : nat_eq (get_or pages i 0 % loggers) g ≡ true = grind (arith, nat_tests, is, same) in
          ap (slice_index (slice_set counts at (slice_index counts at + 1))) same
          ∙ get_or-set_same counts at (slice_index counts at + 1) 0 (omega (arith, below, most, counted.long))
          ∙ omega (arith, ap (slice_index counts) same, counted.each g small, tested g true here)
      | inr ne ↦
          let past : nat_eq (get_or pages i 0 % loggers) g ≡ false = grind (arith, nat_tests, is, ne) in
          get_or-set_other counts at g (slice_index counts at + 1) 0 ne ∙ omega (arith, counted.each g small, tested g false past)
    ];
  }
