-- A window that has no rows, and the rows behind it.
use Rattle.std.proofs.Common.{◌≡◌, ℕ, ◌+◌, ◌≤◌, Bool, false, cond, ◌&&◌, inl, inr, List, [], ◌∷◌, Result, Ok, Err, refl, sym, ◌∙◌, ap, subst, arith}
use Rattle.std.specs.Prelude.{nat_le, filter, slice_get, Option, Some, None, IfOk, IfErr}
use Rattle.std.proofs.lemmas.Bool.{cases_Bool}
use Rattle.history.specs.Writes.{Table, Row, is_within, rows_of, rows_within}
use Rattle.history.specs.declared.call.TableCall.TheVariants.{Scan}
use Rattle.history.specs.declared.call.Reply.TheVariants.{Listed}
use Rattle.caller_steps.specs.Core.{CoreView}
use Rattle.transactions.specs.Adds.{Stays, Adds}
use Rattle.transactions.specs.Went.{WentWithin, Refuses}
use Rattle.transactions.specs.declared.refusal.Refusal.{Refusal}
use Rattle.transactions.proofs.Going.{refuses_later}
use Rattle.long_values.specs.Changing.{seen_by}
use Rattle.long_values.proofs.Telling.{seen_scan}
use Rattle.taped_records.specs.Cursor.{IsFirst, ReadsFirst}

none_here : (row : Row) (rows : List Row) → row ∷ rows ≡ [] → ⊥
none_here row rows is = cc is

same_test : (low middle high x : ℕ) → low ≤ middle + 1 → (nat_le low x && nat_le x middle) ≡ false → (nat_le low x && nat_le x high) ≡ (nat_le (middle + 1) x && nat_le x high)
same_test low middle high x le is = grind arith

shifted : (low middle high : ℕ) (rows : List Row) → low ≤ middle + 1 → filter (is_within low middle) rows ≡ [] → filter (is_within low high) rows ≡ filter (is_within (middle + 1) high) rows
shifted low middle high [] le none = refl
shifted low middle high (row ∷ rows) le none = elim (cases_Bool (is_within low middle row)) [
  | inl is ↦ absurd (none_here row (filter (is_within low middle) rows) (sym (ap (λ (b : Bool). cond b (row ∷ filter (is_within low middle) rows) (filter (is_within low middle) rows)) is) ∙ none))
  | inr is ↦
      let later = shifted low middle high rows le (sym (ap (λ (b : Bool). cond b (row ∷ filter (is_within low middle) rows) (filter (is_within low middle) rows)) is) ∙ none) in
      ap (λ (b : Bool). cond b (row ∷ filter (is_within low high) rows) (filter (is_within low high) rows)) (same_test low middle high row.0 le is)
      ∙ ap (λ (rest : List Row). cond (is_within (middle + 1) high row) (row ∷ rest) rest) later
]

-- the first behind it is the first of all
pub first_behind : (name : List ℕ) (low middle to : ℕ) (table : Table) (first : Option Row) → low ≤ middle + 1 → rows_within name low middle table ≡ [] → IsFirst name (middle + 1) to table first → IsFirst name low to table first
first_behind name low middle to table None le none is = shifted low middle to (rows_of name table) le none ∙ is
first_behind name low middle to table (Some row) le none is = (is.0, is.1, is.2, shifted low middle is.0 (rows_of name table) le none ∙ is.3)

first_is : (rows : List Row) (row : Row) → Some row ≡ slice_get rows 0 → (others : List Row) × (rows ≡ row ∷ others)
first_is [] row is = absurd (let e : Some row ≡ None = is in cc)
first_is (first ∷ others) row is = (others, let e : Some row ≡ Some first = is in let same : row ≡ first = cc in ap (λ (r : Row). r ∷ others) (sym same))

pub no_rows : (rows : List Row) → None ≡ slice_get rows 0 → rows ≡ []
no_rows [] is = refl
no_rows (first ∷ others) is = absurd (let e : None ≡ Some first = is in cc)

-- a scan up to `high` was granted, and has a first row, or none
pub read_row : (name : List ℕ) (from high to caller : ℕ) (old new : CoreView) (rows : List Row) (row : Row) → high ≤ to → Stays caller old new → WentWithin caller old new → Adds caller (Scan name from high) (Listed rows) old new
    → Some row ≡ slice_get rows 0 → ReadsFirst name from to caller old new (Ok (Some row))
read_row name from high to caller old new rows row le stays within adds is =
    let scanned = seen_scan caller old new name from high rows stays adds in
    let first = first_is rows row is in
    record { stays = stays; within = within; same = scanned.0; first = (high, first.0, le, sym scanned.1 ∙ first.1); refused = tt }

pub read_none : (name : List ℕ) (from high to caller : ℕ) (old new : CoreView) (rows : List Row) → high ≡ to → Stays caller old new → WentWithin caller old new → Adds caller (Scan name from high) (Listed rows) old new
    → rows ≡ [] → ReadsFirst name from to caller old new (Ok None)
read_none name from high to caller old new rows last stays within adds none =
    let scanned = seen_scan caller old new name from high rows stays adds in
    record { stays = stays; within = within; same = scanned.0; first = ap (λ (k : ℕ). rows_within name from k (seen_by caller old)) (sym last) ∙ sym scanned.1 ∙ none; refused = tt }

-- it has none, and what was read behind it is the answer
pub read_behind : (name : List ℕ) (from high to caller : ℕ) (old mid new : CoreView) (rows : List Row) (answer : Result (Option Row) Refusal) → from ≤ high + 1 → Stays caller old mid → Adds caller (Scan name from high) (Listed rows) old mid
    → rows ≡ [] → Stays caller old new → WentWithin caller old new → ReadsFirst name (high + 1) to caller mid new answer → ReadsFirst name from to caller old new answer
read_behind name from high to caller old mid new rows answer le here adds none stays within behind =
    record { stays = stays; within = within; same = behind.same ∙ scanned.0; first = first_of_all answer behind.first; refused = refused answer behind.refused }
  where
    scanned : (seen_by caller mid ≡ seen_by caller old) × (rows ≡ rows_within name from high (seen_by caller old))
    scanned = seen_scan caller old mid name from high rows here adds

    first_of_all : (a : Result (Option Row) Refusal) → IfOk a (IsFirst name (high + 1) to (seen_by caller mid)) → IfOk a (IsFirst name from to (seen_by caller old))
    first_of_all (Ok first) is =
        first_behind name from high to (seen_by caller old) first le (sym scanned.1 ∙ none) (subst (λ (t : Table). IsFirst name (high + 1) to t first) scanned.0 is)
    first_of_all (Err refusal) is = tt

    refused : (a : Result (Option Row) Refusal) → IfErr a (Refuses caller mid new) → IfErr a (Refuses caller old new)
    refused (Ok first) is = tt
    refused (Err refusal) is = refuses_later caller old mid new refusal here.goes_on.limits here.went is
