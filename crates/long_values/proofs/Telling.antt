-- What a scan of the records of a value tells.
use Rattle.std.proofs.Common.{◌≡◌, ℕ, ◌+◌, ◌*◌, ◌^◌, ◌<◌, List, [], length, Option, Some, None, Result, Ok, Err, inl, inr, refl, sym, ◌∙◌, ap, subst, arith}
use Rattle.std.specs.Prelude.{◌⊎◌, decimal, MatchOption}
use Rattle.std.specs.FinMap.{get}
use Rattle.std.proofs.lemmas.Fmt.{decimal_injective}
use Rattle.history.specs.Key.{of_table}
use Rattle.history.specs.Table.{Work, found}
use Rattle.history.specs.declared.call.TableCall.TheVariants.{Get, Scan}
use Rattle.history.specs.declared.call.Reply.{Reply}
use Rattle.history.specs.declared.call.Reply.TheVariants.{Found, Absent, Listed}
use Rattle.caller_steps.specs.Core.{CoreView}
use Rattle.transactions.specs.Adds.{Stays, Adds}
use Rattle.transactions.specs.declared.work.Stop.TheVariants.{GivenUp}
use Rattle.base64.specs.GeneralPurpose.{IsBytes}
use Rattle.history.specs.Writes.{Table, Row, rows_within}
use Rattle.long_values.specs.declared.unkept.Unkept.{Unkept}
use Rattle.long_values.specs.declared.unkept.Unkept.TheVariants.{Broken, NoMemory}
use Rattle.long_values.specs.Values.{part_count, record_at, length_of, IsKeptFrom, IsKept, rows_of}
use Rattle.long_values.specs.Changing.{seen_by, IsUnread}
use Rattle.long_values.proofs.Seeing.{added, answered}
use Rattle.long_values.proofs.Rows.{scanned, scanned_none}
use Rattle.long_values.proofs.Records.{record_in, record_past, no_value}

-- a scan tells the rows of the value,
pub kept_rows : (name : List ℕ) (first : ℕ) (bytes : List ℕ) (table : Table) → IsKeptFrom name first (Some bytes) table → rows_within name first (first + 511) table ≡ rows_of first bytes
kept_rows name first bytes table kept =
    let short = kept.long.1 in
    scanned name table first bytes (part_count bytes + 1) (omega (arith, short))
    (λ n lt. kept.records n (omega (arith, short, lt)) ∙ record_in bytes n (omega (arith, lt)))
    (λ n ge lt. kept.records n lt ∙ record_past bytes n (omega (arith, ge)))

-- or none
pub kept_none : (name : List ℕ) (first : ℕ) (table : Table) → IsKeptFrom name first None table → rows_within name first (first + 511) table ≡ []
kept_none name first table kept = scanned_none name table first kept.records

-- ---- what a scan and a look-up tell

pub seen_read : (caller : ℕ) (old new : CoreView) (name : List ℕ) (key : ℕ) (reply : Reply) → Stays caller old new → Adds caller (Get name key) reply old new → seen_by caller new ≡ seen_by caller old
seen_read caller old new name key reply stays adds = ap (λ (w : Work). w.table) (added caller old new (Get name key) reply stays adds)

pub seen_scan : (caller : ℕ) (old new : CoreView) (name : List ℕ) (low high : ℕ) (rows : List Row) → Stays caller old new → Adds caller (Scan name low high) (Listed rows) old new
    → (seen_by caller new ≡ seen_by caller old) × (rows ≡ rows_within name low high (seen_by caller old))
seen_scan caller old new name low high rows stays adds =
    let told = answered caller old new (Scan name low high) (Listed rows) stays adds in
    (ap (λ (w : Work). w.table) (added caller old new (Scan name low high) (Listed rows) stays adds), cc told)

found_is : (o : Option (List ℕ)) (text : List ℕ) → Found text ≡ found o → o ≡ Some text
found_is None text is = absurd (let e : Found text ≡ Absent = is in cc)
found_is (Some value) text is = let e : Found text ≡ Found value = is in cc

absent_is : (o : Option (List ℕ)) → Absent ≡ found o → o ≡ None
absent_is None is = refl
absent_is (Some value) is = absurd (let e : Absent ≡ Found value = is in cc)

pub read_text : (caller : ℕ) (old new : CoreView) (name : List ℕ) (key : ℕ) (text : List ℕ) → Stays caller old new → Adds caller (Get name key) (Found text) old new → get (seen_by caller old) (of_table name key) ≡ Some text
read_text caller old new name key text stays adds = found_is (get (seen_by caller old) (of_table name key)) text (answered caller old new (Get name key) (Found text) stays adds)

pub read_none : (caller : ℕ) (old new : CoreView) (name : List ℕ) (key : ℕ) → Stays caller old new → Adds caller (Get name key) Absent old new → get (seen_by caller old) (of_table name key) ≡ None
read_none caller old new name key stays adds = absent_is (get (seen_by caller old) (of_table name key)) (answered caller old new (Get name key) Absent stays adds)

-- ---- a value of rows

-- what was read is the value
abbrev pub Reads : {V : Type 0} → (V → List ℕ) → Option (List ℕ) → Option V → Type 0
Reads items value told = MatchOption told (value ≡ None) (λ v. value ≡ Some (items v))

itself : (value : Option (List ℕ)) → value ≡ value
itself value = refl

-- What reads rows gives of a value: of no rows none, and of those of bytes the bytes.
pub told_value : {V : Type 0} (items : V → List ℕ) (name : List ℕ) (key first : ℕ) (table : Table) (rows : List Row) (told : Option V) (value : Option (List ℕ)) → rows ≡ rows_within name first (first + 511) table → first ≡ key * 512
    → (rows ≡ [] → told ≡ None) → ((from : ℕ) (bytes : List ℕ) → IsBytes bytes → rows ≡ rows_of from bytes → MatchOption told ⊥ (λ (v : V). items v ≡ bytes))
    → IsKept name key value table → Reads items value told
told_value {V} items name key first table rows told None are at none some kept =
    subst (λ (o : Option V). Reads items None o) (sym (none (are ∙ ap (λ (f : ℕ). rows_within name f (f + 511) table) at ∙ kept_none name (key * 512) table kept))) (itself None)
told_value {V} items name key first table rows told (Some bytes) are at none some kept =
    go told (some (key * 512) bytes kept.long.0 (are ∙ ap (λ (f : ℕ). rows_within name f (f + 511) table) at ∙ kept_rows name (key * 512) bytes table kept))
  where
    go : (o : Option V) → MatchOption o ⊥ (λ (v : V). items v ≡ bytes) → Reads items (Some bytes) o
    go None m = absurd m
    go (Some v) m = ap Some (sym m)

-- It gives none for want of memory, or because the rows are those of no value.
pub untold_value : {V : Type 0} (name : List ℕ) (key first : ℕ) (table : Table) (rows : List Row) (result : Result (Option V) Unkept) (unkept : Unkept) → rows ≡ rows_within name first (first + 511) table → first ≡ key * 512
    → result ≡ Err unkept → (unkept ≡ Broken) ⊎ (unkept ≡ NoMemory) → (rows ≡ [] → result ≡ Ok None) → ((from : ℕ) (bytes : List ℕ) → IsBytes bytes → rows ≡ rows_of from bytes → unkept ≡ NoMemory)
    → unkept ≡ Broken → (value : Option (List ℕ)) → IsKept name key value table → ⊥
untold_value {V} name key first table rows result unkept are at failed cause none some broken None kept =
    let told : result ≡ Ok None = none (are ∙ ap (λ (f : ℕ). rows_within name f (f + 511) table) at ∙ kept_none name (key * 512) table kept) in
    let both : Err unkept ≡ Ok None = sym failed ∙ told in
    cc
untold_value {V} name key first table rows result unkept are at failed cause none some broken (Some bytes) kept =
    let memory = some (key * 512) bytes kept.long.0 (are ∙ ap (λ (f : ℕ). rows_within name f (f + 511) table) at ∙ kept_rows name (key * 512) bytes table kept) in
    let both : Broken ≡ NoMemory = sym broken ∙ memory in
    cc

pub unread_as : (name : List ℕ) (key : ℕ) (table : Table) (unkept : Unkept) → (unkept ≡ Broken) ⊎ (unkept ≡ NoMemory) → (unkept ≡ Broken → (value : Option (List ℕ)) → IsKept name key value table → ⊥) → IsUnread name key table (GivenUp unkept)
unread_as name key table unkept cause none = elim cause [
  | inl is ↦ subst (λ (u : Unkept). IsUnread name key table (GivenUp u)) (sym is) (none is)
  | inr is ↦ subst (λ (u : Unkept). IsUnread name key table (GivenUp u)) (sym is) tt
]

-- ---- its length

first_record : (name : List ℕ) (key first : ℕ) (value : Option (List ℕ)) (table : Table) → first ≡ key * 512 → IsKept name key value table → get table (of_table name first) ≡ record_at value 0
first_record name key first value table at kept =
    let z : first ≡ key * 512 + 0 = omega (arith, at) in
    ap (λ (k : ℕ). get table (of_table name k)) z ∙ kept.records 0 (omega arith)

pub no_length : (name : List ℕ) (key first : ℕ) (value : Option (List ℕ)) (table : Table) → first ≡ key * 512 → get table (of_table name first) ≡ None → IsKept name key value table → None ≡ length_of value
no_length name key first value table at none kept = ap length_of (sym (no_value value (sym (first_record name key first value table at kept) ∙ none)))

pub length_read : (name : List ℕ) (key first : ℕ) (value : Option (List ℕ)) (table : Table) (text : List ℕ) (n : ℕ) → first ≡ key * 512 → get table (of_table name first) ≡ Some text → n < 2 ^ 64 → text ≡ decimal n → IsKept name key value table → Some n ≡ length_of value
length_read name key first None table text n at has small is kept = absurd (let e : None ≡ Some text = sym (first_record name key first None table at kept) ∙ has in cc)
length_read name key first (Some bytes) table text n at has small is kept =
    let e : Some (decimal (length bytes)) ≡ Some text = sym (record_in bytes 0 (omega arith)) ∙ sym (first_record name key first (Some bytes) table at kept) ∙ has in
    let same : decimal (length bytes) ≡ text = cc in
    let short = kept.long.1 in
    ap Some (decimal_injective n (length bytes) small (omega (arith, short)) (sym is ∙ sym same))

pub no_number : (name : List ℕ) (key first : ℕ) (table : Table) (text : List ℕ) → first ≡ key * 512 → get table (of_table name first) ≡ Some text → ((n : ℕ) → n < 2 ^ 64 → text ≡ decimal n → ⊥) → (value : Option (List ℕ)) → IsKept name key value table → ⊥
no_number name key first table text at has none None kept = let e : None ≡ Some text = sym (first_record name key first None table at kept) ∙ has in cc
no_number name key first table text at has none (Some bytes) kept =
    let e : Some (decimal (length bytes)) ≡ Some text = sym (record_in bytes 0 (omega arith)) ∙ sym (first_record name key first (Some bytes) table at kept) ∙ has in
    let same : decimal (length bytes) ≡ text = cc in
    let short = kept.long.1 in
    none (length bytes) (omega (arith, short)) (sym same)
