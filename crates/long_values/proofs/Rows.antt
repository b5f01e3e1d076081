-- The rows that a scan tells of the record keys of a long value.
use Rattle.std.proofs.Common.{◌≡◌, ◌≢◌, ℕ, zero, suc, ◌+◌, ◌-◌, ◌<◌, ◌≤◌, Bool, true, false, cond, ◌&&◌, inl, inr, List, [], ◌∷◌, map, length, Option, Some, None, refl, sym, ◌∙◌, ap, subst, arith}
use Rattle.std.specs.Prelude.{nat_eq, nat_le, get_or}
use lib.Dec.{T}
use Rattle.std.specs.declared.cmp.Ordering.{Ordering}
use Rattle.std.specs.declared.cmp.Ordering.TheVariants.{Less}
use Rattle.std.specs.Ordering.{nat_cmp, eq_by_cmp, is_lt}
use Rattle.std.specs.Cmp.{nat_cmp_is, nat_eq_equiv, unsigned_tied}
use Rattle.std.proofs.lemmas.Cmp.{nat_cmp_total}
use Rattle.std.specs.FinMap.{get, entries, entries_sorted, get-entries, nat_cmp-IsAntisymmetric}
use Rattle.std.specs.FinMap.Entries.{find, below_all, is_sorted, where_key, is_sorted-where_key, find-where_key, same_entries}
use Rattle.std.proofs.lemmas.Bool.{cases_eq, cases_lt, cases_Bool, and_parts, leb-true, eq-eqb, ne_eqb}
use Rattle.history.specs.Key.{key_cmp, is_of_table, of_table}
use Rattle.history.specs.declared.key.Key.{Key}
use Rattle.history.specs.Writes.{Table, Row, rows_of, rows_within}
use Rattle.history.specs.Rows.{all_keyed}
use Rattle.history.proofs.Keyed.{find-keyed, sorted-keyed}
use Rattle.history.proofs.Keys.{key_cmp-IsAntisymmetric, name_decides}
use Rattle.long_values.specs.Values.{text_at, rows_from}

tied : (q k : ℕ) → eq_by_cmp nat_cmp q k ≡ nat_eq k q
tied q k = unsigned_tied q k ∙ nat_eq_equiv.symm q k

both : (a b : Bool) → T a → T b → T (a && b)
both true b x y = y
both false b x y = absurd x

less : (x y : ℕ) → x < y → T (is_lt (nat_cmp x y))
less x y lt = subst (λ (o : Ordering). T (is_lt o)) (nat_cmp_is x y Less lt) tt

-- ---- the rows of a table

module _ (name : List ℕ) where
  -- its records are those rows under its name
  keyed_again : (es : List (Key × List ℕ)) → all_keyed name (map (λ (entry : Key × List ℕ). (entry.0.key, entry.1)) (where_key key_cmp (is_of_table name) es)) ≡ where_key key_cmp (is_of_table name) es
  keyed_again [] = refl
  keyed_again (e ∷ es) = go (is_of_table name e.0) refl (keyed_again es)
    where
      rest : List (Key × List ℕ)
      rest = where_key key_cmp (is_of_table name) es

      go : (b : Bool) → is_of_table name e.0 ≡ b → all_keyed name (map (λ (entry : Key × List ℕ). (entry.0.key, entry.1)) rest) ≡ rest
          → all_keyed name (map (λ (entry : Key × List ℕ). (entry.0.key, entry.1)) (cond b (e ∷ rest) rest)) ≡ cond b (e ∷ rest) rest
      go true is later =
          let at : name ≡ e.0.table = (name_decides name e.0.table).0 is in
          λ i. (record { table = at i; key = e.0.key }, e.1) ∷ later i
      go false is later = later

  again : (table : Table) → all_keyed name (rows_of name table) ≡ where_key key_cmp (is_of_table name) (entries table)
  again table = keyed_again (entries table)

  sorted_rows : (table : Table) → T (is_sorted nat_cmp (rows_of name table))
  sorted_rows table =
      subst T (sym (sorted-keyed name (rows_of name table)))
      (subst (λ (es : List (Key × List ℕ)). T (is_sorted key_cmp es)) (sym (again table)) (is_sorted-where_key key_cmp (is_of_table name) (entries table) (entries_sorted table)))

  own : (k : ℕ) → is_of_table name (of_table name k) ≡ true
  own k = (name_decides name name).1 refl

  found_rows : (table : Table) (k : ℕ) → find nat_cmp k (rows_of name table) ≡ get table (of_table name k)
  found_rows table k =
      let q : Key = of_table name k in
      sym (find-keyed name (rows_of name table) q ∙ ap (λ (b : Bool). cond b (find nat_cmp k (rows_of name table)) None) (own k))
      ∙ ap (find key_cmp q) (again table)
      ∙ find-where_key key_cmp (is_of_table name) q (λ x t. ap (is_of_table name) (sym (key_cmp-IsAntisymmetric q x t))) (entries table)
      ∙ ap (λ (b : Bool). cond b (find key_cmp q (entries table)) None) (own k) ∙ sym (get-entries table q)

  -- of those within bounds the same
  found_within : (table : Table) (low high k : ℕ) → find nat_cmp k (rows_within name low high table) ≡ cond (nat_le low k && nat_le k high) (get table (of_table name k)) None
  found_within table low high k =
      find-where_key nat_cmp (λ (x : ℕ). nat_le low x && nat_le x high) k (λ x t. ap (λ (y : ℕ). nat_le low y && nat_le y high) (sym (nat_cmp-IsAntisymmetric k x t))) (rows_of name table)
      ∙ ap (λ (o : Option (List ℕ)). cond (nat_le low k && nat_le k high) o None) (found_rows table k)

-- ---- the rows of a value

module _ (first : ℕ) (bytes : List ℕ) where
  below_from : (x n left : ℕ) → x < first + n → T (below_all nat_cmp x (rows_from first bytes n left))
  below_from x n zero lt = tt
  below_from x n (suc left) lt = both _ _ (less x (first + n) lt) (below_from x (suc n) left (omega arith))

  sorted_from : (n left : ℕ) → T (is_sorted nat_cmp (rows_from first bytes n left))
  sorted_from n zero = tt
  sorted_from n (suc left) = both _ _ (below_from (first + n) (suc n) left (omega arith)) (sorted_from (suc n) left)

  missed : (q n left : ℕ) → ((k : ℕ) → n ≤ k → k < n + left → q ≢ first + k) → find nat_cmp q (rows_from first bytes n left) ≡ None
  missed q n zero apart = refl
  missed q n (suc left) apart =
      let here : nat_eq (first + n) q ≡ false = ne_eqb (first + n) q (λ e. apart n (omega arith) (omega arith) (sym e)) in
      ap (λ (b : Bool). cond b (Some (text_at bytes n)) (find nat_cmp q (rows_from first bytes (suc n) left))) (tied q (first + n) ∙ here)
      ∙ missed q (suc n) left (λ k ge lt. apart k (omega (arith, ge)) (omega (arith, lt)))

  met : (k n left : ℕ) → n ≤ k → k < n + left → find nat_cmp (first + k) (rows_from first bytes n left) ≡ Some (text_at bytes k)
  met k n zero ge lt = absurd (omega (arith, ge, lt))
  met k n (suc left) ge lt = ap (λ (b : Bool). cond b (Some (text_at bytes n)) (find nat_cmp (first + k) (rows_from first bytes (suc n) left))) (tied (first + k) (first + n)) ∙ elim (cases_eq n k) [
    | inl e ↦ ap (λ (b : Bool). cond b (Some (text_at bytes n)) (find nat_cmp (first + k) (rows_from first bytes (suc n) left))) (eq-eqb (first + n) (first + k) (omega (arith, e))) ∙ ap (λ (x : ℕ). Some (text_at bytes x)) e
    | inr ne ↦
        ap (λ (b : Bool). cond b (Some (text_at bytes n)) (find nat_cmp (first + k) (rows_from first bytes (suc n) left))) (ne_eqb (first + n) (first + k) (λ e. ne (omega (arith, e))))
        ∙ met k (suc n) left (omega (arith, ge, ne)) (omega (arith, lt))
  ]

  pub length-rows_from : (n left : ℕ) → length (rows_from first bytes n left) ≡ left
  length-rows_from n zero = refl
  length-rows_from n (suc left) = omega (arith, length-rows_from (suc n) left)

  pub row_from : (i n k left : ℕ) (d : Row) → k ≡ n + i → i < left → get_or (rows_from first bytes n left) i d ≡ (first + k, text_at bytes k)
  row_from i n k zero d is lt = absurd (omega arith)
  row_from zero n k (suc left) d is lt = let z : n ≡ k = omega (arith, is) in ap (λ (x : ℕ). (first + x, text_at bytes x)) z
  row_from (suc i) n k (suc left) d is lt = row_from i (suc n) k left d (omega (arith, is)) (omega arith)

-- ---- both are the same

within_true : (low high k : ℕ) → low ≤ k → k ≤ high → (nat_le low k && nat_le k high) ≡ true
within_true low high k a b = grind arith

-- what the rows from a key on are, if so many records are those of a value and there are no more
pub scanned : (name : List ℕ) (table : Table) (first : ℕ) (bytes : List ℕ) (count : ℕ) → count ≤ 512
    → ((n : ℕ) → n < count → get table (of_table name (first + n)) ≡ Some (text_at bytes n)) → ((n : ℕ) → count ≤ n → n < 512 → get table (of_table name (first + n)) ≡ None)
    → rows_within name first (first + 511) table ≡ rows_from first bytes 0 count
scanned name table first bytes count few there none =
    same_entries nat_cmp nat_cmp_total nat_cmp-IsAntisymmetric (rows_within name first (first + 511) table) (rows_from first bytes 0 count)
    (is_sorted-where_key nat_cmp (λ (x : ℕ). nat_le first x && nat_le x (first + 511)) (rows_of name table) (sorted_rows name table))
    (sorted_from first bytes 0 count) same
  where
    outside : (q : ℕ) → (nat_le first q && nat_le q (first + 511)) ≡ false → (n : ℕ) → n < 512 → q ≢ first + n
    outside q is n lt e = absurd (let t : (nat_le first q && nat_le q (first + 511)) ≡ true = within_true first (first + 511) q (omega (arith, e)) (omega (arith, e, lt)) in cc)

    number : (q : ℕ) → (nat_le first q && nat_le q (first + 511)) ≡ true → (n : ℕ) × (q ≡ first + n) × (n < 512)
    number q is =
        let parts = and_parts (nat_le first q) (nat_le q (first + 511)) is in
        let low = leb-true first q parts.0 in
        let high = leb-true q (first + 511) parts.1 in
        (q - first, omega (arith, low), omega (arith, low, high))

    same : (q : ℕ) → find nat_cmp q (rows_within name first (first + 511) table) ≡ find nat_cmp q (rows_from first bytes 0 count)
    same q = found_within name table first (first + 511) q ∙ elim (cases_Bool (nat_le first q && nat_le q (first + 511))) [
      | inl is ↦
          let k = number q is in
          ap (λ (b : Bool). cond b (get table (of_table name q)) None) is ∙ ap (λ (x : ℕ). get table (of_table name x)) k.1 ∙ elim (cases_lt k.0 count) [
            | inl lt ↦ there k.0 lt ∙ sym (ap (λ (x : ℕ). find nat_cmp x (rows_from first bytes 0 count)) k.1 ∙ met first bytes k.0 0 count (omega arith) (omega (arith, lt)))
            | inr ge ↦ none k.0 ge k.2 ∙ sym (missed first bytes q 0 count (λ i low lt e. absurd (let e2 = k.1 in omega (arith, e, e2, ge, lt))))
          ]
      | inr is ↦
          ap (λ (b : Bool). cond b (get table (of_table name q)) None) is
          ∙ sym (missed first bytes q 0 count (λ i low lt e. outside q is i (omega (arith, lt, few)) e))
    ]

-- with no records there are no rows
pub scanned_none : (name : List ℕ) (table : Table) (first : ℕ) → ((n : ℕ) → n < 512 → get table (of_table name (first + n)) ≡ None) → rows_within name first (first + 511) table ≡ []
scanned_none name table first none = scanned name table first [] 0 (omega arith) (λ n lt. absurd (omega (arith, lt))) (λ n ge lt. none n lt)
