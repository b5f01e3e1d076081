-- The records of pairs as rows, and the next of them.
use Rattle.std.proofs.Common.{◌≡◌, ℕ, suc, ◌<◌, ◌≤◌, Bool, true, false, cond, ◌&&◌, inl, inr, List, [], ◌∷◌, ◌++◌, refl, sym, ◌∙◌, ap, subst, arith}
use Rattle.std.specs.Prelude.{nat_eq, nat_le, filter, Option, Some, None}
use Rattle.std.specs.declared.cmp.Ordering.{Ordering}
use Rattle.std.specs.declared.cmp.Ordering.TheVariants.{Less}
use Rattle.std.specs.Ordering.{nat_cmp, eq_by_cmp, is_lt}
use Rattle.std.specs.Cmp.{nat_cmp_is, nat_eq_equiv, unsigned_tied}
use Rattle.std.specs.FinMap.{find, is_sorted}
use Rattle.std.specs.FinMap.Entries.{below_all}
use lib.Dec.{T}
use Rattle.std.proofs.lemmas.Bool.{cases_eq, cases_Bool, eq-eqb, ne_eqb}
use Rattle.history.specs.Key.{of_table}
use Rattle.history.specs.declared.key.Key.{Key}
use Rattle.history.specs.Writes.{is_within, rows_of as rows_in_table}
use Rattle.history.proofs.Keyed.{rows_of-found}
use Rattle.page_store.specs.Pairs.{Pair, Rise, found, next}
use Rattle.page_store.specs.Records.{row_at, rows_of}
use Rattle.record_table.specs.Shown.{found_key, table_in}
use Rattle.record_table.proofs.Tables.{record_at, get-table_in}

tied : (q k : ℕ) → eq_by_cmp nat_cmp q k ≡ nat_eq k q
tied q k = unsigned_tied q k ∙ nat_eq_equiv.symm q k

both : (a b : Bool) → T a → T b → T (a && b)
both true b x y = y
both false b x y = absurd x

less : (x y : ℕ) → x < y → T (is_lt (nat_cmp x y))
less x y lt = subst (λ (o : Ordering). T (is_lt o)) (nat_cmp_is x y Less lt) tt

le_true : (a b : ℕ) → a ≤ b → nat_le a b ≡ true
le_true a b le = grind arith

le_false : (a b : ℕ) → b < a → nat_le a b ≡ false
le_false a b lt = grind arith

le_of : (a b : ℕ) → nat_le a b ≡ true → a ≤ b
le_of a b e = grind arith

lt_of : (a b : ℕ) → nat_le a b ≡ false → b < a
lt_of a b e = grind arith

and_false : (a : Bool) → (a && false) ≡ false
and_false true = refl
and_false false = refl

-- a row that a test keeps or drops
kept_row : (low high key : ℕ) (o : Option (List ℕ)) (rest : List (ℕ × List ℕ)) → (nat_le low key && nat_le key high) ≡ true → filter (is_within low high) (row_at key o ++ rest) ≡ row_at key o ++ filter (is_within low high) rest
kept_row low high key None rest is = refl
kept_row low high key (Some v) rest is = ap (λ (b : Bool). cond b ((key, v) ∷ filter (is_within low high) rest) (filter (is_within low high) rest)) is

dropped_row : (low high key : ℕ) (o : Option (List ℕ)) (rest : List (ℕ × List ℕ)) → (nat_le low key && nat_le key high) ≡ false → filter (is_within low high) (row_at key o ++ rest) ≡ filter (is_within low high) rest
dropped_row low high key None rest is = refl
dropped_row low high key (Some v) rest is = ap (λ (b : Bool). cond b ((key, v) ∷ filter (is_within low high) rest) (filter (is_within low high) rest)) is

module _ (d : List ℕ) where
  below_row : (x key : ℕ) (o : Option (List ℕ)) (rest : List (ℕ × List ℕ)) → x < key → T (below_all nat_cmp x rest) → T (below_all nat_cmp x (row_at key o ++ rest))
  below_row x key None rest lt t = t
  below_row x key (Some v) rest lt t = both _ _ (less x key lt) t

  below : (x low high : ℕ) (ps : List Pair) → x < low → Rise low high ps → T (below_all nat_cmp x (rows_of d ps))
  below x low high [] lt rise = tt
  below x low high (p ∷ ps) lt rise = below_row x p.0 (record_at d (Some p.1)) (rows_of d ps) (omega (arith, lt, rise.0)) (below x (suc p.0) high ps (omega (arith, lt, rise.0)) rise.1)

  sorted_row : (key : ℕ) (o : Option (List ℕ)) (rest : List (ℕ × List ℕ)) → T (below_all nat_cmp key rest) → T (is_sorted nat_cmp rest) → T (is_sorted nat_cmp (row_at key o ++ rest))
  sorted_row key None rest a b = b
  sorted_row key (Some v) rest a b = both _ _ a b

  pub sorted : (low high : ℕ) (ps : List Pair) → Rise low high ps → T (is_sorted nat_cmp (rows_of d ps))
  sorted low high [] rise = tt
  sorted low high (p ∷ ps) rise = sorted_row p.0 (record_at d (Some p.1)) (rows_of d ps) (below p.0 (suc p.0) high ps (omega arith) rise.1) (sorted (suc p.0) high ps rise.1)

  not_found : (low high q : ℕ) (ps : List Pair) → Rise low high ps → q < low → found ps q ≡ None
  not_found low high q [] rise lt = refl
  not_found low high q (p ∷ ps) rise lt = ap (λ (b : Bool). cond b (Some p.1) (found ps q)) (ne_eqb p.0 q (λ e. absurd (omega (arith, e, lt, rise.0)))) ∙ not_found (suc p.0) high q ps rise.1 (omega (arith, lt, rise.0))

  find_row : (key q : ℕ) (o : Option (List ℕ)) (rest : List (ℕ × List ℕ)) → find nat_cmp q (row_at key o ++ rest) ≡ cond (nat_eq key q) (elim o as (λ _. Option (List ℕ)) [ None ↦ find nat_cmp q rest | Some v ↦ Some v ]) (find nat_cmp q rest)
  find_row key q None rest = go (nat_eq key q)
    where
      go : (b : Bool) → find nat_cmp q rest ≡ cond b (find nat_cmp q rest) (find nat_cmp q rest)
      go true = refl
      go false = refl
  find_row key q (Some v) rest = ap (λ (b : Bool). cond b (Some v) (find nat_cmp q rest)) (tied q key)

  pub find_rows : (low high q : ℕ) (ps : List Pair) → Rise low high ps → find nat_cmp q (rows_of d ps) ≡ record_at d (found ps q)
  find_rows low high q [] rise = refl
  find_rows low high q (p ∷ ps) rise = find_row p.0 q (record_at d (Some p.1)) (rows_of d ps) ∙ elim (cases_eq p.0 q) [
    | inl same ↦
        let b : nat_eq p.0 q ≡ true = eq-eqb p.0 q same in
        rw b (here (record_at d (Some p.1)) (find_rows (suc p.0) high q ps rise.1 ∙ ap (record_at d) (not_found (suc p.0) high q ps rise.1 (omega (arith, same)))))
    | inr other ↦ let b : nat_eq p.0 q ≡ false = ne_eqb p.0 q other in rw b (find_rows (suc p.0) high q ps rise.1)
  ]
    where
      here : (o : Option (List ℕ)) → find nat_cmp q (rows_of d ps) ≡ None → elim o as (λ _. Option (List ℕ)) [ None ↦ find nat_cmp q (rows_of d ps) | Some v ↦ Some v ] ≡ o
      here None none = none
      here (Some v) none = refl

  -- the rows of a table of which these are the pairs
  pub rows_are : (name : List ℕ) (pairs : List (Key × ℕ)) (low high : ℕ) (ps : List Pair) → Rise low high ps → ((k : ℕ) → found_key pairs (of_table name k) ≡ found ps k) → rows_in_table name (table_in d pairs) ≡ rows_of d ps
  rows_are name pairs low high ps rise has = rows_of-found name (table_in d pairs) (rows_of d ps) (sorted low high ps rise)
      (λ k. get-table_in d pairs (of_table name k) ∙ ap (record_at d) (has k) ∙ sym (find_rows low high k ps rise))

  -- no key from this one on
  pub none_from : (from high : ℕ) (ps : List Pair) → next ps from ≡ None → filter (is_within from high) (rows_of d ps) ≡ []
  none_from from high [] none = refl
  none_from from high (p ∷ ps) none = elim (cases_Bool (nat_le from p.0)) [
    | inl b ↦ absurd (let e : Some p ≡ None = sym (ap (λ (x : Bool). cond x (Some p) (next ps from)) b) ∙ none in cc)
    | inr b ↦
        dropped_row from high p.0 (record_at d (Some p.1)) (rows_of d ps) (ap (λ (x : Bool). x && nat_le p.0 high) b)
        ∙ none_from from high ps (sym (ap (λ (x : Bool). cond x (Some p) (next ps from)) b) ∙ none)
  ]

  -- keys above a bound
  pub none_past : (from high : ℕ) (ps : List Pair) → high < from → filter (is_within from high) (rows_of d ps) ≡ []
  none_past from high [] lt = refl
  none_past from high (p ∷ ps) lt = dropped_row from high p.0 (record_at d (Some p.1)) (rows_of d ps) (empty p.0) ∙ none_past from high ps lt
    where
      empty : (k : ℕ) → (nat_le from k && nat_le k high) ≡ false
      empty k = elim (cases_Bool (nat_le from k)) [
        | inl b ↦ ap (λ (x : Bool). nat_le from k && x) (le_false k high (omega (arith, lt, le_of from k b))) ∙ and_false (nat_le from k)
        | inr b ↦ ap (λ (x : Bool). x && nat_le k high) b
      ]

  -- if all keys are at or above a bound, a smaller lower bound changes nothing
  from_lower : (a b high low top : ℕ) (ps : List Pair) → Rise low top ps → a ≤ low → b ≤ low → filter (is_within a high) (rows_of d ps) ≡ filter (is_within b high) (rows_of d ps)
  from_lower a b high low top [] rise x y = refl
  from_lower a b high low top (p ∷ ps) rise x y =
      let rest = from_lower a b high (suc p.0) top ps rise.1 (omega (arith, x, rise.0)) (omega (arith, y, rise.0)) in
      let ta = le_true a p.0 (omega (arith, x, rise.0)) in
      let tb = le_true b p.0 (omega (arith, y, rise.0)) in
      elim (cases_Bool (nat_le p.0 high)) [
        | inl e ↦
            kept_row a high p.0 (record_at d (Some p.1)) (rows_of d ps) (λ i. ta i && e i) ∙ ap (λ (l : List (ℕ × List ℕ)). row_at p.0 (record_at d (Some p.1)) ++ l) rest
            ∙ sym (kept_row b high p.0 (record_at d (Some p.1)) (rows_of d ps) (λ i. tb i && e i))
        | inr e ↦
            dropped_row a high p.0 (record_at d (Some p.1)) (rows_of d ps) (λ i. ta i && e i) ∙ rest
            ∙ sym (dropped_row b high p.0 (record_at d (Some p.1)) (rows_of d ps) (λ i. tb i && e i))
      ]

  -- the next key up to a bound, and the rows after it
  pub first_from : (from high key slot low top : ℕ) (ps : List Pair) → Rise low top ps → next ps from ≡ Some (key, slot) → key ≤ high
      → (from ≤ key) × (found ps key ≡ Some slot) × (filter (is_within from high) (rows_of d ps) ≡ row_at key (record_at d (Some slot)) ++ filter (is_within (suc key) high) (rows_of d ps))
  first_from from high key slot low top [] rise is le = absurd (cc)
  first_from from high key slot low top (p ∷ ps) rise is le = elim (cases_Bool (nat_le from p.0)) [
    | inl b ↦
        let e : Some p ≡ Some (key, slot) = sym (ap (λ (x : Bool). cond x (Some p) (next ps from)) b) ∙ is in
        let at : p ≡ (key, slot) = cc in
        let k : p.0 ≡ key = λ i. (at i).0 in
        let s : p.1 ≡ slot = λ i. (at i).1 in
        let high_ok = le_true p.0 high (omega (arith, k, le)) in (
          omega (arith, k, le_of from p.0 b),
          ap (λ (x : Bool). cond x (Some p.1) (found ps key)) (eq-eqb p.0 key k) ∙ ap Some s,
          kept_row from high p.0 (record_at d (Some p.1)) (rows_of d ps) (λ i. b i && high_ok i)
              ∙ ap (λ (l : List (ℕ × List ℕ)). row_at p.0 (record_at d (Some p.1)) ++ l)
              (from_lower from (suc p.0) high (suc p.0) top ps rise.1 (omega (arith, le_of from p.0 b)) (omega arith)
              ∙ sym (dropped_row (suc p.0) high p.0 (record_at d (Some p.1)) (rows_of d ps) (ap (λ (x : Bool). x && nat_le p.0 high) (le_false (suc p.0) p.0 (omega arith)))))
              ∙ (λ i. row_at (k i) (record_at d (Some (s i))) ++ filter (is_within (suc (k i)) high) (rows_of d (p ∷ ps))),
        )
    | inr b ↦
        let rest = first_from from high key slot (suc p.0) top ps rise.1 (sym (ap (λ (x : Bool). cond x (Some p) (next ps from)) b) ∙ is) le in
        let lt = lt_of from p.0 b in (
          rest.0,
          ap (λ (x : Bool). cond x (Some p.1) (found ps key)) (ne_eqb p.0 key (λ e. absurd (omega (arith, e, lt, rest.0)))) ∙ rest.1,
          dropped_row from high p.0 (record_at d (Some p.1)) (rows_of d ps) (ap (λ (x : Bool). x && nat_le p.0 high) b) ∙ rest.2
              ∙ ap (λ (l : List (ℕ × List ℕ)). row_at key (record_at d (Some slot)) ++ l)
              (sym (dropped_row (suc key) high p.0 (record_at d (Some p.1)) (rows_of d ps) (ap (λ (x : Bool). x && nat_le p.0 high) (le_false (suc key) p.0 (omega (arith, lt, rest.0)))))),
        )
  ]

  -- the next key is above a bound
  pub none_between : (from high key slot low top : ℕ) (ps : List Pair) → Rise low top ps → next ps from ≡ Some (key, slot) → high < key → filter (is_within from high) (rows_of d ps) ≡ []
  none_between from high key slot low top [] rise is lt = absurd (cc)
  none_between from high key slot low top (p ∷ ps) rise is lt = elim (cases_Bool (nat_le from p.0)) [
    | inl b ↦
        let e : Some p ≡ Some (key, slot) = sym (ap (λ (x : Bool). cond x (Some p) (next ps from)) b) ∙ is in
        let at : p ≡ (key, slot) = cc in
        let k : p.0 ≡ key = λ i. (at i).0 in
        dropped_row from high p.0 (record_at d (Some p.1)) (rows_of d ps) (ap (λ (x : Bool). nat_le from p.0 && x) (le_false p.0 high (omega (arith, k, lt))) ∙ and_false (nat_le from p.0))
        ∙ from_lower from (suc p.0) high (suc p.0) top ps rise.1 (omega (arith, le_of from p.0 b)) (omega arith) ∙ none_past (suc p.0) high ps (omega (arith, k, lt))
    | inr b ↦
        dropped_row from high p.0 (record_at d (Some p.1)) (rows_of d ps) (ap (λ (x : Bool). x && nat_le p.0 high) b)
        ∙ none_between from high key slot (suc p.0) top ps rise.1 (sym (ap (λ (x : Bool). cond x (Some p) (next ps from)) b) ∙ is) lt
  ]
