-- Records that a check gathers, step by step.
use Rattle.std.proofs.Common.{◌≡◌, ℕ, ◌+◌, suc, List, [], ◌∷◌, ◌++◌, drop, refl, sym, ◌∙◌, ap, arith}
use Rattle.std.specs.Prelude.{map, Some, None}
use Rattle.std.proofs.lemmas.List.{append-nil, append_assoc}
use Rattle.record_slots.specs.declared.super_page.TableEntry.{TableEntry}
use Rattle.page_store.specs.Pairs.{Pair}
use Rattle.page_store.specs.Records.{row_of, rows_of}
use Rattle.index_pages.proofs.Tabled.{root_in}
use Rattle.index_pages.proofs.Tables.{entry_at, none_at}

pub rows_append : (bytes : List ℕ) (ps qs : List Pair) → rows_of bytes (ps ++ qs) ≡ rows_of bytes ps ++ rows_of bytes qs
rows_append bytes [] qs = refl
rows_append bytes (p ∷ ps) qs = ap (λ (l : List (ℕ × List ℕ)). row_of bytes p ++ l) (rows_append bytes ps qs) ∙ sym (append_assoc (row_of bytes p) (rows_of bytes ps) (rows_of bytes qs))

-- Of the records of all pairs those of these are left: behind what was gathered they make up all.
abbrev pub RowsLeft : List ℕ → List (ℕ × List ℕ) → List Pair → List (ℕ × List ℕ) → List Pair → Type 0
RowsLeft bytes old all rows left = rows ++ rows_of bytes left ≡ old ++ rows_of bytes all

module _ (bytes : List ℕ) (old : List (ℕ × List ℕ)) (all : List Pair) (rows : List (ℕ × List ℕ)) where
  pub left_row : (new : List (ℕ × List ℕ)) (p : Pair) (qs : List Pair) → RowsLeft bytes old all rows (p ∷ qs) → new ≡ rows ++ row_of bytes p → RowsLeft bytes old all new qs
  left_row new p qs left is = ap (λ (l : List (ℕ × List ℕ)). l ++ rows_of bytes qs) is ∙ append_assoc rows (row_of bytes p) (rows_of bytes qs) ∙ left

  pub left_more : (new : List (ℕ × List ℕ)) (ps qs : List Pair) → RowsLeft bytes old all rows (ps ++ qs) → new ≡ rows ++ rows_of bytes ps → RowsLeft bytes old all new qs
  left_more new ps qs left is =
      ap (λ (l : List (ℕ × List ℕ)). l ++ rows_of bytes qs) is ∙ append_assoc rows (rows_of bytes ps) (rows_of bytes qs)
      ∙ ap (λ (l : List (ℕ × List ℕ)). rows ++ l) (sym (rows_append bytes ps qs)) ∙ left

  pub left_none : RowsLeft bytes old all rows [] → rows ≡ old ++ rows_of bytes all
  left_none left = sym (append-nil rows) ∙ left

-- Of the records of tables, each told of its root, those from this number on are left.
abbrev pub TablesTold : (ℕ → List (ℕ × List ℕ)) → List TableEntry → List (List (ℕ × List ℕ)) → ℕ → List (List (ℕ × List ℕ)) → Type 0
TablesTold rows tables old j got = got ++ map (λ entry. rows entry.root) (drop j tables) ≡ old ++ map (λ entry. rows entry.root) tables

module _ (rows : ℕ → List (ℕ × List ℕ)) (tables : List TableEntry) (old : List (List (ℕ × List ℕ))) (j : ℕ) (got : List (List (ℕ × List ℕ))) (left : TablesTold rows tables old j got) where
  pub told_end : drop j tables ≡ [] → got ≡ old ++ map (λ entry. rows entry.root) tables
  told_end none = sym (append-nil got) ∙ ap (λ (ts : List TableEntry). got ++ map (λ (entry : TableEntry). rows entry.root) ts) (sym none) ∙ left

  pub told_none : root_in tables j ≡ None → got ≡ old ++ map (λ entry. rows entry.root) tables
  told_none is = told_end (none_at tables j is)

  pub told_step : (root : ℕ) → root_in tables j ≡ Some root → (new : List (List (ℕ × List ℕ))) (own : List (ℕ × List ℕ)) → own ≡ rows root → new ≡ got ++ own ∷ [] → TablesTold rows tables old (j + 1) new
  told_step root is new own own_is new_is =
      let e = entry_at tables j root is in
      let on : suc j ≡ j + 1 = omega arith in
      let rest : List (List (ℕ × List ℕ)) = map (λ (entry : TableEntry). rows entry.root) (drop (j + 1) tables) in
      ap (λ (l : List (List (ℕ × List ℕ))). l ++ rest) new_is ∙ append_assoc got (own ∷ []) rest
      ∙ ap (λ (l : List (ℕ × List ℕ)). got ++ (l ∷ rest)) (own_is ∙ ap rows (sym e.2))
      ∙ ap (λ (k : ℕ). got ++ (rows e.0.root ∷ map (λ (entry : TableEntry). rows entry.root) (drop k tables))) (sym on)
      ∙ ap (λ (ts : List TableEntry). got ++ map (λ (entry : TableEntry). rows entry.root) ts) (sym e.1) ∙ left
