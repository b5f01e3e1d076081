-- How many pages an index takes.
use Rattle.std.proofs.Common.{◌≡◌, ℕ, zero, suc, ◌+◌, inl, inr, List, [], ◌∷◌, length, drop, refl, sym, ◌∙◌, ap, arith}
use Rattle.std.proofs.lemmas.Bool.Decides.{leb_tells}
use Rattle.std.proofs.lemmas.List.{length-append, length-drop}
use Rattle.history.specs.Rows.{NamedRows}
use Rattle.history.specs.Writes.{Row}
use Rattle.page_store.specs.Pairs.{Pair}
use Rattle.table_builder.specs.Built.{Level, named}
use Rattle.table_builder.specs.Image.{pairs_for}
use Rattle.table_builder.specs.Plan.{below_bytes, built_for, built_from, cut, index_for, level_bytes, levels_for, levels_of, page_size, pages_of, roots_bytes}
use Rattle.table_builder.proofs.Building.{length-named}
use Rattle.table_builder.proofs.Cutting.{few_is, length-levels}
use Rattle.table_builder.proofs.Making.{length-pairs_for, length-roots_bytes}

-- how many pages there are depends on how many pairs there are, and on nothing else
cut_count : (fill n : ℕ) (one two : List Pair) → length one ≡ length two → length (cut fill n one) ≡ length (cut fill n two)
cut_count fill zero one two same = refl
cut_count fill (suc n) [] [] same = refl
cut_count fill (suc n) [] (q ∷ qs) same = absurd (omega (arith, same))
cut_count fill (suc n) (p ∷ ps) [] same = absurd (omega (arith, same))
cut_count fill (suc n) (p ∷ ps) (q ∷ qs) same =
    let size : page_size fill (length (p ∷ ps)) ≡ page_size fill (length (q ∷ qs)) = ap (page_size fill) same in
    ap suc (
    cut_count fill n (drop (page_size fill (length (p ∷ ps))) (p ∷ ps)) (drop (page_size fill (length (q ∷ qs))) (q ∷ qs))
    (length-drop (page_size fill (length (p ∷ ps))) (p ∷ ps) ∙ omega (arith, same, size, length-drop (page_size fill (length (q ∷ qs))) (q ∷ qs)))
    )

pages_count : (fill : ℕ) (one two : List Pair) → length one ≡ length two → length (pages_of fill one) ≡ length (pages_of fill two)
unfolding pages_of
pages_count fill one two same = ap (λ (n : ℕ). length (cut fill n one)) same ∙ cut_count fill (length two) one two same

levels_count : (fill n level other first next : ℕ) (one two : List Pair) → length one ≡ length two
    → length (level_bytes level (levels_of fill n first one)) ≡ length (level_bytes other (levels_of fill n next two))
levels_count fill zero level other first next one two same = refl
levels_count fill (suc n) level other first next one two same = elim (leb_tells (length one) 30) [
  | inl h ↦
      ap (λ (ls : List Level). length (level_bytes level ls)) (few_is fill (suc n) first one h.1)
      ∙ ap (λ (ls : List Level). length (level_bytes other ls)) (sym (few_is fill (suc n) next two (omega (arith, h.1, same))))
  | inr h ↦
      let here = pages_count fill one two same in
      let rest = levels_count fill n (suc level) (suc other) (first + length (pages_of fill one)) (next + length (pages_of fill two)) (named 0 first (pages_of fill one)) (named 0 next (pages_of fill two))
      (length-named 0 first (pages_of fill one) ∙ here ∙ sym (length-named 0 next (pages_of fill two))) in
      omega (arith, length-levels fill n level first one (omega (arith, h.1)), length-levels fill n other next two (omega (arith, h.1, same)), here, rest)
]

-- how many pages are below the roots
abbrev pub below_count : ℕ → List NamedRows → ℕ
below_count fill [] = 0
below_count fill (table ∷ tables) = length (level_bytes 0 (levels_for fill 0 0 table.1)) + below_count fill tables

length-below_bytes : (fill root slot first : ℕ) (tables : List NamedRows) → length (below_bytes (built_from fill root slot first tables)) ≡ below_count fill tables
unfolding levels_for
length-below_bytes fill root slot first [] = refl
length-below_bytes fill root slot first (table ∷ tables) =
    let here = levels_count fill 7 0 0 first 0 (pairs_for slot table.1) (pairs_for 0 table.1) (length-pairs_for slot table.1 ∙ sym (length-pairs_for 0 table.1)) in
    let rest = length-below_bytes fill (suc root) (slot + length table.1) (first + length (level_bytes 0 (levels_of fill 7 first (pairs_for slot table.1)))) tables in
    omega (
      arith,
      here,
      rest,
      length-append (level_bytes 0 (levels_of fill 7 first (pairs_for slot table.1)))
          (below_bytes (built_from fill (suc root) (slot + length table.1) (first + length (level_bytes 0 (levels_of fill 7 first (pairs_for slot table.1)))) tables)),
    )

pub length-index_for : (fill : ℕ) (tables : List NamedRows) → length (index_for fill tables) ≡ suc (length tables) + below_count fill tables
unfolding index_for built_for
length-index_for fill tables =
    omega (
      arith,
      length-append (roots_bytes 0 (built_from fill 1 0 (suc (length tables)) tables)) (below_bytes (built_from fill 1 0 (suc (length tables)) tables)),
      length-roots_bytes fill 1 0 0 (suc (length tables)) tables,
      length-below_bytes fill 1 0 (suc (length tables)) tables,
    )

-- the pages of a table's levels
pub length-levels_for : (fill : ℕ) (rows : List Row) (n : ℕ) → ((ps : List Pair) → length ps ≡ length rows → n ≡ length (level_bytes 0 (levels_of fill 7 0 ps))) → n ≡ length (level_bytes 0 (levels_for fill 0 0 rows))
unfolding levels_for
length-levels_for fill rows n each = each (pairs_for 0 rows) (length-pairs_for 0 rows)
