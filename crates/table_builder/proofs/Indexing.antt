-- The pages of an index, as they are written table by table.
use Rattle.std.proofs.Common.{◌≡◌, ℕ, suc, ◌+◌, List, [], ◌∷◌, ◌++◌, length, ◌∙◌, ap, append_assoc, arith}
use Rattle.std.proofs.lemmas.List.{length-append}
use Rattle.record_slots.specs.Super.{super_bytes}
use Rattle.history.specs.Rows.{NamedRows}
use Rattle.index_pages.specs.Written.{written_page}
use Rattle.table_builder.specs.Image.{pairs_for}
use Rattle.table_builder.specs.Plan.{below_bytes, built_for, built_from, front_for, index_for, level_bytes, levels_for, roots_bytes, top_of}
use Rattle.table_builder.proofs.Making.{length-roots_bytes}

-- one table more, whose rows lie in the slots from one on, and its pages from one on
module _ (fill root slot at after next behind : ℕ) (table : NamedRows) (left : List NamedRows) (follows : after ≡ suc root) (slots : next ≡ slot + length table.1)
    (pages : behind ≡ at + length (level_bytes 0 (levels_for fill slot at table.1))) (done new all : List (List ℕ)) where
  pub roots_more : (page : List ℕ) → page ≡ written_page (length (levels_for fill slot at table.1)) 0 (top_of at (pairs_for slot table.1) (levels_for fill slot at table.1)) → new ≡ done ++ page ∷ []
      → done ++ roots_bytes slot (built_from fill root slot at (table ∷ left)) ≡ all → new ++ roots_bytes next (built_from fill after next behind left) ≡ all
  roots_more page said pushed is =
      ap (λ (l : List (List ℕ)). l ++ roots_bytes next (built_from fill after next behind left)) pushed
      ∙ append_assoc done (page ∷ []) (roots_bytes next (built_from fill after next behind left))
      ∙ (λ i. done ++ said i ∷ roots_bytes (slots i) (built_from fill (follows i) (slots i) (pages i) left)) ∙ is

  pub below_more : new ≡ done ++ level_bytes 0 (levels_for fill slot at table.1)
      → done ++ below_bytes (built_from fill root slot at (table ∷ left)) ≡ all → new ++ below_bytes (built_from fill after next behind left) ≡ all
  below_more pushed is =
      ap (λ (l : List (List ℕ)). l ++ below_bytes (built_from fill after next behind left)) pushed
      ∙ append_assoc done (level_bytes 0 (levels_for fill slot at table.1)) (below_bytes (built_from fill after next behind left))
      ∙ (λ i. done ++ (level_bytes 0 (levels_for fill slot at table.1) ++ below_bytes (built_from fill (follows i) (slots i) (pages i) left))) ∙ is

-- before the first
pub begun_roots : (fill first : ℕ) (tables : List NamedRows) (none : List (List ℕ)) → none ≡ [] → first ≡ suc (length tables) → none ++ roots_bytes 0 (built_from fill 1 0 first tables) ≡ roots_bytes 0 (built_for fill tables)
unfolding built_for
begun_roots fill first tables none empty is = λ i. empty i ++ roots_bytes 0 (built_from fill 1 0 (is i) tables)

pub begun_below : (fill first : ℕ) (tables : List NamedRows) (none : List (List ℕ)) → none ≡ [] → first ≡ suc (length tables) → none ++ below_bytes (built_from fill 1 0 first tables) ≡ below_bytes (built_for fill tables)
unfolding built_for
begun_below fill first tables none empty is = λ i. empty i ++ below_bytes (built_from fill 1 0 (is i) tables)

-- all pages together
long_index : (fill : ℕ) (tables : List NamedRows) → length (index_for fill tables) ≡ suc (length tables) + length (below_bytes (built_for fill tables))
unfolding index_for built_for
long_index fill tables =
    omega (
      arith,
      length-append (roots_bytes 0 (built_from fill 1 0 (suc (length tables)) tables)) (below_bytes (built_from fill 1 0 (suc (length tables)) tables)),
      length-roots_bytes fill 1 0 0 (suc (length tables)) tables,
    )

pub index_made : (fill : ℕ) (tables one two three : List NamedRows) (pages : ℕ) (front : List ℕ) (roots below : List (List ℕ)) → one ≡ tables → two ≡ tables → three ≡ tables
    → pages ≡ length (index_for fill one) → front ≡ super_bytes (front_for two pages) → roots ≡ roots_bytes 0 (built_for fill three) → below ≡ below_bytes (built_for fill three)
    → front ∷ (roots ++ below) ≡ index_for fill tables
unfolding index_for
index_made fill tables one two three pages front roots below first second third count super top rest =
    let many : pages ≡ suc (length tables) + length (below_bytes (built_for fill tables)) = count ∙ ap (λ (ts : List NamedRows). length (index_for fill ts)) first ∙ long_index fill tables in
    let f : front ≡ super_bytes (front_for tables (suc (length tables) + length (below_bytes (built_for fill tables)))) = super ∙ (λ i. super_bytes (front_for (second i) (many i))) in
    let r : roots ≡ roots_bytes 0 (built_for fill tables) = top ∙ ap (λ (ts : List NamedRows). roots_bytes 0 (built_for fill ts)) third in
    let b : below ≡ below_bytes (built_for fill tables) = rest ∙ ap (λ (ts : List NamedRows). below_bytes (built_for fill ts)) third in
    λ i. f i ∷ (r i ++ b i)
