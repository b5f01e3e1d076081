-- A level as it is written, page by page.
use Rattle.std.proofs.Common.{◌≡◌, ℕ, zero, suc, ◌+◌, ◌-◌, ◌<◌, ◌≤◌, Bool, true, false, cond, nat_le, nat_lt, inl, inr, List, [], ◌∷◌, ◌++◌, length, map, take, drop, Result, Ok, Err, refl, sym, ◌∙◌, ap, subst, append_assoc, arith}
use Rattle.std.specs.Prelude.{IfOk}
use Rattle.std.proofs.lemmas.Bool.{le-leb}
use Rattle.std.proofs.lemmas.Bool.Decides.{leb_tells}
use Rattle.std.proofs.lemmas.List.{append-nil, length-append, length-drop, length-take, drop-drop, drop_all}
use Rattle.page_store.specs.Pairs.{Pair}
use Rattle.index_pages.specs.Written.{written_page}
use Rattle.table_builder.specs.Built.{Level, first_key, named, pairs_on}
use Rattle.table_builder.specs.Plan.{cut, page_size, pages_of, levels_of, level_bytes, top_of}
use Rattle.table_builder.proofs.Planning.{IsSize, bound, length-map, pages_all, pages_few, size_is}
use Rattle.table_builder.proofs.Building.{length-named}

-- where the next page begins, whose low key is 0 if it is the first
abbrev pub low_at : ℕ → List Pair → ℕ
low_at at pairs = cond (nat_lt 0 at) (first_key (drop at pairs)) 0

module _ (fill : ℕ) (some : 15 ≤ fill) (most : fill ≤ 30) where
  cut_none : (n : ℕ) → cut fill n [] ≡ []
  cut_none zero = refl
  cut_none (suc n) = refl

  cut_same : (n m : ℕ) (pairs : List Pair) → length pairs ≤ n → length pairs ≤ m → cut fill n pairs ≡ cut fill m pairs
  cut_same n m [] a b = cut_none n ∙ sym (cut_none m)
  cut_same zero m (p ∷ ps) a b = absurd (omega (arith, a))
  cut_same (suc n) zero (p ∷ ps) a b = absurd (omega (arith, b))
  cut_same (suc n) (suc m) (p ∷ ps) a b =
      let one = (size_is fill some most (length (p ∷ ps))).some (omega arith) in
      let left = length-drop (page_size fill (length (p ∷ ps))) (p ∷ ps) in
      ap (λ (l : Level). take (page_size fill (length (p ∷ ps))) (p ∷ ps) ∷ l)
      (cut_same n m (drop (page_size fill (length (p ∷ ps))) (p ∷ ps)) (omega (arith, a, one, left)) (omega (arith, b, one, left)))

  -- the first page, and those behind it
  pub pages_more : (pairs : List Pair) → 1 ≤ length pairs → pages_of fill pairs ≡ take (page_size fill (length pairs)) pairs ∷ pages_of fill (drop (page_size fill (length pairs)) pairs)
  unfolding pages_of
  pages_more [] has = absurd (omega (arith, has))
  pages_more (p ∷ ps) has =
      let one = (size_is fill some most (length (p ∷ ps))).some (omega arith) in
      ap (λ (l : Level). take (page_size fill (length (p ∷ ps))) (p ∷ ps) ∷ l)
      (cut_same (length ps) (length (drop (page_size fill (length (p ∷ ps))) (p ∷ ps))) (drop (page_size fill (length (p ∷ ps))) (p ∷ ps))
      (omega (arith, one, length-drop (page_size fill (length (p ∷ ps))) (p ∷ ps))) (omega arith))

  pub pages_none : pages_of fill [] ≡ []
  unfolding pages_of
  pages_none = refl

  drop_taken : (n : ℕ) (pairs : List Pair) → drop (length (take n pairs)) pairs ≡ drop n pairs
  drop_taken zero pairs = refl
  drop_taken (suc n) [] = refl
  drop_taken (suc n) (p ∷ ps) = drop_taken n ps

  -- what is left behind a page
  left_behind : (n at : ℕ) (pairs : List Pair) → drop (at + length (take n (drop at pairs))) pairs ≡ drop n (drop at pairs)
  left_behind n at pairs = sym (drop-drop (length (take n (drop at pairs))) at pairs) ∙ drop_taken n (drop at pairs)

  module _ (level at : ℕ) (pairs page : List Pair) (inside : at < length pairs) (is : page ≡ take (page_size fill (length (drop at pairs))) (drop at pairs)) where
    abbrev size : ℕ
    size = page_size fill (length (drop at pairs))

    has : 1 ≤ length (drop at pairs)
    has = omega (arith, length-drop at pairs, inside)

    sized : IsSize (length (drop at pairs)) (page_size fill (length (drop at pairs)))
    sized = size_is fill some most (length (drop at pairs))

    page_size_is : length page ≡ page_size fill (length (drop at pairs))
    page_size_is = ap length is ∙ length-take (page_size fill (length (drop at pairs))) (drop at pairs) ∙ omega (arith, sized.within)

    page_long : 1 ≤ length page
    page_long = let one = sized.some has in omega (arith, page_size_is, one)

    pub page_within : at + length page ≤ length pairs
    page_within = omega (arith, page_size_is, sized.within, length-drop at pairs, inside)

    pub page_short : length page ≤ 30
    page_short = omega (arith, page_size_is, sized.most)

    pub page_moves : length pairs - (at + length page) < length pairs - at
    page_moves = omega (arith, page_long, page_within)

    rest_is : drop (page_size fill (length (drop at pairs))) (drop at pairs) ≡ drop (at + length page) pairs
    rest_is = sym (ap (λ (p : List Pair). drop (at + length p) pairs) is ∙ left_behind (page_size fill (length (drop at pairs))) at pairs)

    split : pages_of fill (drop at pairs) ≡ page ∷ pages_of fill (drop (at + length page) pairs)
    split = pages_more (drop at pairs) has ∙ (λ i. sym is i ∷ pages_of fill (rest_is i))

    -- one page more
    pub page_more : (done new : List (List ℕ)) (bytes : List ℕ) → bytes ≡ written_page level 0 page → new ≡ done ++ bytes ∷ []
        → new ++ map (written_page level 0) (pages_of fill (drop (at + length page) pairs)) ≡ done ++ map (written_page level 0) (pages_of fill (drop at pairs))
    page_more done new bytes said pushed =
        ap (λ (l : List (List ℕ)). l ++ map (written_page level 0) (pages_of fill (drop (at + length page) pairs))) pushed
        ∙ append_assoc done (bytes ∷ []) (map (written_page level 0) (pages_of fill (drop (at + length page) pairs)))
        ∙ ap (λ (b : List ℕ). done ++ b ∷ map (written_page level 0) (pages_of fill (drop (at + length page) pairs))) said
        ∙ ap (λ (l : Level). done ++ map (written_page level 0) l) (sym split)

    low_next : low_at (at + length page) pairs ≡ first_key (pairs_on (pages_of fill (drop (at + length page) pairs)))
    low_next =
        let b : nat_lt 0 (at + length page) ≡ true = le-leb 1 (at + length page) (omega (arith, page_long)) in
        ap (λ (c : Bool). cond c (first_key (drop (at + length page) pairs)) 0) b ∙ ap first_key (sym (pages_all fill some most (drop (at + length page) pairs)))

    pub name_more : (done new : List Pair) (low number count next : ℕ) → low ≡ low_at at pairs → number ≡ count → new ≡ done ++ (low, number) ∷ [] → next ≡ suc count
        → new ++ named (low_at (at + length page) pairs) next (pages_of fill (drop (at + length page) pairs)) ≡ done ++ named (low_at at pairs) count (pages_of fill (drop at pairs))
    name_more done new low number count next said counted pushed one =
        ap (λ (l : List Pair). l ++ named (low_at (at + length page) pairs) next (pages_of fill (drop (at + length page) pairs))) pushed
        ∙ append_assoc done ((low, number) ∷ []) (named (low_at (at + length page) pairs) next (pages_of fill (drop (at + length page) pairs)))
        ∙ (λ i. done ++ (said i, counted i) ∷ named (low_next i) (one i) (pages_of fill (drop (at + length page) pairs)))
        ∙ ap (λ (l : Level). done ++ named (low_at at pairs) count l) (sym split)

  -- all pages
  none_left : (at : ℕ) (pairs : List Pair) → length pairs ≤ at → pages_of fill (drop at pairs) ≡ []
  none_left at pairs past = ap (pages_of fill) (drop_all at pairs past) ∙ pages_none

  pub pages_done : (level at : ℕ) (pairs : List Pair) (done : List (List ℕ)) → length pairs ≤ at → done ++ map (written_page level 0) (pages_of fill (drop at pairs)) ≡ done
  pages_done level at pairs done past = ap (λ (l : Level). done ++ map (written_page level 0) l) (none_left at pairs past) ∙ append-nil done

  pub names_done : (low first at : ℕ) (pairs done : List Pair) → length pairs ≤ at → done ++ named low first (pages_of fill (drop at pairs)) ≡ done
  names_done low first at pairs done past = ap (λ (l : Level). done ++ named low first l) (none_left at pairs past) ∙ append-nil done

  -- how many pages are left to be counted
  pub count_more : (at : ℕ) (pairs : List Pair) → at < length pairs
      → length (pages_of fill (drop at pairs)) ≡ suc (length (pages_of fill (drop (at + page_size fill (length pairs - at)) pairs)))
  count_more at pairs inside =
      let long : length (drop at pairs) ≡ length pairs - at = length-drop at pairs in
      ap length (pages_more (drop at pairs) (omega (arith, long, inside)))
      ∙ ap (λ (l : List Pair). suc (length (pages_of fill l)))
      (ap (λ (n : ℕ). drop (page_size fill n) (drop at pairs)) long ∙ drop-drop (page_size fill (length pairs - at)) at pairs)

  pub count_none : (at : ℕ) (pairs : List Pair) → length pairs ≤ at → length (pages_of fill (drop at pairs)) ≡ 0
  count_none at pairs past = ap length (none_left at pairs past)

-- ---- levels

-- a level more
pub more_is : (fill left first : ℕ) (pairs : List Pair) → 30 < length pairs
    → levels_of fill (suc left) first pairs ≡ pages_of fill pairs ∷ levels_of fill left (first + length (pages_of fill pairs)) (named 0 first (pages_of fill pairs))
more_is fill left first pairs many = elim (leb_tells (length pairs) 30) [
  | inl h ↦ absurd (omega (arith, h.1, many))
  | inr h ↦
      let b : nat_le (length pairs) 30 ≡ false = h.0 in
      ap (λ (c : Bool). cond c [] (pages_of fill pairs ∷ levels_of fill left (first + length (pages_of fill pairs)) (named 0 first (pages_of fill pairs)))) b
]

pub few_is : (fill left first : ℕ) (pairs : List Pair) → length pairs ≤ 30 → levels_of fill left first pairs ≡ []
few_is fill zero first pairs few = refl
few_is fill (suc left) first pairs few = elim (leb_tells (length pairs) 30) [
  | inl h ↦
      let b : nat_le (length pairs) 30 ≡ true = h.0 in
      ap (λ (c : Bool). cond c [] (pages_of fill pairs ∷ levels_of fill left (first + length (pages_of fill pairs)) (named 0 first (pages_of fill pairs)))) b
  | inr h ↦ absurd (omega (arith, h.1, few))
]

pub one_longer : {A : Type 0} (done new : List A) (x : A) → new ≡ done ++ x ∷ [] → length new ≡ suc (length done)
one_longer done new x is = ap length is ∙ length-append done (x ∷ []) ∙ omega arith

pub if_ok : {T E : Type 0} (r : Result T E) (P Q : T → Type 0) → ((x : T) → P x → Q x) → IfOk r P → IfOk r Q
if_ok (Ok x) P Q each p = each x p
if_ok (Err e) P Q each p = p

-- what is known of the levels behind the first holds of all
module _ (fill level left base : ℕ) (pairs names : List Pair) (done pages : List (List ℕ)) (many : 30 < length pairs) (some : 1 ≤ left)
    (pushed : pages ≡ done ++ map (written_page level 0) (pages_of fill pairs)) (named_is : names ≡ named 0 (base + length done) (pages_of fill pairs)) where
  next_is : base + length pages ≡ base + length done + length (pages_of fill pairs)
  next_is = omega (arith, ap length pushed, length-append done (map (written_page level 0) (pages_of fill pairs)), length-map (written_page level 0) (pages_of fill pairs))

  all_levels : levels_of fill left (base + length done) pairs ≡ pages_of fill pairs ∷ levels_of fill (left - 1) (base + length pages) names
  all_levels =
      ap (λ (n : ℕ). levels_of fill n (base + length done) pairs) (let e : left ≡ suc (left - 1) = omega (arith, some) in e)
      ∙ more_is fill (left - 1) (base + length done) pairs many
      ∙ (λ i. pages_of fill pairs ∷ levels_of fill (left - 1) (sym next_is i) (sym named_is i))

  pub level_pages : (new : List (List ℕ)) → new ≡ pages ++ level_bytes (level + 1) (levels_of fill (left - 1) (base + length pages) names)
      → new ≡ done ++ level_bytes level (levels_of fill left (base + length done) pairs)
  level_pages new is =
      is ∙ ap (λ (l : List (List ℕ)). l ++ level_bytes (level + 1) (levels_of fill (left - 1) (base + length pages) names)) pushed
      ∙ append_assoc done (map (written_page level 0) (pages_of fill pairs)) (level_bytes (level + 1) (levels_of fill (left - 1) (base + length pages) names))
      ∙ ap (λ (n : ℕ). done ++ (map (written_page level 0) (pages_of fill pairs) ++ level_bytes n (levels_of fill (left - 1) (base + length pages) names))) (let e : level + 1 ≡ suc level = omega arith in e)
      ∙ ap (λ (ls : List Level). done ++ level_bytes level ls) (sym all_levels)

  pub level_count : (n : ℕ) → n ≡ level + 1 + length (levels_of fill (left - 1) (base + length pages) names) → n ≡ level + length (levels_of fill left (base + length done) pairs)
  level_count n is = let e : length (levels_of fill left (base + length done) pairs) ≡ suc (length (levels_of fill (left - 1) (base + length pages) names)) = ap length all_levels in omega (arith, is, e)

  pub level_top : (top : List Pair) → top ≡ top_of (base + length pages) names (levels_of fill (left - 1) (base + length pages) names) → top ≡ top_of (base + length done) pairs (levels_of fill left (base + length done) pairs)
  level_top top is =
      is ∙ (λ i. top_of (next_is i) (named_is i) (levels_of fill (left - 1) (base + length pages) names)) ∙ ap (top_of (base + length done) pairs) (sym all_levels)

-- no level more
pub few_pages : (fill level left first : ℕ) (pairs : List Pair) (done : List (List ℕ)) → length pairs ≤ 30 → done ≡ done ++ level_bytes level (levels_of fill left first pairs)
few_pages fill level left first pairs done few = sym (ap (λ (ls : List Level). done ++ level_bytes level ls) (few_is fill left first pairs few) ∙ append-nil done)

pub few_count : (fill level left first : ℕ) (pairs : List Pair) → length pairs ≤ 30 → level ≡ level + length (levels_of fill left first pairs)
few_count fill level left first pairs few = let e : length (levels_of fill left first pairs) ≡ 0 = ap length (few_is fill left first pairs few) in omega (arith, e)

pub few_top : (fill left first : ℕ) (pairs : List Pair) → length pairs ≤ 30 → pairs ≡ top_of first pairs (levels_of fill left first pairs)
few_top fill left first pairs few = sym (ap (top_of first pairs) (few_is fill left first pairs few))

-- few enough are left for the root
pub top_few : (fill : ℕ) → 15 ≤ fill → fill ≤ 30 → (n first : ℕ) (pairs : List Pair) → length pairs ≤ bound n → length (top_of first pairs (levels_of fill n first pairs)) ≤ 30
top_few fill some most zero first pairs few = few
top_few fill some most (suc n) first pairs few = elim (leb_tells (length pairs) 30) [
  | inl h ↦ subst (λ (ls : List Level). length (top_of first pairs ls) ≤ 30) (sym (few_is fill (suc n) first pairs h.1)) h.1
  | inr h ↦
      let many : 30 < length pairs = omega (arith, h.1) in
      subst (λ (ls : List Level). length (top_of first pairs ls) ≤ 30) (sym (more_is fill n first pairs many))
      (top_few fill some most n (first + length (pages_of fill pairs)) (named 0 first (pages_of fill pairs))
      (omega (arith, length-named 0 first (pages_of fill pairs), pages_few fill some most pairs many, few)))
]

-- how many pages all levels have
pub length-levels : (fill left level first : ℕ) (pairs : List Pair) → 30 < length pairs
    → length (level_bytes level (levels_of fill (suc left) first pairs))
    ≡ length (pages_of fill pairs) + length (level_bytes (suc level) (levels_of fill left (first + length (pages_of fill pairs)) (named 0 first (pages_of fill pairs))))
length-levels fill left level first pairs many =
    ap (λ (ls : List Level). length (level_bytes level ls)) (more_is fill left first pairs many)
    ∙ length-append (map (written_page level 0) (pages_of fill pairs)) (level_bytes (suc level) (levels_of fill left (first + length (pages_of fill pairs)) (named 0 first (pages_of fill pairs))))
    ∙ ap (λ (n : ℕ). n + length (level_bytes (suc level) (levels_of fill left (first + length (pages_of fill pairs)) (named 0 first (pages_of fill pairs))))) (length-map (written_page level 0) (pages_of fill pairs))
