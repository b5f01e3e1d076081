-- Pages of a plan, and the trees that they are.
use Rattle.std.proofs.Common.{◌≡◌, ℕ, zero, suc, ◌+◌, ◌*◌, ◌/◌, ◌<◌, ◌≤◌, ◌⊎◌, Bool, true, false, cond, inl, inr, List, [], ◌∷◌, ◌++◌, length, map, take, drop, nat_le, nat_lt, refl, sym, ◌∙◌, ap, subst, arith}
use Rattle.std.specs.Prelude.{Some, slice_get}
use Rattle.std.proofs.lemmas.Bool.{le-leb, lt-leb}
use Rattle.std.proofs.lemmas.Bool.Decides.{leb_tells}
use Rattle.std.proofs.lemmas.List.{length-drop, length-take, take-append-drop, length-append}
use Rattle.record_slots.specs.Places.{page_bytes, next_page}
use Rattle.page_store.specs.Pairs.{Pair}
use Rattle.index_pages.specs.Written.{written_page}
use Rattle.table_builder.specs.Built.{Level, pairs_on, named, AreFilled, Stand, IsBuilt}
use Rattle.table_builder.specs.Plan.{page_size, cut, pages_of, levels_of, top_of, level_bytes}
use Rattle.table_builder.proofs.Building.{length-named}

-- so many pairs need no more than n levels below the root
abbrev pub bound : ℕ → ℕ
bound zero = 30
bound (suc n) = 15 * bound n

pub length-map : (f : List Pair → List ℕ) (pages : Level) → length (map f pages) ≡ length pages
length-map f [] = refl
length-map f (page ∷ pages) = ap suc (length-map f pages)

pub get_left : {X : Type 0} (xs ys : List X) (k : ℕ) (x : X) → slice_get xs k ≡ Some x → slice_get (xs ++ ys) k ≡ Some x
get_left [] ys k x is = absurd (cc)
get_left (y ∷ xs) ys zero x is = is
get_left (y ∷ xs) ys (suc k) x is = get_left xs ys k x is

pub get_right : {X : Type 0} (xs ys : List X) (k : ℕ) → slice_get (xs ++ ys) (length xs + k) ≡ slice_get ys k
get_right [] ys k = ap (slice_get ys) (let e : 0 + k ≡ k = omega arith in e)
get_right (y ∷ xs) ys k = ap (slice_get (y ∷ (xs ++ ys))) (let e : suc (length xs) + k ≡ suc (length xs + k) = omega arith in e) ∙ get_right xs ys k

-- ---- how many pairs a page gets

pub all_in_one : (fill left : ℕ) → left ≤ fill → page_size fill left ≡ left
unfolding page_size
all_in_one fill left le = let b : nat_le left fill ≡ true = le-leb left fill le in rw b refl

pub fits_in_one : (fill left : ℕ) → fill < left → left < 30 → page_size fill left ≡ left
unfolding page_size
fits_in_one fill left more lt =
    let b : nat_le left fill ≡ false = lt-leb left fill more in
    let c : nat_lt left 30 ≡ true = le-leb (suc left) 30 lt in
    rw (b, c) refl

pub shared_by_two : (fill left : ℕ) → fill < left → 30 ≤ left → left < fill + 15 → page_size fill left ≡ left / 2
unfolding page_size
shared_by_two fill left more many lt =
    let b : nat_le left fill ≡ false = lt-leb left fill more in
    let c : nat_lt left 30 ≡ false = lt-leb (suc left) 30 (omega (arith, many)) in
    let d : nat_lt left (fill + 15) ≡ true = le-leb (suc left) (fill + 15) lt in
    rw (b, c, d) refl

pub full_page : (fill left : ℕ) → fill < left → 30 ≤ left → fill + 15 ≤ left → page_size fill left ≡ fill
unfolding page_size
full_page fill left more many le =
    let b : nat_le left fill ≡ false = lt-leb left fill more in
    let c : nat_lt left 30 ≡ false = lt-leb (suc left) 30 (omega (arith, many)) in
    let d : nat_lt left (fill + 15) ≡ false = lt-leb (suc left) (fill + 15) (omega (arith, le)) in
    rw (b, c, d) refl

-- what is left is taken bit by bit, and 15 and more are never left with fewer
pub record IsSize (left size : ℕ) : Type 0 where
  pub some : 1 ≤ left → 1 ≤ size
  pub within : size ≤ left
  pub most : size ≤ 30
  pub half : 15 ≤ left → 15 ≤ size
  pub rest : 15 ≤ left → (left ≤ size) ⊎ (15 + size ≤ left)

module _ (fill : ℕ) (some : 15 ≤ fill) (most : fill ≤ 30) where
  pub size_is : (left : ℕ) → IsSize left (page_size fill left)
  size_is left = elim (leb_tells left fill) [
    | inl h ↦ subst (IsSize left) (sym (all_in_one fill left h.1))
        (record { some = λ e. e; within = omega arith; most = omega (arith, h.1, most); half = λ e. e; rest = λ e. inl (omega arith) })
    | inr h ↦ elim (leb_tells (suc left) 30) [
      | inl k ↦ subst (IsSize left) (sym (fits_in_one fill left (omega (arith, h.1)) (omega (arith, k.1))))
          (record { some = λ e. e; within = omega arith; most = omega (arith, k.1); half = λ e. e; rest = λ e. inl (omega arith) })
      | inr k ↦ elim (leb_tells (suc left) (fill + 15)) [
        | inl m ↦ subst (IsSize left) (sym (shared_by_two fill left (omega (arith, h.1)) (omega (arith, k.1)) (omega (arith, m.1)))) (record {
          some = λ e. omega (arith, k.1);
          within = omega arith;
          most = omega (arith, m.1, most);
          half = λ e. omega (arith, k.1);
          rest = λ e. inr (omega (arith, k.1));
        })
        | inr m ↦ subst (IsSize left) (sym (full_page fill left (omega (arith, h.1)) (omega (arith, k.1)) (omega (arith, m.1)))) (record {
          some = λ e. omega (arith, some);
          within = omega (arith, h.1);
          most = most;
          half = λ e. some;
          rest = λ e. inr (omega (arith, m.1));
        })
      ]
    ]
  ]

  -- ---- pages of so many pairs

  abbrev pub taken : List Pair → ℕ
  taken pairs = page_size fill (length pairs)

  pub cut_filled : (n : ℕ) (pairs : List Pair) → (length pairs ≡ 0) ⊎ (15 ≤ length pairs) → AreFilled (cut fill n pairs)
  cut_filled zero pairs either = tt
  cut_filled (suc n) [] either = tt
  cut_filled (suc n) (p ∷ ps) (inl none) = absurd (omega (arith, none))
  cut_filled (suc n) (p ∷ ps) (inr many) =
      let q = size_is (length (p ∷ ps)) in
      let long = length-take (taken (p ∷ ps)) (p ∷ ps) in
      let half = q.half many in
      let left = length-drop (taken (p ∷ ps)) (p ∷ ps) in (
        omega (arith, long, half, q.within),
        omega (arith, long, q.most),
        cut_filled n (drop (taken (p ∷ ps)) (p ∷ ps)) (elim (q.rest many) [ inl none ↦ inl (omega (arith, left, none)) | inr more ↦ inr (omega (arith, left, more)) ]),
      )

  pub cut_all : (n : ℕ) (pairs : List Pair) → length pairs ≤ n → pairs_on (cut fill n pairs) ≡ pairs
  cut_all zero [] few = refl
  cut_all zero (p ∷ ps) few = absurd (omega (arith, few))
  cut_all (suc n) [] few = refl
  cut_all (suc n) (p ∷ ps) few =
      let q = size_is (length (p ∷ ps)) in
      let one = q.some (omega arith) in
      ap (λ (l : List Pair). take (taken (p ∷ ps)) (p ∷ ps) ++ l) (cut_all n (drop (taken (p ∷ ps)) (p ∷ ps)) (omega (arith, length-drop (taken (p ∷ ps)) (p ∷ ps), few, one)))
      ∙ take-append-drop (taken (p ∷ ps)) (p ∷ ps)

  filled_few : (pages : Level) → AreFilled pages → 15 * length pages ≤ length (pairs_on pages)
  filled_few [] filled = omega arith
  filled_few (page ∷ pages) filled = let rest = filled_few pages filled.2 in omega (arith, rest, filled.0, length-append page (pairs_on pages))

  -- a level of more pairs than one page takes: its pages are half full at least
  pub pages_filled : (pairs : List Pair) → 30 < length pairs → AreFilled (pages_of fill pairs)
  unfolding pages_of
  pages_filled pairs many = cut_filled (length pairs) pairs (inr (omega (arith, many)))

  pub pages_all : (pairs : List Pair) → pairs_on (pages_of fill pairs) ≡ pairs
  unfolding pages_of
  pages_all pairs = cut_all (length pairs) pairs (omega arith)

  pub pages_few : (pairs : List Pair) → 30 < length pairs → 15 * length (pages_of fill pairs) ≤ length pairs
  pages_few pairs many =
      let few = filled_few (pages_of fill pairs) (pages_filled pairs many) in
      let all : length (pairs_on (pages_of fill pairs)) ≡ length pairs = ap length (pages_all pairs) in
      omega (arith, few, all)

  cut_some : (n : ℕ) (pairs : List Pair) → 1 ≤ n → 1 ≤ length pairs → 1 ≤ length (cut fill n pairs)
  cut_some zero pairs one has = absurd (omega (arith, one))
  cut_some (suc n) [] one has = absurd (omega (arith, has))
  cut_some (suc n) (p ∷ ps) one has = omega arith

  pages_some : (pairs : List Pair) → 1 ≤ length pairs → 1 ≤ length (pages_of fill pairs)
  unfolding pages_of
  pages_some pairs has = cut_some (length pairs) pairs has has

  -- ---- levels of pages

  abbrev pub StandAll : List ℕ → ℕ → ℕ → List Level → Type 0
  StandAll bytes level first [] = Unit {0}
  StandAll bytes level first (pages ∷ levels) = Stand bytes level first pages × StandAll bytes (suc level) (first + length pages) levels

  abbrev pub IsAt : List ℕ → ℕ → List (List ℕ) → Type 0
  IsAt bytes first pages = (k : ℕ) (x : List ℕ) → slice_get pages k ≡ Some x → page_bytes bytes (first + k) ≡ x

  stand_at : (bytes : List ℕ) (level first : ℕ) (pages : Level) → IsAt bytes first (map (written_page level 0) pages) → Stand bytes level first pages
  stand_at bytes level first [] at = tt
  stand_at bytes level first (page ∷ pages) at = (
    ap (page_bytes bytes) (let e : first ≡ first + 0 = omega arith in e) ∙ at 0 (written_page level 0 page) refl,
    stand_at bytes level (suc first) pages (λ k x is. ap (page_bytes bytes) (let e : suc first + k ≡ first + suc k = omega arith in e) ∙ at (suc k) x is),
  )

  pub stand_all : (bytes : List ℕ) (level first : ℕ) (levels : List Level) → IsAt bytes first (level_bytes level levels) → StandAll bytes level first levels
  stand_all bytes level first [] at = tt
  stand_all bytes level first (pages ∷ levels) at = (
    stand_at bytes level first pages (λ k x is. at k x (get_left (map (written_page level 0) pages) (level_bytes (suc level) levels) k x is)),
    stand_all bytes (suc level) (first + length pages) levels
        (λ k x is.
        ap (page_bytes bytes) (let e : first + length pages + k ≡ first + (length (map (written_page level 0) pages) + k) = omega (arith, length-map (written_page level 0) pages) in e)
        ∙ at (length (map (written_page level 0) pages) + k) x (get_right (map (written_page level 0) pages) (level_bytes (suc level) levels) k ∙ is)),
  )

  abbrev later : ℕ → ℕ → List Pair → List Level
  later n first pairs = levels_of fill n (first + length (pages_of fill pairs)) (named 0 first (pages_of fill pairs))

  abbrev levels_if : ℕ → ℕ → List Pair → Bool → List Level
  levels_if n first pairs c = cond c [] (pages_of fill pairs ∷ later n first pairs)

  abbrev pub Builds : List ℕ → ℕ → ℕ → ℕ → List Pair → List Level → Type 0
  Builds bytes root level first pairs levels =
      StandAll bytes level first levels → page_bytes bytes root ≡ written_page (level + length levels) 0 (top_of first pairs levels)
      → first + length (level_bytes level levels) ≤ next_page bytes → IsBuilt bytes root level first pairs levels

  top_alone : (bytes : List ℕ) (root level first : ℕ) (pairs : List Pair) → level ≤ 7 → length pairs ≤ 30 → Builds bytes root level first pairs []
  top_alone bytes root level first pairs low few stand top given =
      record { low = low; most = few; stands = top ∙ ap (λ (l : ℕ). written_page l 0 pairs) (let e : level + 0 ≡ level = omega arith in e); given = omega (arith, given) }

  pub built_levels : (bytes : List ℕ) (root n level first : ℕ) (pairs : List Pair) → level + n ≤ 7 → length pairs ≤ bound n → Builds bytes root level first pairs (levels_of fill n first pairs)
  built_levels bytes root zero level first pairs low few = top_alone bytes root level first pairs (omega (arith, low)) few
  built_levels bytes root (suc n) level first pairs low few = elim (leb_tells (length pairs) 30) [
    | inl h ↦
        let b : nat_le (length pairs) 30 ≡ true = h.0 in
        subst (λ (c : Bool). Builds bytes root level first pairs (levels_if n first pairs c)) (sym b) (top_alone bytes root level first pairs (omega (arith, low)) h.1)
    | inr h ↦
        let b : nat_le (length pairs) 30 ≡ false = h.0 in
        let many : 30 < length pairs = omega (arith, h.1) in
        subst (λ (c : Bool). Builds bytes root level first pairs (levels_if n first pairs c)) (sym b)
        (λ stand top given. (
          record { all = pages_all pairs; some = pages_some pairs (omega (arith, many)); filled = pages_filled pairs many; stand = stand.0 },
          built_levels bytes root n (suc level) (first + length (pages_of fill pairs)) (named 0 first (pages_of fill pairs)) (omega (arith, low))
              (omega (arith, length-named 0 first (pages_of fill pairs), pages_few pairs many, few)) stand.1
              (top ∙ ap (λ (l : ℕ). written_page l 0 (top_of (first + length (pages_of fill pairs)) (named 0 first (pages_of fill pairs)) (later n first pairs)))
              (let e : level + suc (length (later n first pairs)) ≡ suc level + length (later n first pairs) = omega arith in e))
              (omega (arith, given, length-append (map (written_page level 0) (pages_of fill pairs)) (level_bytes (suc level) (later n first pairs)), length-map (written_page level 0) (pages_of fill pairs))),
        ))
  ]
