-- A tree that is built level by level is sound.
use Rattle.std.proofs.Common.{◌≡◌, ◌≢◌, ℕ, zero, suc, ◌+◌, ◌^◌, ◌<◌, ◌≤◌, List, [], ◌∷◌, ◌++◌, length, refl, sym, ◌∙◌, ap, subst, append_assoc, arith}
use Rattle.record_slots.specs.Places.{page_bytes, next_page, AreGiven}
use Rattle.page_store.specs.Pairs.{Pair, Rise}
use Rattle.index_pages.specs.Keys.{key_end}
use Rattle.index_pages.specs.Page.{kind_said, level_said, count_said, link_said, pairs_said, kind_of, level_of, count_of, link_of, page_pairs}
use Rattle.index_pages.specs.Pieces.{joined}
use Rattle.index_pages.specs.Written.{written_page, kind_for, AreSmall}
use Rattle.index_pages.specs.Ways.{IsOwn}
use Rattle.index_pages.proofs.Rising.{rise_bounds, rise_to_more}
use Rattle.index_pages.proofs.PageFacts.{rise_wide}
use Rattle.index_pages.proofs.Writing.{written_kind, written_level, written_count, written_link, written_pairs}
use Rattle.btree_laws.specs.Sound.{AreBelow, AreSound, IsTree, IsSoundTree}
use Rattle.btree_laws.specs.Tree.{next_low, pieces_with, pairs_under, pairs_of_tree}
use Rattle.btree_laws.specs.declared.root.Root.{Root}
use Rattle.table_builder.specs.Built.{Level, pairs_on, first_key, named, AreFilled, Stand, IsBuilt}

-- what a page says that was written of these pairs
record Says (bytes : List ℕ) (level page : ℕ) (pairs : List Pair) : Type 0 where
  kind : kind_of bytes page ≡ kind_for level
  level_is : level_of bytes page ≡ level
  link : link_of bytes page ≡ 0
  count : count_of bytes page ≡ length pairs
  pairs_are : page_pairs bytes page ≡ pairs

says : (bytes : List ℕ) (level page : ℕ) (pairs : List Pair) → length pairs ≤ 30 → AreSmall pairs → page_bytes bytes page ≡ written_page level 0 pairs → Says bytes level page pairs
says bytes level page pairs few small is = record {
  kind = ap kind_said is ∙ written_kind level 0 pairs few (omega arith);
  level_is = ap level_said is ∙ written_level level 0 pairs few (omega arith);
  link = ap link_said is ∙ written_link level 0 pairs few (omega arith);
  count = ap count_said is ∙ written_count level 0 pairs few (omega arith);
  pairs_are = ap pairs_said is ∙ written_pairs level 0 pairs few (omega arith) small;
}

-- a page that is half full is not empty
not_empty : (page : List Pair) → 15 ≤ length page → 1 ≤ length page
not_empty page half = omega (arith, half)

-- ---- lists of pairs in two parts

low_two : (xs ys : List Pair) (high : ℕ) → next_low xs (next_low ys high) ≡ next_low (xs ++ ys) high
low_two [] ys high = refl
low_two (x ∷ xs) ys high = refl

rise_left : (low high : ℕ) (xs ys : List Pair) → Rise low high (xs ++ ys) → 1 ≤ length xs → Rise low (next_low ys high) xs
rise_left low high [] ys r some = absurd (omega arith)
rise_left low high (x ∷ []) [] r some = r
rise_left low high (x ∷ []) (y ∷ ys) r some = (r.0, r.1.0)
rise_left low high (x ∷ z ∷ xs) ys r some = (r.0, rise_left (suc x.0) high (z ∷ xs) ys r.1 (omega arith))

rise_right : (low high : ℕ) (xs ys : List Pair) → Rise low high (xs ++ ys) → Rise (next_low ys high) high ys
rise_right low high [] [] r = omega arith
rise_right low high [] (y ∷ ys) r = (omega arith, r.1)
rise_right low high (x ∷ xs) ys r = rise_right (suc x.0) high xs ys r.1

small_left : (xs ys : List Pair) → AreSmall (xs ++ ys) → AreSmall xs
small_left [] ys s = tt
small_left (x ∷ xs) ys s = (s.0, s.1, small_left xs ys s.2)

small_right : (xs ys : List Pair) → AreSmall (xs ++ ys) → AreSmall ys
small_right [] ys s = s
small_right (x ∷ xs) ys s = small_right xs ys s.2

given_left : (bytes : List ℕ) (table : ℕ) (xs ys : List Pair) → AreGiven bytes table (xs ++ ys) → AreGiven bytes table xs
given_left bytes table [] ys g = tt
given_left bytes table (x ∷ xs) ys g = (g.0, g.1, given_left bytes table xs ys g.2)

given_right : (bytes : List ℕ) (table : ℕ) (xs ys : List Pair) → AreGiven bytes table (xs ++ ys) → AreGiven bytes table ys
given_right bytes table [] ys g = g
given_right bytes table (x ∷ xs) ys g = given_right bytes table xs ys g.2

below_left : (root pages : ℕ) (xs ys : List Pair) → AreBelow root pages (xs ++ ys) → AreBelow root pages xs
below_left root pages [] ys b = tt
below_left root pages (x ∷ xs) ys b = (b.0, b.1, below_left root pages xs ys b.2)

below_right : (root pages : ℕ) (xs ys : List Pair) → AreBelow root pages (xs ++ ys) → AreBelow root pages ys
below_right root pages [] ys b = b
below_right root pages (x ∷ xs) ys b = below_right root pages xs ys b.2

sound_left : (Is : ℕ → ℕ → ℕ → Type 0) (xs ys : List Pair) (high : ℕ) → AreSound Is (xs ++ ys) high → AreSound Is xs (next_low ys high)
sound_left Is [] ys high s = tt
sound_left Is (x ∷ xs) ys high s = (subst (λ (n : ℕ). Is x.1 x.0 n) (sym (low_two xs ys high)) s.0, sound_left Is xs ys high s.1)

sound_right : (Is : ℕ → ℕ → ℕ → Type 0) (xs ys : List Pair) (high : ℕ) → AreSound Is (xs ++ ys) high → AreSound Is ys high
sound_right Is [] ys high s = s
sound_right Is (x ∷ xs) ys high s = sound_right Is xs ys high s.1

-- ---- the pages of a level are named by rising keys

-- where the pages behind begin
behind : (low first high : ℕ) (pages : Level) → AreFilled pages → next_low (named (first_key (pairs_on pages)) first pages) high ≡ next_low (pairs_on pages) high
behind low first high [] filled = refl
behind low first high ([] ∷ pages) filled = absurd (omega (arith, filled.0))
behind low first high ((p ∷ ps) ∷ pages) filled = refl

named_rise : (low first high : ℕ) (pages : Level) → low ≤ high → AreFilled pages → Rise low high (pairs_on pages) → Rise low high (named low first pages)
named_rise low first high [] most filled r = most
named_rise low first high (page ∷ []) most filled r =
    let some = not_empty page filled.0 in
    (omega arith, (let w = rise_wide low high page some (rise_left low high page [] r some) in omega (arith, w)))
named_rise low first high (page ∷ [] ∷ pages) most filled r = absurd (omega (arith, filled.2.0))
named_rise low first high (page ∷ (p ∷ ps) ∷ pages) most filled r =
    let right = rise_right low high page (pairs_on ((p ∷ ps) ∷ pages)) r in
    let up = rise_bounds p.0 high (pairs_on ((p ∷ ps) ∷ pages)) right in
    let some = not_empty page filled.0 in
    let w = rise_wide low p.0 page some (rise_left low high page (pairs_on ((p ∷ ps) ∷ pages)) r some) in
    let rest = named_rise p.0 (suc first) high ((p ∷ ps) ∷ pages) up filled.2 right in
    (omega arith, (omega (arith, w), rest.1))

named_small : (from low first high : ℕ) (pages : Level) → high ≤ key_end → first + length pages ≤ 2 ^ 64 → Rise from high (named low first pages) → AreSmall (named low first pages)
named_small from low first high [] most few r = tt
named_small from low first high (page ∷ pages) most few r =
    let b = rise_bounds (suc low) high (named (first_key (pairs_on pages)) (suc first) pages) r.1 in
    (omega (arith, b, most), omega (arith, few), named_small (suc low) (first_key (pairs_on pages)) (suc first) high pages most (omega (arith, few)) r.1)

named_below : (root given low first : ℕ) (pages : Level) → 2 ≤ first → root < first → first + length pages ≤ given → AreBelow root given (named low first pages)
named_below root given low first [] two past few = tt
named_below root given low first (page ∷ pages) two past few =
    ((two, λ same. omega (arith, same, past)), omega (arith, few), named_below root given (first_key (pairs_on pages)) (suc first) pages (omega (arith, two)) (omega (arith, past)) (omega (arith, few)))

pub length-named : (low first : ℕ) (pages : Level) → length (named low first pages) ≡ length pages
length-named low first [] = refl
length-named low first (page ∷ pages) = ap suc (length-named (first_key (pairs_on pages)) (suc first) pages)

-- ---- one level

module _ (root : Root) (bytes : List ℕ) where
  -- what pairs of a level lead to: those of leaves to slots, and others to sound trees
  abbrev Leads : ℕ → ℕ → ℕ → List Pair → Type 0
  Leads zero low high pairs = AreGiven bytes root.table pairs
  Leads (suc l) low high pairs = AreSound (IsTree root l bytes) pairs high × AreBelow root.page (next_page bytes) pairs × (next_low pairs low ≡ low)

  -- pairs that pages of this level may have
  record Sits (level low high : ℕ) (pairs : List Pair) : Type 0 where
    rise : Rise low high pairs
    small : AreSmall pairs
    lead : Leads level low high pairs

  leads_left : (level low high : ℕ) (xs ys : List Pair) → 1 ≤ length xs → Leads level low high (xs ++ ys) → Leads level low (next_low ys high) xs
  leads_left zero low high xs ys some g = given_left bytes root.table xs ys g
  leads_left (suc l) low high [] ys some g = absurd (omega arith)
  leads_left (suc l) low high (x ∷ xs) ys some g = (sound_left (IsTree root l bytes) (x ∷ xs) ys high g.0, below_left root.page (next_page bytes) (x ∷ xs) ys g.1, g.2)

  leads_right : (level low high : ℕ) (xs : List Pair) (y : Pair) (ys : List Pair) → Leads level low high (xs ++ y ∷ ys) → Leads level y.0 high (y ∷ ys)
  leads_right zero low high xs y ys g = given_right bytes root.table xs (y ∷ ys) g
  leads_right (suc l) low high xs y ys g = (sound_right (IsTree root l bytes) xs (y ∷ ys) high g.0, below_right root.page (next_page bytes) xs (y ∷ ys) g.1, refl)

  sits_left : (level low high : ℕ) (xs ys : List Pair) → 1 ≤ length xs → Sits level low high (xs ++ ys) → Sits level low (next_low ys high) xs
  sits_left level low high xs ys some s = record { rise = rise_left low high xs ys s.rise some; small = small_left xs ys s.small; lead = leads_left level low high xs ys some s.lead }

  sits_right : (level low high : ℕ) (xs : List Pair) (y : Pair) (ys : List Pair) → Sits level low high (xs ++ y ∷ ys) → Sits level y.0 high (y ∷ ys)
  sits_right level low high xs y ys s =
      record { rise = rise_right low high xs (y ∷ ys) s.rise; small = small_right xs (y ∷ ys) s.small; lead = leads_right level low high xs y ys s.lead }

  -- a page of such pairs is a tree, and its pairs are those that they lead to
  page_sound : (level page low high : ℕ) (pairs : List Pair) → (page ≢ root.page → 1 ≤ length pairs) → (1 ≤ level → 1 ≤ length pairs) → high ≤ key_end → length pairs ≤ 30 → Sits level low high pairs
      → page_bytes bytes page ≡ written_page level 0 pairs → IsTree root level bytes page low high
  page_sound zero page low high pairs some inner most few s is =
      let q = says bytes zero page pairs few s.small is in (
        record {
          kind = q.kind;
          level = q.level_is;
          link = q.link;
          most = omega (arith, q.count, few);
          some = λ other. let m = some other in omega (arith, q.count, m);
          rises = subst (λ (ps : List Pair). Rise low high ps) (sym q.pairs_are) s.rise;
        },
        subst (λ (ps : List Pair). AreGiven bytes root.table ps) (sym q.pairs_are) s.lead,
      )
  page_sound (suc l) page low high pairs some inner most few s is =
      let q = says bytes (suc l) page pairs few s.small is in
      let m = inner (omega arith) in (
        record {
          kind = q.kind;
          level_is = q.level_is;
          link = q.link;
          some = omega (arith, q.count, m);
          most = omega (arith, q.count, few);
          first = subst (λ (ps : List Pair). next_low ps low ≡ low) (sym q.pairs_are) s.lead.2;
          rises = subst (λ (ps : List Pair). Rise low key_end ps) (sym q.pairs_are) (rise_to_more low high key_end pairs most s.rise);
          children = subst (λ (ps : List Pair). AreBelow root.page (next_page bytes) ps) (sym q.pairs_are) s.lead.1;
        },
        subst (λ (ps : List Pair). AreSound (IsTree root l bytes) ps high) (sym q.pairs_are) s.lead.0,
      )

  -- the pages of a level are trees, each from its own low key up to the next one
  level_sound : (level low first high : ℕ) (pages : Level) → high ≤ key_end → Sits level low high (pairs_on pages) → AreFilled pages → Stand bytes level first pages → root.page < first
      → AreSound (IsTree root level bytes) (named low first pages) high
  level_sound level low first high [] most s filled stand past = tt
  level_sound level low first high (page ∷ []) most s filled stand past =
      let some = not_empty page filled.0 in
      let here = sits_left level low high page [] some s in
      (page_sound level first low high page (λ _. some) (λ _. some) most filled.1 here stand.0, tt)
  level_sound level low first high (page ∷ [] ∷ pages) most s filled stand past = absurd (omega (arith, filled.2.0))
  level_sound level low first high (page ∷ (p ∷ ps) ∷ pages) most s filled stand past =
      let some = not_empty page filled.0 in
      let here = sits_left level low high page (pairs_on ((p ∷ ps) ∷ pages)) some s in
      let there = sits_right level low high page p (ps ++ pairs_on pages) s in
      let up = rise_bounds p.0 high (pairs_on ((p ∷ ps) ∷ pages)) there.rise in (
        page_sound level first low p.0 page (λ _. some) (λ _. some) (omega (arith, up, most)) filled.1 here stand.0,
        level_sound level p.0 (suc first) high ((p ∷ ps) ∷ pages) most there filled.2 stand.1 (omega (arith, past)),
      )

  -- so the pairs that name them may stand in the level above
  level_sits : (level low first high : ℕ) (pages : Level) → low ≤ high → high ≤ key_end → 1 ≤ length pages → Sits level low high (pairs_on pages) → AreFilled pages → Stand bytes level first pages
      → root.page < first → 2 ≤ first → first + length pages ≤ next_page bytes → next_page bytes ≤ 2 ^ 64 → Sits (suc level) low high (named low first pages)
  level_sits level low first high [] up most some s filled stand past two given small = absurd (omega arith)
  level_sits level low first high (page ∷ pages) up most some s filled stand past two given small =
      let r = named_rise low first high (page ∷ pages) up filled s.rise in
      record {
        rise = r;
        small = named_small low low first high (page ∷ pages) most (omega (arith, given, small)) r;
        lead = (level_sound level low first high (page ∷ pages) most s filled stand past, named_below root.page (next_page bytes) low first (page ∷ pages) two past given, refl);
      }

  -- ---- what pairs lead to

  abbrev led : ℕ → List Pair → List Pair
  led zero pairs = pairs
  led (suc l) pairs = joined (pieces_with (pairs_under l bytes) pairs)

  led_page : (level page : ℕ) → pairs_under level bytes page ≡ led level (page_pairs bytes page)
  led_page zero page = refl
  led_page (suc l) page = refl

  joined_two : (f : ℕ → List Pair) (xs ys : List Pair) → joined (pieces_with f (xs ++ ys)) ≡ joined (pieces_with f xs) ++ joined (pieces_with f ys)
  joined_two f [] ys = refl
  joined_two f (x ∷ xs) ys = ap (λ (l : List Pair). f x.1 ++ l) (joined_two f xs ys) ∙ sym (append_assoc (f x.1) (joined (pieces_with f xs)) (joined (pieces_with f ys)))

  led_two : (level : ℕ) (xs ys : List Pair) → led level (xs ++ ys) ≡ led level xs ++ led level ys
  led_two zero xs ys = refl
  led_two (suc l) xs ys = joined_two (pairs_under l bytes) xs ys

  led_none : (level : ℕ) → led level [] ≡ []
  led_none zero = refl
  led_none (suc l) = refl

  level_led : (level low first : ℕ) (pages : Level) → AreSmall (pairs_on pages) → AreFilled pages → Stand bytes level first pages → led (suc level) (named low first pages) ≡ led level (pairs_on pages)
  level_led level low first [] small filled stand = sym (led_none level)
  level_led level low first (page ∷ pages) small filled stand =
      let q = says bytes level first page filled.1 (small_left page (pairs_on pages) small) stand.0 in
      let here : pairs_under level bytes first ≡ led level page = led_page level first ∙ ap (led level) q.pairs_are in
      let rest = level_led level (first_key (pairs_on pages)) (suc first) pages (small_right page (pairs_on pages) small) filled.2 stand.1 in
      (λ i. here i ++ rest i) ∙ sym (led_two level page (pairs_on pages))

  -- ---- all levels

  given_later : (page level first : ℕ) (pairs : List Pair) (levels : List Level) → IsBuilt bytes page level first pairs levels → first ≤ next_page bytes
  given_later page level first pairs [] b = b.given
  given_later page level first pairs (pages ∷ levels) b =
      let h = given_later page (suc level) (first + length pages) (named 0 first pages) levels b.1 in omega (arith, h)

  levels_sound : (level first : ℕ) (pairs : List Pair) (levels : List Level) → IsBuilt bytes root.page level first pairs levels → IsOwn bytes root.page → root.page < first → 2 ≤ first → next_page bytes ≤ 2 ^ 64
      → (1 ≤ level → 1 ≤ length pairs) → Sits level 0 key_end pairs → IsSoundTree root bytes × (pairs_of_tree bytes root.page ≡ led level pairs)
  unfolding pairs_of_tree
  levels_sound level first pairs [] b own past two small some s =
      let q = says bytes level root.page pairs b.most s.small b.stands in
      let t = page_sound level root.page 0 key_end pairs (λ other. absurd (other refl)) some (omega arith) b.most s b.stands in (
        (own, omega (arith, q.level_is, b.low), subst (λ (n : ℕ). IsTree root n bytes root.page 0 key_end) (sym q.level_is) t),
        ap (λ (n : ℕ). pairs_under n bytes root.page) q.level_is ∙ led_page level root.page ∙ ap (led level) q.pairs_are,
      )
  levels_sound level first pairs (pages ∷ levels) b own past two small some s =
      let here = b.0 in
      let given = given_later root.page (suc level) (first + length pages) (named 0 first pages) levels b.1 in
      let sits = subst (λ (ps : List Pair). Sits level 0 key_end ps) (sym here.all) s in
      let next = level_sits level 0 first key_end pages (omega arith) (omega arith) here.some sits here.filled here.stand past two given small in
      let rest = levels_sound (suc level) (first + length pages) (named 0 first pages) levels b.1 own (omega (arith, past)) (omega (arith, two)) small
      (λ _. omega (arith, length-named 0 first pages, here.some)) next in
      (rest.0, rest.1 ∙ level_led level 0 first pages sits.small here.filled here.stand ∙ ap (led level) here.all)

pub built_sound : (root : Root) (bytes : List ℕ) (first : ℕ) (pairs : List Pair) (levels : List Level) → IsBuilt bytes root.page 0 first pairs levels
    → IsOwn bytes root.page → root.page < first → 2 ≤ first → next_page bytes ≤ 2 ^ 64
    → Rise 0 key_end pairs → AreSmall pairs → AreGiven bytes root.table pairs
    → IsSoundTree root bytes × (pairs_of_tree bytes root.page ≡ pairs)
built_sound root bytes first pairs levels b own past two small rise are_small given =
    levels_sound root bytes 0 first pairs levels b own past two small (λ h. absurd (omega (arith, h))) (record { rise = rise; small = are_small; lead = given })
