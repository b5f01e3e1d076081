-- Data in which the halves of a full page, the page that names them, and the super page were written.
use Rattle.std.proofs.Common.{◌≡◌, ◌≢◌, ℕ, suc, ◌+◌, ◌*◌, ◌<◌, ◌≤◌, inl, inr, List, [], ◌∷◌, length, refl, sym, ◌∙◌, ap, subst, arith}
use Rattle.mars_base.specs.Bytes.{range}
use Rattle.array_shape.specs.Logged.{Part, applied, AllFit}
use Rattle.record_slots.specs.Super.{SaysSuper, part_bytes}
use Rattle.record_slots.specs.declared.super_page.Super.{Super}
use Rattle.record_slots.specs.Places.{page_bytes, page_count, slot_at, slot_of, next_slot, page_due, tables_of, IsSuper}
use Rattle.page_store.specs.Pairs.{Pair}
use Rattle.page_store.specs.Shown.{address}
use Rattle.index_pages.specs.Adding.{TakesPage}
use Rattle.index_pages.specs.Page.{page_pairs, pairs_said, kind_said, level_said, link_said, kind_of, level_of}
use Rattle.index_pages.specs.Written.{AreSmall, kind_for, written_page}
use Rattle.index_pages.proofs.Fronts.{super_written, super_kept}
use Rattle.index_pages.proofs.Puts.{AllApart, Stand, applied_long, applied_away, applied_stand}
use Rattle.index_pages.proofs.Taken.{HasTaken, page_is_due, taken_one, taken_writable}
use Rattle.index_pages.proofs.Writing.{written_kind, written_level, written_link, written_pairs}
use Rattle.btree_laws.specs.Changes.{IsHalf}
use Rattle.btree_laws.specs.declared.root.Root.{Root}
use Rattle.btree_pages.proofs.Freed.{AreIndexParts, index_fit, pages_apart, front_apart, page_stands}
use Rattle.btree_pages.proofs.LaidOut.{LaidOut}

-- three pages say this, and the super page's part; all else is as it was
pub record AreWritten (old new : List ℕ) (half x y z : ℕ) (a b c part : List ℕ) : Type 0 where
  pub size : length new ≡ length old
  pub count : page_count new ≡ half + half
  pub first : page_bytes new x ≡ a
  pub second : page_bytes new y ≡ b
  pub third : page_bytes new z ≡ c
  pub front : range new 8 280 ≡ part
  pub mark : range new 0 8 ≡ range old 0 8
  pub others : (page : ℕ) → 1 ≤ page → page ≢ x → page ≢ y → page ≢ z → page_bytes new page ≡ page_bytes old page
  pub slots : (j : ℕ) → slot_of new j ≡ slot_of old j

module _ (old : List ℕ) (half : ℕ) (size : length old ≡ 512 * (half + half)) (x y z : ℕ) (a b c part : List ℕ)
    (x_in : (1 ≤ x) × (x < half)) (y_in : (1 ≤ y) × (y < half)) (z_in : (1 ≤ z) × (z < half)) (xy : x ≢ y) (xz : x ≢ z) (yz : y ≢ z)
    (len1 : length a ≡ 512) (len2 : length b ≡ 512) (len3 : length c ≡ 512) (len4 : length part ≡ 280) where
  parts : List Part
  parts = (address x 0, a) ∷ (address y 0, b) ∷ (address z 0, c) ∷ (address 0 8, part) ∷ []

  written : List ℕ
  written = applied ((address x 0, a) ∷ (address y 0, b) ∷ (address z 0, c) ∷ (address 0 8, part) ∷ []) old

  are : AreIndexParts half parts
  unfolding parts
  are = (omega (arith, len1, x_in), (omega (arith, len2, y_in), (omega (arith, len3, z_in), (omega (arith, len4, x_in), tt))))

  fit : AllFit (length old) parts
  fit = index_fit half (length old) parts (omega (arith, size)) are

  apart : AllApart parts
  unfolding parts
  apart = (
    (pages_apart x y _ _ xy len1 len2, (pages_apart x z _ _ xz len1 len3, (front_apart x _ _ len1 len4 x_in.0, tt))),
    ((pages_apart y z _ _ yz len2 len3, (front_apart y _ _ len2 len4 y_in.0, tt)), ((front_apart z _ _ len3 len4 z_in.0, tt), (tt, tt))),
  )

  long : length written ≡ length old
  unfolding written parts
  long = applied_long parts old fit

  halves : page_count written ≡ half + half
  halves = omega (arith, long, size)

  stand : Stand parts written
  unfolding written parts
  stand = applied_stand parts old fit apart

  mark_is : range written 0 8 ≡ range old 0 8
  unfolding written parts
  mark_is = applied_away parts old 0 8 fit (inl (omega (arith, x_in)), (inl (omega (arith, y_in)), (inl (omega (arith, z_in)), (inl (omega arith), tt))))

  others_same : (page : ℕ) → 1 ≤ page → page ≢ x → page ≢ y → page ≢ z → page_bytes written page ≡ page_bytes old page
  unfolding page_bytes written parts
  others_same page some nx ny nz =
      let e : 512 * page ≡ address page 0 = omega arith in
      rw e (applied_away parts old (address page 0) 512 fit
      (pages_apart page x 512 _ nx refl len1, (pages_apart page y 512 _ ny refl len2, (pages_apart page z 512 _ nz refl len3, (front_apart page 512 _ refl len4 some, tt)))))

  slots_same : (j : ℕ) → slot_of written j ≡ slot_of old j
  unfolding slot_of written parts
  slots_same j =
      let place : slot_at written j ≡ 512 * half + 64 * j = omega (arith, halves) in
      let place' : slot_at old j ≡ 512 * half + 64 * j = omega (arith, size) in
      ap (λ (n : ℕ). range written n 64) place
      ∙ applied_away parts old (512 * half + 64 * j) 64 fit
      (inr (omega (arith, len1, x_in)), (inr (omega (arith, len2, y_in)), (inr (omega (arith, len3, z_in)), (inr (omega (arith, len4, x_in)), tt))))
      ∙ ap (λ (n : ℕ). range old n 64) (sym place')

  pub are_written : AreWritten old (applied ((address x 0, a) ∷ (address y 0, b) ∷ (address z 0, c) ∷ (address 0 8, part) ∷ []) old) half x y z a b c part
  unfolding written parts
  are_written = record {
    size = long;
    count = halves;
    first = page_stands written x a len1 stand.0;
    second = page_stands written y b len2 stand.1.0;
    third = page_stands written z c len3 stand.1.1.0;
    front = ap (λ (n : ℕ). range written 8 n) (sym len4) ∙ stand.1.1.1.0;
    mark = mark_is;
    others = others_same;
    slots = slots_same;
  }

-- a page that was written with some pairs of another, at its level, is that part of it
pub is_half : (old new : List ℕ) (whole half level : ℕ) (ps qs : List Pair) → page_bytes new half ≡ written_page level 0 ps → length ps ≤ 30 → level ≤ 7 → AreSmall ps
    → kind_of old whole ≡ kind_for level → level_of old whole ≡ level → ps ≡ qs → IsHalf old new whole half qs
is_half old new whole half level ps qs there few most small kind level_is same = record {
  kind = ap kind_said there ∙ written_kind level 0 ps few (omega (arith, most)) ∙ sym kind;
  level = ap level_said there ∙ written_level level 0 ps few (omega (arith, most)) ∙ sym level_is;
  link = ap link_said there ∙ written_link level 0 ps few (omega (arith, most));
  pairs_are = ap pairs_said there ∙ written_pairs level 0 ps few (omega (arith, most)) small ∙ same;
}

-- the page that is taken next is the one that is due
pub takes_due : (root : Root) (old : List ℕ) (half : ℕ) → LaidOut root old half → (n : ℕ) (front after : Super) (taken : ℕ) → HasTaken old n front → TakesPage old front taken after → (taken ≡ page_due old n) × HasTaken old (suc n) after
takes_due root old half laid n front after taken took takes =
    (takes.due ∙ page_is_due old n front laid.whole.pages took, subst (λ (f : Super). HasTaken old (suc n) f) (sym takes.after_is) (taken_one old n front laid.whole.pages took))

-- what the super page says once so many pages were taken
pub taken_says : (root : Root) (old new : List ℕ) (half : ℕ) → LaidOut root old half → half ≤ 16384 → (front after : Super) → length front.entries ≡ 256 → SaysSuper (page_bytes old 0) front
    → (n : ℕ) → HasTaken old n after → after.next_page ≤ half → page_count new ≡ half + half → range new 0 8 ≡ range old 0 8 → range new 8 280 ≡ part_bytes after
    → SaysSuper (page_bytes new 0) after × IsSuper 1 new × (tables_of new ≡ tables_of old)
taken_says root old new half laid few front after entries_long says n took most count mark part =
    let entries = took.entries_are ∙ sym says.entries in
    let after_long : length after.entries ≡ 256 = ap (λ (es : List ℕ). length es) entries ∙ entries_long in
    let version = took.version_is ∙ sym says.version in
    let form = took.form_is ∙ sym says.form in
    let slots_few : next_slot old ≤ 8 * half = omega (arith, laid.whole.front.slots, laid.count) in
    let now = super_written old new front after mark part says version form
    (taken_writable old n after laid.whole.slots laid.whole.pages took after_long (omega (arith, slots_few, few)) laid.whole.front.some_pages (omega (arith, laid.given_most, few))) in
    let kept = super_kept 1 old new front after half count says now version form entries (omega (arith, took.slot_next, slots_few)) (omega (arith, says.next_page, took.page_next)) most laid.whole.front in
    (now, kept.0, kept.1)
