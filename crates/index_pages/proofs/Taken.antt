-- Pages and slots that are taken: which they are, and what the data says once their super page is written.
use Rattle.std.proofs.Common.{◌≡◌, ◌≢◌, ℕ, zero, suc, ◌+◌, ◌-◌, ◌^◌, ◌<◌, ◌≤◌, ◌⊎◌, true, false, inl, inr, List, length, Option, Some, None, refl, sym, ◌∙◌, ap, subst, arith}
use Rattle.std.specs.Prelude.{nat_eq, nat_lt, if◌then◌else◌}
use Rattle.std.proofs.lemmas.Bool.{cases_eq, cases_lt}
use Rattle.std.proofs.lemmas.Bool.Decides.{nat_tests}
use Rattle.record_slots.specs.Free.{next_of, member_at, free_said}
use Rattle.record_slots.specs.Super.{SaysSuper, free_in, form_said, entries_said}
use Rattle.record_slots.specs.Places.{page_bytes, slot_of, next_slot, next_page, version_of, free_slot, free_page, free_slots, free_pages, free_slot_of, free_page_of, used_slots, used_pages, slot_due, page_due, Carries}
use Rattle.record_slots.specs.declared.free.Free.{Free}
use Rattle.record_slots.specs.declared.super_page.Super.{Super}
use Rattle.page_store.specs.Index.{IsFreePage}
use Rattle.page_store.specs.Pairs.{Pair}
use Rattle.index_pages.proofs.Carrying.{free_carries}
use Rattle.index_pages.specs.Adding.{with_slot_taken, with_page_taken, page_for, first_page, slot_for, first_slot}
use Rattle.index_pages.specs.Slots.{HasRank}
use Rattle.index_pages.proofs.Stacks.{IsList, list_after, list_kept, members_kept, members_differ, member_is, member_after, member_last, rank_some, list_few}
use Rattle.record_slots.proofs.ReadingBack.{IsWritable}

-- the free pages of data
abbrev pub FreePages : List ℕ → Type 0
FreePages bytes = IsList (free_page_of bytes) 2 (next_page bytes) (free_pages bytes) (free_page bytes)

abbrev pub FreeSlots : List ℕ → Type 0
FreeSlots bytes = IsList (free_slot_of bytes) 0 (next_slot bytes) (free_slots bytes) (free_slot bytes)

-- The super page of data from which so many pages are taken. Nothing was written yet.
pub record HasTaken (bytes : List ℕ) (n : ℕ) (front : Super) : Type 0 where
  pub version_is : front.version ≡ version_of bytes
  pub form_is : front.form ≡ form_said (page_bytes bytes 0)
  pub entries_are : front.entries ≡ entries_said (page_bytes bytes 0)
  pub slot_next : front.next_slot ≡ next_slot bytes
  pub slot_first : front.free_slot ≡ free_slot bytes
  pub slots_free : front.free_slots ≡ free_slots bytes
  pub page_next : front.next_page ≡ next_page bytes + (n - free_pages bytes)
  pub pages_free : front.free_pages ≡ free_pages bytes - n
  pub page_first : n ≤ free_pages bytes → front.free_page ≡ member_at (free_page_of bytes) (free_page bytes) n
  pub none_free : free_pages bytes ≤ n → front.free_page ≡ 0

pub taken_none : (bytes : List ℕ) (front : Super) → SaysSuper (page_bytes bytes 0) front → FreePages bytes → HasTaken bytes 0 front
taken_none bytes front says list = record {
  version_is = says.version;
  form_is = says.form;
  entries_are = says.entries;
  slot_next = says.next_slot;
  slot_first = says.free_slot;
  slots_free = says.free_slots;
  page_next = omega (arith, says.next_page);
  pages_free = omega (arith, says.free_pages);
  page_first = λ le. says.free_page;
  none_free = λ none. says.free_page ∙ empty (free_pages bytes) (free_page bytes) list (omega (arith, none));
}
  where
    empty : (n named : ℕ) → IsList (free_page_of bytes) 2 (next_page bytes) n named → n ≡ 0 → named ≡ 0
    empty zero named l e = l
    empty (suc n) named l e = absurd (omega arith)

-- the free pages that are left
pub list_left : (bytes : List ℕ) (n : ℕ) (front : Super) → FreePages bytes → HasTaken bytes n front → IsList (free_page_of bytes) 2 front.next_page front.free_pages front.free_page
list_left bytes n front list took = elim (cases_lt n (free_pages bytes)) [
  | inl less ↦
      let l = list_after (free_page_of bytes) 2 (next_page bytes) (free_pages bytes) n (free_page bytes) list (omega (arith, less)) in
      let l' = subst (λ (k : ℕ). IsList (free_page_of bytes) 2 (next_page bytes) (free_pages bytes - n) k) (sym (took.page_first (omega (arith, less)))) l in
      let l'' = subst (λ (k : ℕ). IsList (free_page_of bytes) 2 (next_page bytes) k front.free_page) (sym took.pages_free) l' in
      subst (λ (k : ℕ). IsList (free_page_of bytes) 2 k front.free_pages front.free_page) (let e : next_page bytes ≡ front.next_page = omega (arith, took.page_next, less) in e) l''
  | inr more ↦
      let none : front.free_pages ≡ 0 = omega (arith, took.pages_free, more) in
      subst (λ (k : ℕ). IsList (free_page_of bytes) 2 front.next_page k front.free_page) (sym none) (took.none_free (omega (arith, more)))
]

-- one more page is taken: it is the next that is due
module _ (bytes : List ℕ) (n : ℕ) (front : Super) (list : FreePages bytes) (took : HasTaken bytes n front) where
  pub page_is_due : page_for front ≡ page_due bytes n
  page_is_due = elim (cases_lt n (free_pages bytes)) [
    | inl less ↦
        let a : nat_eq front.free_pages 0 ≡ false = grind (arith, nat_tests, took.pages_free, less) in
        let b : nat_lt n (free_pages bytes) ≡ true = grind (arith, nat_tests, less) in
        let e : front.free_page - 1 ≡ member_at (free_page_of bytes) (free_page bytes) n - 1 = ap (λ (m : ℕ). m - 1) (took.page_first (omega (arith, less))) in
        rw (a, b) e
    | inr more ↦
        let a : nat_eq front.free_pages 0 ≡ true = grind (arith, nat_tests, took.pages_free, more) in
        let b : nat_lt n (free_pages bytes) ≡ false = grind (arith, nat_tests, more) in
        rw (a, b) took.page_next
  ]

  next_free : (o : Option Free) → o ≢ None → (with_page_taken o front).free_page ≡ next_of o
  next_free None some = absurd (some refl)
  next_free (Some f) some = refl

  one_less : (o : Option Free) → o ≢ None → ((with_page_taken o front).free_pages ≡ front.free_pages - 1) × ((with_page_taken o front).next_page ≡ front.next_page)
  one_less None some = absurd (some refl)
  one_less (Some f) some = (refl, refl)

  others_same : (o : Option Free) → ((with_page_taken o front).version ≡ front.version) × ((with_page_taken o front).form ≡ front.form) × ((with_page_taken o front).entries ≡ front.entries)
      × ((with_page_taken o front).next_slot ≡ front.next_slot) × ((with_page_taken o front).free_slot ≡ front.free_slot) × ((with_page_taken o front).free_slots ≡ front.free_slots)
  others_same None = (refl, refl, refl, refl, refl, refl)
  others_same (Some f) = (refl, refl, refl, refl, refl, refl)

  took_free : n < free_pages bytes → HasTaken bytes (suc n) (with_page_taken (free_page_of bytes (front.free_page - 1)) front)
  took_free less =
      let here : front.free_page ≡ member_at (free_page_of bytes) (free_page bytes) n = took.page_first (omega (arith, less)) in
      let m = member_is (free_page_of bytes) 2 (next_page bytes) (free_pages bytes) n (free_page bytes) list less in
      let some : free_page_of bytes (front.free_page - 1) ≢ None =
      rank_some (free_page_of bytes (front.free_page - 1)) (free_pages bytes - n) (subst (λ (x : ℕ). HasRank (free_pages bytes - n) (free_page_of bytes (x - 1))) (sym here) m.1) in
      let same = others_same (free_page_of bytes (front.free_page - 1)) in
      let less_is = one_less (free_page_of bytes (front.free_page - 1)) some in
      let next : (with_page_taken (free_page_of bytes (front.free_page - 1)) front).free_page ≡ member_at (free_page_of bytes) (free_page bytes) (suc n) =
      next_free (free_page_of bytes (front.free_page - 1)) some ∙ ap (λ (x : ℕ). next_of (free_page_of bytes (x - 1))) here ∙ sym (member_last (free_page_of bytes) (free_page bytes) n) in
      record {
        version_is = same.0 ∙ took.version_is;
        form_is = same.1 ∙ took.form_is;
        entries_are = same.2 ∙ took.entries_are;
        slot_next = same.3 ∙ took.slot_next;
        slot_first = same.4 ∙ took.slot_first;
        slots_free = same.5 ∙ took.slots_free;
        page_next = omega (arith, less_is.1, took.page_next, less);
        pages_free = omega (arith, less_is.0, took.pages_free, less);
        page_first = λ le. next;
        none_free = λ none. next ∙ last (omega (arith, none, less));
      }
    where
      end : (k named : ℕ) → IsList (free_page_of bytes) 2 (next_page bytes) k named → k ≡ 0 → named ≡ 0
      end zero named l e = l
      end (suc k) named l e = absurd (omega arith)

      last : suc n ≡ free_pages bytes → member_at (free_page_of bytes) (free_page bytes) (suc n) ≡ 0
      last all = end (free_pages bytes - suc n) (member_at (free_page_of bytes) (free_page bytes) (suc n))
          (list_after (free_page_of bytes) 2 (next_page bytes) (free_pages bytes) (suc n) (free_page bytes) list (omega (arith, all))) (omega (arith, all))

  took_next : free_pages bytes ≤ n → HasTaken bytes (suc n) (with_page_taken None front)
  took_next none = record {
    version_is = took.version_is;
    form_is = took.form_is;
    entries_are = took.entries_are;
    slot_next = took.slot_next;
    slot_first = took.slot_first;
    slots_free = took.slots_free;
    page_next = omega (arith, took.page_next, none);
    pages_free = omega (arith, took.pages_free, none);
    page_first = λ le. absurd (omega (arith, le, none));
    none_free = λ more. took.none_free none;
  }

  pub taken_one : HasTaken bytes (suc n) (with_page_taken (first_page bytes front) front)
  taken_one = elim (cases_lt n (free_pages bytes)) [
    | inl less ↦
        let a : nat_eq front.free_pages 0 ≡ false = grind (arith, nat_tests, took.pages_free, less) in
        rw a (took_free less)
    | inr more ↦
        let a : nat_eq front.free_pages 0 ≡ true = grind (arith, nat_tests, took.pages_free, more) in
        rw a (took_next (omega (arith, more)))
  ]

-- the pages that are due: a free one, or the next to give out
module _ (bytes : List ℕ) (list : FreePages bytes) (n : ℕ) where
  pub due_free : n < free_pages bytes → (page_due bytes n ≡ member_at (free_page_of bytes) (free_page bytes) n - 1) × (2 ≤ page_due bytes n) × (page_due bytes n < next_page bytes)
      × (free_page_of bytes (page_due bytes n) ≢ None)
  due_free less =
      let b : nat_lt n (free_pages bytes) ≡ true = grind (arith, nat_tests, less) in
      let is : page_due bytes n ≡ member_at (free_page_of bytes) (free_page bytes) n - 1 = (rw b refl) in
      let m = member_is (free_page_of bytes) 2 (next_page bytes) (free_pages bytes) n (free_page bytes) list less in (
        is,
        omega (arith, is, m.0.0),
        omega (arith, is, m.0.0, m.0.1),
        subst (λ (x : ℕ). free_page_of bytes x ≢ None) (sym is) (rank_some (free_page_of bytes (member_at (free_page_of bytes) (free_page bytes) n - 1)) (free_pages bytes - n) m.1),
      )

  pub due_next : free_pages bytes ≤ n → page_due bytes n ≡ next_page bytes + (n - free_pages bytes)
  due_next none = let b : nat_lt n (free_pages bytes) ≡ false = grind (arith, nat_tests, none) in (rw b refl)

-- no two pages that are due are one
pub dues_differ : (bytes : List ℕ) → FreePages bytes → (i j : ℕ) → i < j → page_due bytes i ≢ page_due bytes j
dues_differ bytes list i j less same = elim (cases_lt j (free_pages bytes)) [
  | inl free ↦
      let a = due_free bytes list i (omega (arith, less, free)) in
      let b = due_free bytes list j free in
      members_differ (free_page_of bytes) 2 (next_page bytes) (free_pages bytes) i j (free_page bytes) list (omega (arith, less, free)) free (λ e. omega (arith, e, less)) (sym a.0 ∙ same ∙ b.0)
  | inr past ↦
      let b = due_next bytes list j (omega (arith, past)) in
      elim (cases_lt i (free_pages bytes)) [
        | inl free ↦ let a = due_free bytes list i free in omega (arith, a.2, same, b)
        | inr past' ↦ let a = due_next bytes list i (omega (arith, past')) in omega (arith, a, same, b, less, past')
      ]
]

-- Data whose super page was written after so many pages were taken. The free pages that are left, and the free slots, are as they were.
pub record IsAfter (old new : List ℕ) (n : ℕ) : Type 0 where
  pub slots_next : next_slot new ≡ next_slot old
  pub slot_first : free_slot new ≡ free_slot old
  pub slots_free : free_slots new ≡ free_slots old
  pub pages_next : next_page new ≡ next_page old + (n - free_pages old)
  pub pages_free : free_pages new ≡ free_pages old - n
  pub slots : FreeSlots new
  pub pages : FreePages new
  pub due : (i : ℕ) → page_due new i ≡ page_due old (n + i)

module _ (old new : List ℕ) (n : ℕ) (after : Super) (slots : FreeSlots old) (pages : FreePages old) (took : HasTaken old n after) (says : SaysSuper (page_bytes new 0) after)
    (left : (i : ℕ) → n ≤ i → i < free_pages old → page_bytes new (page_due old i) ≡ page_bytes old (page_due old i))
    (free : (slot : ℕ) → free_slot_of old slot ≢ None → slot_of new slot ≡ slot_of old slot) where
  page_next : next_page new ≡ next_page old + (n - free_pages old)
  page_next = sym says.next_page ∙ took.page_next

  pages_many : free_pages new ≡ free_pages old - n
  pages_many = sym says.free_pages ∙ took.pages_free

  slots_list : FreeSlots new
  slots_list =
      let kept = list_kept (free_slot_of old) 0 (next_slot old) (free_slot_of new) (next_slot new) (free_slots old) (free_slot old) (omega (arith, says.next_slot, took.slot_next)) slots
      (λ i lt.
      let m = member_is (free_slot_of old) 0 (next_slot old) (free_slots old) i (free_slot old) slots lt in
      ap slot_says (free (member_at (free_slot_of old) (free_slot old) i - 1) (rank_some (free_slot_of old (member_at (free_slot_of old) (free_slot old) i - 1)) (free_slots old - i) m.1))) in
      subst (λ (k : ℕ). IsList (free_slot_of new) 0 (next_slot new) (free_slots new) k) (sym took.slot_first ∙ says.free_slot) (subst (λ (k : ℕ). IsList (free_slot_of new) 0 (next_slot new) k (free_slot old)) (sym took.slots_free ∙ says.free_slots) kept)
    where
      slot_says : List ℕ → Option Free
      slot_says b = free_said 0xF0 2 b

  -- the first of the free pages that are left
  rest : ℕ
  rest = member_at (free_page_of old) (free_page old) n

  says_same : n ≤ free_pages old → (i : ℕ) → i < free_pages old - n
      → free_page_of new (member_at (free_page_of old) (member_at (free_page_of old) (free_page old) n) i - 1) ≡ free_page_of old (member_at (free_page_of old) (member_at (free_page_of old) (free_page old) n) i - 1)
  says_same le i lt =
      let less : n + i < free_pages old = omega (arith, lt, le) in
      let d = due_free old pages (n + i) less in
      let at : member_at (free_page_of old) (member_at (free_page_of old) (free_page old) n) i - 1 ≡ page_due old (n + i) =
      ap (λ (m : ℕ). m - 1) (member_after (free_page_of old) (free_page old) n i) ∙ sym d.0 in
      subst (λ (x : ℕ). free_page_of new x ≡ free_page_of old x) (sym at) (ap (free_said 0xFF 4) (left (n + i) (omega arith) less))

  pages_some : n ≤ free_pages old → FreePages new
  pages_some le =
      let l = list_after (free_page_of old) 2 (next_page old) (free_pages old) n (free_page old) pages le in
      let kept = list_kept (free_page_of old) 2 (next_page old) (free_page_of new) (next_page new) (free_pages old - n) (member_at (free_page_of old) (free_page old) n) (omega (arith, page_next)) l (says_same le) in
      let first : member_at (free_page_of old) (free_page old) n ≡ free_page new = sym (took.page_first le) ∙ says.free_page in
      subst (λ (k : ℕ). IsList (free_page_of new) 2 (next_page new) (free_pages new) k) first
      (subst (λ (k : ℕ). IsList (free_page_of new) 2 (next_page new) k (member_at (free_page_of old) (free_page old) n)) (sym pages_many) kept)

  pages_none : free_pages old ≤ n → FreePages new
  pages_none le =
      let none : free_pages new ≡ 0 = omega (arith, pages_many, le) in
      subst (λ (k : ℕ). IsList (free_page_of new) 2 (next_page new) k (free_page new)) (sym none) (sym says.free_page ∙ took.none_free le)

  pages_list : FreePages new
  pages_list = elim (cases_lt n (free_pages old)) [ inl less ↦ pages_some (omega (arith, less)) | inr more ↦ pages_none (omega (arith, more)) ]

  due_is : (i : ℕ) → page_due new i ≡ page_due old (n + i)
  due_is i = elim (cases_lt (n + i) (free_pages old)) [
    | inl less ↦
        let le : n ≤ free_pages old = omega (arith, less) in
        let a : nat_lt i (free_pages new) ≡ true = grind (arith, nat_tests, pages_many, less) in
        let b : nat_lt (n + i) (free_pages old) ≡ true = grind (arith, nat_tests, less) in
        let first : free_page new ≡ member_at (free_page_of old) (free_page old) n = sym says.free_page ∙ took.page_first le in
        let kept = members_kept (free_page_of old) 2 (next_page old) (free_page_of new) (free_pages old - n) i (member_at (free_page_of old) (free_page old) n) (omega (arith, less)) (says_same le) in
        rw (a, b) (ap (λ (m : ℕ). m - 1) (ap (λ (m : ℕ). member_at (free_page_of new) m i) first ∙ kept ∙ member_after (free_page_of old) (free_page old) n i))
    | inr more ↦
        let a : nat_lt i (free_pages new) ≡ false = grind (arith, nat_tests, pages_many, more) in
        let b : nat_lt (n + i) (free_pages old) ≡ false = grind (arith, nat_tests, more) in
        let e : next_page new + (i - free_pages new) ≡ next_page old + (n + i - free_pages old) = omega (arith, page_next, pages_many, more) in
        rw (a, b) e
  ]

  pub is_after : IsAfter old new n
  is_after = record {
    slots_next = sym says.next_slot ∙ took.slot_next;
    slot_first = sym says.free_slot ∙ took.slot_first;
    slots_free = sym says.free_slots ∙ took.slots_free;
    pages_next = page_next;
    pages_free = pages_many;
    slots = slots_list;
    pages = pages_list;
    due = due_is;
  }

-- what that makes of the slot that is due, of what is in use, and of the free pages
module _ (old new : List ℕ) (n : ℕ) (a : IsAfter old new n) where
  pub after_due : slot_due new ≡ slot_due old
  after_due = ap (λ (k : ℕ). if nat_eq k 0 then next_slot new else free_slot new - 1) a.slots_free ∙ ap (λ (k : ℕ). if nat_eq (free_slots old) 0 then k else free_slot new - 1) a.slots_next
      ∙ ap (λ (k : ℕ). if nat_eq (free_slots old) 0 then next_slot old else k - 1) a.slot_first

  pub after_slots : used_slots new ≡ used_slots old
  after_slots = omega (arith, a.slots_next, a.slots_free)

  -- if no more were free than were given out
  pub after_pages : free_pages old ≤ next_page old → used_pages new ≡ used_pages old + n
  after_pages few = omega (arith, a.pages_next, a.pages_free, few)

  pub after_free : (page : ℕ) → IsFreePage old page → IsFreePage new page ⊎ ((i : ℕ) × (i < n) × (page_due old i ≡ page))
  after_free page (i, lt, is) = elim (cases_lt i n) [
    | inl taken ↦ inr (i, taken, is)
    | inr left ↦
        let e : n + (i - n) ≡ i = omega (arith, left) in
        inl (i - n, omega (arith, a.pages_free, lt, left), a.due (i - n) ∙ ap (λ (k : ℕ). page_due old k) e ∙ is)
  ]

-- Data whose super page says the same of pages, and in which free pages are as they were.
module _ (old new : List ℕ) (pages : FreePages old) (page_same : next_page new ≡ next_page old) (page_first_same : free_page new ≡ free_page old) (pages_same : free_pages new ≡ free_pages old)
    (kept : (page : ℕ) → free_page_of old page ≢ None → 2 ≤ page → page < next_page old → page_bytes new page ≡ page_bytes old page) where
  page_says : (i : ℕ) → i < free_pages old → free_page_of new (member_at (free_page_of old) (free_page old) i - 1) ≡ free_page_of old (member_at (free_page_of old) (free_page old) i - 1)
  page_says i lt =
      let m = member_is (free_page_of old) 2 (next_page old) (free_pages old) i (free_page old) pages lt in
      ap (free_said 0xFF 4) (kept (member_at (free_page_of old) (free_page old) i - 1) (rank_some (free_page_of old (member_at (free_page_of old) (free_page old) i - 1)) (free_pages old - i) m.1)
      (omega (arith, m.0.0)) (omega (arith, m.0.0, m.0.1)))

  pub free_pages_stay : FreePages new
  free_pages_stay =
      let l = list_kept (free_page_of old) 2 (next_page old) (free_page_of new) (next_page new) (free_pages old) (free_page old) (omega (arith, page_same)) pages page_says in
      subst (λ (k : ℕ). IsList (free_page_of new) 2 (next_page new) (free_pages new) k) (sym page_first_same)
      (subst (λ (k : ℕ). IsList (free_page_of new) 2 (next_page new) k (free_page old)) (sym pages_same) l)

  pub pages_due_same : (i : ℕ) → page_due new i ≡ page_due old i
  pages_due_same i = elim (cases_lt i (free_pages old)) [
    | inl less ↦
        let a : nat_lt i (free_pages new) ≡ true = grind (arith, nat_tests, pages_same, less) in
        let b : nat_lt i (free_pages old) ≡ true = grind (arith, nat_tests, less) in
        rw (a, b) (ap (λ (m : ℕ). m - 1) (ap (λ (m : ℕ). member_at (free_page_of new) m i) page_first_same
        ∙ members_kept (free_page_of old) 2 (next_page old) (free_page_of new) (free_pages old) i (free_page old) (omega (arith, less)) page_says))
    | inr more ↦
        let a : nat_lt i (free_pages new) ≡ false = grind (arith, nat_tests, pages_same, more) in
        let b : nat_lt i (free_pages old) ≡ false = grind (arith, nat_tests, more) in
        let e : next_page new + (i - free_pages new) ≡ next_page old + (i - free_pages old) = omega (arith, page_same, pages_same) in
        rw (a, b) e
  ]

-- Data whose super page was written after the slot that is due was taken. All other free slots, and the free pages, are as they were.
pub record IsSlotAfter (old new : List ℕ) : Type 0 where
  pub in_use : used_slots new ≡ suc (used_slots old)
  pub later : next_slot old ≤ next_slot new
  pub given : slot_due old < next_slot new
  pub one_more : free_slots old ≡ 0 → next_slot new ≡ suc (next_slot old)
  pub as_many : free_slots old ≢ 0 → next_slot new ≡ next_slot old
  pub pages_next : next_page new ≡ next_page old
  pub pages_free : free_pages new ≡ free_pages old
  pub slots : FreeSlots new
  pub pages : FreePages new
  pub due : (i : ℕ) → page_due new i ≡ page_due old i

module _ (old new : List ℕ) (front after : Super) (slots : FreeSlots old) (pages : FreePages old) (was : SaysSuper (page_bytes old 0) front) (is : after ≡ with_slot_taken (first_slot old front) front) (says : SaysSuper (page_bytes new 0) after)
    (few : free_slots old ≤ next_slot old)
    (others : (slot : ℕ) → slot ≢ slot_due old → slot_of new slot ≡ slot_of old slot) (kept : (page : ℕ) → free_page_of old page ≢ None → 2 ≤ page → page < next_page old → page_bytes new page ≡ page_bytes old page) where
  -- what of the super page does not speak of slots is as it was
  same_pages : (o : Option Free) → ((with_slot_taken o front).next_page ≡ front.next_page) × ((with_slot_taken o front).free_page ≡ front.free_page) × ((with_slot_taken o front).free_pages ≡ front.free_pages)
  same_pages None = (refl, refl, refl)
  same_pages (Some f) = (refl, refl, refl)

  page_same : next_page new ≡ next_page old
  page_same = sym says.next_page ∙ ap (λ (f : Super). f.next_page) is ∙ (same_pages (first_slot old front)).0 ∙ was.next_page

  page_first_same : free_page new ≡ free_page old
  page_first_same = sym says.free_page ∙ ap (λ (f : Super). f.free_page) is ∙ (same_pages (first_slot old front)).1 ∙ was.free_page

  pages_same : free_pages new ≡ free_pages old
  pages_same = sym says.free_pages ∙ ap (λ (f : Super). f.free_pages) is ∙ (same_pages (first_slot old front)).2 ∙ was.free_pages

  pages_stay : FreePages new
  pages_stay = free_pages_stay old new pages page_same page_first_same pages_same kept

  due_same : (i : ℕ) → page_due new i ≡ page_due old i
  due_same i = pages_due_same old new pages page_same page_first_same pages_same kept i

  slot_after : (o : Option Free) → first_slot old front ≡ o → IsSlotAfter old new
  slot_after o e = elim (cases_eq (free_slots old) 0) [ inl none ↦ with_next none | inr some ↦ with_free some ]
    where
      with_next : free_slots old ≡ 0 → IsSlotAfter old new
      with_next none =
          let a : nat_eq front.free_slots 0 ≡ true = grind (arith, nat_tests, was.free_slots, none) in
          let taken : first_slot old front ≡ None = (rw a refl) in
          let after_is : after ≡ with_slot_taken None front = is ∙ ap (λ (o : Option Free). with_slot_taken o front) taken in
          let next : next_slot new ≡ next_slot old + 1 = sym says.next_slot ∙ ap (λ (f : Super). f.next_slot) after_is ∙ ap (λ (n : ℕ). n + 1) was.next_slot in
          let many : free_slots new ≡ 0 = sym says.free_slots ∙ ap (λ (f : Super). f.free_slots) after_is ∙ was.free_slots ∙ none in
          let first : free_slot new ≡ free_slot old = sym says.free_slot ∙ ap (λ (f : Super). f.free_slot) after_is ∙ was.free_slot in
          let empty : free_slot old ≡ 0 = subst (λ (k : ℕ). IsList (free_slot_of old) 0 (next_slot old) k (free_slot old)) none slots in
          let b : nat_eq (free_slots old) 0 ≡ true = grind (arith, nat_tests, none) in
          let due : slot_due old ≡ next_slot old = (rw b refl) in
          record {
            in_use = omega (arith, next, many, none);
            later = omega (arith, next);
            given = omega (arith, next, due);
            one_more = λ empty. omega (arith, next);
            as_many = λ other. absurd (other none);
            pages_next = page_same;
            pages_free = pages_same;
            slots = subst (λ (k : ℕ). IsList (free_slot_of new) 0 (next_slot new) k (free_slot new)) (sym many) (first ∙ empty);
            pages = pages_stay;
            due = due_same;
          }

      with_free : free_slots old ≢ 0 → IsSlotAfter old new
      with_free some =
          let a : nat_eq front.free_slots 0 ≡ false = grind (arith, nat_tests, was.free_slots, some) in
          let b : nat_eq (free_slots old) 0 ≡ false = grind (arith, nat_tests, some) in
          let due : slot_due old ≡ free_slot old - 1 = (rw b refl) in
          let taken : first_slot old front ≡ free_slot_of old (front.free_slot - 1) = (rw a refl) in
          let at : free_slot_of old (front.free_slot - 1) ≡ free_slot_of old (free_slot old - 1) = ap (λ (n : ℕ). free_slot_of old (n - 1)) was.free_slot in
          let after_is : after ≡ with_slot_taken (free_slot_of old (free_slot old - 1)) front = is ∙ ap (λ (o : Option Free). with_slot_taken o front) (taken ∙ at) in
          let m = member_is (free_slot_of old) 0 (next_slot old) (free_slots old) 0 (free_slot old) slots (omega (arith, some)) in
          let there : free_slot_of old (free_slot old - 1) ≢ None = rank_some (free_slot_of old (free_slot old - 1)) (free_slots old - 0) m.1 in
          let f = popped (free_slot_of old (free_slot old - 1)) there in
          let next : next_slot new ≡ next_slot old = sym says.next_slot ∙ ap (λ (f : Super). f.next_slot) after_is ∙ f.0 ∙ was.next_slot in
          let many : free_slots new ≡ free_slots old - 1 = sym says.free_slots ∙ ap (λ (f : Super). f.free_slots) after_is ∙ f.1 ∙ ap (λ (n : ℕ). n - 1) was.free_slots in
          let first : free_slot new ≡ member_at (free_slot_of old) (free_slot old) 1 = sym says.free_slot ∙ ap (λ (f : Super). f.free_slot) after_is ∙ f.2 in
          let l = list_after (free_slot_of old) 0 (next_slot old) (free_slots old) 1 (free_slot old) slots (omega (arith, some)) in
          let l' = list_kept (free_slot_of old) 0 (next_slot old) (free_slot_of new) (next_slot new) (free_slots old - 1) (member_at (free_slot_of old) (free_slot old) 1) (omega (arith, next)) l
          (λ i lt.
          let less : 1 + i < free_slots old = omega (arith, lt, some) in
          let at : member_at (free_slot_of old) (member_at (free_slot_of old) (free_slot old) 1) i ≡ member_at (free_slot_of old) (free_slot old) (1 + i) = member_after (free_slot_of old) (free_slot old) 1 i in
          let other : member_at (free_slot_of old) (free_slot old) (1 + i) - 1 ≢ slot_due old = λ same.
          members_differ (free_slot_of old) 0 (next_slot old) (free_slots old) (1 + i) 0 (free_slot old) slots less (omega (arith, some)) (λ e. omega (arith, e)) (same ∙ due) in
          subst (λ (k : ℕ). free_slot_of new (k - 1) ≡ free_slot_of old (k - 1)) (sym at) (ap (free_said 0xF0 2) (others (member_at (free_slot_of old) (free_slot old) (1 + i) - 1) other))) in
          record {
            in_use = omega (arith, next, many, some, few);
            later = omega (arith, next);
            given = omega (arith, next, due, m.0.0, m.0.1);
            one_more = λ empty. absurd (some empty);
            as_many = λ other. next;
            pages_next = page_same;
            pages_free = pages_same;
            slots = subst (λ (k : ℕ). IsList (free_slot_of new) 0 (next_slot new) (free_slots new) k) (sym first)
                (subst (λ (k : ℕ). IsList (free_slot_of new) 0 (next_slot new) k (member_at (free_slot_of old) (free_slot old) 1)) (sym many) l');
            pages = pages_stay;
            due = due_same;
          }
        where
          popped : (o : Option Free) → o ≢ None → ((with_slot_taken o front).next_slot ≡ front.next_slot) × ((with_slot_taken o front).free_slots ≡ front.free_slots - 1) × ((with_slot_taken o front).free_slot ≡ next_of o)
          popped None some = absurd (some refl)
          popped (Some f) some = (refl, refl, refl)

  pub is_slot_after : IsSlotAfter old new
  is_slot_after = slot_after (first_slot old front) refl

-- the slot that is due is free, or the next to give out
pub slot_due_free : (bytes : List ℕ) → FreeSlots bytes → free_slots bytes ≢ 0 → free_slot_of bytes (slot_due bytes) ≢ None
slot_due_free bytes slots some =
    let b : nat_eq (free_slots bytes) 0 ≡ false = grind (arith, nat_tests, some) in
    let due : slot_due bytes ≡ free_slot bytes - 1 = (rw b refl) in
    let m = member_is (free_slot_of bytes) 0 (next_slot bytes) (free_slots bytes) 0 (free_slot bytes) slots (omega (arith, some)) in
    subst (λ (x : ℕ). free_slot_of bytes x ≢ None) (sym due) (rank_some (free_slot_of bytes (free_slot bytes - 1)) (free_slots bytes - 0) m.1)

pub slot_due_next : (bytes : List ℕ) → free_slots bytes ≡ 0 → slot_due bytes ≡ next_slot bytes
slot_due_next bytes none = (let b : nat_eq (free_slots bytes) 0 ≡ true = grind (arith, nat_tests, none) in rw b refl)

-- the slot that is due carries no key
pub due_carries : (bytes : List ℕ) (table : ℕ) (p : Pair) → FreeSlots bytes → p.1 < next_slot bytes → Carries bytes table p → p.1 ≢ slot_due bytes
due_carries bytes table p slots less carries same = elim (cases_eq (free_slots bytes) 0) [
  | inl none ↦ omega (arith, less, same, slot_due_next bytes none)
  | inr some ↦
      let free : free_slot_of bytes p.1 ≢ None = subst (λ (x : ℕ). free_slot_of bytes x ≢ None) (sym same) (slot_due_free bytes slots some) in
      says_not (free_slot_of bytes p.1) refl free
]
  where
    says_not : (o : Option Free) → free_slot_of bytes p.1 ≡ o → free_slot_of bytes p.1 ≢ None → ⊥
    says_not None e some = some e
    says_not (Some f) e some = free_carries bytes table p f e carries

-- the slot that is due is the one that is taken
pub slot_is_due : (bytes : List ℕ) (front : Super) → SaysSuper (page_bytes bytes 0) front → slot_for front ≡ slot_due bytes
slot_is_due bytes front says =
    ap (λ (k : ℕ). if nat_eq k 0 then front.next_slot else front.free_slot - 1) says.free_slots ∙ ap (λ (k : ℕ). if nat_eq (free_slots bytes) 0 then k else front.free_slot - 1) says.next_slot
    ∙ ap (λ (k : ℕ). if nat_eq (free_slots bytes) 0 then next_slot bytes else k - 1) says.free_slot

-- the first of a list is one of its range, by its number plus 1, or there is none
list_first : (said : ℕ → Option Free) (low end n named : ℕ) → IsList said low end n named → named ≤ end
list_first said low end zero named l = omega (arith, l)
list_first said low end (suc n) named l = l.0.1

-- nothing is free in version 1
module _ (bytes : List ℕ) (one : version_of bytes ≡ 1) where
  none_in : (place : ℕ) → free_in place (page_bytes bytes 0) ≡ 0
  unfolding free_in
  none_in place = (let b : nat_eq (version_of bytes) 1 ≡ true = grind (arith, nat_tests, one) in rw b refl)

  pub nothing_free : (free_slot bytes ≡ 0) × (free_page bytes ≡ 0) × (free_slots bytes ≡ 0) × (free_pages bytes ≡ 0)
  nothing_free = (none_in _, none_in _, none_in _, none_in _)

-- a super page of which pages were taken can be written
pub taken_writable : (bytes : List ℕ) (n : ℕ) (front : Super) → FreeSlots bytes → FreePages bytes → HasTaken bytes n front → length front.entries ≡ 256
    → next_slot bytes < 2 ^ 31 → 2 ≤ next_page bytes → next_page bytes + n < 2 ^ 31 → IsWritable front
taken_writable bytes n front slots pages took long small some small' =
    let few = list_few (free_slot_of bytes) 0 (next_slot bytes) (free_slots bytes) (free_slot bytes) (omega arith) slots in
    let few' = list_few (free_page_of bytes) 2 (next_page bytes) (free_pages bytes) (free_page bytes) some pages in
    let first = list_first (free_slot_of bytes) 0 (next_slot bytes) (free_slots bytes) (free_slot bytes) slots in
    let first' = list_first (free_page_of bytes) 2 front.next_page front.free_pages front.free_page (list_left bytes n front pages took) in
    record {
      whole = record {
        entries = long;
        next_slot = omega (arith, took.slot_next, small);
        next_page = omega (arith, took.page_next, small');
        free_slot = omega (arith, took.slot_first, first, small);
        free_page = omega (arith, first', took.page_next, small');
        free_slots = omega (arith, took.slots_free, few, small);
        free_pages = omega (arith, took.pages_free, few', small');
      };
      none = λ one.
          let none = nothing_free bytes (sym took.version_is ∙ one) in (
            took.slot_first ∙ none.0,
            took.none_free (omega (arith, none.3)),
            took.slots_free ∙ none.2,
            omega (arith, took.pages_free, none.3),
          );
    }

-- such a one, which is as another but for its slots
abbrev pub IsLike : Super → Super → Type 0
IsLike front after = IsWritable after × (after.version ≡ front.version) × (after.form ≡ front.form) × (after.entries ≡ front.entries) × (after.next_page ≡ front.next_page)

-- so can one of which the slot that is due was taken
pub slot_writable : (bytes : List ℕ) (front after : Super) → FreeSlots bytes → FreePages bytes → SaysSuper (page_bytes bytes 0) front → after ≡ with_slot_taken (first_slot bytes front) front → length front.entries ≡ 256
    → next_slot bytes < 2 ^ 31 → 2 ≤ next_page bytes → next_page bytes < 2 ^ 31
    → IsLike front after
slot_writable bytes front after slots pages says is long small some small' = elim (cases_eq (free_slots bytes) 0) [
  | inl none ↦
      let a : nat_eq front.free_slots 0 ≡ true = grind (arith, nat_tests, says.free_slots, none) in
      let taken : first_slot bytes front ≡ None = (rw a refl) in
      let after_is : after ≡ with_slot_taken None front = is ∙ ap (λ (o : Option Free). with_slot_taken o front) taken in
      subst (IsLike front) (sym after_is) next_taken
  | inr more ↦
      let a : nat_eq front.free_slots 0 ≡ false = grind (arith, nat_tests, says.free_slots, more) in
      let taken : first_slot bytes front ≡ free_slot_of bytes (front.free_slot - 1) = (rw a refl) in
      let after_is : after ≡ with_slot_taken (free_slot_of bytes (front.free_slot - 1)) front = is ∙ ap (λ (o : Option Free). with_slot_taken o front) taken in
      subst (IsLike front) (sym after_is)
      (popped (free_slot_of bytes (front.free_slot - 1)) refl more)
]
  where
    was : IsWritable front
    was = taken_writable bytes 0 front slots pages (taken_none bytes front says pages) long small some (omega (arith, small'))

    next_small : free_slots bytes ≢ 0 → next_of (free_slot_of bytes (front.free_slot - 1)) < 2 ^ 31
    next_small more =
        let l = list_after (free_slot_of bytes) 0 (next_slot bytes) (free_slots bytes) 1 (free_slot bytes) slots (omega (arith, more)) in
        let le = list_first (free_slot_of bytes) 0 (next_slot bytes) (free_slots bytes - 1) (next_of (free_slot_of bytes (free_slot bytes - 1))) l in
        let at : next_of (free_slot_of bytes (front.free_slot - 1)) ≡ next_of (free_slot_of bytes (free_slot bytes - 1)) = ap (λ (k : ℕ). next_of (free_slot_of bytes (k - 1))) says.free_slot in
        omega (arith, at, le, small)

    -- the next one
    next_taken : IsLike front (with_slot_taken None front)
    next_taken = (
      record {
        whole = record {
          entries = long;
          next_slot = omega (arith, says.next_slot, small);
          next_page = was.whole.next_page;
          free_slot = was.whole.free_slot;
          free_page = was.whole.free_page;
          free_slots = was.whole.free_slots;
          free_pages = was.whole.free_pages;
        };
        none = was.none;
      },
      refl,
      refl,
      refl,
      refl,
    )

    popped : (o : Option Free) → free_slot_of bytes (front.free_slot - 1) ≡ o → free_slots bytes ≢ 0 → IsLike front (with_slot_taken o front)
    popped None e more = next_taken
    popped (Some f) e more =
        let small_next : f.next < 2 ^ 31 = (let at : next_of (free_slot_of bytes (front.free_slot - 1)) ≡ f.next = ap next_of e in omega (arith, at, next_small more)) in (
          record {
            whole = record {
              entries = long;
              next_slot = was.whole.next_slot;
              next_page = was.whole.next_page;
              free_slot = omega (arith, small_next);
              free_page = was.whole.free_page;
              free_slots = omega (arith, was.whole.free_slots);
              free_pages = was.whole.free_pages;
            };
            none = λ one. absurd (more (let none = was.none one in omega (arith, none.2, says.free_slots)));
          },
          refl,
          refl,
          refl,
          refl,
        )
