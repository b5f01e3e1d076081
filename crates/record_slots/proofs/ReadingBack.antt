-- What a super page says in which a part was written.
use Rattle.std.proofs.Common.{◌≡◌, ℕ, ◌+◌, ◌^◌, ◌<◌, ◌≤◌, inl, inr, List, [], ◌++◌, length, take, drop, refl, sym, ◌∙◌, ap, arith}
use Rattle.std.specs.Prelude.{nat_eq, if◌then◌else◌, replicate}
use Rattle.std.proofs.lemmas.List.{length-append, length-replicate, drop_at, take_at, take-take, drop-drop, drop-take, append-nil}
use Rattle.std.proofs.lemmas.Bool.{cases_eq, eq-eqb, ne_eqb}
use Rattle.byteorder.specs.Endian.{little_from, little_bytes}
use Rattle.byteorder.specs.Numbers.{little_from-take, little_number-reads_back, length-bytes_low_first}
use Rattle.mars_base.specs.Bytes.{range}
use Rattle.record_slots.specs.Super.{SaysSuper, IsPartOf, IsWhole, free_in, version_said, form_said, next_said, entries_said, part_bytes, super_bytes}
use Rattle.record_slots.specs.declared.super_page.Super.{Super}
use Rattle.record_slots.proofs.SlotLemmas.{little_shift}

-- a super page that can be written: it is whole, and nothing is free in version 1
pub record IsWritable (front : Super) : Type 0 where
  pub whole : IsWhole front
  pub none : front.version ≡ 1 → (front.free_slot ≡ 0) × (front.free_page ≡ 0) × (front.free_slots ≡ 0) × (front.free_pages ≡ 0)

four : (n : ℕ) → length (little_bytes 4 n) ≡ 4
four n = length-bytes_low_first 0 4 n

-- a number that stands behind k bytes of a piece
number_behind : (k n : ℕ) (part rest : List ℕ) → drop k part ≡ little_bytes 4 n ++ rest → n < 2 ^ 32 → little_from k 4 part ≡ n
number_behind k n part rest is small =
    ap (λ (j : ℕ). little_from j 4 part) (let e : k ≡ k + 0 = omega arith in e) ∙ sym (little_shift 0 k 4 part) ∙ ap (λ (l : List ℕ). little_from 0 4 l) is
    ∙ little_number-reads_back 4 n rest small

-- a number of the part, read in the page
number_in : (bytes part : List ℕ) (k : ℕ) → k ≤ 276 → range bytes 8 280 ≡ part → little_from (8 + k) 4 bytes ≡ little_from k 4 part
number_in bytes part k le written =
    sym (little_shift k 8 4 bytes) ∙ sym (little_from-take k 4 280 (drop 8 bytes) (omega arith)) ∙ ap (λ (l : List ℕ). little_from k 4 l) written

pub range_in : (xs : List ℕ) (a c m : ℕ) → c ≤ m → take c (drop a (take (a + m) xs)) ≡ take c (drop a xs)
range_in xs a c m le = ap (take c) (drop-take a m xs) ∙ take-take c m (drop a xs) le

-- what is free in a version
free_is : (version n m : ℕ) → m ≡ n → (version ≡ 1 → n ≡ 0) → n ≡ (if nat_eq version 1 then 0 else m)
free_is version n m is none = elim (cases_eq version 1) [
  | inl one ↦ none one ∙ sym (rw (eq-eqb version 1 one) refl)
  | inr other ↦ sym is ∙ sym (rw (ne_eqb version 1 other) refl)
]

-- the pieces of the part, each behind those before it
module _ (front : Super) where
  abbrev P6 : List ℕ
  P6 = little_bytes 4 front.free_pages

  abbrev P5 : List ℕ
  P5 = little_bytes 4 front.free_slots ++ P6

  abbrev P4 : List ℕ
  P4 = little_bytes 4 front.free_page ++ P5

  abbrev P3 : List ℕ
  P3 = little_bytes 4 front.free_slot ++ P4

  abbrev P2 : List ℕ
  P2 = front.entries ++ P3

  abbrev P1 : List ℕ
  P1 = little_bytes 4 front.next_page ++ P2

  pub length-part_bytes : length front.entries ≡ 256 → length (part_bytes front) ≡ 280
  unfolding part_bytes
  length-part_bytes long =
      omega (
        arith,
        long,
        four front.next_slot,
        four front.next_page,
        four front.free_slot,
        four front.free_page,
        four front.free_slots,
        four front.free_pages,
        length-append (little_bytes 4 front.next_slot) P1,
        length-append (little_bytes 4 front.next_page) P2,
        length-append front.entries P3,
        length-append (little_bytes 4 front.free_slot) P4,
        length-append (little_bytes 4 front.free_page) P5,
        length-append (little_bytes 4 front.free_slots) P6,
      )

  pub length-super_bytes : length front.entries ≡ 256 → length (super_bytes front) ≡ 512
  length-super_bytes long = omega (arith, length-part_bytes long, length-append (part_bytes front) (replicate 224 0), length-replicate {A = ℕ} 224 0)

  behind1 : drop 4 (part_bytes front) ≡ P1
  unfolding part_bytes
  behind1 = drop_at (little_bytes 4 front.next_slot) P1 4 (four front.next_slot)

  behind2 : drop 8 (part_bytes front) ≡ P2
  behind2 = sym (drop-drop 4 4 (part_bytes front)) ∙ ap (drop 4) behind1 ∙ drop_at (little_bytes 4 front.next_page) P2 4 (four front.next_page)

  module _ (long : length front.entries ≡ 256) where
    behind3 : drop 264 (part_bytes front) ≡ P3
    behind3 = sym (drop-drop 256 8 (part_bytes front)) ∙ ap (drop 256) behind2 ∙ drop_at front.entries P3 256 long

    behind4 : drop 268 (part_bytes front) ≡ P4
    behind4 = sym (drop-drop 4 264 (part_bytes front)) ∙ ap (drop 4) behind3 ∙ drop_at (little_bytes 4 front.free_slot) P4 4 (four front.free_slot)

    behind5 : drop 272 (part_bytes front) ≡ P5
    behind5 = sym (drop-drop 4 268 (part_bytes front)) ∙ ap (drop 4) behind4 ∙ drop_at (little_bytes 4 front.free_page) P5 4 (four front.free_page)

    behind6 : drop 276 (part_bytes front) ≡ P6
    behind6 = sym (drop-drop 4 272 (part_bytes front)) ∙ ap (drop 4) behind5 ∙ drop_at (little_bytes 4 front.free_slots) P6 4 (four front.free_slots)

  -- a page with this part says what was written
  pub part_says : IsWritable front → (bytes : List ℕ) → IsPartOf (part_bytes front) bytes front → SaysSuper bytes front
  unfolding next_said entries_said free_in part_bytes
  part_says fits bytes part =
      let P = part_bytes front in
      let whole = fits.whole in
      let long = whole.entries in
      let written = part.part in
      let version = version_said bytes in
      let none = λ (one : version ≡ 1). fits.none (part.version ∙ one) in
      record {
        has_mark = part.has_mark;
        version = part.version;
        form = part.form;
        next_slot = sym (number_in bytes P 0 (omega arith) written ∙ number_behind 0 front.next_slot P P1 refl whole.next_slot);
        next_page = sym (number_in bytes P 4 (omega arith) written ∙ number_behind 4 front.next_page P P2 behind1 whole.next_page);
        entries = sym (
            ap (λ (l : List ℕ). take 256 l) (sym (drop-drop 8 8 bytes)) ∙ sym (range_in (drop 8 bytes) 8 256 272 (omega arith))
            ∙ ap (λ (l : List ℕ). range l 8 256) written ∙ ap (take 256) behind2 ∙ take_at front.entries P3 256 long
            );
        free_slot = free_is version front.free_slot _ (number_in bytes P 264 (omega arith) written ∙ number_behind 264 front.free_slot P P4 (behind3 long) whole.free_slot) (λ one. (none one).0);
        free_page = free_is version front.free_page _ (number_in bytes P 268 (omega arith) written ∙ number_behind 268 front.free_page P P5 (behind4 long) whole.free_page) (λ one. (none one).1);
        free_slots = free_is version front.free_slots _ (number_in bytes P 272 (omega arith) written ∙ number_behind 272 front.free_slots P P6 (behind5 long) whole.free_slots) (λ one. (none one).2);
        free_pages = free_is version front.free_pages _ (number_in bytes P 276 (omega arith) written ∙ number_behind 276 front.free_pages P [] (behind6 long ∙ sym (append-nil (little_bytes 4 front.free_pages))) whole.free_pages) (λ one. (none one).3);
      }

  -- a whole one of version 2 can be written
  pub of_two : IsWhole front → front.version ≡ 2 → IsWritable front
  of_two whole two = record { whole = whole; none = λ one. absurd (omega (arith, one, two)) }

  -- the page that is written has the part
  has_part : IsWhole front → front.version ≡ 2 → IsPartOf (part_bytes front) (super_bytes front) front
  unfolding version_said form_said
  has_part whole two = record {
    has_mark = record { mark = refl; some = omega (arith, two); known = omega (arith, two) };
    version = refl;
    form = refl;
    part = take_at (part_bytes front) (replicate 224 0) 280 (length-part_bytes whole.entries);
  }

  pub page_says : IsWhole front → front.version ≡ 2 → SaysSuper (super_bytes front) front
  page_says whole two = part_says (of_two whole two) (super_bytes front) (has_part whole two)
