-- What the bytes of page 0 say about the form of the data.
use Rattle.std.proofs.Common.{◌≡◌, ℕ, ◌*◌, ◌≤◌, List, length, sym, ap, subst, ◌∙◌, arith}
use Rattle.mars_base.specs.Bytes.{range}
use Rattle.array_shape.specs.declared.shape.Shape.{Shape}
use Rattle.array_shape.specs.Places.{data_len}
use Rattle.array_shape.specs.Places as array
use Rattle.record_slots.specs.Places.{page_bytes, page_count, next_slot, next_page, version_of, IsSuper}
use Rattle.record_slots.specs.Super.{HasSuperMark, HasTables, SaysSuper, version_said, entries_said, form_said, next_said}
use Rattle.record_slots.specs.declared.super_page.Super.{Super}

-- the first 512 bytes are page 0
pub first_page : (bytes buf : List ℕ) → buf ≡ range bytes 0 512 → buf ≡ page_bytes bytes 0
unfolding page_bytes
first_page bytes buf is = is

module _ (shape : Shape) (bytes page : List ℕ) (long : length bytes ≡ data_len shape) (page_is : page ≡ page_bytes bytes 0) where
  pages_are : page_count bytes ≡ array.page_count shape
  pages_are = omega (arith, long)

  -- a page without the mark is the super page of no form
  pub unmarked : (HasSuperMark page → ⊥) → (IsSuper 0 bytes → ⊥) × (IsSuper 1 bytes → ⊥)
  unmarked none = (
    (λ super. none (subst HasSuperMark (sym page_is) super.has_mark)),
    λ super. none (subst HasSuperMark (sym page_is) super.has_mark),
  )

  module _ (front : Super) (says : SaysSuper page front) where
    slot_is : front.next_slot ≡ next_slot bytes
    slot_is = says.next_slot ∙ ap (next_said 8) page_is

    next_is : front.next_page ≡ next_page bytes
    next_is = says.next_page ∙ ap (next_said 12) page_is

    form_is : form_said (page_bytes bytes 0) ≡ front.form
    form_is = ap form_said (sym page_is) ∙ sym says.form

    version_is : front.version ≡ version_of bytes
    version_is = says.version ∙ ap version_said page_is

    entries_are : front.entries ≡ entries_said (page_bytes bytes 0)
    entries_are = says.entries ∙ ap entries_said page_is

    tables_there : HasTables front.version front.next_page front.entries → HasTables (version_of bytes) (next_page bytes) (entries_said (page_bytes bytes 0))
    tables_there has =
        subst (λ (v : ℕ). HasTables v (next_page bytes) (entries_said (page_bytes bytes 0))) version_is
        (subst (λ (n : ℕ). HasTables front.version n (entries_said (page_bytes bytes 0))) next_is (subst (λ (es : List ℕ). HasTables front.version front.next_page es) entries_are has))

    tables_here : HasTables (version_of bytes) (next_page bytes) (entries_said (page_bytes bytes 0)) → HasTables front.version front.next_page front.entries
    tables_here has =
        subst (λ (v : ℕ). HasTables v front.next_page front.entries) (sym version_is)
        (subst (λ (n : ℕ). HasTables (version_of bytes) n front.entries) (sym next_is) (subst (λ (es : List ℕ). HasTables (version_of bytes) (next_page bytes) es) (sym entries_are) has))

    abbrev Counts : Type 0
    Counts = (front.next_slot ≤ 4 * array.page_count shape) × (2 ≤ front.next_page) × (2 * front.next_page ≤ array.page_count shape)

    -- with counts that fit this shape, it is the super page of its form
    pub is_super : Counts → HasTables front.version front.next_page front.entries → (form : ℕ) → front.form ≡ form → IsSuper form bytes
    is_super counts tables form is = record {
      has_mark = subst HasSuperMark page_is says.has_mark;
      form_is = form_is ∙ is;
      slots = omega (arith, slot_is, counts.0, pages_are);
      some_pages = omega (arith, next_is, counts.1);
      pages = omega (arith, next_is, counts.2, pages_are);
      tables = tables_there tables;
    }

    counts_of : (form : ℕ) → IsSuper form bytes → Counts
    counts_of form super = (omega (arith, slot_is, super.slots, pages_are), omega (arith, next_is, super.some_pages), omega (arith, next_is, super.pages, pages_are))

    -- with other counts, it is that of no form
    pub miscounted : (Counts → ⊥) → (IsSuper 0 bytes → ⊥) × (IsSuper 1 bytes → ⊥)
    miscounted none = ((λ super. none (counts_of 0 super)), λ super. none (counts_of 1 super))

    -- nor is a page with other entries than those of tables
    pub untabled : (HasTables front.version front.next_page front.entries → ⊥) → (IsSuper 0 bytes → ⊥) × (IsSuper 1 bytes → ⊥)
    untabled none = ((λ super. none (tables_here super.tables)), λ super. none (tables_here super.tables))

    -- nor is a page of another form
    pub of_neither : (front.form ≡ 0 → ⊥) → (front.form ≡ 1 → ⊥) → (IsSuper 0 bytes → ⊥) × (IsSuper 1 bytes → ⊥)
    of_neither zero one = ((λ super. zero (sym form_is ∙ super.form_is)), λ super. one (sym form_is ∙ super.form_is))
