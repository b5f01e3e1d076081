-- What is kept of deferred parts, once the entries of one number change.
use Rattle.std.proofs.Common.{◌≡◌, ℕ, zero, suc, ◌*◌, ◌/◌, ◌^◌, ◌<◌, ◌≤◌, inl, inr, ⊎_elim, Bool, true, false, not, ◌&&◌, ◌||◌, nat_eq, List, [], ◌∷◌, ◌++◌, length, get_or, refl, sym, ◌∙◌, ap, subst, arith}
use Rattle.std.specs.Prelude.{All, replicate, slice_get, slice_index, sum_by, vec_capacity}
use Rattle.std.specs.Option.{ForSome}
use Rattle.std.proofs.Math.ListN.{set}
use Rattle.std.proofs.lemmas.Bool.{cases_eq, cases_lt, eq-eqb, ne_eqb, false≢true}
use Rattle.std.proofs.lemmas.List.{get_or-replicate, get_or_past, length-replicate}
use Rattle.std.proofs.lemmas.List.Elements.{All-push, All-same, All-nil}
use Rattle.std.proofs.lemmas.List.Sums.{sum_by-cons}
use Rattle.std.proofs.Math.Nat.{mul-le-mul, mul-suc}
use Rattle.std.proofs.lemmas.List.Folds.{list_any-append}
use Rattle.array_shape.specs.declared.shape.Shape.{Shape}
use Rattle.array_shape.specs.Places.{IsShape, page_count}
use Rattle.array_shape.specs.NumberSet.{has}
use Rattle.write_back.specs.declared.entry.Entry.{Entry}
use Rattle.write_back.specs.declared.deferred.NumberParts.{NumberParts}
use Rattle.write_back.specs.Entries.{IsEntry}
use Rattle.write_back.specs.Shown.{memory_for}
use Rattle.write_back.proofs.Marking.{none_set}
use Rattle.write_back.specs.Kept.{HasMemory, IsFree, IsKept, entries_at, lies_on}

-- the entries of a number that has a place
pub entries_at-get : (table : List NumberParts) (t : ℕ) (d : NumberParts) → t < length table → entries_at table t ≡ (get_or table t d).entries.items
entries_at-get [] t d lt = absurd (omega arith)
entries_at-get (n ∷ ns) zero d lt = refl
entries_at-get (n ∷ ns) (suc t) d lt = entries_at-get ns t d (omega arith)

pub entries_at-set_same : (table : List NumberParts) (t : ℕ) (n : NumberParts) → t < length table → entries_at (set table t n) t ≡ n.entries.items
entries_at-set_same [] t n lt = absurd (omega arith)
entries_at-set_same (m ∷ ms) zero n lt = refl
entries_at-set_same (m ∷ ms) (suc t) n lt = entries_at-set_same ms t n (omega arith)

pub entries_at-set_other : (table : List NumberParts) (t u : ℕ) (n : NumberParts) → (u ≡ t → ⊥) → entries_at (set table t n) u ≡ entries_at table u
entries_at-set_other [] t u n ne = refl
entries_at-set_other (m ∷ ms) zero zero n ne = absurd (ne refl)
entries_at-set_other (m ∷ ms) zero (suc u) n ne = refl
entries_at-set_other (m ∷ ms) (suc t) zero n ne = refl
entries_at-set_other (m ∷ ms) (suc t) (suc u) n ne = entries_at-set_other ms t u n (λ is. ne (ap suc is))

-- a number with an entry on a page has a place
pub has_place : (table : List NumberParts) (t p : ℕ) → lies_on p (entries_at table t) ≡ true → t < length table
has_place [] t p so = absurd (false≢true so)
has_place (n ∷ ns) zero p so = omega arith
has_place (n ∷ ns) (suc t) p so = omega (arith, has_place ns t p so)

-- places without entries
pub entries_at_free : (shape : Shape) (table : List NumberParts) → ((t : ℕ) → ForSome (slice_get table t) (IsFree shape)) → (t : ℕ) → entries_at table t ≡ []
entries_at_free shape [] free t = refl
entries_at_free shape (n ∷ ns) free zero = (free zero n refl).none
entries_at_free shape (n ∷ ns) free (suc t) = entries_at_free shape ns (λ u x got. free (suc u) x got) t

-- what holds of each, once one is changed
set_each : {X : Type 0} (P : X → Type 0) (xs : List X) (i : ℕ) (y : X) → ((t : ℕ) → ForSome (slice_get xs t) P) → P y → (t : ℕ) → ForSome (slice_get (set xs i y) t) P
set_each P [] i y each here t z is = each t z is
set_each P (x ∷ xs) zero y each here zero z is = let same : y ≡ z = cc in subst P same here
set_each P (x ∷ xs) zero y each here (suc t) z is = each (suc t) z is
set_each P (x ∷ xs) (suc i) y each here zero z is = each zero z is
set_each P (x ∷ xs) (suc i) y each here (suc t) z is = set_each P xs i y (λ u w got. each (suc u) w got) here t z is

-- the entries that are read at a place of the table are those of the number
pub read_at : (table : List NumberParts) (at t : ℕ) (n : NumberParts) → at ≡ t → t < length table → n ≡ get_or table at n → n.entries.items ≡ entries_at table t
read_at table at t n same lt is = ap (λ (m : NumberParts). m.entries.items) is ∙ ap (λ (k : ℕ). (get_or table k n).entries.items) same ∙ sym (entries_at-get table t n lt)

pub memory_at : (shape : Shape) (table : List NumberParts) (t : ℕ) (d : NumberParts) → t < length table → ((u : ℕ) → ForSome (slice_get table u) (HasMemory shape)) → HasMemory shape (get_or table t d)
memory_at shape [] t d lt each = absurd (omega arith)
memory_at shape (n ∷ ns) zero d lt each = each zero n refl
memory_at shape (n ∷ ns) (suc t) d lt each = memory_at shape ns t d (omega arith) (λ u x got. each (suc u) x got)

-- an address of the data has its page among the masks
pub page_inside : (shape : Shape) (e : Entry) → IsEntry shape e → e.addr / 512 < page_count shape
page_inside shape e is = omega (arith, is.placed.inside, is.placed.some)

module _ (shape : Shape) (table : List NumberParts) (masks new_masks : List ℕ) (t : ℕ) (n : NumberParts) (kept : IsKept shape table masks) (long : length new_masks ≡ length masks) (lt : t < length table) (memory : HasMemory shape n) where
  -- all but the marks
  kept_with : All (IsEntry shape) n.entries.items → ((p u : ℕ) → u < 64 → has (slice_index new_masks p) u ≡ lies_on p (entries_at (set table t n) u)) → IsKept shape (set table t n) new_masks
  kept_with all marked = record {
    entries = λ u. ⊎_elim
        (λ is. All-same (IsEntry shape) (entries_at (set table t n) u) n.entries.items (ap (entries_at (set table t n)) is ∙ entries_at-set_same table t n lt) all)
        (λ ne. All-same (IsEntry shape) (entries_at (set table t n) u) (entries_at table u) (entries_at-set_other table t u n ne) (kept.entries u))
        (cases_eq u t);
    marked = marked;
    memory = set_each (HasMemory shape) table t n kept.memory memory;
    pages = λ some. long ∙ kept.pages (omega arith);
  }

  -- one entry more
  pub kept_more : (e : Entry) (page : ℕ) → IsEntry shape e → page ≡ e.addr / 512 → n.entries.items ≡ entries_at table t ++ e ∷ []
      → ((p u : ℕ) → u < 64 → has (slice_index new_masks p) u ≡ ((nat_eq page p && nat_eq u t) || has (slice_index masks p) u)) → IsKept shape (set table t n) new_masks
  kept_more e page is page_is items gains =
      kept_with (All-same (IsEntry shape) n.entries.items (entries_at table t ++ e ∷ []) items (All-push (IsEntry shape) (entries_at table t) e (kept.entries t) is)) (λ p u small. ⊎_elim
      (λ same.
      gains p u small
      ∙ (λ i. (nat_eq (page_is i) p && eq-eqb u t same i) || kept.marked p u small i)
      ∙ ap (λ (v : ℕ). (nat_eq (e.addr / 512) p && true) || lies_on p (entries_at table v)) same
      ∙ swapped (nat_eq (e.addr / 512) p) (lies_on p (entries_at table t))
      ∙ sym (list_any-append (λ (f : Entry). nat_eq (f.addr / 512) p) (entries_at table t) (e ∷ []))
      ∙ ap (lies_on p) (sym items)
      ∙ ap (lies_on p) (sym (entries_at-set_same table t n lt))
      ∙ ap (λ (v : ℕ). lies_on p (entries_at (set table t n) v)) (sym same))
      (λ ne.
      gains p u small
      ∙ (λ i. (nat_eq page p && ne_eqb u t ne i) || kept.marked p u small i)
      ∙ passed (nat_eq page p) (lies_on p (entries_at table u))
      ∙ ap (lies_on p) (sym (entries_at-set_other table t u n ne)))
      (cases_eq u t))
    where
      swapped : (a b : Bool) → ((a && true) || b) ≡ (b || (a || false))
      swapped true true = refl
      swapped true false = refl
      swapped false true = refl
      swapped false false = refl

      passed : (a b : Bool) → ((a && false) || b) ≡ b
      passed true b = refl
      passed false b = refl

  -- none any more
  pub kept_none : n.entries.items ≡ [] → ((p u : ℕ) → u < 64 → has (slice_index new_masks p) u ≡ (not (nat_eq u t && lies_on p (entries_at table t)) && has (slice_index masks p) u)) → IsKept shape (set table t n) new_masks
  kept_none items loses = kept_with (All-same (IsEntry shape) n.entries.items [] items (All-nil (IsEntry shape))) (λ p u small. ⊎_elim
      (λ same.
      loses p u small
      ∙ (λ i. not (eq-eqb u t same i && lies_on p (entries_at table t)) && kept.marked p u small i)
      ∙ ap (λ (v : ℕ). not (lies_on p (entries_at table t)) && lies_on p (entries_at table v)) same
      ∙ gone (lies_on p (entries_at table t))
      ∙ ap (lies_on p) (sym (entries_at-set_same table t n lt ∙ items))
      ∙ ap (λ (v : ℕ). lies_on p (entries_at (set table t n) v)) (sym same))
      (λ ne.
      loses p u small
      ∙ (λ i. not (ne_eqb u t ne i && lies_on p (entries_at table t)) && kept.marked p u small i)
      ∙ ap (lies_on p) (sym (entries_at-set_other table t u n ne)))
      (cases_eq u t))
    where
      gone : (a : Bool) → (not a && a) ≡ false
      gone true = refl
      gone false = refl

-- nothing is kept at first
pub kept_free : (shape : Shape) (table : List NumberParts) (masks : List ℕ) (n : ℕ) → ((t : ℕ) → ForSome (slice_get table t) (IsFree shape)) → masks ≡ replicate {A = ℕ} n 0 → n ≡ page_count shape → IsKept shape table masks
kept_free shape table masks n free masks_are n_is = record {
  entries = λ t. All-same (IsEntry shape) (entries_at table t) [] (entries_at_free shape table free t) (All-nil (IsEntry shape));
  marked = λ p t lt. ap (λ (l : List ℕ). has (slice_index l p) t) masks_are ∙ ap (λ (k : ℕ). has k t) (zero_at p) ∙ none_set t ∙ sym (ap (lies_on p) (entries_at_free shape table free t));
  memory = λ t x got. omega (arith, (free t x got).exact);
  pages = λ some. ap length masks_are ∙ length-replicate {A = ℕ} n 0 ∙ n_is;
}
  where
    zero_at : (p : ℕ) → get_or (replicate {A = ℕ} n 0) p 0 ≡ 0
    zero_at p = elim (cases_lt p n) [
      | inl lt ↦ get_or-replicate {A = ℕ} n p 0 0 lt
      | inr past ↦ get_or_past (replicate {A = ℕ} n 0) p 0 (omega (arith, length-replicate {A = ℕ} n 0))
    ]

-- the memory of places without entries
pub capacities : (shape : Shape) (table : List NumberParts) → ((t : ℕ) → ForSome (slice_get table t) (IsFree shape)) → sum_by (λ n. vec_capacity n.entries) table ≡ shape.loggers * shape.entries * length table
capacities shape [] free = omega arith
capacities shape (n ∷ ns) free =
    omega (
      arith,
      sum_by-cons (λ m. vec_capacity m.entries) n ns,
      (free zero n refl).exact,
      capacities shape ns (λ u x got. free (suc u) x got),
      mul-suc (shape.loggers * shape.entries) (length ns),
    )

-- an array of the largest shape needs less than a MiB
pub memory_small : (shape : Shape) → IsShape shape → memory_for shape ≤ 2 ^ 20
memory_small shape is =
    let most : shape.loggers * shape.entries ≤ 8 * 64 = mul-le-mul is.most_loggers is.most_entries in
    let all : shape.numbers * (shape.loggers * shape.entries) ≤ 64 * (8 * 64) = mul-le-mul is.most_numbers most in
    let pages : shape.loggers * shape.pages ≤ 8 * 4096 = mul-le-mul is.most_loggers is.most_pages in
    omega (arith, all, pages, is.most_numbers)
