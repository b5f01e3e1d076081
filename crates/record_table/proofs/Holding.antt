-- What loggers hold of a number is the writes to their slots.
use Rattle.std.proofs.Common.{◌≡◌, ℕ, suc, ◌+◌, ◌*◌, Bool, true, false, cond, List, [], ◌∷◌, length, refl, sym, ◌∙◌, ap, subst, arith}
use Rattle.std.specs.Prelude.{nat_eq, filter, Option, IsSome}
use Rattle.std.specs.Option.{option_map}
use Rattle.std.proofs.lemmas.List.{length-map}
use Rattle.array_shape.specs.declared.shape.Shape.{Shape}
use Rattle.array_shape.specs.Places.{data_len, logger_of}
use Rattle.array_shape.specs.Logged.{Part, ranges_of}
use Rattle.eaw_face.specs.State.{listed, count_on, is_range_on}
use Rattle.eaw_face.specs.StoreView.{log_len}
use Rattle.page_store.specs.Index.{Index, slots_of}
use Rattle.page_store.specs.Shown.{PagesView}
use Rattle.page_store.proofs.Laying.{length-ranges}
use Rattle.page_store.proofs.Outline.{listed-ranges}
use Rattle.page_store.proofs.Shown.{IsTold}
use Rattle.record_table.specs.Invariant.{IsSlotPart, AreSlotParts, IsTied}
use Rattle.record_table.specs.Shown.{write_of, writes_of, state_of, pairs_of, held_on, is_write_on, is_slot_on, AreNamed}

module _ (index : Index) (shape : Shape) (d : List ℕ) (long : length d ≡ data_len shape) (g : ℕ) where
  one : (p : Part) → IsSlotPart index d p → is_range_on shape g (p.0, length p.1) ≡ is_write_on shape (pairs_of index d) g (write_of d p)
  one p is =
      let at : p.0 ≡ 64 * (slots_of shape + is.slot) = omega (arith, is.place, long) in
      ap (λ (n : ℕ). nat_eq (logger_of shape n) g) at ∙ sym (ap (is_slot_on shape g) is.named)

  counts : (log : List Part) → AreSlotParts index d log → count_on shape g (ranges_of log) ≡ length (filter (is_write_on shape (pairs_of index d) g) (writes_of d log))
  counts [] parts = refl
  counts (p ∷ ps) parts = go (is_range_on shape g (p.0, length p.1)) (is_write_on shape (pairs_of index d) g (write_of d p)) (one p parts.0) (counts ps parts.1)
    where
      go : (a b : Bool) → a ≡ b → count_on shape g (ranges_of ps) ≡ length (filter (is_write_on shape (pairs_of index d) g) (writes_of d ps))
          → length (cond a (let r : ℕ × ℕ = (p.0, length p.1) in r ∷ filter (is_range_on shape g) (ranges_of ps)) (filter (is_range_on shape g) (ranges_of ps)))
          ≡ length (cond b (write_of d p ∷ filter (is_write_on shape (pairs_of index d) g) (writes_of d ps)) (filter (is_write_on shape (pairs_of index d) g) (writes_of d ps)))
      go true true e rest = ap suc rest
      go false false e rest = rest
      go true false e rest = absurd (cc)
      go false true e rest = absurd (cc)

pub held_is : (index : Index) (pages : PagesView) → IsTold pages.store → IsTied index pages → (t g : ℕ)
    → held_on pages t g ≡ length (filter (is_write_on pages.store.shape (pairs_of index pages.store.state.bytes) g) ((state_of index pages).logs t).writes)
held_is index pages told tied t g =
    ap (λ (o : Option (List (ℕ × ℕ))). count_on pages.store.shape g (listed o)) (told.outlines t) ∙ ap (count_on pages.store.shape g) (listed-ranges (pages.store.state.logs t))
    ∙ counts index pages.store.shape pages.store.state.bytes told.long g (listed (pages.store.state.logs t)) (tied.parts t)

named : (index : Index) (d : List ℕ) (log : List Part) → AreSlotParts index d log → AreNamed (pairs_of index d) (writes_of d log)
named index d [] parts = tt
named index d (p ∷ ps) parts = (subst (λ (o : Option ℕ). IsSome o) (sym parts.0.named) refl, named index d ps parts.1)

pub named_are : (index : Index) (pages : PagesView) → IsTied index pages → (t : ℕ) → AreNamed (pairs_of index pages.store.state.bytes) ((state_of index pages).logs t).writes
named_are index pages tied t = named index pages.store.state.bytes (listed (pages.store.state.logs t)) (tied.parts t)

-- a number has as many writes as it has logged parts
pub as_many_writes : (index : Index) (pages : PagesView) (t : ℕ) → pages.store.ranges t ≡ option_map ranges_of (pages.store.state.logs t)
    → log_len pages.store t ≡ length ((state_of index pages).logs t).writes
as_many_writes index pages t outlined =
    let log = listed (pages.store.state.logs t) in
    ap (λ (o : Option (List (ℕ × ℕ))). length (listed o)) outlined ∙ ap length (listed-ranges (pages.store.state.logs t)) ∙ length-ranges log ∙ sym (length-map log (write_of pages.store.state.bytes))
