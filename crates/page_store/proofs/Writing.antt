-- A write as a number: an edit of a part, or one more part.
use Rattle.std.proofs.Common.{◌≡◌, ℕ, ◌+◌, ◌-◌, ◌*◌, ◌%◌, ◌<◌, ◌≤◌, max, List, [], ◌∷◌, Bool, false, length, get_or, refl, sym, ◌∙◌, ap, subst, arith}
use Rattle.mars_base.specs.Bytes.{put}
use Rattle.std.specs.Prelude.{Option, Some, None, IsTrue, Result, Ok, Err, OnOk}
use Rattle.std.specs.Option.{unwrap_or}
use Rattle.array_shape.specs.Places.{data_len, IsPlaced}
use Rattle.array_shape.specs.Parts.{parts_of_write}
use Rattle.array_shape.specs.Logged.{ranges_of}
use Rattle.array_shape.proofs.WriteParts.{one_write_part}
use Rattle.eaw_face.specs.State.{listed, range_at}
use Rattle.eaw_face.specs.StoreView.{StoreView}
use Rattle.eaw_face.specs.Command.{log_edit, log_write}
use Rattle.eaw_face.specs.Command as command
use Rattle.eaw_face.specs.Causes as causes
use Rattle.page_store.specs.Edit.{edit_pos}
use Rattle.page_store.specs.Command.{write_as, atomic_write}
use Rattle.page_store.specs.Ready.{IsFreeWrite}
use Rattle.page_store.specs.Device.{write_of}
use Rattle.page_store.specs.Kept.{IsOrdered}
use Rattle.page_store.specs.Marked.{Marked, floor_at}
use Rattle.page_store.specs.Outline.{floor_in}
use Rattle.page_store.specs.State.{PagesState, view_of}
use Rattle.page_store.specs.Does.{Does, edits_at}
use Rattle.page_store.specs.Shown.{PagesView, IsInPage, address, counts_in, top_in, outline_of, state_of}
use Rattle.page_store.specs.declared.fault.PageFault.{PageFault}
use Rattle.page_store.proofs.Shown.{IsTold, kept}
use Rattle.page_store.proofs.Views.{write_as_view}
use Rattle.page_store.proofs.Exact.{edit_found}
use Rattle.page_store.proofs.Marking.{was}
use Rattle.page_store.proofs.Lifting.{Makes}

abbrev IsThere : Option ℕ → Type 0
IsThere None = ⊥
IsThere (Some k) = Unit {0}

pub in_page_inside : (store : StoreView) (page at len : ℕ) → IsInPage store page at len → address page at + len ≤ data_len store.shape
in_page_inside store page at len inside = omega (arith, inside.there, inside.within)

-- a range within a page is placed
pub in_page_placed : (store : StoreView) (page at len : ℕ) → 0 < len → IsInPage store page at len → IsPlaced store.shape (address page at) len
in_page_placed store page at len some inside = record {
  some = some;
  page = let rest : (512 * page + at) % 512 ≡ at = omega (arith, inside.within) in omega (arith, inside.within, rest);
  inside = in_page_inside store page at len inside;
}

pub floor_is : (pages : PagesView) (t : ℕ) (m : Marked) → pages.counts t ≡ m.counts → pages.top t ≡ m.top → floor_at m ≡ floor_in (outline_of pages) t
floor_is pages t m counts top = λ i. max (get_or (sym counts i) (length (sym counts i) - 1) 0) (unwrap_or (sym top i) 0)

module _ (tells : Bool) (old : PagesView) (t addr : ℕ) (bytes : List ℕ) (placed : IsPlaced old.store.shape addr (length bytes))
    (ordered : old.store.is_dead ≡ false → IsOrdered (outline_of old)) (told : IsTrue tells → old.store.is_dead ≡ false → IsTold old.store) where
  pub makes_edit : (pos : ℕ) → edits_at old t addr (length bytes) ≡ Some pos → Makes tells (write_as t addr bytes) (log_edit t pos 0 bytes) old
  makes_edit pos is = record {
    device_is = ap (λ (e : Option ℕ). Some (write_of t addr bytes e)) is;
    allowed = λ alive. placed;
    ordered = ordered;
    told = told;
    room = λ has none. absurd (subst IsThere (sym is ∙ none) tt);
    full = λ g h n no. absurd no;
    number = λ u ne same. ne same;
  }

  pub makes_write : edits_at old t addr (length bytes) ≡ None → Makes tells (write_as t addr bytes) (log_write t addr bytes) old
  makes_write none =
      let one : ranges_of (parts_of_write addr bytes) ≡ (addr, length bytes) ∷ [] = ap ranges_of (one_write_part addr bytes placed.some placed.page) in
      record {
        device_is = ap (λ (e : Option ℕ). Some (write_of t addr bytes e)) none;
        allowed = λ alive. placed;
        ordered = ordered;
        told = told;
        room = λ fits none'. subst (λ (rs : List (ℕ × ℕ)). causes.fit old.store.shape (listed (old.store.ranges t)) rs None) one fits;
        full = λ g h n full. (none, subst (λ (rs : List (ℕ × ℕ)). causes.fit old.store.shape (listed (old.store.ranges t)) rs (Some (g, h, n))) one full);
        number = λ u ne same. ne same;
      }

  -- where an edited part lies, and that it exists
  pub edit_there_is : (pos : ℕ) → edits_at old t addr (length bytes) ≡ Some pos
      → (pos < length (listed (old.store.ranges t))) × (range_at (listed (old.store.ranges t)) pos ≡ (addr, length bytes))
  edit_there_is pos is =
      let found = edit_found (addr, length bytes) (floor_in (outline_of old) t) (listed (old.store.ranges t)) pos is in
      (found.there, found.same)

-- what was looked for from the floor that is kept is what the write edits
pub edits_from : (store : StoreView) (marks : List Marked) (t k : ℕ) → k ≡ t → t < length marks → (m : Marked) → m ≡ get_or marks k m → (floor : ℕ) → floor ≡ floor_at m
    → (place addr len : ℕ) → place ≡ addr → (e : Option ℕ) → e ≡ edit_pos floor (place, len) (listed (store.ranges t))
    → (let pages : PagesView = record { store = store; counts = counts_in marks; top = top_in marks } in edits_at pages t addr len ≡ e)
edits_from store marks t k k_is there m m_is floor floor_at_is place addr len place_is e e_is =
    let pages : PagesView = record { store = store; counts = counts_in marks; top = top_in marks } in
    let kept = was marks t k k_is there m m m_is in
    let same : floor ≡ floor_in (outline_of pages) t = floor_at_is ∙ floor_is pages t m kept.0 kept.1 in
    sym (e_is ∙ ap (λ (f : ℕ). edit_pos f (place, len) (listed (store.ranges t))) same ∙ ap (λ (a : ℕ). edit_pos (floor_in (outline_of pages) t) (a, len) (listed (store.ranges t))) place_is)

-- what the number sees after a write
pub seen_of : (tells : Bool) (Opens : List ℕ → List ℕ → Type 0) (old new : PagesView) (t addr : ℕ) (bytes : List ℕ) (result : Result (Unit {0}) PageFault)
    → IsPlaced old.store.shape addr (length bytes) → (old.store.is_dead ≡ false → IsOrdered (outline_of old)) → (IsTrue tells → old.store.is_dead ≡ false → IsTold old.store)
    → Does tells Opens (write_as t addr bytes) old new result → IsTrue tells → OnOk result (view_of t (state_of new) ≡ put (view_of t (state_of old)) addr bytes)
seen_of tells Opens old new t addr bytes (Ok x) placed ordered told does tell =
    let alive = does.cause.0 in
    ap (λ (s : PagesState). view_of t s) (does.done.state tell) ∙ write_as_view old.store.shape (state_of old) (kept old (told tell alive) (ordered alive)) t addr bytes placed
seen_of tells Opens old new t addr bytes (Err fault) placed ordered told does tell = tt

-- a write that commits by itself
pub makes_atomic : (tells : Bool) (old : PagesView) (t addr : ℕ) (bytes : List ℕ) → IsFreeWrite old.store.shape old.store.ranges t addr (length bytes)
    → (old.store.is_dead ≡ false → IsOrdered (outline_of old)) → (IsTrue tells → old.store.is_dead ≡ false → IsTold old.store) → Makes tells (atomic_write t addr bytes) (command.atomic_write t addr bytes) old
makes_atomic tells old t addr bytes free ordered told = record {
  device_is = refl;
  allowed = λ alive. free;
  ordered = ordered;
  told = told;
  room = λ fits. fits;
  full = λ g h n full. full;
  number = λ u ne same. ne same;
}
