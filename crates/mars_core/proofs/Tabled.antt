-- A table that is made in a store.
use Rattle.std.proofs.Common.{◌≡◌, ◌<◌, ◌-◌, ◌⊎◌, inl, inr, ⊎_elim, ℕ, Bool, List, [], ◌∷◌, ◌++◌, length, IsTrue, Result, Ok, Err, OnOk, OnErr, refl, sym, ap, subst, ◌∙◌}
use Rattle.std.specs.Prelude.{IsFalse, slice_get, Some}
use Rattle.std.proofs.lemmas.List.{map-append}
use Rattle.std.proofs.lemmas.Bool.{false≢true}
use Rattle.mars_base.specs.Causes.{Rose}
use Rattle.mars_base.proofs.Going.{weaker, then}
use Rattle.array_shape.specs.declared.shape.Shape.{Shape}
use Rattle.eaw_face.specs.State.{State}
use Rattle.eaw_face.specs.StoreView.{StoreView, LeavesOnly}
use Rattle.eaw_face.specs.Causes.{IsAlive}
use Rattle.history.specs.Writes.{Table}
use Rattle.page_store.specs.Index.{Index, index_pages_of}
use Rattle.page_store.specs.Shown.{PagesView}
use Rattle.record_slots.specs.Names.{names_in}
use Rattle.record_slots.specs.Places.{next_page, tables_of}
use Rattle.record_slots.specs.declared.super_page.TableEntry.{TableEntry}
use Rattle.record_table.specs.Attached.{Attached}
use Rattle.record_table.specs.Does.{OpensWith}
use Rattle.record_table.specs.Making.{Makes, MakeCause, OnlyUpgrades, is_make_failed}
use Rattle.record_table.specs.Does.{OpensNamed}
use Rattle.record_table.specs.Names.{names_of, IsNew}
use Rattle.record_table.specs.Shown.{table_of, state_of}
use Rattle.record_table.specs.State.{TableState}
use Rattle.record_table.specs.declared.making.MakeFault.{MakeFault}
use Rattle.record_table.specs.declared.making.MakeFault.TheVariants as make
use Rattle.mars_core.specs.Making.{OpensAsNamed, OpensWithName, MakesTable}
use Rattle.mars_core.proofs.Prefixes.{StoreLaws, sound_after}
use Rattle.eaw_face.proofs.Mirroring.{sent_then}

with_name : (Opens : List ℕ → List ℕ → Type 0) (index : Index) (image : List ℕ) (names : List (List ℕ)) (table : Table) → OpensNamed Opens index image names table → OpensWith Opens index image table
with_name Opens index image names table o = record { bytes = o.bytes; opened = o.opened; sound = o.sound; shows = o.shows }

-- why it was made or not, in terms of an earlier store with the same data
pub moved_cause : (tells : Bool) (name : List ℕ) (p q : StoreView) → IsAlive p → q.is_dead ≡ p.is_dead → q.shape ≡ p.shape → (IsTrue tells → q.state.bytes ≡ p.state.bytes) → (result : Result ℕ MakeFault)
    → MakeCause tells name q result → MakeCause tells name p result
moved_cause tells name p q alive dead shape bytes (Ok j) cause =
    (alive, λ told. subst (λ (x : Shape × List ℕ). IsNew name (names_of x.1) × (j ≡ length (names_of x.1)) × (j < 8) × (next_page x.1 < index_pages_of x.0)) (λ i. (shape i, bytes told i)) (cause.1 told))
moved_cause tells name p q alive dead shape bytes (Err make.Exists) cause = (alive, λ told. subst (λ (b : List ℕ). (j : ℕ) × (slice_get (names_of b) j ≡ Some name)) (bytes told) (cause.1 told))
moved_cause tells name p q alive dead shape bytes (Err make.TablesFull) cause = (alive, λ told. subst (λ (b : List ℕ). IsNew name (names_of b) × (length (names_of b) ≡ 8)) (bytes told) (cause.1 told))
moved_cause tells name p q alive dead shape bytes (Err (make.PagesFull n)) cause = (
  alive,
  cause.1 ∙ ap (λ (s : Shape). index_pages_of s - 1) shape,
  λ told. subst (λ (x : Shape × List ℕ). IsNew name (names_of x.1) × (length (names_of x.1) < 8) × (next_page x.1 ≡ index_pages_of x.0)) (λ i. (shape i, bytes told i)) (cause.2 told),
)
moved_cause tells name p q alive dead shape bytes (Err make.Media) cause = alive
moved_cause tells name p q alive dead shape bytes (Err make.Dead) cause = absurd (false≢true (sym alive ∙ sym dead ∙ cause))
moved_cause tells name p q alive dead shape bytes (Err (make.Damaged page)) cause = (alive, cause.1)

-- Records were taken from p as q, and then a table was made, or not.
module _ (tells : Bool) (Opens : Shape → List ℕ → List ℕ → Type 0) (index : Index) (one : (shape : Shape) (image a b : List ℕ) → Opens shape image a → Opens shape image b → a ≡ b)
    (p q r : PagesView) (first_laws : StoreLaws tells Opens p.store) (old_laws : StoreLaws tells Opens q.store) (new_laws : StoreLaws tells Opens r.store) (name : List ℕ)
    (attached : Attached tells (Opens p.store.shape) index p q) where
  still : (q.store.is_dead ≡ p.store.is_dead) × (q.store.faults ≡ p.store.faults)
  still = ((attached.looks.still refl).dead, (attached.looks.still refl).faults)

  living : IsAlive q.store
  living = still.0 ∙ attached.alive

  module _ (result : Result ℕ MakeFault) (makes : Makes tells (Opens q.store.shape) index name q r result) where
    shape : r.store.shape ≡ p.store.shape
    shape = makes.shape ∙ attached.looks.shape

    module _ (told : IsTrue tells) where
      bytes : q.store.state.bytes ≡ p.store.state.bytes
      bytes = ap (λ (s : State). s.bytes) ((attached.looks.still refl).state told)

      mid_sound : index.sound q.store.state.bytes
      mid_sound = subst index.sound (sym bytes) (attached.sound told)

      mid_table : (state_of index q).table ≡ table_of index p.store.state.bytes
      mid_table = attached.table told

      either : (image : List ℕ) → OpensNamed (Opens q.store.shape) index image (names_of q.store.state.bytes) (state_of index q).table
          ⊎ OpensNamed (Opens q.store.shape) index image (names_of q.store.state.bytes ++ name ∷ []) (state_of index q).table
          → OpensAsNamed (Opens p.store.shape) index p.store.state.bytes image ⊎ OpensWithName (Opens p.store.shape) index name p.store.state.bytes image
      either image named = subst (λ (x : Shape × List (List ℕ) × Table). OpensNamed (Opens x.0) index image x.1 x.2 ⊎ OpensNamed (Opens x.0) index image (x.1 ++ name ∷ []) x.2)
          (λ i. (attached.looks.shape i, names_of (bytes i), mid_table i)) named

      opened : (image : List ℕ) → Opens p.store.shape image p.store.state.bytes → OpensAsNamed (Opens p.store.shape) index p.store.state.bytes image
      opened image opens = record { bytes = p.store.state.bytes; opened = opens; sound = attached.sound told; named = refl; shows = refl }

      time : LeavesOnly (λ image. OpensAsNamed (Opens p.store.shape) index p.store.state.bytes image ⊎ OpensWithName (Opens p.store.shape) index name p.store.state.bytes image) p.store r.store
      time = then (weaker (λ image opens. inl (opened image opens)) (attached.looks.time told attached.alive)) (weaker either (makes.time told living))

      sound_new : IsAlive r.store → index.sound r.store.state.bytes
      sound_new alive = sound_after tells Opens index one q r old_laws new_laws told makes.shape living mid_sound (state_of index q).table (state_of index q).table
          (weaker (λ image named. ⊎_elim (λ o. inl (with_name _ index image _ _ o)) (λ o. inr (with_name _ index image _ _ o)) named) (makes.time told living)) alive

      now_named : IsAlive r.store → (names : List (List ℕ)) → names_of r.store.state.bytes ≡ names → (state_of index r).table ≡ (state_of index q).table → (image : List ℕ) → r.store.left_since r.store.moment image
          → OpensNamed (Opens p.store.shape) index image names (table_of index p.store.state.bytes)
      now_named alive names named table image left = record {
        bytes = r.store.state.bytes;
        opened = subst (λ (s : Shape). Opens s image r.store.state.bytes) shape (new_laws.only told alive image left);
        sound = sound_new alive;
        named = named;
        shows = table ∙ mid_table;
      }

  -- what may be left afterwards
  at_ok : (result : Result ℕ MakeFault) → Makes tells (Opens q.store.shape) index name q r result → IsTrue tells
      → OnOk result ((image : List ℕ) → r.store.left_since r.store.moment image → OpensWithName (Opens p.store.shape) index name p.store.state.bytes image)
  at_ok (Ok j) makes told = λ image left. now_named (Ok j) makes told ((makes.faults refl).0 ∙ living) (names_of p.store.state.bytes ++ name ∷ [])
      (ap names_in (makes.tables told) ∙ map-append (λ (t : TableEntry). t.name) (tables_of q.store.state.bytes) (record { name = name; root = next_page q.store.state.bytes } ∷ [])
      ∙ ap (λ (b : List ℕ). names_of b ++ name ∷ []) (bytes (Ok j) makes told)) (ap (λ (t : TableState). t.table) (makes.state told)) image left
  at_ok (Err f) makes told = tt

  at_refusal : (result : Result ℕ MakeFault) → Makes tells (Opens q.store.shape) index name q r result → IsTrue tells → IsFalse (is_make_failed result)
      → OnErr result ((image : List ℕ) → r.store.left_since r.store.moment image → OpensAsNamed (Opens p.store.shape) index p.store.state.bytes image)
  at_refusal (Ok j) makes told well = tt
  at_refusal (Err f) makes told well = λ image left. now_named (Err f) makes told ((makes.faults well).0 ∙ living) (names_of p.store.state.bytes)
      (ap names_in (makes.same_tables told well) ∙ ap names_of (bytes (Err f) makes told)) (ap (λ (t : TableState). t.table) (makes.same_state told well)) image left

  pub made_table : (result : Result ℕ MakeFault) → Makes tells (Opens q.store.shape) index name q r result → MakesTable tells (Opens p.store.shape) index name p.store r.store result
  made_table result makes = record {
    shape = shape result makes;
    depth = makes.depth ∙ attached.looks.depth;
    mirrors = sent_then tells p.store q.store r.store attached.looks.mirrors makes.mirrors;
    sound = attached.sound;
    cause = moved_cause tells name p.store q.store attached.alive still.0 attached.looks.shape (λ told. bytes result makes told) result makes.cause;
    kept = λ well. ((makes.faults well).0 ∙ still.0, (makes.faults well).1 ∙ still.1);
    dies = λ failed. ((makes.dies failed).0, subst (λ (n : ℕ). Rose n r.store.faults) still.1 (makes.dies failed).1);
    time = time result makes;
    now = at_ok result makes;
    same = at_refusal result makes;
    upgrades = λ told. subst (λ (b : List ℕ). OnlyUpgrades b r.store.state.bytes result) (bytes result makes told) (makes.upgrades told);
  }
