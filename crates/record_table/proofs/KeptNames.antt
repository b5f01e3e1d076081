-- Calls leave the names and the roots that are kept those of the data.
use Rattle.std.proofs.Common.{◌≡◌, ℕ, Bool, true, false, IsTrue, List, Result, refl, sym, ◌∙◌, ap, subst}
use Rattle.std.specs.Prelude.{IsFalse, slice_get}
use Rattle.std.specs.Option.{option_map}
use Rattle.std.proofs.lemmas.Bool.{false≢true}
use Rattle.mars_base.specs.Causes.{Rose}
use Rattle.array_shape.specs.declared.shape.Shape.{Shape}
use Rattle.array_shape.specs.Places.{page_count}
use Rattle.eaw_face.specs.State.{State}
use Rattle.eaw_face.specs.StoreView.{StoreView}
use Rattle.eaw_face.specs.Causes.{IsAlive}
use Rattle.history.specs.declared.call.Call.{Call}
use Rattle.history.specs.declared.call.Reply.{Reply}
use Rattle.record_slots.specs.Names.{names_in}
use Rattle.record_slots.specs.Places.{tables_of}
use Rattle.record_slots.specs.declared.super_page.TableEntry.{TableEntry}
use Rattle.page_store.specs.Index.{Index}
use Rattle.page_store.specs.Looks.{Looks}
use Rattle.page_store.specs.Shown.{PagesView, Shown, pages_of}
use Rattle.record_table.specs.Does.{Does, is_failed}
use Rattle.record_table.specs.Groups.{CommitsGroup}
use Rattle.record_table.specs.Invariant.{Holds}
use Rattle.record_table.specs.Names.{ArePages, KeepsTables}
use Rattle.record_table.specs.declared.fault.TableFault.{TableFault}

-- a call that leaves the tables of the data, unless the medium failed
pub tables_kept : (tells : Bool) (old new : PagesView) (names : List (List ℕ)) (roots : List ℕ) (failed : Bool) → new.store.shape ≡ old.store.shape
    → (IsFalse failed → (new.store.is_dead ≡ old.store.is_dead) × (new.store.faults ≡ old.store.faults))
    → (IsTrue failed → (new.store.is_dead ≡ true) × Rose old.store.faults new.store.faults) → (IsTrue tells → IsFalse failed → tables_of new.store.state.bytes ≡ tables_of old.store.state.bytes) → KeepsTables tells old names roots → KeepsTables tells new names roots
tables_kept tells old new names roots failed shape same dies tables keeps = (
  (λ told alive. let still = living failed same dies told alive in keeps.0.0 told still.0 ∙ ap names_in (sym (still.1 tables)), keeps.0.1),
  record {
    long = keeps.1.long;
    inside = subst (λ (s : Shape). ArePages (page_count s) roots) (sym shape) keeps.1.inside;
    are = λ told alive table root lt is. let still = living failed same dies told alive in
        keeps.1.are told still.0 table root lt (ap (λ (ts : List TableEntry). option_map (λ entry. entry.root) (slice_get ts table)) (sym (still.1 tables)) ∙ is);
  },
)
  where
    living : (failed : Bool) → (IsFalse failed → (new.store.is_dead ≡ old.store.is_dead) × (new.store.faults ≡ old.store.faults)) → (IsTrue failed → (new.store.is_dead ≡ true) × Rose old.store.faults new.store.faults)
        → IsTrue tells → IsAlive new.store → IsAlive old.store × ((IsTrue tells → IsFalse failed → tables_of new.store.state.bytes ≡ tables_of old.store.state.bytes) → tables_of new.store.state.bytes ≡ tables_of old.store.state.bytes)
    living false same dies told alive = (sym (same refl).0 ∙ alive, λ tables. tables told refl)
    living true same dies told alive = absurd (false≢true (sym alive ∙ (dies refl).0))

-- a look
pub kept_by_look : (tells : Bool) (Opens : List ℕ → List ℕ → Type 0) (old new : PagesView) (names : List (List ℕ)) (roots : List ℕ) (failed : Bool) → Looks tells Opens failed old new → KeepsTables tells old names roots → KeepsTables tells new names roots
kept_by_look tells Opens old new names roots failed looks =
    tables_kept tells old new names roots failed looks.shape (λ well. ((looks.still well).dead, (looks.still well).faults)) looks.dies (λ told well. ap (λ (s : State). tables_of s.bytes) ((looks.still well).state told))

-- a caller's call
pub kept : {tells : Bool} {Opens : List ℕ → List ℕ → Type 0} {index : Index} {table t : ℕ} {call : Call} {old new : PagesView} {result : Result Reply TableFault} {names : List (List ℕ)} {roots : List ℕ}
    → Does tells Opens index table t call old new result × Holds tells index new → KeepsTables tells old names roots → Holds tells index new × KeepsTables tells new names roots
kept {tells} {Opens} {index} {table} {t} {call} {old} {new} {result} {names} {roots} both keeps =
    (both.1, tables_kept tells old new names roots (is_failed result) both.0.shape both.0.faults both.0.dies both.0.tables keeps)

-- the same for values that show pages
module _ {S : Type 0} (view : S → StoreView) (arg inside : Shown S) (same : inside ≡ arg) where
  before : {tells : Bool} {names : List (List ℕ)} {roots : List ℕ} → KeepsTables tells (pages_of (view inside.store) inside) names roots → KeepsTables tells (pages_of (view arg.store) arg) names roots
  before {tells} {names} {roots} keeps = subst (λ (p : Shown S). KeepsTables tells (pages_of (view p.store) p) names roots) same keeps

  pub kept_as : {tells : Bool} {Opens : List ℕ → List ℕ → Type 0} {index : Index} {table t : ℕ} {call : Call} {new : PagesView} {result : Result Reply TableFault} {names : List (List ℕ)} {roots : List ℕ}
      → Does tells Opens index table t call (pages_of (view arg.store) arg) new result × Holds tells index new → KeepsTables tells (pages_of (view inside.store) inside) names roots → Holds tells index new × KeepsTables tells new names roots
  kept_as both keeps = kept both (before keeps)

  pub group_kept_as : {tells : Bool} {Opens : List ℕ → List ℕ → Type 0} {index : Index} {ts : List ℕ} {new : PagesView} {result : Result (Unit {0}) TableFault} {names : List (List ℕ)} {roots : List ℕ}
      → CommitsGroup tells Opens index ts (pages_of (view arg.store) arg) new result × Holds tells index new → KeepsTables tells (pages_of (view inside.store) inside) names roots → Holds tells index new × KeepsTables tells new names roots
  group_kept_as {tells} {Opens} {index} {ts} {new} {result} {names} {roots} both keeps =
      (both.1, tables_kept tells (pages_of (view arg.store) arg) new names roots (is_failed result) both.0.shape both.0.faults both.0.dies both.0.tables (before keeps))
