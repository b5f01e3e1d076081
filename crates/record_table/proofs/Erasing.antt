-- A removal of a record, from its look-up and its write.
use Rattle.std.proofs.Common.{◌≡◌, ℕ, Bool, true, false, IsTrue, List, [], Option, Some, None, Result, Ok, Err, refl, sym, ◌∙◌, ap, subst}
use Rattle.std.specs.Prelude.{is_some}
use Rattle.std.proofs.lemmas.Bool.{false≢true}
use Rattle.eaw_face.specs.Command.{Command}
use Rattle.eaw_face.specs.StoreView.{StoreView}
use Rattle.eaw_face.specs.Causes.{IsAlive}
use Rattle.page_store.specs.Command.{PageCommand}
use Rattle.page_store.specs.Course.{Course}
use Rattle.page_store.specs.Does.{Does}
use Rattle.page_store.specs.Index.{IsTable}
use Rattle.page_store.specs.Shown.{PagesView, Shown}
use Rattle.page_store.specs.declared.fault.PageFault.{PageFault}
use Rattle.page_store.specs.declared.fault.PageFault.TheVariants.{LogFull, SavesFull, Media, Dead, Damaged}
use Rattle.record_table.specs.Faults.{as_table}
use Rattle.record_table.specs.Hearing.{Hearing}
use Rattle.record_table.specs.Seeks.{Seeks, Erases, IsErased, AnswersErase}
use Rattle.record_table.specs.declared.fault.TableFault.{TableFault}
use Rattle.record_table.specs.declared.slots.Place.{Place}

-- what the write answers
abbrev pub erased_as : Result (Unit {0}) PageFault → Result Bool TableFault
erased_as (Ok done) = Ok true
erased_as (Err fault) = Err (as_table fault)

pub erased_if : (value : Option (List ℕ)) → value ≡ None → IsErased value (Ok false)
erased_if value none = subst (λ (o : Option (List ℕ)). IsErased o (Ok false)) (sym none) refl

module _ (tells : Bool) (Opens : List ℕ → List ℕ → Type 0) (pc : PageCommand) (old new : PagesView) where
  written : (r : Result (Unit {0}) PageFault) → Does tells Opens pc old new r → (value : List ℕ) → IsErased (Some value) (erased_as r)
  written (Ok done) does value = refl
  written (Err Media) does value = tt
  written (Err Dead) does value = tt
  written (Err SavesFull) does value = tt
  written (Err (LogFull g h n)) does value = tt
  written (Err (Damaged page)) does value = absurd does.cause

  pub is_erased : (r : Result (Unit {0}) PageFault) → Does tells Opens pc old new r → (value : Option (List ℕ)) → is_some value ≡ true → (result : Result Bool TableFault) → result ≡ erased_as r → IsErased value result
  is_erased r does None some result is = absurd (false≢true some)
  is_erased r does (Some value) some result is = subst (IsErased (Some value)) (sym is) (written r does value)

module _ {S : Type 0} (view : S → StoreView) (calls : S → Command → ℕ) (tells : Bool) (course : ℕ → Course (Option ℕ)) (table key t root : ℕ) (arg inside : Shown S) (same : inside ≡ arg)
    (named : IsTrue tells → IsAlive (view inside.store) → IsTable (view inside.store).state.bytes table root) where
  pub erases : (behind : ℕ) (before after : List Hearing) → before ≡ [] → (sought : Result (Option Place) PageFault) → Seeks (course root) key t (calls inside.store) before after (view inside.store) behind sought
      → (result : Result Bool TableFault) → AnswersErase sought result
      → (at : ℕ) × Erases (course at) key t (calls arg.store) (view arg.store) result × (IsTrue tells → IsAlive (view arg.store) → IsTable (view arg.store).state.bytes table at)
  erases behind before after none sought seeks result answers = (
    root,
    subst (λ (p : Shown S). Erases (course root) key t (calls p.store) (view p.store) result) same
        (record { behind = behind; sought = sought; hearings = after; seeks = subst (λ (hs : List Hearing). Seeks (course root) key t (calls inside.store) hs after (view inside.store) behind sought) none seeks; answers = answers }),
    subst (λ (p : Shown S). IsTrue tells → IsAlive (view p.store) → IsTable (view p.store).state.bytes table root) same named,
  )
