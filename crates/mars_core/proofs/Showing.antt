-- A core that has just begun is shown by its data.
use Rattle.std.proofs.Common.{◌≡◌, Bool, List, ℕ, IsTrue, sym, ap, subst, ◌∙◌}
use Rattle.eaw_face.specs.StoreView.{StoreView}
use Rattle.page_store.specs.Index as below
use Rattle.record_table.specs.Names.{names_of}
use Rattle.record_table.specs.Shown.{table_of}
use Rattle.caller_steps.specs.Core.{CoreView}
use Rattle.caller_steps.specs.Room.{Limits, IsShown}
use Rattle.caller_steps.specs.State.{Index}
use Rattle.mars_core.specs.Over.{index_of, Begins, ShowsAll}

module _ (tells : Bool) (Opens : List ℕ → List ℕ → Type 0) (index : below.Index) (old new : StoreView) (core : CoreView) (begins : Begins tells Opens index old new core) (told : IsTrue tells) where
  bytes_are : core.state.index.bytes ≡ new.state.bytes
  bytes_are = ap (λ (i : Index). i.bytes) (begins.over.keys told)

  pub begun_has : ShowsAll index core.state
  begun_has = record {
    sound = subst index.sound (sym bytes_are) (begins.over.sound told begins.alive);
    names = ap names_of bytes_are ∙ begins.over.names told begins.alive;
    table = ap (table_of index) bytes_are ∙ begins.over.table told begins.alive;
    keys = begins.over.keys told ∙ ap (index_of index) (sym bytes_are);
  }

  pub begun_shown : IsShown core.limits core.state
  begun_shown = subst (λ (limits : Limits). IsShown limits core.state) (sym begins.over.limits) (λ i. (begun_has.names i, begun_has.table i, sym begun_has.keys i))
