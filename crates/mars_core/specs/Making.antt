-- What the making of a table does to a store.
use Rattle.std.specs.Prelude.{ℕ, ◌≡◌, ◌⊎◌, Bool, true, IsTrue, IsFalse, List, [], ◌∷◌, ◌++◌, Result, OnOk, OnErr}
use Rattle.mars_base.specs.Causes.{Rose}
use Rattle.eaw_face.specs.StoreView.{StoreView, LeavesOnly}
use Rattle.page_store.specs.Index.{Index}
use Rattle.record_table.specs.Making.{MakeCause, OnlyUpgrades, is_make_failed}
use Rattle.record_table.specs.Does.{OpensNamed}
use Rattle.record_table.specs.Names.{names_of}
use Rattle.record_table.specs.Shown.{table_of}
use Rattle.record_table.specs.declared.making.MakeFault.{MakeFault}
use Rattle.eaw_face.specs.Mirroring.{Mirrors}

-- an image opens with the records of this data, under its names
abbrev pub OpensAsNamed : (List ℕ → List ℕ → Type 0) → Index → List ℕ → List ℕ → Type 0
OpensAsNamed Opens index bytes image = OpensNamed Opens index image (names_of bytes) (table_of index bytes)

-- the same with one more name, which is the last
abbrev pub OpensWithName : (List ℕ → List ℕ → Type 0) → Index → List ℕ → List ℕ → List ℕ → Type 0
OpensWithName Opens index name bytes image = OpensNamed Opens index image (names_of bytes ++ name ∷ []) (table_of index bytes)

-- The data was a sound index, and each answer has its cause. Whatever a loss of power might have left meanwhile opens with the records that
-- there were, under the names that there were, or under those and the new one. After an Ok whatever it may leave now has the new name, and
-- after a refusal, unless the medium failed, the names that there were. Where there is no place for the table, the data is that before in
-- version 2, byte for byte.
pub record MakesTable (tells : Bool) (Opens : List ℕ → List ℕ → Type 0) (index : Index) (name : List ℕ) (old new : StoreView) (result : Result ℕ MakeFault) : Type 0 where
  pub shape : new.shape ≡ old.shape
  pub depth : new.depth ≡ old.depth
  pub sound : IsTrue tells → index.sound old.state.bytes
  pub cause : MakeCause tells name old result
  pub kept : IsFalse (is_make_failed result) → (new.is_dead ≡ old.is_dead) × (new.faults ≡ old.faults)
  pub dies : IsTrue (is_make_failed result) → (new.is_dead ≡ true) × Rose old.faults new.faults
  pub time : IsTrue tells → LeavesOnly (λ image. OpensAsNamed Opens index old.state.bytes image ⊎ OpensWithName Opens index name old.state.bytes image) old new
  pub now : IsTrue tells → OnOk result ((image : List ℕ) → new.left_since new.moment image → OpensWithName Opens index name old.state.bytes image)
  pub same : IsTrue tells → IsFalse (is_make_failed result) → OnErr result ((image : List ℕ) → new.left_since new.moment image → OpensAsNamed Opens index old.state.bytes image)
  pub upgrades : IsTrue tells → OnlyUpgrades old.state.bytes new.state.bytes result
  pub mirrors : Mirrors tells old new
