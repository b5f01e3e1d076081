-- Why reads of single pages get their answers.
use Rattle.std.specs.Prelude.{ℕ, ◌≡◌, ◌≤◌, Bool, true, IsTrue, Result, Ok, Err}
use Rattle.eaw_face.specs.StoreView.{StoreView}
use Rattle.eaw_face.specs.Causes.{IsAlive}
use Rattle.array_shape.specs.declared.shape.Shape.{Shape}
use Rattle.record_slots.specs.declared.super_page.Super.{Super}
use Rattle.page_store.specs.Index.{slots_of, index_pages_of}
use Rattle.page_store.specs.declared.fault.PageFault.{PageFault}
use Rattle.page_store.specs.declared.fault.PageFault.TheVariants.{Media, Dead, Damaged}

-- of a read that tests nothing
abbrev pub ReadCause : {T : Type 0} → StoreView → Result T PageFault → Type 0
ReadCause old (Ok answer) = IsAlive old
ReadCause old (Err Media) = IsAlive old
ReadCause old (Err Dead) = old.is_dead ≡ true
ReadCause old (Err _) = ⊥

-- Of a read that tests a page: the page is answered as damaged only if it is not good, over a store that tells its data.
abbrev pub TestCause : {T : Type 0} → Bool → Type 0 → ℕ → StoreView → Result T PageFault → Type 0
TestCause tells Good page old (Ok answer) = IsAlive old
TestCause tells Good page old (Err Media) = IsAlive old
TestCause tells Good page old (Err Dead) = old.is_dead ≡ true
TestCause tells Good page old (Err (Damaged bad)) = IsAlive old × (bad ≡ page) × (IsTrue tells → ¬ Good)
TestCause tells Good page old (Err _) = ⊥

-- a super page whose counts are those of an array of this shape
pub record IsFront (shape : Shape) (front : Super) : Type 0 where
  pub slots : front.next_slot ≤ slots_of shape
  pub some : 2 ≤ front.next_page
  pub pages : front.next_page ≤ index_pages_of shape
