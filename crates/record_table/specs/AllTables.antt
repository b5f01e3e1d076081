-- The records of all tables, and why they are not read.
use Rattle.std.specs.Prelude.{ℕ, zero, suc, if◌then◌else◌, Bool, false, IsTrue, List, [], ◌∷◌, ◌++◌, Result, Ok, Err}
use Rattle.std.specs.Ordering.{nat_cmp, is_lt}
use Rattle.std.specs.Cmp.Lexicographic.{slice_cmp}
use Rattle.eaw_face.specs.StoreView.{StoreView}
use Rattle.eaw_face.specs.Causes.{IsAlive}
use Rattle.history.specs.Rows.{NamedRows}
use Rattle.page_store.specs.Index.{Index}
use Rattle.page_store.specs.declared.index_fault.CheckFault.{CheckFault}
use Rattle.record_table.specs.Attached.{AttachCause}

-- the place of a name among tables by rising name, and such tables with one more
abbrev pub is_before : List ℕ → List ℕ → Bool
is_before one other = is_lt (slice_cmp nat_cmp one other)

abbrev pub place : List ℕ → List NamedRows → ℕ
place name [] = zero
place name (table ∷ tables) = if is_before name table.0 then zero else suc (place name tables)

abbrev pub put_in : NamedRows → List NamedRows → List NamedRows
put_in table [] = table ∷ []
put_in table (other ∷ tables) = if is_before table.0 other.0 then table ∷ (other ∷ tables) else other ∷ put_in table tables

-- tables by rising name
abbrev pub by_name : List NamedRows → List NamedRows
by_name [] = []
by_name (table ∷ tables) = put_in table (by_name tables)

-- over a store that tells its data records are read exactly if the index is sound
abbrev pub ReadCause : {T : Type 0} → Bool → Index → StoreView → Result T CheckFault → Type 0
ReadCause tells index old (Ok read) = IsAlive old × (IsTrue tells → index.sound old.state.bytes)
ReadCause tells index old (Err fault) = AttachCause tells index old fault
