use Rattle.std.proofs.Common.{ℕ, zero, suc, ◌^◌, ◌<◌, List, length, sym, ◌∙◌}
use Rattle.std.specs.FinMap.{entries}
use Rattle.std.specs.List.{Contains}
use Rattle.key_list.specs.Index.{chain}
use Rattle.btree_pages.specs.Index.{tree}
use Rattle.page_store.specs.Index.{Index}
use Rattle.record_table.specs.Names.{names_of}
use Rattle.record_table.specs.Shown.{table_of}
use Rattle.array_runs.specs.Forms.{index_of_form}
use Rattle.dump_text.specs.Again.{AreOfArray}
use Rattle.restore_law.specs.Told.{IsTold}
use Rattle.restore_law.proofs.Restoring.{taken, restored, made, whole, begins, alike}
use Rattle.restore_law.proofs.laws.what_restores_hold.Goals as goal

-- what is said of the indexes of both forms is said of that of each form
by_form : (Said : Index → Type 0) → Said chain → Said tree → (form : ℕ) → Said (index_of_form form)
by_form Said chains trees zero = chains
by_form Said chains trees (suc zero) = trees
by_form Said chains trees (suc (suc form)) = chains

pub returns : goal.returns
returns g c =
    let m = g.M.Media in
    let may = by_form (λ (index : Index). (bytes : List ℕ) → index.sound bytes → length bytes < 2 ^ 32 → AreOfArray (entries (table_of index bytes)))
    c.records_may_be_dumped.ensures.records c.records_may_be_dumped-2.ensures.records in
    let told = by_form (λ (index : Index). (bytes name : List ℕ) → index.sound bytes → IsTold (table_of index bytes) name → Contains (names_of bytes) name)
    c.records_may_be_dumped.ensures.tables c.records_may_be_dumped-2.ensures.tables in
    let again = c.dumps_are_read.ensures in
    record {
      made = λ old new text cut dumps dumped holds. made (m.view old) (m.view new) text cut dumps dumped holds may told again;
      restored = λ old new text cut dumps dumped holds. restored (m.view old) (m.view new) text cut dumps dumped holds may told again;
      taken = λ old new text cut dumps. taken (m.view old) (m.view new) text cut dumps dumps.shape dumps.works.holds may told again;
      begins = λ old media dumped shape from. begins (m.view old) (m.view media) dumped shape from;
      alike = λ old new text cut dumps dumped holds media later shape from also short second.
          alike (m.view old) (m.view media) dumped shape from (m.view later) also short second ∙ sym (whole (m.view old) (m.view new) text cut dumps dumped holds);
    }
