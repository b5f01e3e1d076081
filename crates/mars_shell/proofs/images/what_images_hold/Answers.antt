use Rattle.std.proofs.Common.{◌≡◌, ap, ℕ, zero, suc, ◌^◌, ◌<◌, List, length}
use Rattle.key_list.specs.Index.{chain}
use Rattle.btree_pages.specs.Index.{tree}
use Rattle.page_store.specs.Index.{Index}
use Rattle.record_slots.specs.Names.{names_in}
use Rattle.record_table.specs.Names.{names_of}
use Rattle.record_table.specs.Shown.{table_of}
use Rattle.record_table.specs.Upgrading.{upgraded}
use Rattle.array_runs.specs.Forms.{index_of_form}
use Rattle.mars_shell.proofs.Imaging.{one, made, opens, reads, prefix, last, kept, named, leaves}
use Rattle.mars_shell.proofs.images.what_images_hold.Goals as goal

-- data in version 2 is sound, and has the same names and the same records, under this index
abbrev KeepsInTwo : Index → Type 0
KeepsInTwo index = (bytes : List ℕ) → index.sound bytes → length bytes < 2 ^ 32 → index.sound (upgraded bytes) × (names_of (upgraded bytes) ≡ names_of bytes) × (table_of index (upgraded bytes) ≡ table_of index bytes)

-- so it is under the index of each form
in_two : KeepsInTwo chain → KeepsInTwo tree → (form : ℕ) → KeepsInTwo (index_of_form form)
in_two chains trees zero = chains
in_two chains trees (suc zero) = trees
in_two chains trees (suc (suc form)) = chains

pub returns : goal.returns
returns g c =
    let m = g.M.Media in
    let keeps = in_two
    (λ bytes sound short. (c.version_two_keeps.ensures.sound bytes sound short, ap names_in (c.version_two_keeps.ensures.tables bytes sound short), c.version_two_keeps.ensures.records bytes sound short))
    (λ bytes sound short. (c.version_two_keeps-2.ensures.sound bytes sound short, ap names_in (c.version_two_keeps-2.ensures.tables bytes sound short), c.version_two_keeps-2.ensures.records bytes sound short)) in
    record {
      one = one;
      made = λ numbers old new status cut text is outcome. made numbers (m.view old) (m.view new) status cut text is outcome;
      opens = λ old. opens (m.view old);
      begins = λ old. reads (m.view old);
      first = λ old shape form names table all new final called base law. prefix (m.view old) shape form names table all (m.view new) final called base law;
      all = λ old shape form names table all new final called base law. last (m.view old) shape form names table all (m.view new) final called base law;
      kept = λ old shape form names table all image either. kept (m.view old) shape form names table all keeps image either;
      named = λ old shape form names table all new name. named (m.view old) shape form names table all (m.view new) name;
      leaves = λ old shape form names table all new image left gate. leaves (m.view old) shape form names table all keeps (m.view new) image left (g.G.Gate.told gate);
    }
