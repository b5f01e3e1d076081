use Rattle.std.proofs.Common.{ℕ, zero, suc, ◌^◌, ◌<◌, List, length}
use Rattle.key_list.specs.Index.{chain}
use Rattle.btree_pages.specs.Index.{tree}
use Rattle.record_table.specs.Upgrading.{upgraded}
use Rattle.array_runs.specs.Forms.{index_of_form}
use Rattle.mars_shell.proofs.Composing.{premises, next_sound, next_open, next_followed, fresh_sound}
use Rattle.mars_shell.proofs.laws.runs_compose.Goals as goal

-- data of either form is sound in version 2
in_two : ((bytes : List ℕ) → chain.sound bytes → length bytes < 2 ^ 32 → chain.sound (upgraded bytes)) → ((bytes : List ℕ) → tree.sound bytes → length bytes < 2 ^ 32 → tree.sound (upgraded bytes))
    → (form : ℕ) (bytes : List ℕ) → (index_of_form form).sound bytes → length bytes < 2 ^ 32 → (index_of_form form).sound (upgraded bytes)
in_two chains trees zero = chains
in_two chains trees (suc zero) = trees
in_two chains trees (suc (suc form)) = chains

pub returns : goal.returns
returns g c =
    let m = g.M.Media in
    record {
      premises = λ media shape form told sound. premises (m.view media) (g.met.M.Media.long media told) shape form sound;
      run = λ old new shape form gate asked status input text cut told of sound outcome.
          next_sound m.tells told (m.view old) (m.view new) (g.met.M.Media.counts_now new) shape form sound (in_two c.version_two_keeps.ensures.sound c.version_two_keeps-2.ensures.sound) (g.G.Gate.told gate) asked status input cut text of outcome;
      raw = λ old new shape given status input text cut told all outcome. next_open m.tells told (m.view old) (m.view new) (g.met.M.Media.counts_now new) shape all given status input cut text outcome;
      follow = λ old new shape status input text cut told all outcome. next_followed m.tells told (m.view old) (m.view new) (g.met.M.Media.counts_now new) shape all status input cut text outcome;
      fresh = λ old new numbers status text cut made outcome. fresh_sound numbers (m.view old) (m.view new) status cut text made outcome;
    }
