use Rattle.std.proofs.Common.{◌^◌, ◌<◌, List, ℕ, length}
use Rattle.record_table.proofs.Sharing.{Laws}
use Rattle.record_table.proofs.Upgraded.{Upgraded, upgrade_keeps}
use Rattle.record_table.specs.Upgrading.{upgraded}
use Rattle.record_table.proofs.laws.version_two_keeps.Goals as goal

pub returns : goal.returns
returns g c =
    let K = g.met.K.KeyIndex in
    let laws : Laws g.K.KeyIndex.index = record { rises = K.rises; given = K.given; counts = K.counts; rests = K.rests; extends = K.extends } in
    let keeps : (bytes : List ℕ) → g.K.KeyIndex.index.sound bytes → length bytes < 2 ^ 32 → Upgraded g.K.KeyIndex.index bytes (upgraded bytes) = upgrade_keeps g.K.KeyIndex.index laws in
    record {
      sound = λ bytes sound short. (keeps bytes sound short).sound;
      version = λ bytes sound short. (keeps bytes sound short).version;
      tables = λ bytes sound short. (keeps bytes sound short).tables;
      records = λ bytes sound short. (keeps bytes sound short).records;
      keys = λ bytes sound short. (keeps bytes sound short).keys;
    }
