use Rattle.record_table.proofs.Sharing.{Laws}
use Rattle.restore_law.proofs.Proper.{may_be_dumped, told_named}
use Rattle.restore_law.proofs.dumpable.records_may_be_dumped.Goals as goal

pub returns : goal.returns
returns g c =
    let K = g.met.K.KeyIndex in
    let laws : Laws g.K.KeyIndex.index = record { rises = K.rises; given = K.given; counts = K.counts; rests = K.rests; extends = K.extends } in
    record {
      records = λ bytes sound short. may_be_dumped g.K.KeyIndex.index laws bytes sound short;
      tables = λ bytes name sound told. told_named g.K.KeyIndex.index laws bytes sound name told;
    }
