use Rattle.array_image.specs.Decided.{settled_data}
use Rattle.array_runs.specs.Forms.{index_in}
use Rattle.mars_shell.proofs.Leaving.{names_left, base_left, legal_left, unwritten_left, acknowledged, acknowledged_framed}
use Rattle.mars_shell.proofs.laws.what_turns_leave.Goals as goal

pub returns : goal.returns
returns g c =
    let view = g.M.Media.view in
    record {
      names = λ old shape depth turns final runs. names_left (index_in shape (view old)) shape depth (settled_data shape (view old).content.bytes) turns final runs;
      base = λ old shape depth turns final runs. base_left (index_in shape (view old)) shape depth (settled_data shape (view old).content.bytes) turns final runs;
      legal = λ old shape depth turns final runs. legal_left (index_in shape (view old)) shape depth (settled_data shape (view old).content.bytes) turns final runs;
      unwritten = λ old new shape depth turns final runs reads alive has.
          unwritten_left (index_in shape (view old)) shape depth (settled_data shape (view old).content.bytes) turns final runs (index_in shape (view new)) (settled_data shape (view new).content.bytes) reads alive has;
      acknowledged = λ old shape depth turns final runs input text ended cut told.
          acknowledged (index_in shape (view old)) shape depth (settled_data shape (view old).content.bytes) turns final runs input ended cut text told;
      framed = λ old shape depth turns final runs first last none all before input text ended cut told.
          acknowledged_framed (index_in shape (view old)) shape depth (settled_data shape (view old).content.bytes) turns final runs first last none all before input ended cut text told;
    }
