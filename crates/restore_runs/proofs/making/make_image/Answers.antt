use Rattle.std.proofs.Common.{◌≡◌, ap, sym, ◌∙◌, Err}
use Rattle.std.specs.Prelude.{IsTrue}
use Rattle.restore_runs.proofs.Outcomes.{not_read, read_failed}
use Rattle.restore_runs.specs.declared.stop.Stop.TheVariants.{ReadFault}
use Rattle.restore_runs.proofs.making.make_image.Goals as goal

pub returns-in-Err-clause-made : goal.returns-in-Err-clause-made
returns-in-Err-clause-made g c =
    not_read (IsTrue g.S.Source.tells) (g.S.Source.left c.args.source.now) c.args.asked.now c.in-Err.fault c.input_stop.result c.input_stop.ensures (λ same. c.in-Err.ensures.too_long (ap Err same))

pub returns-in-Err-clause-steady : goal.returns-in-Err-clause-steady
returns-in-Err-clause-steady g c = λ steady is.
    let told : c.input_stop.result ≡ ReadFault = cc is in
    c.in-Err.ensures.steady steady (ap Err (read_failed c.in-Err.fault (sym c.input_stop.ensures ∙ told)))

pub returns-clause-steady : goal.returns-clause-steady
returns-clause-steady g c = λ steady is. c.make_of_text.ensures.read is
