use Rattle.std.proofs.Common.{List, ℕ, length, ◌∙◌, ap}
use Rattle.std.proofs.lemmas.Result.{on_ok_weaker}
use Rattle.mars_base.specs.Bytes.{range}
use Rattle.write_back.proofs.Together.{read_whole}
use Rattle.write_back.proofs.commits.LateData.read.Goals as goal

pub returns-clause-bytes : goal.returns-clause-bytes
returns-clause-bytes g c told =
    let kept = c.args.self.now in
    let now = (g.M.Media.view c.args.media.now).content in
    on_ok_weaker c.read.result
    (λ is. is ∙ ap (λ (d : List ℕ). range d c.args.addr (length c.args.buf.now)) (read_whole c.args.shape.now kept.queue kept.parts c.requires.ready.shape_is c.requires.tied now (c.requires.waiting told) (c.requires.held told) c.deref.result.now c.deref.ensures.value))
    (c.read.ensures.bytes told)
