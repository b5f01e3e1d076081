use Rattle.std.proofs.Common.{◌≡◌, ℕ, Bool, true, false, nat_eq, [], ◌∷◌, refl, ◌∙◌, ap, length, arith}
use Rattle.std.proofs.lemmas.Result.{on_ok_weaker}
use Rattle.mars_base.specs.Bytes.{put}
use Rattle.pcm_media.specs.Images.{Content}
use Rattle.array_shape.specs.Places.{media_len}
use Rattle.row_bytes.specs.Written.{vote_byte}
use Rattle.row_bytes.proofs.Saying.{row}
use Rattle.array_image.specs.Image.{row_of}
use Rattle.array_image.proofs.Places.{row_fits_in}
use Rattle.logger.proofs.Rows.{row_of-put_vote}
use Rattle.mars_base.proofs.Costing.{costs_one}
use Rattle.logger.proofs.logger.Logger.set_vote.Goals as goal

vote_reads : (voted : Bool) → nat_eq (vote_byte voted) 0xC3 ≡ voted
vote_reads true = refl
vote_reads false = refl

pub write-requires : goal.write-requires
write-requires g c = omega (arith, row_fits_in c.args.self.shape c.args.self.number c.args.tid c.args.self.there c.requires.tid)

pub returns-clause-row : goal.returns-clause-row
returns-clause-row g c told =
    let shape = c.args.self.shape in
    let number = c.args.self.number in
    let old = (g.M.Media.view c.args.media.now).content in
    let was = row_of shape old.bytes number c.args.tid in
    let long : length old.bytes ≡ media_len shape = g.met.M.Media.long c.args.media.now told ∙ c.requires.size in
    let at = ap (λ (at : ℕ). row_of shape (put old.bytes at (c.vote_byte.result ∷ [])) number c.args.tid) c.row_at.ensures in
    let reads = ap (λ (n : ℕ). nat_eq n 0xC3) c.vote_byte.ensures ∙ vote_reads c.args.voted in
    let said = row_of-put_vote shape number c.args.tid old.bytes long c.args.self.there c.requires.tid c.vote_byte.result ∙ ap (λ (v : Bool). row v was.mask was.first was.count was.group was.order) reads in
    on_ok_weaker c.write.result (λ is. ap (λ (content : Content). row_of shape content.bytes number c.args.tid) is ∙ at ∙ said) (c.write.ensures.written told)

pub returns-clause-costs : goal.returns-clause-costs
returns-clause-costs g c = costs_one true _ _ _ c.write.ensures.ticks
