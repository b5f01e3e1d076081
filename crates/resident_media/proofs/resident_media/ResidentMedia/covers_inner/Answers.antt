use Rattle.std.proofs.Common.{subst}
use Rattle.pcm_media.specs.Images.{MayLeave}
use Rattle.resident_media.specs.Past.{content_of}
use Rattle.resident_media.specs.Resident.{Resident}
use Rattle.resident_media.proofs.resident_media.ResidentMedia.covers_inner.Goals as goal

pub returns : goal.returns
returns g c = record {
  now = λ told image.
      subst (λ (r : Resident g.row.M.Denot). MayLeave (g.M.Media.view r.inner).content image → MayLeave (content_of (g.M.Media.view r.inner) r.past) image) c.self.view_is
      (λ left. record { long = left.long; same = λ i out. left.same i (c.self.invariant.wide told i out) });
}
