use Rattle.std.proofs.Common.{◌≡◌, [], ◌∷◌, length, take, ap, ◌∙◌, refl, arith}
use Rattle.std.proofs.lemmas.List.{length-take-le}
use Rattle.std.proofs.lemmas.Result.{on_ok_weaker}
use Rattle.pcm_media.specs.Images.{settled}
use Rattle.array_image.proofs.Calls.{SoFar, none_yet, goes_on, then_barrier}
use Rattle.eaw_device.proofs.MadeLemmas.{mark_range}
use Rattle.eaw_device.proofs.making.write_mark.Goals as goal

pub returns-clause-marked : goal.returns-clause-marked
returns-clause-marked g c told = on_ok_weaker c.barrier.result (λ is. is ∙ ap settled (c.in_ok-write.ensures.written told)) (c.barrier.ensures.settled told)

pub returns-clause-does : goal.returns-clause-does
returns-clause-does g c =
    let m = g.M.Media in
    let old = m.view c.args.media.now in
    let size : length (take 8 c.args.header.now) ≡ 8 = length-take-le 8 c.args.header.now (omega arith) in
    let wrote : SoFar m.tells ((0, 8) ∷ []) old (m.view c.write.new.self) = goes_on m.tells ((0, 8) ∷ []) _ old old _ (λ told i out. mark_range _ i size out) (none_yet m.tells ((0, 8) ∷ []) old) c.in_ok-write.ensures.does refl in
    then_barrier m.tells ((0, 8) ∷ []) old _ _ c.barrier.result wrote c.barrier.ensures.does
