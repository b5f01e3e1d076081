use Rattle.std.proofs.Common.{arith}
use Rattle.std.proofs.lemmas.List.{take_more}
use Rattle.pcm_media.specs.declared.call.Place.{Place}
use Rattle.pcm_media.proofs.ChoiceLemmas.{chosen_more}
use Rattle.pcm_media.proofs.choice.choose_all.Goals as goal

pub loop-place-preserved : goal.loop-place-preserved
loop-place-preserved c =
    let none : Place = record { at = 0; len = 0 } in
    chosen_more c.args.places.now c.loop-place.place-index _ c.args.choice.now c.args.image.now c.loop-place.image c.choose_range.new.image
    (take_more c.args.places.now c.loop-place.place-index none (omega arith)) c.loop-place.invariant c.choose_range.ensures
