use Rattle.std.proofs.Common.{take}
use Rattle.pcm_media.specs.Choice.{IsChosen}
use Rattle.pcm_media.specs.Calls.{ranges_in}
use Rattle.pcm_media.proofs.choice.choose_all.Given as goal

abbrev pub invariant-loop-place : goal.invariant-loop-place
invariant-loop-place l = IsChosen l.choice (ranges_in (take l.place-index l.places)) l.initial.image l.image
