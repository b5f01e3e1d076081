use Rattle.std.proofs.Common.{◌≡◌, List, ℕ, [], length, sym, ◌∙◌, ap, subst, arith}
use Rattle.std.proofs.lemmas.Result.{IfOk-weaker}
use Rattle.pcm_media.specs.declared.call.Place.{Place}
use Rattle.pcm_media.specs.Calls.{ranges_in}
use Rattle.pcm_media.specs.Images.{Content}
use Rattle.pcm_media.specs.Replay.{at_rest, unsettled_after}
use Rattle.pcm_media.specs.Memory.{Memory, content_of}
use Rattle.pcm_media.specs.Choice.{IsLeftBy}
use Rattle.pcm_media.proofs.ChoiceLemmas.{unsettled_is, slice_back}
use Rattle.pcm_media.proofs.memory_media.MemoryMedia.leave.Goals as goal

-- an image that is chosen for these bytes at these places is left of what the medium holds
left_of : (choice image bytes : List ℕ) (places : List Place) (memory : Memory) → (content_of memory).bytes ≡ bytes → unsettled_after memory.kept.records [] ≡ ranges_in places
    → IsLeftBy choice (record { bytes = bytes; unsettled = ranges_in places }) image → IsLeftBy choice (content_of memory) image
left_of choice image bytes places memory read unsettled_places left =
    let unsettled = sym unsettled_places ∙ sym (unsettled_is memory.kept.records memory.kept.written (at_rest memory.start)) in
    let read_back = sym read in
    let P : Content → Type 0 = λ content. IsLeftBy choice content image in
    let step : P (record { bytes = bytes; unsettled = (content_of memory).unsettled }) = subst (λ ranges. P (record { bytes = bytes; unsettled = ranges })) unsettled left in
    subst (λ l. P (record { bytes = l; unsettled = (content_of memory).unsettled })) read_back step

pub returns-clause-left : goal.returns-clause-left
returns-clause-left c =
    let items = c.in_ok-image.image.items in
    let count : c.in_ok-image.image.len ≡ length items = omega arith in
    let long : length c.choose.new.image ≡ length items = omega arith in
    let left : IsLeftBy c.args.choice.now (content_of c.args.self.now) c.choose.new.image
    = rw (← c.self.view_is) (left_of c.args.choice.now c.choose.new.image c.deref_mut.result.now c.unsettled.result.now (record { start = c.self.inside.start.items; kept = c.self.inside.journal }) (c.self.invariant.bytes ∙ sym (c.deref_mut.ensures.value ∙ c.in_ok-image.ensures.items ∙ c.deref.ensures.value)) c.unsettled.ensures c.choose.ensures) in
    IfOk-weaker c.over.result _ _ (λ m is. subst (IsLeftBy c.args.choice.now (content_of c.args.self.now)) (sym (ap (λ (x : Memory). x.start) is ∙ slice_back items c.choose.new.image c.in_ok-image.image.len count long)) left) c.over.ensures
