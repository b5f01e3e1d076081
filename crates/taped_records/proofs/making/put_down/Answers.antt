use Rattle.std.proofs.Common.{ℕ, List, true, refl, sym, ◌∙◌, subst}
use Rattle.pcm_media.specs.Images.{MayLeave}
use Rattle.tape_media.specs.Tape.{LeftSince, view_of, counts_now, only_now}
use Rattle.eaw_device.specs.Laws as device
use Rattle.eaw_device.specs.Opens.{Opens}
use Rattle.eaw_device.specs.Sound as store
use Rattle.taped_records.proofs.Remaking.{is_down}
use Rattle.taped_records.proofs.making.put_down.Goals as goal

pub returns-clause-down : goal.returns-clause-down
returns-clause-down c =
    let s = c.into_store-store.result in
    let media = c.into_media.result in
    let view = store.view_of (view_of s.media) s.shape s.logs.items s.late s.is_dead in
    let alive = sym c.is_dead.ensures ∙ c.if-is_dead.false in
    let behind = c.into_media.ensures.behind in
    let opens : (image : List ℕ) → MayLeave (view_of media).content image → Opens s.shape image view.state.bytes =
    λ image left. device.only_now true (view_of s.media) s.shape s.logs.items s.late s.is_dead image s.sound refl alive
    (only_now s.media image (subst (λ (t : ℕ). LeftSince s.media t image) behind.moment (behind.left media.moment image (counts_now media media.moment image left)))) in
    rw (← c.into_core.ensures) (rw (← c.into_store-store.ensures.store) (is_down view c.depth-depth.result _ (view_of media) _ c.depth-depth.ensures.depth c.into_store-store.ensures.over alive behind opens))

pub returns-clause-device : goal.returns-clause-device
returns-clause-device c = rw (← c.into_core.ensures) (rw (← c.into_store-store.ensures.store) c.into_media.ensures.behind.device)
