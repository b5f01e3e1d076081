-- What an opening keeps of what an array stands for, step by step.
use Rattle.std.proofs.Common.{◌≡◌, ℕ, Bool, List, [], Result, sym, ◌∙◌, subst}
use Rattle.std.specs.Prelude.{IsTrue}
use Rattle.mars_base.proofs.Going.{weaker, then}
use Rattle.pcm_media.specs.Images.{Content, MayLeave, Touched}
use Rattle.pcm_media.specs.View.{View, LeavesOnly, Writes}
use Rattle.pcm_media.proofs.Left.{left_as_read, left_before}
use Rattle.array_shape.specs.declared.shape.Shape.{Shape}
use Rattle.row_bytes.specs.Header.{SaysShape}
use Rattle.row_bytes.proofs.OneShape.{one_shape}
use Rattle.array_image.specs.Image.{data_of}
use Rattle.array_image.specs.Standing.{IsLawful}
use Rattle.commit_queue.proofs.Between.{holds_stands}
use Rattle.device_recovery.specs.Recovered.{KeepsSense}
use Rattle.eaw_device.specs.Opens.{header_of, AllOpen, OpensLike, KeepsData}
use Rattle.eaw_device.specs.Attaching.{AllSay, AllOpenWith}
use Rattle.eaw_device.specs.Sound.{IsClean}

module _ (shape : Shape) (content : Content) (opens : AllOpen shape content) where
  -- what may be left opens with its own data
  pub like_itself : (image : List ℕ) → MayLeave content image → OpensLike shape content image
  like_itself image left = let can = opens image left in (image, left, can.0, can.1, can.1)

  pub all_lawful : (image : List ℕ) → MayLeave content image → IsLawful shape image
  all_lawful image left = (opens image left).1.stands.lawful

  -- what settles like it opens so too
  pub like_sense : (image : List ℕ) → KeepsSense shape content image → OpensLike shape content image
  like_sense image kept =
      let can = opens kept.earlier kept.left in (
        kept.earlier,
        kept.left,
        can.0,
        can.1,
        record {
          header = subst (λ (h : List ℕ). SaysShape h shape) (sym kept.like.header) can.1.header;
          stands = record { lawful = kept.like.lawful; gives = kept.like.same ∙ can.1.stands.gives };
        },
      )

-- a medium that was only read, or had a barrier
pub reading_keeps : {T E : Type 0} (tells : Bool) (old new : View) (r : Result T E) → Writes tells [] old new r → KeepsData tells old new.moment new.left_since
reading_keeps tells old new r does told shape opens = weaker (like_itself shape old.content opens) (does.time told)

-- what settles to the same, if the header that is read says the shape
pub settling_keeps : (tells : Bool) (shape : Shape) (old new : View) → (IsTrue tells → SaysShape (header_of old.content.bytes) shape)
    → (IsTrue tells → ((image : List ℕ) → MayLeave old.content image → IsLawful shape image) → LeavesOnly (KeepsSense shape old.content) old new)
    → KeepsData tells old new.moment new.left_since
settling_keeps tells shape old new header sense told other opens =
    let is : other ≡ shape = one_shape (header_of old.content.bytes) other shape (opens old.content.bytes (left_as_read old.content)).1.header (header told) in
    let all : AllOpen shape old.content = subst (λ s. AllOpen s old.content) is opens in
    subst (λ s. LeavesOnly (OpensLike s old.content) old new) (sym is) (weaker (like_sense shape old.content all) (sense told (all_lawful shape old.content all)))

-- one step and another, of which the first writes nothing
pub keeps_then : (tells : Bool) (old mid new : View) → (IsTrue tells → Touched [] old.content mid.content)
    → KeepsData tells old mid.moment mid.left_since → KeepsData tells mid new.moment new.left_since → KeepsData tells old new.moment new.left_since
keeps_then tells old mid new touched first second told shape opens =
    let was = left_before old.content mid.content (touched told) in
    then (first told shape opens)
    (weaker (λ image like. (like.0, was like.0 like.1, like.2, like.3, like.4))
    (second told shape (λ image left. opens image (was image left))))

-- an array at rest opens with its data if each image has its header
pub clean_opens : (shape : Shape) (content : Content) → IsClean shape content → AllSay shape content → AllOpenWith shape content (data_of shape content.bytes)
clean_opens shape content clean says image left = record { header = says image left; stands = holds_stands shape [] (data_of shape content.bytes) image (clean image left).holds }
