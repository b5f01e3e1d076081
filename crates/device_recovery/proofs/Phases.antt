-- The votes of one order number are cleared.
use Rattle.std.proofs.Common.{◌≡◌, ℕ, ◌<◌, ◌≤◌, List, ◌∙◌, subst}
use Rattle.mars_base.specs.Bytes.{range}
use Rattle.pcm_media.specs.Images.{Content, MayLeave, Touched, partly}
use Rattle.array_shape.specs.declared.shape.Shape.{Shape}
use Rattle.row_bytes.specs.declared.row.Row.{Row}
use Rattle.array_image.specs.Standing.{AllSettled, IsRecovering}
use Rattle.array_image.specs.Votes.{votes_of}
use Rattle.array_image.proofs.Frames.{left_sure}
use Rattle.array_image.proofs.Headers.{header_stays}
use Rattle.array_image.proofs.Recovering.{lowest_left, lowest_after}
use Rattle.device_recovery.specs.declared.which.Which.TheVariants.{DecidedAs}
use Rattle.device_recovery.specs.Table.{RowsLeft, IsLeast, is_one_of}
use Rattle.device_recovery.specs.Recovered.{SettlesTo}
use Rattle.device_recovery.proofs.Applying.{is_order}
use Rattle.device_recovery.proofs.Leaving.{raised, left_lowest, left_votes}
use Rattle.device_recovery.proofs.Moments.{votes_behind}

module _ (shape : Shape) (rows : List Row) (mid : Content) (from order : ℕ) (left : RowsLeft shape mid.bytes rows from) (le : from ≤ order) (least : IsLeast shape rows from shape.numbers order) where
  pub order_left : RowsLeft shape mid.bytes rows order
  order_left = raised shape rows mid.bytes from left order le (λ g t lt lt' so from_le. (least t lt' g lt so from_le).0)

  module _ (small : order < 65536) (settled : AllSettled mid) (bytes : List ℕ) (recovering : IsRecovering shape bytes mid) where
    pub clearing : (header : List ℕ) → range mid.bytes 0 512 ≡ header → (image : List ℕ) → MayLeave (partly (votes_of shape (is_one_of shape rows (DecidedAs order))) mid) image → SettlesTo shape bytes header image
    clearing header here image torn =
        let same = left_sure mid (votes_of shape (is_one_of shape rows (DecidedAs order))) image settled torn in
        let stands = lowest_left shape bytes mid recovering order (is_order order small) (left_lowest shape rows mid.bytes order order_left) image
        (subst (λ vs. MayLeave (partly vs mid) image) (left_votes shape rows mid.bytes order order_left) torn) in
        record {
          stands = record { lawful = stands.lawful; gives = stands.gives };
          header_is = header_stays (votes_of shape (is_one_of shape rows (DecidedAs order))) mid.bytes image (votes_behind shape (is_one_of shape rows (DecidedAs order))) same ∙ here;
        }

    pub still_recovering : (new : Content) → Touched (votes_of shape (is_one_of shape rows (DecidedAs order))) mid new → AllSettled new → IsRecovering shape bytes new
    still_recovering new touched none = lowest_after shape bytes mid recovering order (is_order order small) (left_lowest shape rows mid.bytes order order_left) new
        (subst (λ vs. Touched vs mid new) (left_votes shape rows mid.bytes order order_left) touched) none
