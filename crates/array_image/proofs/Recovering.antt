-- What recovery leaves between its barriers.
use Rattle.std.proofs.Common.{◌≡◌, ℕ, ◌<◌, ◌≤◌, true, List}
use Rattle.pcm_media.specs.Images.{Content, MayLeave, Touched, partly}
use Rattle.array_shape.specs.declared.shape.Shape.{Shape}
use Rattle.array_shape.specs.Logged.{places_of}
use Rattle.array_image.specs.Image.{data_of, row_of}
use Rattle.array_image.specs.Decided.{decided, decided_as, all_decided, settled_data, orders}
use Rattle.array_image.specs.Standing.{IsLawful, StandsFor, IsSettled, AllSettled, IsRecovering}
use Rattle.array_image.specs.Votes.{votes_of, dropped}
use Rattle.array_image.proofs.Recovery.{applying_stands}
use Rattle.array_image.proofs.Clearing.{dropped_settled, lowest_settled}
use Rattle.array_image.proofs.Frames.{left_sure}

module _ (shape : Shape) where
  pub settled_stands : (b image : List ℕ) → IsSettled shape b image → StandsFor shape image b
  settled_stands b image settled = record { lawful = settled.lawful; gives = settled.gives }

  -- while the parts are applied, and after that
  module _ (old : Content) (none : AllSettled old) (lawful : IsLawful shape old.bytes) where
    pub applying_left : (image : List ℕ) → MayLeave (partly (places_of shape (all_decided shape old.bytes)) old) image → StandsFor shape image (settled_data shape old.bytes)
    applying_left image left = applying_stands shape old.bytes image lawful.long lawful.good (left_sure old (places_of shape (all_decided shape old.bytes)) image none left) lawful

    pub applying_after : (new : Content) → Touched (places_of shape (all_decided shape old.bytes)) old new → AllSettled new → data_of shape new.bytes ≡ settled_data shape old.bytes → IsRecovering shape (settled_data shape old.bytes) new
    applying_after new touched none' written =
        let stands = applying_stands shape old.bytes new.bytes lawful.long lawful.good touched.bytes lawful in
        record { settled = none'; stands = record { lawful = stands.lawful; holds = written; gives = stands.gives } }

  -- while votes are cleared, and after that
  module _ (b : List ℕ) (old : Content) (recovering : IsRecovering shape b old) where
    pub dropped_left : (image : List ℕ) → MayLeave (partly (votes_of shape (dropped shape old.bytes)) old) image → IsSettled shape b image
    dropped_left image left = dropped_settled shape b old.bytes image recovering.stands (left_sure old (votes_of shape (dropped shape old.bytes)) image recovering.settled left)

    pub dropped_after : (new : Content) → Touched (votes_of shape (dropped shape old.bytes)) old new → AllSettled new → IsRecovering shape b new
    dropped_after new touched none = record { settled = none; stands = dropped_settled shape b old.bytes new.bytes recovering.stands touched.bytes }

    module _ (o : ℕ) (small : o < orders) (lowest : (g t : ℕ) → g < shape.loggers → t < shape.numbers → decided shape old.bytes g t ≡ true → o ≤ (row_of shape old.bytes g t).order) where
      pub lowest_left : (image : List ℕ) → MayLeave (partly (votes_of shape (decided_as shape old.bytes o)) old) image → IsSettled shape b image
      lowest_left image left = lowest_settled shape o b old.bytes image small recovering.stands lowest (left_sure old (votes_of shape (decided_as shape old.bytes o)) image recovering.settled left)

      pub lowest_after : (new : Content) → Touched (votes_of shape (decided_as shape old.bytes o)) old new → AllSettled new → IsRecovering shape b new
      lowest_after new touched none = record { settled = none; stands = lowest_settled shape o b old.bytes new.bytes small recovering.stands lowest touched.bytes }
