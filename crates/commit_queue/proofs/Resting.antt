-- A device between its calls: what keeps the queue of its commits, and what changes it.
use Rattle.std.proofs.Common.{◌≡◌, ℕ, ◌<◌, Bool, true, false, List, [], ◌∷◌, ◌++◌, length, sym, subst}
use Rattle.std.proofs.lemmas.List.{ext_get_or}
use Rattle.pcm_media.specs.Images.{Content, MayLeave, Touched, partly}
use Rattle.pcm_media.proofs.Left.{left_as_read, left_partly}
use Rattle.array_shape.specs.declared.shape.Shape.{Shape}
use Rattle.array_image.specs.Image.{row_of}
use Rattle.row_bytes.specs.Ballots.{has_row}
use Rattle.array_image.specs.Standing.{AllSettled, IsRecovering}
use Rattle.array_image.specs.Votes.{votes_of}
use Rattle.array_image.proofs.Deciding.{not_decided}
use Rattle.array_image.proofs.Frames.{AllWithin, before_all}
use Rattle.commit_queue.specs.Queue.{Commit, IsVoted, some_has}
use Rattle.commit_queue.specs.Between.{IsHeld, IsQuiet, Rests, IsAtRest, AreFree, AreUnvoted, IsJoining, IsLeaving}
use Rattle.commit_queue.proofs.Between.{free_same, free_quiet, votes_after, clearing_after, joined_quiet, left_quiet}

module _ (shape : Shape) where
  pub rest_held : (queue : List Commit) (b : List ℕ) (now : Content) → IsAtRest shape queue b now → IsHeld shape queue b now
  rest_held queue b now rest image left = (rest image left).holds

  -- rows of no commit of the queue are not voted
  pub rest_unvoted : (queue : List Commit) (b : List ℕ) (now : Content) (test : ℕ → ℕ → Bool) → ((g t : ℕ) → g < shape.loggers → t < shape.numbers → test g t ≡ true → some_has queue g t ≡ false) → IsAtRest shape queue b now → AreUnvoted shape test now
  rest_unvoted queue b now test apart rest image left g t lt lt' so = (rest image left).quiet g t lt lt' (apart g t lt lt' so)

  -- if all is settled, what is read is all that may be left
  pub rest_by_bytes : (queue : List Commit) (b : List ℕ) (now : Content) → AllSettled now → Rests shape queue b now.bytes → IsAtRest shape queue b now
  rest_by_bytes queue b now none rests image left =
      let same : image ≡ now.bytes = ext_get_or 0 image now.bytes left.long (λ i lt. left.same i (none i)) in
      subst (Rests shape queue b) (sym same) rests

  -- writes that are free
  module _ (queue : List Commit) (b : List ℕ) (test : ℕ → ℕ → Bool) (ranges : List (ℕ × ℕ)) (free : AreFree shape queue test ranges) (old : Content) (within : AllWithin (length old.bytes) ranges) (rest : IsAtRest shape queue b old) (unvoted : AreUnvoted shape test old) where
    pub free_rests : (image : List ℕ) → MayLeave (partly ranges old) image → Rests shape queue b image
    free_rests image left =
        let before = before_all old ranges image within left in
        let was = rest before.earlier before.left in
        record {
          holds = free_same shape queue b test ranges free before.earlier image before.same (unvoted before.earlier before.left) was.holds;
          quiet = free_quiet shape queue b test ranges free before.earlier image before.same was.quiet;
        }

    pub free_at_rest : (new : Content) → Touched ranges old new → IsAtRest shape queue b new
    free_at_rest new touched image left = free_rests image (left_partly ranges old new touched image left)

  -- the votes of one more commit
  pub joined_at_rest : (queue : List Commit) (c : Commit) (b : List ℕ) (old new : Content) → IsJoining shape queue c b old → IsQuiet shape queue old.bytes → Touched (votes_of shape (has_row c.ballot)) old new → AllSettled new → IsVoted shape new.bytes c → IsAtRest shape (queue ++ c ∷ []) b new
  joined_at_rest queue c b old new joining quiet touched none voted = rest_by_bytes (queue ++ c ∷ []) b new none (record {
    holds = votes_after shape queue c b old joining new touched none voted new.bytes (left_as_read new);
    quiet = joined_quiet shape queue c old.bytes new.bytes quiet touched.bytes;
  })

  -- those of the oldest, cleared
  pub left_at_rest : (queue : List Commit) (c : Commit) (b : List ℕ) (old new : Content) → IsLeaving shape queue c b old → IsQuiet shape (c ∷ queue) old.bytes → Touched (votes_of shape (has_row c.ballot)) old new → AllSettled new
      → ((g t : ℕ) → g < shape.loggers → t < shape.numbers → has_row c.ballot g t ≡ true → (row_of shape new.bytes g t).voted ≡ false) → IsAtRest shape queue b new
  left_at_rest queue c b old new leaving quiet touched none unvoted = rest_by_bytes queue b new none (record {
    holds = clearing_after shape queue c b old leaving new touched none unvoted new.bytes (left_as_read new);
    quiet = left_quiet shape queue c old.bytes new.bytes quiet touched.bytes unvoted;
  })

  -- after recovery, with no vote left
  pub recovered : (b : List ℕ) (now : Content) → IsRecovering shape b now → ((g t : ℕ) → g < shape.loggers → t < shape.numbers → (row_of shape now.bytes g t).voted ≡ false) → IsAtRest shape [] b now
  recovered b now recovering none = rest_by_bytes [] b now recovering.settled (record {
    holds = record {
      queued = record {
        long = recovering.stands.lawful.long;
        rise = tt;
        written = tt;
        others = λ g t lt lt' away. not_decided shape.loggers shape.numbers (row_of shape now.bytes) g t lt lt' (none g t lt lt');
        holds = recovering.stands.holds;
      };
      voted = tt;
    };
    quiet = λ g t lt lt' away. none g t lt lt';
  })
