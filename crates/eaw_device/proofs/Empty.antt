-- A queue in which no commit waits.
use Rattle.std.proofs.Common.{◌≡◌, ℕ, Bool, false, List, [], refl, sym, ◌∙◌, ap, subst, arith}
use Rattle.std.specs.Prelude.{IsTrue}
use Rattle.std.proofs.lemmas.Bool.{false≢true}
use Rattle.std.proofs.lemmas.List.{nil_from_length}
use Rattle.pcm_media.specs.Images.{Content}
use Rattle.pcm_media.specs.View.{View}
use Rattle.pcm_media.proofs.Left.{left_as_read}
use Rattle.array_shape.specs.declared.shape.Shape.{Shape}
use Rattle.row_bytes.specs.declared.ballot.Ballot.{Ballot}
use Rattle.array_image.specs.Image.{data_of}
use Rattle.commit_queue.specs.Between.{IsAtRest}
use Rattle.write_back.specs.declared.queue.LateCommits.{LateCommits}
use Rattle.write_back.specs.Waiting.{AreWaiting, IsFit, commits_of, data_with}
use Rattle.write_back.proofs.Waiting.{data_in}
use Rattle.write_back.specs.Turns.{has_some}
use Rattle.device_recovery.specs.Recovered.{HasNoVote}
use Rattle.write_back.specs.declared.commits.LateData.{LateData}
use Rattle.eaw_device.specs.declared.log.Log.{Log}
use Rattle.eaw_device.specs.Sound.{IsBefore, IsClean, IsSound}

-- so it is where none may wait
pub none_may : (shape : Shape) (queue : LateCommits) → IsFit shape queue → queue.depth ≡ 0 → queue.ballots.items ≡ []
none_may shape queue fit none = nil_from_length queue.ballots.items (omega (arith, fit.few, none))

module _ (shape : Shape) (queue : LateCommits) (none : queue.ballots.items ≡ []) where
  pub empty_waiting : (content : Content) → IsClean shape content → AreWaiting shape queue content
  empty_waiting content clean = subst (λ (bs : List Ballot). IsAtRest shape (commits_of shape content.bytes queue.cells bs) (data_of shape content.bytes) content) (sym none) clean

  pub waiting_empty : (content : Content) → AreWaiting shape queue content → IsClean shape content
  waiting_empty content waiting = subst (λ (bs : List Ballot). IsAtRest shape (commits_of shape content.bytes queue.cells bs) (data_of shape content.bytes) content) none waiting

  pub empty_data : (image : List ℕ) → data_with shape queue image ≡ data_of shape image
  empty_data image = ap (λ (bs : List Ballot). data_in shape queue.cells bs image) none

  -- the cells of any log come before those of none
  pub empty_before : (t : ℕ) (log : Log) → IsBefore shape queue t log
  empty_before t log so = absurd (false≢true (ap (λ (bs : List Ballot). has_some bs t) (sym none) ∙ so))

-- a device on which none may wait leaves no row voted
pub unvoted : (tells : Bool) (media : View) (shape : Shape) (logs : List Log) (late : LateData) (is_dead : Bool) → IsSound tells media shape logs late is_dead → late.queue.depth ≡ 0
    → IsTrue tells → is_dead ≡ false → HasNoVote shape media.content.bytes
unvoted tells media shape logs late is_dead sound none told alive h t below few =
    (waiting_empty shape late.queue (none_may shape late.queue sound.ready.fit none) media.content (sound.told told alive).sure.waiting media.content.bytes (left_as_read media.content)).quiet h t below few refl
