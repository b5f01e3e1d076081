-- Why an opening was refused, and the header of what it leaves.
use Rattle.std.proofs.Common.{◌≡◌, ◌≢◌, ℕ, ◌≤◌, ◌⊎◌, inl, inr, ⊎_elim, Bool, List, [], Err, Result, refl, sym, ◌∙◌, subst, arith}
use Rattle.std.specs.Prelude.{IsTrue, OnOk, OnErr, Some, None}
use Rattle.mars_base.specs.Causes.{Rose}
use Rattle.pcm_media.specs.Images.{Content, IsOutside, Touched}
use Rattle.pcm_media.specs.View.{View, Writes}
use Rattle.pcm_media.proofs.Left.{outside-both, same_bytes, touched_after_nothing}
use Rattle.array_shape.specs.declared.shape.Shape.{Shape}
use Rattle.array_shape.specs.Places.{media_len}
use Rattle.row_bytes.specs.Header.{HasMark, SaysShape, IsBadIn, IsFaulty}
use Rattle.row_bytes.specs.declared.header.HeaderFault.{HeaderFault}
use Rattle.row_bytes.specs.declared.header.HeaderFault.TheVariants as header
use Rattle.array_shape.specs.Logged.{places_of}
use Rattle.array_image.specs.Decided.{all_decided}
use Rattle.array_image.proofs.Calls.{SoFar}
use Rattle.array_image.proofs.Headers.{AreBehind, places_behind, header_stays}
use Rattle.device_recovery.specs.declared.report.RecoverFault.{RecoverFault}
use Rattle.device_recovery.specs.declared.report.RecoverFault.TheVariants as recovery
use Rattle.device_recovery.specs.Recovered.{rows_good, recovered_places, voted_places}
use Rattle.pcm_media.specs.Answer.{media_answer}
use Rattle.device_recovery.specs.Recovered as recovered
use Rattle.array_image.specs.Image.{row_of}
use Rattle.array_image.proofs.Frames.{votes_away}
use Rattle.eaw_device.specs.declared.fault.AttachFault.{AttachFault}
use Rattle.eaw_device.specs.declared.fault.AttachFault.TheVariants.{NotMars, BadShape, BadRow, Media, NoMemory}
use Rattle.eaw_device.specs.Opens.{header_of, HoldsArray, AttachCause, AttachLeaves}
use Rattle.eaw_device.specs.Attaching.{AllSay, IsOfHeader, IsOfRecovery, header_fault, recovery_fault, is_of_media}

-- recovery writes behind the header alone
recovered_behind : (shape : Shape) (image : List ℕ) → AreBehind (recovered_places shape image)
recovered_behind shape image i lt =
    outside-both (places_of shape (all_decided shape image)) (voted_places shape image) i (places_behind shape (all_decided shape image) i lt)
    (votes_away shape (λ g t. (row_of shape image g t).voted) i (λ g t below below' so is. omega arith))

-- so if all is settled after it, each image left has the header that was read
pub recovered_says : (shape : Shape) (old new : Content) → ((i : ℕ) → IsOutside new.unsettled i) → SaysShape (header_of old.bytes) shape → Touched (recovered_places shape old.bytes) old new → AllSay shape new
recovered_says shape old new sure says touched image left =
    let kept = header_stays (recovered_places shape old.bytes) old.bytes new.bytes (recovered_behind shape old.bytes) touched.bytes in
    let read = header_stays new.unsettled new.bytes image (λ i lt. sure i) left in
    subst (λ (h : List ℕ). SaysShape h shape) (sym (read ∙ kept)) says

-- A step that wrote nothing, and a later one that was refused: the cause holds from the first one on.
pub cause_on : (tells : Bool) (old mid : View) (faults : ℕ) (fault : AttachFault) → mid.size ≡ old.size → (IsTrue tells → Touched [] old.content mid.content) → old.faults ≤ mid.faults
    → AttachCause tells mid faults fault → AttachCause tells old faults fault
cause_on tells old mid faults NotMars size touched later cause = λ long told marked.
    cause (subst (λ n. 512 ≤ n) (sym size) long) told (subst (λ b. HasMark (header_of b)) (sym (same_bytes old.content mid.content (touched told))) marked)
cause_on tells old mid faults (BadShape bad) size touched later cause = (
  subst (λ n. 512 ≤ n) size cause.0,
  λ told.
      let same = same_bytes old.content mid.content (touched told) in
      (subst (λ b. HasMark (header_of b)) same (cause.1 told).0, subst (λ b. IsBadIn (header_of b) old.size bad.which bad.given) same (subst (λ n. IsBadIn (header_of mid.content.bytes) n bad.which bad.given) size (cause.1 told).1)),
)
cause_on tells old mid faults (BadRow g t) size touched later cause = λ told.
    let same = same_bytes old.content mid.content (touched told) in
    let found = cause told in (
      found.0,
      subst (λ b. SaysShape (header_of b) found.0) same found.1,
      sym size ∙ found.2,
      subst (λ b. rows_good found.0 b (Some (g, t))) same found.3,
    )
cause_on tells old mid faults Media size touched later cause = omega (arith, cause, later)
cause_on tells old mid faults NoMemory size touched later cause = λ told.
    let same = same_bytes old.content mid.content (touched told) in
    let found = cause told in
    (found.0, subst (λ b. SaysShape (header_of b) found.0) same found.1, sym size ∙ found.2)

pub reading_leaves : (tells : Bool) (old new : View) (fault : AttachFault) → (IsTrue tells → Touched [] old.content new.content) → AttachLeaves tells old new fault
reading_leaves tells old new NotMars touched = touched
reading_leaves tells old new (BadShape bad) touched = touched
reading_leaves tells old new (BadRow g t) touched = touched
reading_leaves tells old new Media touched = λ told. inl (touched told)
reading_leaves tells old new NoMemory touched = touched

holds_before : (old mid : View) → mid.size ≡ old.size → Touched [] old.content mid.content → HoldsArray mid → HoldsArray old
holds_before old mid size touched holds =
    let same = same_bytes old.content mid.content touched in (
      holds.0,
      record {
        header = subst (λ b. SaysShape (header_of b) holds.0) same holds.1.header;
        sized = sym size ∙ holds.1.sized;
        good = subst (λ b. rows_good holds.0 b None) same holds.1.good;
      },
    )

pub leaves_on : (tells : Bool) (old mid new : View) (fault : AttachFault) → mid.size ≡ old.size → (IsTrue tells → Touched [] old.content mid.content) → AttachLeaves tells mid new fault → AttachLeaves tells old new fault
leaves_on tells old mid new NotMars size touched leaves = λ told. touched_after_nothing [] old.content mid.content new.content (touched told) (leaves told)
leaves_on tells old mid new (BadShape bad) size touched leaves = λ told. touched_after_nothing [] old.content mid.content new.content (touched told) (leaves told)
leaves_on tells old mid new (BadRow g t) size touched leaves = λ told. touched_after_nothing [] old.content mid.content new.content (touched told) (leaves told)
leaves_on tells old mid new Media size touched leaves = λ told. ⊎_elim (λ none. inl (touched_after_nothing [] old.content mid.content new.content (touched told) none)) (λ holds. inr (holds_before old mid size (touched told) holds)) (leaves told)
leaves_on tells old mid new NoMemory size touched leaves = λ told. touched_after_nothing [] old.content mid.content new.content (touched told) (leaves told)

-- what recovery says of its refusal
module _ (tells : Bool) (shape : Shape) (old new : View) where
  pub refusal_cause : (T : Type 0) (fault : RecoverFault) → old.size ≡ media_len shape → (IsTrue tells → SaysShape (header_of old.content.bytes) shape)
      → (IsTrue tells → (g t : ℕ) → fault ≡ recovery.BadRow g t → rows_good shape old.content.bytes (Some (g, t)))
      → (let r : Result T RecoverFault = Err fault in OnErr (media_answer recovered.is_of_media r) (Rose old.faults new.faults))
      → AttachCause tells old new.faults (recovery_fault fault)
  refusal_cause T (recovery.BadRow g t) size header bad rose = λ told. (shape, header told, size, bad told g t refl)
  refusal_cause T recovery.Media size header bad rose = rose

  pub refusal_leaves : (T : Type 0) (fault : RecoverFault) → old.size ≡ media_len shape → (IsTrue tells → SaysShape (header_of old.content.bytes) shape)
      → (IsTrue tells → let r : Result T RecoverFault = Err fault in OnErr r (Touched [] old.content new.content ⊎ rows_good shape old.content.bytes None))
      → (IsTrue tells → (g t : ℕ) → fault ≡ recovery.BadRow g t → Touched [] old.content new.content) → AttachLeaves tells old new (recovery_fault fault)
  refusal_leaves T (recovery.BadRow g t) size header spared unwritten = λ told. unwritten told g t refl
  refusal_leaves T recovery.Media size header spared unwritten = λ told. ⊎_elim (λ none. inl none) (λ good. inr (shape, record { header = header told; sized = size; good = good })) (spared told)

  pub refusal_kept : (T : Type 0) (fault : RecoverFault) → (let r : Result T RecoverFault = Err fault in OnOk (media_answer recovered.is_of_media r) (new.faults ≡ old.faults))
      → (recovery_fault fault ≢ Media → new.faults ≡ old.faults)
  refusal_kept T (recovery.BadRow g t) kept ne = kept
  refusal_kept T recovery.Media kept ne = absurd (ne refl)

pub of_recovery : (fault : RecoverFault) → IsOfRecovery (recovery_fault fault)
of_recovery (recovery.BadRow g t) = tt
of_recovery recovery.Media = tt

-- what the reading of a header says of a wrong one
module _ (tells : Bool) (old new : View) where
  pub header_cause : (bytes : List ℕ) (size : ℕ) (wrong : HeaderFault) → size ≡ old.size → (IsTrue tells → bytes ≡ header_of old.content.bytes) → 512 ≤ old.size
      → IsFaulty bytes size wrong → AttachCause tells old new.faults (header_fault wrong)
  header_cause bytes size header.NotMars is read long faulty = λ enough told marked. faulty (subst HasMark (sym (read told)) marked)
  header_cause bytes size (header.BadShape bad) is read long faulty = (
    long,
    λ told. (subst HasMark (read told) faulty.0, subst (λ n. IsBadIn (header_of old.content.bytes) n bad.which bad.given) is (subst (λ b. IsBadIn b size bad.which bad.given) (read told) faulty.1)),
  )

  pub header_does : (T : Type 0) (wrong : HeaderFault) → SoFar tells [] old new → (let r : Result T AttachFault = Err (header_fault wrong) in Writes tells [] old new (media_answer is_of_media r))
  header_does T header.NotMars does = record { size = does.size; device = does.device; cause = record { later = does.cause.later; failed = tt; kept = does.cause.kept }; touched = does.touched; time = does.time }
  header_does T (header.BadShape bad) does = record { size = does.size; device = does.device; cause = record { later = does.cause.later; failed = tt; kept = does.cause.kept }; touched = does.touched; time = does.time }

pub of_header : (wrong : HeaderFault) → IsOfHeader (header_fault wrong)
of_header header.NotMars = tt
of_header (header.BadShape bad) = tt
