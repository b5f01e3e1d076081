-- The laws of a device as a store.
use Rattle.std.specs.Prelude.{ℕ, ◌≡◌, ◌≤◌, IsTrue, Bool, true, false, List, [], ◌∷◌, length, All, Option, Some, None, slice_get, refl}
use Rattle.std.specs.Option.{option_map, option_and_then, ForSome}
use Rattle.std.proofs.Common.{sym, ◌∙◌, ap, subst}
use Rattle.std.proofs.Math.Nat.{le_refl}
use Rattle.std.proofs.lemmas.Option.{slice_get_past}
use Rattle.std.proofs.lemmas.List.Elements.{All-head, All-tail}
use Rattle.pcm_media.specs.Images.{Content, MayLeave}
use Rattle.pcm_media.specs.View.{View}
use Rattle.pcm_media.proofs.Left.{left_as_read}
use Rattle.array_shape.specs.declared.shape.Shape.{Shape}
use Rattle.array_shape.specs.Places.{IsPlaced, data_len, media_len}
use Rattle.array_shape.specs.Logged.{AllFit, ranges_of}
use Rattle.array_image.specs.Image.{data_of}
use Rattle.array_image.proofs.Applied.{all_fit-append, length-applied}
use Rattle.array_image.proofs.Data.{all_fit, length-data_of}
use Rattle.commit_queue.proofs.Between.{holds_stands}
use Rattle.eaw_face.specs.State.{listed}
use Rattle.eaw_face.specs.StoreView.{ArePlaced, LeavesSome}
use Rattle.commit_queue.specs.Queue.{Commit, Each, IsWritten, queue_parts}
use Rattle.commit_queue.proofs.Moments.{written_placed}
use Rattle.write_back.specs.declared.queue.LateCommits.{LateCommits}
use Rattle.write_back.specs.Waiting.{AreWaiting, data_with, queue_of}
use Rattle.write_back.specs.declared.commits.LateData.{LateData}
use Rattle.eaw_device.specs.declared.log.Log.{Log}
use Rattle.eaw_device.specs.Opens.{Opens}
use Rattle.eaw_device.specs.Logs.{IsKept, IsHeld, entries_of, entries_at}
use Rattle.write_back.specs.Entries.{ranges_in, parts_in}
use Rattle.eaw_device.specs.Sound.{IsSound, IsSure, IsTold, shown, view_of}

-- ranges that are all placed
pub are_placed : (shape : Shape) (rs : List (ℕ × ℕ)) → All (λ (r : ℕ × ℕ). IsPlaced shape r.0 r.1) rs → ArePlaced shape rs
are_placed shape [] placed = tt
are_placed shape (r ∷ rs) placed = (All-head (λ (r : ℕ × ℕ). IsPlaced shape r.0 r.1) r rs placed, are_placed shape rs (All-tail (λ (r : ℕ × ℕ). IsPlaced shape r.0 r.1) r rs placed))

-- the ranges of a number are those of its parts
pub outlines : (shape : Shape) (late : LateData) (content : Content) (logs : List Log) (t : ℕ) → IsTold shape late content logs
    → option_map ranges_in (entries_at logs t) ≡ option_map ranges_of (option_map (parts_in shape content.bytes t) (entries_at logs t))
outlines shape late content logs t told = by (slice_get logs t) (told.held t)
  where
    one : (log : Log) (live : Bool) → IsHeld shape content.bytes t log
        → option_map ranges_in (entries_of (record log { is_live = live })) ≡ option_map ranges_of (option_map (parts_in shape content.bytes t) (entries_of (record log { is_live = live })))
    one log true held = ap (λ (rs : List (ℕ × ℕ)). Some rs) (sym held.heads)
    one log false held = refl

    by : (o : Option Log) → ForSome o (IsHeld shape content.bytes t) → option_map ranges_in (option_and_then entries_of o) ≡ option_map ranges_of (option_map (parts_in shape content.bytes t) (option_and_then entries_of o))
    by None held = refl
    by (Some log) held = one log log.is_live (held log refl)

-- they lie within pages
pub placed : (shape : Shape) (logs : List Log) (t : ℕ) → ForSome (slice_get logs t) (IsKept shape) → ArePlaced shape (listed (option_map ranges_in (entries_at logs t)))
placed shape logs t kept = by (slice_get logs t) kept
  where
    one : (log : Log) (live : Bool) → IsKept shape log → ArePlaced shape (listed (option_map ranges_in (entries_of (record log { is_live = live }))))
    one log true kept = are_placed shape (ranges_in log.entries.items) kept.placed
    one log false kept = tt

    by : (o : Option Log) → ForSome o (IsKept shape) → ArePlaced shape (listed (option_map ranges_in (option_and_then entries_of o)))
    by None kept = tt
    by (Some log) kept = one log log.is_live (kept log refl)

-- no number beyond the array's has a log
pub beyond : (logs : List Log) (shape : Shape) (t : ℕ) → length logs ≡ shape.numbers → shape.numbers ≤ t → option_map ranges_in (entries_at logs t) ≡ None
beyond logs shape t many past = ap (λ (o : Option Log). option_map ranges_in (option_and_then entries_of o)) (slice_get_past logs t (subst (λ (n : ℕ). n ≤ t) (sym many) past))

-- what is read may be left now
pub some_now : (media : View) (shape : Shape) (logs : List Log) (late : LateData) (is_dead : Bool)
    → ((t : ℕ) (image : List ℕ) → t ≤ media.moment → MayLeave media.content image → media.left_since t image) → LeavesSome (view_of media shape logs late is_dead)
some_now media shape logs late is_dead counts = record { image = media.content.bytes; left = counts media.moment media.content.bytes (le_refl media.moment) (left_as_read media.content) }

-- the data of a device that is not dead
pub alive_shown : (shape : Shape) (late : LateData) (is_dead : Bool) (image : List ℕ) → is_dead ≡ false → shown shape late is_dead image ≡ data_with shape late.queue image
alive_shown shape late is_dead image alive = ap (λ (d : Bool). shown shape late d image) alive

-- it is as long as the array says
queue_fits : (shape : Shape) (image : List ℕ) → length image ≡ media_len shape → (q : List Commit) → Each (IsWritten shape image) q → AllFit (data_len shape) (queue_parts q)
queue_fits shape image long [] written = tt
queue_fits shape image long (c ∷ q) written = all_fit-append (data_len shape) c.parts (queue_parts q) (all_fit shape c.parts (written_placed shape image c long written.0)) (queue_fits shape image long q written.1)

pub length-waiting : (shape : Shape) (queue : LateCommits) (content : Content) → AreWaiting shape queue content → length (data_with shape queue content.bytes) ≡ data_len shape
length-waiting shape queue content waiting =
    let queued = (waiting content.bytes (left_as_read content)).holds.queued in
    let d = data_of shape content.bytes in
    let long = length-data_of shape content.bytes in
    length-applied (queue_parts (queue_of shape content.bytes queue)) d (subst (λ (n : ℕ). AllFit n (queue_parts (queue_of shape content.bytes queue))) (sym long) (queue_fits shape content.bytes queued.long (queue_of shape content.bytes queue) queued.written)) ∙ long

pub length-shown : (tells : Bool) (media : View) (shape : Shape) (logs : List Log) (late : LateData) (is_dead : Bool) → IsSound tells media shape logs late is_dead → IsTrue tells → length (shown shape late is_dead media.content.bytes) ≡ data_len shape
length-shown tells media shape logs late true sound told = length-data_of shape media.content.bytes
length-shown tells media shape logs late false sound told = length-waiting shape late.queue media.content (sound.told told refl).sure.waiting

-- what may be left of such an array opens with its data
pub only_left : (shape : Shape) (queue : LateCommits) (content : Content) (image : List ℕ) → IsSure shape queue content → MayLeave content image → Opens shape image (data_with shape queue content.bytes)
only_left shape queue content image sure left = record {
  header = sure.header image left;
  stands = holds_stands shape (queue_of shape content.bytes queue) (data_of shape content.bytes) image (sure.waiting image left).holds;
}

pub only_now : (tells : Bool) (media : View) (shape : Shape) (logs : List Log) (late : LateData) (is_dead : Bool) (image : List ℕ) → IsSound tells media shape logs late is_dead → IsTrue tells → is_dead ≡ false → MayLeave media.content image
    → Opens shape image (shown shape late is_dead media.content.bytes)
only_now tells media shape logs late is_dead image sound told alive left =
    subst (Opens shape image) (sym (alive_shown shape late is_dead media.content.bytes alive)) (only_left shape late.queue media.content image (sound.told told alive).sure left)

-- an image opens with only one data
pub one_data : (shape : Shape) (image a b : List ℕ) → Opens shape image a → Opens shape image b → a ≡ b
one_data shape image a b one other = sym one.stands.gives ∙ other.stands.gives
