-- What recovery leaves while it applies parts and clears votes, and what holds after that.
use Rattle.std.proofs.Common.{◌≡◌, ℕ, Bool, not, List, [], length, refl, sym, ◌∙◌, ap, subst, arith}
use Rattle.std.proofs.lemmas.List.{ext_get_or}
use Rattle.std.proofs.lemmas.Bool.{and_parts}
use Rattle.mars_base.specs.Bytes.{range}
use Rattle.mars_base.proofs.Going.{weaker}
use Rattle.pcm_media.specs.Images.{Content, MayLeave, IsOutside, Touched, partly}
use Rattle.pcm_media.specs.View.{View, LeavesOnly}
use Rattle.pcm_media.proofs.Left.{outside-append, left_as_read}
use Rattle.array_shape.specs.declared.shape.Shape.{Shape}
use Rattle.array_shape.specs.Places.{media_len}
use Rattle.row_bytes.specs.declared.row.Row.{Row}
use Rattle.array_shape.specs.Logged.{places_of}
use Rattle.array_image.specs.Image.{row_of, data_of}
use Rattle.array_image.specs.Decided.{all_decided, settled_data}
use Rattle.array_image.specs.Standing.{AllSettled, IsLawful, IsRecovering}
use Rattle.array_image.specs.Votes.{dropped, votes_of}
use Rattle.array_image.proofs.Deciding.{decided_voted}
use Rattle.array_image.proofs.Frames.{left_sure, torn_data}
use Rattle.array_image.proofs.Frames as frames
use Rattle.array_image.proofs.Headers.{AreBehind, places_behind, header_stays}
use Rattle.array_image.proofs.Recovery.{applying_stands}
use Rattle.array_image.proofs.Recovering.{applying_after, dropped_left, dropped_after}
use Rattle.commit_queue.specs.Between.{IsAtRest, Rests}
use Rattle.device_recovery.specs.declared.which.Which.TheVariants.{Dropped}
use Rattle.device_recovery.specs.Table.{row_in, RowsAre, decided_in, is_one_of}
use Rattle.device_recovery.specs.Recovered.{HasNoVote, KeepsSense, SettlesLike, SettlesTo, voted_places, recovered_places}
use Rattle.device_recovery.proofs.Applying.{rows_stay}
use Rattle.device_recovery.proofs.Clearing.{fewer_votes, none_of}
use Rattle.device_recovery.proofs.Goods.{AllGood}
use Rattle.device_recovery.proofs.Leaving.{same_votes}
use Rattle.device_recovery.proofs.Read.{table_dropped}

pub none_unsettled : (now : Content) → now.unsettled ≡ [] → AllSettled now
none_unsettled now none i = subst (λ us. IsOutside us i) (sym none) tt

pub votes_behind : (shape : Shape) (test : ℕ → ℕ → Bool) → AreBehind (votes_of shape test)
votes_behind shape test i lt = frames.votes_away shape test i (λ g t below below' so is. omega arith)

module _ (shape : Shape) (old : View) (long : length old.content.bytes ≡ media_len shape) (sure : AllSettled old.content) (good : AllGood shape old.content.bytes shape.numbers) where
  -- while parts are applied
  pub data_law : (now : View) → IsLawful shape old.content.bytes → LeavesOnly (MayLeave (partly (places_of shape (all_decided shape old.content.bytes)) old.content)) old now → LeavesOnly (SettlesLike shape old.content.bytes) old now
  data_law now lawful time = weaker (λ image left.
      let same = left_sure old.content (places_of shape (all_decided shape old.content.bytes)) image sure left in
      let stands = applying_stands shape old.content.bytes image long good same lawful in
      record {
        lawful = stands.lawful;
        header = header_stays (places_of shape (all_decided shape old.content.bytes)) old.content.bytes image (places_behind shape (all_decided shape old.content.bytes)) same;
        same = stands.gives;
      }) time

  module _ (mid : View) (touched : Touched (places_of shape (all_decided shape old.content.bytes)) old.content mid.content) (applied : AllSettled mid.content × (data_of shape mid.content.bytes ≡ settled_data shape old.content.bytes)) (rows : List Row) (are : RowsAre shape old.content.bytes shape.numbers rows) where
    pub mid_rows : RowsAre shape mid.content.bytes shape.numbers rows
    mid_rows g t lt lt' = are g t lt lt' ∙ sym (rows_stay shape old.content.bytes long good mid.content.bytes touched.bytes g t lt lt')

    mid_header : range mid.content.bytes 0 512 ≡ range old.content.bytes 0 512
    mid_header = header_stays (places_of shape (all_decided shape old.content.bytes)) old.content.bytes mid.content.bytes (places_behind shape (all_decided shape old.content.bytes)) touched.bytes

    mid_recovering : IsLawful shape old.content.bytes → IsRecovering shape (settled_data shape old.content.bytes) mid.content
    mid_recovering lawful = applying_after shape old.content sure lawful mid.content touched applied.0 applied.1

    mid_votes : votes_of shape (is_one_of shape rows Dropped) ≡ votes_of shape (dropped shape mid.content.bytes)
    mid_votes = same_votes shape (is_one_of shape rows Dropped) (dropped shape mid.content.bytes) (λ g t lt lt'. table_dropped shape mid.content.bytes rows mid_rows g t lt lt')

    -- while the votes of rows that are not decided are cleared
    pub drop_law : (now : View) → IsLawful shape old.content.bytes → LeavesOnly (MayLeave (partly (votes_of shape (is_one_of shape rows Dropped)) mid.content)) mid now → LeavesOnly (SettlesLike shape old.content.bytes) mid now
    drop_law now lawful time = weaker (λ image left.
        let same = left_sure mid.content (votes_of shape (is_one_of shape rows Dropped)) image applied.0 left in
        let stands = dropped_left shape (settled_data shape old.content.bytes) mid.content (mid_recovering lawful) image (subst (λ vs. MayLeave (partly vs mid.content) image) mid_votes left) in
        record {
          lawful = stands.lawful;
          header = header_stays (votes_of shape (is_one_of shape rows Dropped)) mid.content.bytes image (votes_behind shape (is_one_of shape rows Dropped)) same ∙ mid_header;
          same = stands.gives;
        }) time

    module _ (low : View) (fewer : Touched (votes_of shape (is_one_of shape rows Dropped)) mid.content low.content) (settled : AllSettled low.content) where
      pub low_recovering : IsLawful shape old.content.bytes → IsRecovering shape (settled_data shape old.content.bytes) low.content
      low_recovering lawful = dropped_after shape (settled_data shape old.content.bytes) mid.content (mid_recovering lawful) low.content (subst (λ vs. Touched vs mid.content low.content) mid_votes fewer) settled

      low_header : range low.content.bytes 0 512 ≡ range old.content.bytes 0 512
      low_header = header_stays (votes_of shape (is_one_of shape rows Dropped)) mid.content.bytes low.content.bytes (votes_behind shape (is_one_of shape rows Dropped)) fewer.bytes ∙ mid_header

      -- while those of decided rows are
      pub clear_law : (now : View) → LeavesOnly (SettlesTo shape (settled_data shape old.content.bytes) (range low.content.bytes 0 512)) low now → LeavesOnly (SettlesLike shape old.content.bytes) low now
      clear_law now time = weaker (λ image to. record { lawful = to.stands.lawful; header = to.header_is ∙ low_header; same = to.stands.gives }) time

      -- the votes are not in the data
      pub data_stays : (now : Content) → Touched (votes_of shape (decided_in shape rows)) low.content now → data_of shape now.bytes ≡ settled_data shape old.content.bytes
      data_stays now cleared =
          torn_data shape (decided_in shape rows) low.content.bytes now.bytes cleared.bytes
          ∙ torn_data shape (is_one_of shape rows Dropped) mid.content.bytes low.content.bytes fewer.bytes ∙ applied.1

module _ (shape : Shape) (image : List ℕ) where
  pub data_within : (i : ℕ) → IsOutside (recovered_places shape image) i → IsOutside (places_of shape (all_decided shape image)) i
  data_within i out = (outside-append (places_of shape (all_decided shape image)) (voted_places shape image) i out).0

  module _ (rows : List Row) (are : RowsAre shape image shape.numbers rows) where
    pub dropped_within : (i : ℕ) → IsOutside (recovered_places shape image) i → IsOutside (votes_of shape (is_one_of shape rows Dropped)) i
    dropped_within i out = fewer_votes shape (λ g t. (row_of shape image g t).voted) (is_one_of shape rows Dropped) (λ g t lt lt' so.
        ap (λ (r : Row). r.voted) (sym (are g t lt lt')) ∙ (and_parts (row_in rows g t).voted (not (decided_in shape rows g t)) so).0) i
        (outside-append (places_of shape (all_decided shape image)) (voted_places shape image) i out).1

    pub decided_within : (i : ℕ) → IsOutside (recovered_places shape image) i → IsOutside (votes_of shape (decided_in shape rows)) i
    decided_within i out = fewer_votes shape (λ g t. (row_of shape image g t).voted) (decided_in shape rows) (λ g t lt lt' so.
        ap (λ (r : Row). r.voted) (sym (are g t lt lt')) ∙ decided_voted shape.loggers shape.numbers (row_in rows) g t lt lt' so) i
        (outside-append (places_of shape (all_decided shape image)) (voted_places shape image) i out).1

-- all is settled, and no row is voted
pub clean_from : (shape : Shape) (bytes : List ℕ) (now : Content) → length now.bytes ≡ media_len shape → AllSettled now → HasNoVote shape now.bytes → data_of shape now.bytes ≡ bytes → IsAtRest shape [] bytes now
clean_from shape bytes now long sure none holds image left =
    let same : image ≡ now.bytes = ext_get_or 0 image now.bytes left.long (λ i lt. left.same i (sure i)) in
    subst (Rests shape [] bytes) (sym same) (record {
      holds = record {
        queued = record { long = long; rise = tt; written = tt; others = λ g t lt lt' away. none_of shape now.bytes none g t lt lt'; holds = holds };
        voted = tt;
      };
      quiet = λ g t lt lt' away. none g t lt lt';
    })

-- while nothing is written
pub reading_law : (shape : Shape) (old now : View) → ((image : List ℕ) → MayLeave old.content image → IsLawful shape image) → LeavesOnly (MayLeave (partly [] old.content)) old now → LeavesOnly (KeepsSense shape old.content) old now
reading_law shape old now lawful time = weaker (λ image left. record { earlier = image; left = left; like = record { lawful = lawful image left; header = refl; same = refl } }) time

-- from what settles like the bytes that were read
pub sense_law : (shape : Shape) (old mid now : View) → old.content.bytes ≡ mid.content.bytes → LeavesOnly (SettlesLike shape mid.content.bytes) mid now → LeavesOnly (KeepsSense shape old.content) mid now
sense_law shape old mid now is time = weaker (λ image like. record { earlier = old.content.bytes; left = left_as_read old.content; like = subst (λ other. SettlesLike shape other image) (sym is) like }) time
