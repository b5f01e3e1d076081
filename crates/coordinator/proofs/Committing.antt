-- A commit from its phases: what it does, whatever phase it comes to.
use Rattle.std.proofs.Common.{◌≡◌, ℕ, ◌<◌, ◌^◌, Bool, true, false, cond, ⊎_elim, List, [], ◌∷◌, ◌++◌, length, Result, Ok, Err, refl, sym, ◌∙◌, ap, subst, arith}
use Rattle.std.specs.Prelude.{IsTrue, IsOk, IsErr}
use Rattle.std.proofs.lemmas.Bool.{cases_Bool}
use Rattle.pcm_media.specs.Images.{Content, MayLeave, IsOutside, Touched, partly}
use Rattle.pcm_media.specs.View.{View, LeavesOnly, Writes}
use Rattle.pcm_media.proofs.Left.{left_as_read}
use Rattle.pcm_media.proofs.Writing.{writes_none}
use Rattle.array_shape.specs.declared.shape.Shape.{Shape}
use Rattle.array_shape.specs.Places.{media_len}
use Rattle.array_shape.specs.Logged.{Part, applied, places_of}
use Rattle.row_bytes.specs.declared.ballot.Ballot.{Ballot}
use Rattle.row_bytes.specs.Ballots.{has_row}
use Rattle.array_image.specs.Decided.{orders}
use Rattle.array_image.specs.Image.{data_of, parts_from}
use Rattle.array_image.specs.Joined.{joined}
use Rattle.array_image.specs.Standing.{AllSettled, IsEither, SameCells, StandsFor}
use Rattle.array_image.specs.Votes.{votes_of}
use Rattle.array_image.proofs.Calls.{SoFar, none_yet, goes_on, hands_on, ends_with}
use Rattle.array_image.proofs.Joined.{joined_same}
use Rattle.array_image.proofs.Frames.{data_cells, torn_cells}
use Rattle.commit_queue.specs.Queue.{Commit, IsWritten, named_at, queue_parts}
use Rattle.commit_queue.specs.Between.{bodies_of, IsAtRest, IsHeld, IsJoining, IsLeaving}
use Rattle.commit_queue.specs.Rows.{bytes_of}
use Rattle.commit_queue.proofs.Between.{bodies_cells, bodies_free, data_quiet, free_quiet}
use Rattle.commit_queue.proofs.Moments.{written_placed}
use Rattle.commit_queue.proofs.Resting.{rest_held, rest_unvoted, joined_at_rest, left_at_rest}
use Rattle.commit_queue.proofs.Whole.{names_written, rows_time, joining, votes_time, parts_time, leaving, clearing_time}
use Rattle.coordinator.specs.declared.cells.Cells.{Cells}
use Rattle.coordinator.specs.Commits.{AreGood, AreThere, MayJoin, Names, cells_in, commit_of, commit_with, number_parts, parts_named}
use Rattle.coordinator.specs.Places.{commit_places, row_places}
use Rattle.coordinator.specs.Rows.{HasVote, Says}
use Rattle.coordinator.proofs.Applying.{parts_placed}
use Rattle.coordinator.proofs.RowBytes.{says_commit, vote_said}
use Rattle.coordinator.proofs.Placing.{bodies_within, votes_within, rows_in_all_places, parts_in_all_places}

pub same_cells_then : (shape : Shape) (a b c : List ℕ) → SameCells shape a b → SameCells shape b c → SameCells shape a c
same_cells_then shape a b c one two g t e lt lt' lt'' = two g t e lt lt' lt'' ∙ one g t e lt lt' lt''

pub succeeded : {T E : Type 0} {r : Result T E} (tells : Bool) (ranges : List (ℕ × ℕ)) (old new : View) → Writes tells ranges old new r → IsOk r → SoFar tells ranges old new
succeeded tells ranges old new call ok = goes_on tells ranges ranges old old new (λ told i out. out) (none_yet tells ranges old) call ok

-- a fault is passed on as it is
pub handed : {T E U F : Type 0} {e : E} (s : Result U F) → IsErr s → (tells : Bool) (ranges : List (ℕ × ℕ)) (old new : View) → (let r : Result T E = Err e in Writes tells ranges old new r) → Writes tells ranges old new s
handed s err tells ranges old new call = hands_on tells ranges ranges old old new (λ told i out. out) (none_yet tells ranges old) s err call

-- no range is unsettled
pub all_settled : (content : Content) → content.unsettled ≡ [] → AllSettled content
all_settled content none i = subst (λ rs. IsOutside rs i) (sym none) tt

order_fits : (n : ℕ) → n < 2 ^ 16 → n < orders
unfolding orders
order_fits n lt = lt

-- the rows say what the commit is
pub record Prepared (tells : Bool) (shape : Shape) (ballot : Ballot) (cells : List Cells) (base now : View) : Type 0 where
  pub does : SoFar tells (bodies_of shape (has_row ballot)) base now
  pub names : IsTrue tells → (now.content.unsettled ≡ []) × ((g t : ℕ) → g < shape.loggers → t < shape.numbers → has_row ballot g t ≡ true → Says ballot cells g t (bytes_of shape now.content.bytes g t))

-- all votes are cast, or all cleared
abbrev pub AreVotes : Shape → Ballot → Bool → List ℕ → Type 0
AreVotes shape ballot voted image = (g t : ℕ) → g < shape.loggers → t < shape.numbers → has_row ballot g t ≡ true → HasVote voted (bytes_of shape image g t)

-- the parts are in the data
pub record Installed (tells : Bool) (shape : Shape) (ballot : Ballot) (cells : List Cells) (base now : View) : Type 0 where
  pub does : SoFar tells (places_of shape (parts_named shape base.content.bytes ballot cells)) base now
  pub applied : IsTrue tells → (now.content.unsettled ≡ []) × (data_of shape now.content.bytes ≡ applied (parts_named shape base.content.bytes ballot cells) (data_of shape base.content.bytes))

module _ (tells : Bool) (shape : Shape) (ballot : Ballot) (cells : List Cells) (there : AreThere shape ballot cells) (base : View) where
  abbrev c : Commit
  c = commit_of shape base.content.bytes ballot cells

  abbrev rows : List (ℕ × ℕ)
  rows = bodies_of shape (has_row ballot)

  abbrev votes : List (ℕ × ℕ)
  votes = votes_of shape (has_row ballot)

  -- what a decision does up to some phase, whatever it answers there
  pub record Decides {T E : Type 0} (now : View) (result : Result T E) : Type 0 where
    pub writes : Writes tells (row_places shape ballot) base now result
    pub time : IsTrue tells → (queue : List Commit) (b : List ℕ) → IsAtRest shape queue b base.content → MayJoin shape queue ballot → (let before = applied (queue_parts queue) b in LeavesOnly (IsEither shape before (applied c.parts before)) base now)
    pub kept : IsTrue tells → SameCells shape base.content.bytes now.content.bytes

  pub in_rows : {T E : Type 0} (r : Result T E) (now : View) → Writes tells rows base now r → Decides now r
  in_rows r now call = record {
    writes = ends_with tells (row_places shape ballot) rows base base now (λ told. bodies_within shape ballot) (writes_none tells _ base tt) r call;
    time = λ told queue b rest may. rows_time shape queue c b base (rest_held shape queue b base.content rest) (rest_unvoted shape queue b base.content (has_row ballot) may.apart rest) now (call.time told);
    kept = λ told. bodies_cells shape (has_row ballot) base.content.bytes now.content.bytes (call.touched told).bytes;
  }

  module _ (small : ballot.group < 2 ^ 64) (fits : ballot.order < 2 ^ 16) (good : IsTrue tells → AreGood shape base.content.bytes ballot cells) (one : View) (prepared : Prepared tells shape ballot cells base one) where
    prepared_does : (let done : Result (Unit {0}) (Unit {0}) = Ok tt in Decides one done)
    prepared_does = let done : Result (Unit {0}) (Unit {0}) = Ok tt in in_rows done one prepared.does

    its_rows_written : IsTrue tells → IsWritten shape one.content.bytes c
    its_rows_written told = names_written shape base.content.bytes one.content.bytes c (prepared.does.touched told).bytes there.small_mask there.small_group
        (λ g t lt lt' has. says_commit shape ballot cells there small fits g t (bytes_of shape one.content.bytes g t) lt lt' has ((prepared.names told).1 g t lt lt' has)) there.fit (good told) refl

    module _ (told : IsTrue tells) (queue : List Commit) (b : List ℕ) (rest : IsAtRest shape queue b base.content) (may : MayJoin shape queue ballot) where
      held : IsHeld shape queue b base.content
      held = rest_held shape queue b base.content rest

      join : IsJoining shape queue c b one.content
      join = joining shape queue c b base held (rest_unvoted shape queue b base.content (has_row ballot) may.apart rest) one (prepared.does.time told) (prepared.does.touched told) (all_settled one.content (prepared.names told).0) (its_rows_written told) may.later (order_fits ballot.order fits)

      vote_time : (now : View) → LeavesOnly (MayLeave (partly votes one.content)) one now → (let before = applied (queue_parts queue) b in LeavesOnly (IsEither shape before (applied c.parts before)) base now)
      vote_time now time = votes_time shape queue c b base held (rest_unvoted shape queue b base.content (has_row ballot) may.apart rest) one (prepared.does.time told) (prepared.does.touched told) (all_settled one.content (prepared.names told).0) (its_rows_written told) may.later (order_fits ballot.order fits) now time

      pub at_end : (now : View) → Touched votes one.content now.content → (now.content.unsettled ≡ []) × AreVotes shape ballot true now.content.bytes → IsAtRest shape (queue ++ c ∷ []) b now.content
      at_end now touched voted =
          let quiet = free_quiet shape queue b (has_row ballot) rows (bodies_free shape queue (has_row ballot)) base.content.bytes one.content.bytes (prepared.does.touched told).bytes (rest base.content.bytes (left_as_read base.content)).quiet in
          joined_at_rest shape queue c b one.content now.content join quiet touched (all_settled now.content voted.0) (λ g t lt lt' has. vote_said true (bytes_of shape now.content.bytes g t) (voted.1 g t lt lt' has))

    pub in_votes : {T E : Type 0} (r : Result T E) (now : View) → Writes tells votes one now r → Decides now r
    in_votes r now call = record {
      writes = ends_with tells (row_places shape ballot) votes base one now (λ told. votes_within shape ballot) prepared_does.writes r call;
      time = λ told queue b rest may. vote_time told queue b rest may now (call.time told);
      kept = λ told. same_cells_then shape base.content.bytes one.content.bytes now.content.bytes (prepared_does.kept told) (torn_cells shape (has_row ballot) one.content.bytes now.content.bytes (call.touched told).bytes);
    }

-- the parts of a commit of the queue are those in the cells that the table names
pub its_parts : (shape : Shape) (image : List ℕ) (ballot : Ballot) (cells : List Cells) (e : Commit) → Names shape ballot cells e → IsWritten shape image e → parts_named shape image ballot cells ≡ e.parts
its_parts shape image ballot cells e names written =
    joined_same (number_parts shape image ballot cells) (λ t. joined (named_at shape image e t) 0 shape.loggers) 0 shape.numbers (λ t le' lt'.
    joined_same (named_at shape image (commit_with ballot cells []) t) (named_at shape image e t) 0 shape.loggers (λ g le lt. one g t (omega arith) (omega arith)))
    ∙ written.parts_are
  where
    one : (g t : ℕ) → g < shape.loggers → t < shape.numbers → named_at shape image (commit_with ballot cells []) t g ≡ named_at shape image e t g
    one g t lt lt' = ⊎_elim
        (λ has.
        ap (λ (b : Bool). cond b (parts_from shape image g t (cells_in cells g t).first (cells_in cells g t).count) []) has
        ∙ (λ i. parts_from shape image g t (sym (names.first_is g t lt lt' has) i) (sym (names.count_is g t lt lt' has) i))
        ∙ ap (λ (b : Bool). cond b (parts_from shape image g t (e.first g t) (e.count g t)) []) (sym (ap (λ (b : Ballot). has_row b g t) names.ballot_is ∙ has)))
        (λ lacks.
        ap (λ (b : Bool). cond b (parts_from shape image g t (cells_in cells g t).first (cells_in cells g t).count) []) lacks
        ∙ ap (λ (b : Bool). cond b (parts_from shape image g t (e.first g t) (e.count g t)) []) (sym (ap (λ (b : Ballot). has_row b g t) names.ballot_is ∙ lacks)))
        (cases_Bool (has_row ballot g t))

module _ (tells : Bool) (shape : Shape) (ballot : Ballot) (cells : List Cells) (there : AreThere shape ballot cells) (base : View) (long : IsTrue tells → length base.content.bytes ≡ media_len shape) (good : IsTrue tells → AreGood shape base.content.bytes ballot cells) where
  abbrev parts : List Part
  parts = parts_named shape base.content.bytes ballot cells

  abbrev its_votes : List (ℕ × ℕ)
  its_votes = votes_of shape (has_row ballot)

  -- what a write-back does up to some phase, whatever it answers there
  pub record WritesBack {T E : Type 0} (now : View) (result : Result T E) : Type 0 where
    pub writes : Writes tells (commit_places shape base.content.bytes ballot cells) base now result
    pub time : IsTrue tells → (queue : List Commit) (oldest : Commit) (b : List ℕ) → Names shape ballot cells oldest → IsAtRest shape (oldest ∷ queue) b base.content → LeavesOnly (λ image. StandsFor shape image (applied (queue_parts (oldest ∷ queue)) b)) base now
    pub kept : IsTrue tells → SameCells shape base.content.bytes now.content.bytes

  module _ (told : IsTrue tells) (queue : List Commit) (oldest : Commit) (b : List ℕ) (names : Names shape ballot cells oldest) (rest : IsAtRest shape (oldest ∷ queue) b base.content) where
    its_written : IsWritten shape base.content.bytes oldest
    its_written = (rest base.content.bytes (left_as_read base.content)).holds.queued.written.0

    same_parts : parts ≡ oldest.parts
    same_parts = its_parts shape base.content.bytes ballot cells oldest names its_written

    same_votes : its_votes ≡ votes_of shape (has_row oldest.ballot)
    same_votes = ap (λ (b' : Ballot). votes_of shape (has_row b')) (sym names.ballot_is)

    install_time : (now : View) → LeavesOnly (MayLeave (partly (places_of shape parts) base.content)) base now → LeavesOnly (MayLeave (partly (places_of shape oldest.parts) base.content)) base now
    install_time now time = subst (λ ps. LeavesOnly (MayLeave (partly (places_of shape ps) base.content)) base now) same_parts time

  pub in_install : {T E : Type 0} (r : Result T E) (now : View) → Writes tells (places_of shape parts) base now r → WritesBack now r
  in_install r now call = record {
    writes = ends_with tells (commit_places shape base.content.bytes ballot cells) (places_of shape parts) base base now (λ told. parts_in_all_places shape ballot base.content.bytes cells) (writes_none tells _ base tt) r call;
    time = λ told queue oldest b names rest. parts_time shape queue oldest b base (rest_held shape (oldest ∷ queue) b base.content rest) now (install_time told queue oldest b names rest now (call.time told));
    kept = λ told. data_cells shape parts (parts_placed shape ballot cells there base.content.bytes (long told) (good told)) base.content.bytes now.content.bytes (call.touched told).bytes;
  }

  module _ (one : View) (install : Installed tells shape ballot cells base one) where
    installed_does : (let done : Result (Unit {0}) (Unit {0}) = Ok tt in WritesBack one done)
    installed_does = let done : Result (Unit {0}) (Unit {0}) = Ok tt in in_install done one install.does

    module _ (told : IsTrue tells) (queue : List Commit) (oldest : Commit) (b : List ℕ) (names : Names shape ballot cells oldest) (rest : IsAtRest shape (oldest ∷ queue) b base.content) where
      is_held : IsHeld shape (oldest ∷ queue) b base.content
      is_held = rest_held shape (oldest ∷ queue) b base.content rest

      touched : Touched (places_of shape oldest.parts) base.content one.content
      touched = subst (λ ps. Touched (places_of shape ps) base.content one.content) (same_parts told queue oldest b names rest) (install.does.touched told)

      data_is : data_of shape one.content.bytes ≡ applied oldest.parts (data_of shape base.content.bytes)
      data_is = (install.applied told).1 ∙ ap (λ (ps : List Part). applied ps (data_of shape base.content.bytes)) (same_parts told queue oldest b names rest)

      its_time : LeavesOnly (MayLeave (partly (places_of shape oldest.parts) base.content)) base one
      its_time = install_time told queue oldest b names rest one (install.does.time told)

      leave : IsLeaving shape queue oldest (applied oldest.parts b) one.content
      leave = leaving shape queue oldest b base is_held one its_time touched (all_settled one.content (install.applied told).0) data_is

      vote_back_time : (now : View) → LeavesOnly (MayLeave (partly its_votes one.content)) one now → LeavesOnly (λ image. StandsFor shape image (applied (queue_parts (oldest ∷ queue)) b)) base now
      vote_back_time now time = clearing_time shape queue oldest b base is_held one its_time touched (all_settled one.content (install.applied told).0) data_is now
          (subst (λ vs. LeavesOnly (MayLeave (partly vs one.content)) one now) (same_votes told queue oldest b names rest) time)

      pub at_last : (now : View) → Touched its_votes one.content now.content → (now.content.unsettled ≡ []) × AreVotes shape ballot false now.content.bytes → IsAtRest shape queue (applied oldest.parts b) now.content
      at_last now voting voted =
          let placed = written_placed shape base.content.bytes oldest (rest base.content.bytes (left_as_read base.content)).holds.queued.long (its_written told queue oldest b names rest) in
          let quiet = data_quiet shape (oldest ∷ queue) base.content.bytes one.content.bytes oldest.parts placed (rest base.content.bytes (left_as_read base.content)).quiet touched.bytes in
          left_at_rest shape queue oldest (applied oldest.parts b) one.content now.content leave quiet
          (subst (λ vs. Touched vs one.content now.content) (same_votes told queue oldest b names rest) voting) (all_settled now.content voted.0)
          (λ g t lt lt' has. vote_said false (bytes_of shape now.content.bytes g t) (voted.1 g t lt lt' (sym (ap (λ (b' : Ballot). has_row b' g t) names.ballot_is) ∙ has)))

    pub in_clearing : {T E : Type 0} (r : Result T E) (now : View) → Writes tells its_votes one now r → WritesBack now r
    in_clearing r now call = record {
      writes = ends_with tells (commit_places shape base.content.bytes ballot cells) its_votes base one now (λ told i out. votes_within shape ballot i (rows_in_all_places shape ballot base.content.bytes cells i out)) installed_does.writes r call;
      time = λ told queue oldest b names rest. vote_back_time told queue oldest b names rest now (call.time told);
      kept = λ told. same_cells_then shape base.content.bytes one.content.bytes now.content.bytes (installed_does.kept told) (torn_cells shape (has_row ballot) one.content.bytes now.content.bytes (call.touched told).bytes);
    }
