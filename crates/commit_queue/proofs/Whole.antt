-- A commit, and the write-back of the oldest one, from their phases: what may have been left since their entry, and what holds at
-- their end.
use Rattle.std.proofs.Common.{◌≡◌, ℕ, ◌+◌, ◌<◌, ◌≤◌, ◌^◌, inl, true, false, List, [], ◌∷◌, ◌++◌, length, sym, ◌∙◌, subst, arith}
use Rattle.mars_base.proofs.Going.{weaker, then}
use Rattle.pcm_media.specs.Images.{MayLeave, SameOutside, Touched, partly}
use Rattle.pcm_media.specs.View.{View, LeavesOnly}
use Rattle.pcm_media.proofs.Left.{left_as_read}
use Rattle.array_shape.specs.declared.shape.Shape.{Shape}
use Rattle.array_shape.specs.Logged.{applied, places_of}
use Rattle.array_image.specs.Image.{cell_of, data_of, IsGoodCell, row_of}
use Rattle.array_image.proofs.Applied.{applied-append}
use Rattle.array_image.proofs.Frames.{AllWithin}
use Rattle.row_bytes.specs.Ballots.{ballot_of, has_row}
use Rattle.array_image.specs.Decided.{orders}
use Rattle.array_image.specs.Standing.{StandsFor, IsEither, AllSettled}
use Rattle.array_image.specs.Votes.{votes_of}
use Rattle.commit_queue.specs.Queue.{Commit, named_parts, IsWritten, IsVoted, Each, queue_parts}
use Rattle.commit_queue.specs.Between.{IsHeld, AreUnvoted, bodies_of, IsJoining, IsLeaving}
use Rattle.commit_queue.proofs.Moments.{named_same_cells}
use Rattle.commit_queue.proofs.Between.{holds_stands, free_left, free_after, bodies_free, bodies_within, bodies_cells, rows_after, votes_left, votes_after, parts_left, parts_after, clearing_left, clearing_after}

-- the rows say what the commit is, and its cells were good before they were written
pub names_written : (shape : Shape) (old new : List ℕ) (c : Commit) → SameOutside (bodies_of shape (has_row c.ballot)) old new → c.ballot.mask < 2 ^ shape.loggers → c.ballot.group < 2 ^ shape.numbers
    → ((g t : ℕ) → g < shape.loggers → t < shape.numbers → has_row c.ballot g t ≡ true → (ballot_of t (row_of shape new g t) ≡ c.ballot) × ((row_of shape new g t).first ≡ c.first g t) × ((row_of shape new g t).count ≡ c.count g t))
    → ((g t : ℕ) → g < shape.loggers → t < shape.numbers → has_row c.ballot g t ≡ true → c.first g t + c.count g t ≤ shape.entries)
    → ((g t e : ℕ) → g < shape.loggers → t < shape.numbers → has_row c.ballot g t ≡ true → c.first g t ≤ e → e < c.first g t + c.count g t → IsGoodCell shape g (cell_of shape old g t e))
    → named_parts shape old c ≡ c.parts → IsWritten shape new c
names_written shape old new c same small small' names fits good parts =
    let cells = bodies_cells shape (has_row c.ballot) old new same in
    record {
      small_mask = small;
      small_group = small';
      rows = λ g t lt lt' has.
          let said = names g t lt lt' has in
          record {
            ballot_is = said.0;
            first_is = said.1;
            count_is = said.2;
            fits = fits g t lt lt' has;
            cells = λ e from below. subst (IsGoodCell shape g) (sym (cells g t e lt lt' (omega (arith, fits g t lt lt' has)))) (good g t e lt lt' has from below);
          };
      parts_are = named_same_cells shape old new c fits (λ g t e lt lt' lt'' has. cells g t e lt lt' lt'') ∙ parts;
    }

-- a commit: its rows, a barrier, its votes, a barrier
module _ (shape : Shape) (queue : List Commit) (c : Commit) (b : List ℕ) (base : View) (held : IsHeld shape queue b base.content) (unvoted : AreUnvoted shape (has_row c.ballot) base.content) where
  abbrev before : List ℕ
  before = applied (queue_parts queue) b

  abbrev its_rows : List (ℕ × ℕ)
  its_rows = bodies_of shape (has_row c.ballot)

  within : AllWithin (length base.content.bytes) its_rows
  within = subst (λ n. AllWithin n its_rows) (sym (held base.content.bytes (left_as_read base.content)).queued.long) (bodies_within shape (has_row c.ballot))

  pub rows_time : (now : View) → LeavesOnly (MayLeave (partly its_rows base.content)) base now → LeavesOnly (IsEither shape before (applied c.parts before)) base now
  rows_time now time = weaker (λ image left. inl (holds_stands shape queue b image (free_left shape queue b (has_row c.ballot) its_rows (bodies_free shape queue (has_row c.ballot)) base.content image within held unvoted left))) time

  module _ (one : View) (rows : LeavesOnly (MayLeave (partly its_rows base.content)) base one) (touched : Touched its_rows base.content one.content) (settled : AllSettled one.content) (written : IsWritten shape one.content.bytes c)
      (later : Each (λ e. e.ballot.order < c.ballot.order) queue) (small : c.ballot.order < orders) where
    pub joining : IsJoining shape queue c b one.content
    joining = rows_after shape queue c b one.content (free_after shape queue b (has_row c.ballot) its_rows (bodies_free shape queue (has_row c.ballot)) base.content one.content within held unvoted touched) settled written later small

    pub votes_time : (now : View) → LeavesOnly (MayLeave (partly (votes_of shape (has_row c.ballot)) one.content)) one now → LeavesOnly (IsEither shape before (applied c.parts before)) base now
    votes_time now time = then (rows_time one rows) (weaker (λ image left. votes_left shape queue c b one.content joining image left) time)

    pub committed : (now : View) → Touched (votes_of shape (has_row c.ballot)) one.content now.content → AllSettled now.content → IsVoted shape now.content.bytes c → IsHeld shape (queue ++ c ∷ []) b now.content
    committed now voting sure voted = votes_after shape queue c b one.content joining now.content voting sure voted

-- the write-back of the oldest commit: its parts, a barrier, its votes, a barrier
module _ (shape : Shape) (queue : List Commit) (c : Commit) (b : List ℕ) (base : View) (held : IsHeld shape (c ∷ queue) b base.content) where
  abbrev all : List ℕ
  all = applied (queue_parts (c ∷ queue)) b

  pub parts_time : (now : View) → LeavesOnly (MayLeave (partly (places_of shape c.parts) base.content)) base now → LeavesOnly (λ image. StandsFor shape image all) base now
  parts_time now time = weaker (λ image left. parts_left shape queue c b base.content held image left) time

  module _ (one : View) (parts : LeavesOnly (MayLeave (partly (places_of shape c.parts) base.content)) base one) (touched : Touched (places_of shape c.parts) base.content one.content) (settled : AllSettled one.content)
      (written : data_of shape one.content.bytes ≡ applied c.parts (data_of shape base.content.bytes)) where
    pub leaving : IsLeaving shape queue c (applied c.parts b) one.content
    leaving = parts_after shape queue c b base.content held one.content touched settled written

    pub clearing_time : (now : View) → LeavesOnly (MayLeave (partly (votes_of shape (has_row c.ballot)) one.content)) one now → LeavesOnly (λ image. StandsFor shape image all) base now
    clearing_time now time = then (parts_time one parts) (weaker (λ image left. subst (StandsFor shape image) (sym (applied-append c.parts (queue_parts queue) b)) (clearing_left shape queue c (applied c.parts b) one.content leaving image left)) time)

    pub written_back : (now : View) → Touched (votes_of shape (has_row c.ballot)) one.content now.content → AllSettled now.content
        → ((g t : ℕ) → g < shape.loggers → t < shape.numbers → has_row c.ballot g t ≡ true → (row_of shape now.content.bytes g t).voted ≡ false) → IsHeld shape queue (applied c.parts b) now.content
    written_back now clearing sure unvoted = clearing_after shape queue c (applied c.parts b) one.content leaving now.content clearing sure unvoted
