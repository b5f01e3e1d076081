-- Worked rows: each side computes to the other.
use Rattle.std.proofs.Common.{◌≡◌, ℕ, false, List, [], ◌∷◌, length, refl}
use Rattle.std.specs.Prelude.{Some, None}
use Rattle.mars_base.specs.Bytes.{put}
use Rattle.page_store.specs.Edit.{with_write}
use Rattle.page_store.specs.State.{PagesState, log_of, view_of}
use Rattle.page_store.specs.Command.{PageCommand, write_as, save, back, top_begin, top_end, end, after}
use Rattle.page_store.specs.Played.{fresh, played}

-- one range written twice: one part
twice : with_write 0 8 (7 ∷ 7 ∷ []) ((8, 1 ∷ 1 ∷ []) ∷ []) ≡ (8, 7 ∷ 7 ∷ []) ∷ []
twice = refl

-- so too with a later part elsewhere
elsewhere : with_write 0 8 (7 ∷ 7 ∷ []) ((8, 1 ∷ 1 ∷ []) ∷ (10, 2 ∷ []) ∷ []) ≡ (8, 7 ∷ 7 ∷ []) ∷ (10, 2 ∷ []) ∷ []
elsewhere = refl

-- a later part meets it: one more
met_later : with_write 0 8 (7 ∷ 7 ∷ []) ((8, 1 ∷ 1 ∷ []) ∷ (9, 2 ∷ []) ∷ []) ≡ (8, 1 ∷ 1 ∷ []) ∷ (9, 2 ∷ []) ∷ (8, 7 ∷ 7 ∷ []) ∷ []
met_later = refl

-- the part is from before the floor: one more, which the next write edits
before_floor : with_write 1 8 (9 ∷ 9 ∷ []) (with_write 1 8 (7 ∷ 7 ∷ []) ((8, 1 ∷ 1 ∷ []) ∷ [])) ≡ (8, 1 ∷ 1 ∷ []) ∷ (8, 9 ∷ 9 ∷ []) ∷ []
before_floor = refl

-- ranges that meet and are not one: one more
not_just : with_write 0 9 (7 ∷ 7 ∷ []) ((8, 1 ∷ 1 ∷ []) ∷ []) ≡ (8, 1 ∷ 1 ∷ []) ∷ (9, 7 ∷ 7 ∷ []) ∷ []
not_just = refl

-- a save, two writes over one from before it, and the way back; then a top action, and an abort
three_parts : List PageCommand
three_parts = write_as 0 102400 (97 ∷ 97 ∷ []) ∷ save 0 ∷ write_as 0 102400 (98 ∷ []) ∷ write_as 0 102400 (99 ∷ 99 ∷ []) ∷ []

gone_back : (d : List ℕ) → PagesState
gone_back d = after (back 0 1) (played three_parts (fresh d))

topped : (d : List ℕ) → PagesState
topped d = played (top_begin 0 ∷ write_as 0 1024 (122 ∷ []) ∷ top_end 0 1 ∷ []) (gone_back d)

length_three : (d : List ℕ) → length (log_of (played three_parts (fresh d)) 0) ≡ 3
unfolding three_parts
length_three d = refl

seen_three : (d : List ℕ) → view_of 0 (played three_parts (fresh d)) ≡ put (put (put d 102400 (97 ∷ 97 ∷ [])) 102400 (98 ∷ [])) 102400 (99 ∷ 99 ∷ [])
unfolding three_parts
seen_three d = refl

length_back : (d : List ℕ) → length (log_of (gone_back d) 0) ≡ 1
unfolding three_parts gone_back
length_back d = refl

seen_back : (d : List ℕ) → view_of 0 (gone_back d) ≡ put d 102400 (97 ∷ 97 ∷ [])
unfolding three_parts gone_back
seen_back d = refl

top_mark : (d : List ℕ) → (after (top_begin 0) (gone_back d)).top 0 ≡ Some 1
unfolding three_parts gone_back
top_mark d = refl

top_data : (d : List ℕ) → (topped d).store.bytes ≡ put d 1024 (122 ∷ [])
unfolding three_parts gone_back topped
top_data d = refl

top_list : (d : List ℕ) → log_of (topped d) 0 ≡ (102400, 97 ∷ 97 ∷ []) ∷ []
unfolding three_parts gone_back topped
top_list d = refl

ended_data : (d : List ℕ) → (after (end 0 false) (topped d)).store.bytes ≡ put d 1024 (122 ∷ [])
unfolding three_parts gone_back topped
ended_data d = refl

ended_list : (d : List ℕ) → (after (end 0 false) (topped d)).store.logs 0 ≡ None
unfolding three_parts gone_back topped
ended_list d = refl
