-- The bytes of rows, once the bodies or the votes of some of them are written.
use Rattle.std.proofs.Common.{◌≡◌, ℕ, ◌+◌, ◌-◌, ◌^◌, ◌<◌, ◌≤◌, Bool, true, false, cond, ⊎_elim, List, [], ◌∷◌, length, get_or, drop, refl, sym, ◌∙◌, ap, arith}
use Rattle.std.specs.Prelude.{nat_eq}
use Rattle.std.specs.Int.{bit_at}
use Rattle.std.proofs.lemmas.Bool.{and_left, and_parts, cases_Bool, cond-true, cond-false, eqb-true, false≢true, ne_eqb}
use Rattle.std.proofs.lemmas.List.{get_or-drop}
use Rattle.std.proofs.lemmas.Nat.Bits.{bit_at-zero}
use Rattle.mars_base.specs.Bytes.{put}
use Rattle.mars_base.proofs.Puts.{get_or-put_inside}
use Rattle.pcm_media.specs.Images.{SameOutside, IsOutside}
use Rattle.pcm_media.proofs.Ranges.{get_or-range, range-put, range_away}
use Rattle.array_shape.specs.declared.shape.Shape.{Shape}
use Rattle.array_shape.specs.Places.{media_len, row_at}
use Rattle.array_shape.specs.Logged.{Part, AllPlaced, places_of}
use Rattle.array_shape.specs.NumberSet.{has}
use Rattle.row_bytes.specs.declared.ballot.Ballot.{Ballot}
use Rattle.row_bytes.specs.declared.row.Row.{Row}
use Rattle.row_bytes.specs.Ballots.{ballot_of, group_bytes, has_row}
use Rattle.row_bytes.specs.Said.{row_said}
use Rattle.row_bytes.specs.Written.{row_bytes, row_rest, vote_byte}
use Rattle.row_bytes.proofs.Saying.{AreSmall, row, row_said-rest}
use Rattle.array_image.specs.Joined.{joined}
use Rattle.array_image.specs.Votes.{votes_of}
use Rattle.array_image.proofs.Data.{outside_data}
use Rattle.array_image.proofs.Frames.{chosen_outside, votes_away}
use Rattle.array_image.proofs.Joined.{outside_joined}
use Rattle.array_image.proofs.Places.{row_fits_in, row_no_data, same_row}
use Rattle.array_image.proofs.Rows.{voted_said}
use Rattle.commit_queue.specs.Rows.{HasRowBytes, bytes_of, with_votes}
use Rattle.commit_queue.proofs.RowBytes.{body_away, body_is, length-row, whole}
use Rattle.coordinator.specs.declared.cells.Cells.{Cells}
use Rattle.coordinator.specs.Commits.{AreThere, cells_in}
use Rattle.coordinator.specs.Places.{row_places}
use Rattle.coordinator.specs.Rows.{HasVote, Says, row_with, with_rows}

-- what a vote byte and a body say
vote_reads : (voted : Bool) → nat_eq (vote_byte voted) 0xC3 ≡ voted
vote_reads true = refl
vote_reads false = refl

pub vote_said : (voted : Bool) (bytes : List ℕ) → HasVote voted bytes → (row_said bytes).voted ≡ voted
vote_said voted bytes is = voted_said bytes ∙ ap (λ (k : ℕ). nat_eq k 0xC3) is ∙ vote_reads voted

body_said : (bytes : List ℕ) (r : Row) → AreSmall r → drop 1 bytes ≡ row_rest r → row_said bytes ≡ row (row_said bytes).voted r.mask r.first r.count r.group r.order
body_said bytes r small is = row_said-rest bytes bytes r small refl
    (λ k lt. ap (λ (j : ℕ). get_or bytes j 0) (omega arith) ∙ sym (get_or-drop 1 bytes k 0) ∙ ap (λ (xs : List ℕ). get_or xs k 0) is)

-- the group of a number alone is said as 0
group_read : (t group : ℕ) → has group t ≡ true → cond (nat_eq (group_bytes t group) 0) (2 ^ t) (group_bytes t group) ≡ group
group_read t group in_group = ⊎_elim
    (λ alone. ap (λ (n : ℕ). cond (nat_eq n 0) (2 ^ t) n) (cond-true (nat_eq group (2 ^ t)) 0 group alone) ∙ sym (eqb-true group (2 ^ t) alone))
    (λ more. ap (λ (n : ℕ). cond (nat_eq n 0) (2 ^ t) n) (cond-false (nat_eq group (2 ^ t)) 0 group more)
    ∙ cond-false (nat_eq group 0) (2 ^ t) group (ne_eqb group 0 (λ none. omega (arith, ap (λ (n : ℕ). bit_at n t) none, bit_at-zero t, eqb-true (bit_at group t) 1 in_group))))
    (cases_Bool (nat_eq group (2 ^ t)))

group_small : (t group : ℕ) → group < 2 ^ 64 → group_bytes t group < 2 ^ 64
group_small t group lt = ⊎_elim
    (λ alone. omega (arith, cond-true (nat_eq group (2 ^ t)) 0 group alone))
    (λ more. omega (arith, lt, cond-false (nat_eq group (2 ^ t)) 0 group more))
    (cases_Bool (nat_eq group (2 ^ t)))

module _ (shape : Shape) (ballot : Ballot) (cells : List Cells) (there : AreThere shape ballot cells) (small : ballot.group < 2 ^ 64) (fits : ballot.order < 2 ^ 16) where
  pub says_commit : (g t : ℕ) (bytes : List ℕ) → g < shape.loggers → t < shape.numbers → has_row ballot g t ≡ true → Says ballot cells g t bytes
      → (ballot_of t (row_said bytes) ≡ ballot) × ((row_said bytes).first ≡ (cells_in cells g t).first) × ((row_said bytes).count ≡ (cells_in cells g t).count)
  says_commit g t bytes lt lt' so is =
      let fit = there.fit g t lt lt' so in
      let said = body_said bytes (row_with ballot cells false g t) (record { first = omega (arith, fit); count = omega (arith, fit); group = group_small t ballot.group small; order = fits }) is in (
        ap (ballot_of t) said ∙ (λ i. record { mask = ballot.mask; group = group_read t ballot.group (and_parts (has ballot.mask g) (has ballot.group t) so).1 i; order = ballot.order }),
        ap (λ (r : Row). r.first) said,
        ap (λ (r : Row). r.count) said,
      )

module _ (shape : Shape) where
  -- a body, and a vote, that was written
  module _ (old : List ℕ) (long : length old ≡ media_len shape) (g t : ℕ) (lt : g < shape.loggers) (lt' : t < shape.numbers) where
    pub put_body : (r : Row) → drop 1 (bytes_of shape (put old (row_at shape g t + 1) (row_rest r)) g t) ≡ row_rest r
    put_body r = body_is shape (put old (row_at shape g t + 1) (row_rest r)) g t ∙ range-put old (row_rest r) (row_at shape g t + 1) 15 refl (omega (arith, row_fits_in shape g t lt lt'))

    pub put_vote : (vote : ℕ) → get_or (bytes_of shape (put old (row_at shape g t) (vote ∷ [])) g t) 0 0 ≡ vote
    put_vote vote =
        let at = row_at shape g t in
        let inside = row_fits_in shape g t lt lt' in
        get_or-range (put old at (vote ∷ [])) at 16 0 (omega arith)
        ∙ get_or-put_inside old at (vote ∷ []) (omega arith) (at + 0) (omega arith) (omega arith)
        ∙ ap (λ (j : ℕ). get_or (vote ∷ []) j 0) (let none : at + 0 - at ≡ 0 = omega arith in none)

  module _ (ballot : Ballot) where
    -- rows that a commit does not have
    pub no_place : (g t i : ℕ) → t < shape.numbers → has_row ballot g t ≡ false → row_at shape g t ≤ i → i < row_at shape g t + 16 → IsOutside (row_places shape ballot) i
    no_place g t i lt lacks from below =
        outside_joined (λ u. joined (λ h. cond (has_row ballot h u) ((row_at shape h u, 16) ∷ []) []) 0 shape.loggers) i 0 shape.numbers (λ u le' lt'.
        outside_joined (λ h. cond (has_row ballot h u) ((row_at shape h u, 16) ∷ []) []) i 0 shape.loggers (λ h le below'.
        chosen_outside (has_row ballot h u) (row_at shape h u, 16) i (λ so. ((λ from' under. other h u (same_row shape g h t u i lt (omega arith) from below from' under) so), tt))))
      where
        other : (h u : ℕ) → (g ≡ h) × (t ≡ u) → has_row ballot h u ≡ true → ⊥
        other h u same so = false≢true (sym lacks ∙ (λ i. has_row ballot (same.0 i) (same.1 i)) ∙ so)

    row_kept : (old new : List ℕ) → SameOutside (row_places shape ballot) old new → (g t : ℕ) → t < shape.numbers → has_row ballot g t ≡ false → bytes_of shape new g t ≡ bytes_of shape old g t
    row_kept old new same g t lt lacks = range_away (row_places shape ballot) old new (row_at shape g t) 16 same (λ i from below. no_place g t i lt lacks from below)

    module _ (old new : List ℕ) (same : SameOutside (votes_of shape (has_row ballot)) old new) where
      -- votes leave the bodies, and other rows
      pub body_kept : (g t : ℕ) → t < shape.numbers → drop 1 (bytes_of shape new g t) ≡ drop 1 (bytes_of shape old g t)
      body_kept g t lt =
          body_away shape (votes_of shape (has_row ballot)) old new g t same (λ i from below. votes_away shape (has_row ballot) i (λ h u small small' so is.
          apart g t h u i from is (same_row shape g h t u i lt small' (omega arith) (omega arith) (omega arith) (omega arith))))
        where
          apart : (g t h u i : ℕ) → row_at shape g t + 1 ≤ i → i ≡ row_at shape h u → (g ≡ h) × (t ≡ u) → ⊥
          apart g t h u i from is one = let e : row_at shape g t ≡ row_at shape h u = (λ j. row_at shape (one.0 j) (one.1 j)) in omega (arith, e)

      pub other_kept : (g t : ℕ) → t < shape.numbers → has_row ballot g t ≡ false → bytes_of shape new g t ≡ bytes_of shape old g t
      other_kept g t lt lacks = range_away (votes_of shape (has_row ballot)) old new (row_at shape g t) 16 same (λ i from below. votes_away shape (has_row ballot) i (λ h u small small' so is.
          other h u (same_row shape g h t u i lt small' from below (omega arith) (omega arith)) so))
        where
          other : (h u : ℕ) → (g ≡ h) × (t ≡ u) → has_row ballot h u ≡ true → ⊥
          other h u one so = false≢true (sym lacks ∙ (λ i. has_row ballot (one.0 i) (one.1 i)) ∙ so)

    -- the votes of rows that say the commit
    pub rows_said : (cells : List Cells) (voted : Bool) (old one new : List ℕ) → length new ≡ media_len shape → SameOutside (row_places shape ballot) old new → SameOutside (votes_of shape (has_row ballot)) one new
        → ((g t : ℕ) → g < shape.loggers → t < shape.numbers → has_row ballot g t ≡ true → Says ballot cells g t (bytes_of shape one g t))
        → ((g t : ℕ) → g < shape.loggers → t < shape.numbers → has_row ballot g t ≡ true → HasVote voted (bytes_of shape new g t))
        → HasRowBytes shape new (with_rows ballot cells voted (bytes_of shape old))
    rows_said cells voted old one new long within voting says votes g t lt lt' = ⊎_elim
        (λ has. whole (vote_byte voted) (row_rest (row_with ballot cells voted g t)) (bytes_of shape new g t) (length-row shape new long g t lt lt') (votes g t lt lt' has) (body_kept one new voting g t lt' ∙ says g t lt lt' has)
        ∙ sym (cond-true (has_row ballot g t) (row_bytes (row_with ballot cells voted g t)) (bytes_of shape old g t) has))
        (λ lacks. row_kept old new within g t lt' lacks ∙ sym (cond-false (has_row ballot g t) (row_bytes (row_with ballot cells voted g t)) (bytes_of shape old g t) lacks))
        (cases_Bool (has_row ballot g t))

    -- the votes of rows, behind parts that were written into the data
    pub votes_set : (voted : Bool) (ps : List Part) (old one new : List ℕ) → AllPlaced shape ps → length new ≡ media_len shape → SameOutside (places_of shape ps) old one → SameOutside (votes_of shape (has_row ballot)) one new
        → ((g t : ℕ) → g < shape.loggers → t < shape.numbers → has_row ballot g t ≡ true → HasVote voted (bytes_of shape new g t))
        → HasRowBytes shape new (with_votes (has_row ballot) voted (bytes_of shape old))
    votes_set voted ps old one new placed long within voting votes g t lt lt' =
        let before : bytes_of shape one g t ≡ bytes_of shape old g t = range_away (places_of shape ps) old one (row_at shape g t) 16 within (λ i from below. outside_data shape ps i placed (λ addr small is. row_no_data shape g t addr i lt' small from below is)) in
        ⊎_elim
        (λ has. whole (vote_byte voted) (drop 1 (bytes_of shape old g t)) (bytes_of shape new g t) (length-row shape new long g t lt lt') (votes g t lt lt' has) (body_kept one new voting g t lt' ∙ ap (drop 1) before)
        ∙ sym (cond-true (has_row ballot g t) (vote_byte voted ∷ drop 1 (bytes_of shape old g t)) (bytes_of shape old g t) has))
        (λ lacks. other_kept one new voting g t lt' lacks ∙ before ∙ sym (cond-false (has_row ballot g t) (vote_byte voted ∷ drop 1 (bytes_of shape old g t)) (bytes_of shape old g t) lacks))
        (cases_Bool (has_row ballot g t))

    -- votes that were cast and cleared again
    pub cleared_again : (cells : List Cells) (old mid new : List ℕ) → HasRowBytes shape mid (with_rows ballot cells true (bytes_of shape old)) → HasRowBytes shape new (with_votes (has_row ballot) false (bytes_of shape mid)) → HasRowBytes shape new (with_rows ballot cells false (bytes_of shape old))
    cleared_again cells old mid new cast cleared g t lt lt' = by (has_row ballot g t) (cast g t lt lt') (cleared g t lt lt')
      where
        by : (b : Bool) → bytes_of shape mid g t ≡ cond b (row_bytes (row_with ballot cells true g t)) (bytes_of shape old g t) → bytes_of shape new g t ≡ cond b (vote_byte false ∷ drop 1 (bytes_of shape mid g t)) (bytes_of shape mid g t)
            → bytes_of shape new g t ≡ cond b (row_bytes (row_with ballot cells false g t)) (bytes_of shape old g t)
        by true is now = now ∙ ap (λ (xs : List ℕ). vote_byte false ∷ drop 1 xs) is
        by false is now = now ∙ is

    -- no logger takes part
    pub no_rows : (cells : List Cells) (voted : Bool) (image : List ℕ) → ballot.mask ≡ 0 → HasRowBytes shape image (with_rows ballot cells voted (bytes_of shape image))
    no_rows cells voted image empty g t lt lt' = sym (cond-false (has_row ballot g t) (row_bytes (row_with ballot cells voted g t)) (bytes_of shape image g t)
        (and_left (has ballot.mask g) (has ballot.group t) (ne_eqb (bit_at ballot.mask g) 1 (λ one. omega (arith, ap (λ (m : ℕ). bit_at m g) empty, bit_at-zero g, one)))))
