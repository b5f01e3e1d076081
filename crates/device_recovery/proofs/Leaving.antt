-- The rows of a table, of which some votes are cleared.
use Rattle.std.proofs.Common.{◌≡◌, ℕ, ◌+◌, ◌<◌, ◌≤◌, Bool, true, false, not, ◌&&◌, ⊎_elim, cond, List, [], ◌∷◌, refl, sym, ◌∙◌, ap, arith}
use Rattle.std.specs.Prelude.{nat_eq, nat_le}
use Rattle.std.specs.Cmp.{both_ways}
use Rattle.std.proofs.lemmas.Bool.{cases_Bool, cases_eq, and_parts, and_from, and_left, and_right, eq-eqb, eqb-true, false≢true, false_from_ne_true, not_from_false, not-true, le-leb, leb-true, lt-leb}
use Rattle.pcm_media.specs.Images.{SameOutside}
use Rattle.array_shape.specs.declared.shape.Shape.{Shape}
use Rattle.array_shape.specs.Places.{row_at}
use Rattle.row_bytes.specs.declared.row.Row.{Row}
use Rattle.row_bytes.specs.declared.ballot.Ballot.{Ballot}
use Rattle.row_bytes.specs.Ballots.{ballot_of}
use Rattle.array_image.specs.Image.{row_of}
use Rattle.array_image.specs.Joined.{joined}
use Rattle.array_image.specs.Decided.{decided, decided_as}
use Rattle.array_image.specs.Votes.{votes_of}
use Rattle.array_image.proofs.Joined.{joined_same}
use Rattle.array_image.proofs.Deciding.{decided_still, decided_voted}
use Rattle.array_image.proofs.Rows.{SameRest}
use Rattle.array_image.proofs.Frames.{torn_rest, torn_kept}
use Rattle.device_recovery.specs.declared.which.Which.TheVariants.{Dropped, DecidedAs}
use Rattle.device_recovery.specs.Table.{row_in, RowsAre, RowsLeft, decided_in, is_one_of}
use Rattle.device_recovery.specs.Recovered.{HasNoVote}

-- tests that take the same rows
pub same_votes : (shape : Shape) (test other : ℕ → ℕ → Bool) → ((g t : ℕ) → g < shape.loggers → t < shape.numbers → test g t ≡ other g t) → votes_of shape test ≡ votes_of shape other
same_votes shape test other same =
    joined_same (λ t. joined (λ g. cond (test g t) ((row_at shape g t, 1) ∷ []) []) 0 shape.loggers) (λ t. joined (λ g. cond (other g t) ((row_at shape g t, 1) ∷ []) []) 0 shape.loggers) 0 shape.numbers (λ t le lt'.
    joined_same (λ g. cond (test g t) ((row_at shape g t, 1) ∷ []) []) (λ g. cond (other g t) ((row_at shape g t, 1) ∷ []) []) 0 shape.loggers (λ g le' lt.
    ap (λ (b : Bool). cond b ((row_at shape g t, 1) ∷ []) []) (same g t (omega arith) (omega arith))))

-- a row that is another but for its vote
row_with : (old new : Row) (voted : Bool) → new.voted ≡ voted → SameRest old new → new ≡ record old { voted = voted }
row_with old new voted vote rest = (λ i. record { voted = vote i; mask = rest.mask i; first = rest.first i; count = rest.count i; group = rest.group i; order = rest.order i })

module _ (shape : Shape) (rows : List Row) where
  -- the vote that is left to a row
  abbrev kept : ℕ → ℕ → ℕ → Bool
  kept from g t = decided_in shape rows g t && nat_le from (row_in rows g t).order

  module _ (image : List ℕ) (from : ℕ) (left : RowsLeft shape image rows from) where
    left_voted : (g t : ℕ) → g < shape.loggers → t < shape.numbers → (row_of shape image g t).voted ≡ kept from g t
    left_voted g t lt lt' = ap (λ (r : Row). r.voted) (left g t lt lt')

    left_order : (g t : ℕ) → g < shape.loggers → t < shape.numbers → (row_of shape image g t).order ≡ (row_in rows g t).order
    left_order g t lt lt' = ap (λ (r : Row). r.order) (left g t lt lt')

    left_decided : (g t : ℕ) → g < shape.loggers → t < shape.numbers → decided shape image g t ≡ kept from g t
    left_decided g t lt lt' = both_ways (decided shape image g t) (kept from g t)
        (λ so. sym (left_voted g t lt lt') ∙ decided_voted shape.loggers shape.numbers (row_of shape image) g t lt lt' so)
        (λ so.
        let both = and_parts (decided_in shape rows g t) (nat_le from (row_in rows g t).order) so in
        decided_still shape.loggers shape.numbers (row_in rows) (row_of shape image) (λ h u below below'. ap (ballot_of u) (left h u below below')) g t lt lt'
        (λ h u below below' so' is.
        left_voted h u below below'
        ∙ and_from (decided_in shape rows h u) (nat_le from (row_in rows h u).order) so' (ap (λ (b : Ballot). nat_le from b.order) is ∙ both.1)) both.0)

    -- which are the lowest of those that are decided
    pub left_lowest : (g t : ℕ) → g < shape.loggers → t < shape.numbers → decided shape image g t ≡ true → from ≤ (row_of shape image g t).order
    left_lowest g t lt lt' so =
        let both = and_parts (decided_in shape rows g t) (nat_le from (row_in rows g t).order) (sym (left_decided g t lt lt') ∙ so) in
        omega (arith, left_order g t lt lt', leb-true from (row_in rows g t).order both.1)

    left_as : (g t : ℕ) → g < shape.loggers → t < shape.numbers → decided_as shape image from g t ≡ is_one_of shape rows (DecidedAs from) g t
    left_as g t lt lt' =
        let order = left_order g t lt lt' in
        both_ways (decided_as shape image from g t) (is_one_of shape rows (DecidedAs from) g t)
        (λ so.
        let both = and_parts (decided shape image g t) (nat_eq (row_of shape image g t).order from) so in
        and_from (decided_in shape rows g t) (nat_eq (row_in rows g t).order from)
        (and_parts (decided_in shape rows g t) (nat_le from (row_in rows g t).order) (sym (left_decided g t lt lt') ∙ both.0)).0
        (ap (λ (n : ℕ). nat_eq n from) (sym order) ∙ both.1))
        (λ so.
        let both = and_parts (decided_in shape rows g t) (nat_eq (row_in rows g t).order from) so in
        let is = eqb-true (row_in rows g t).order from both.1 in
        and_from (decided shape image g t) (nat_eq (row_of shape image g t).order from)
        (left_decided g t lt lt' ∙ and_from (decided_in shape rows g t) (nat_le from (row_in rows g t).order) both.0 (le-leb from (row_in rows g t).order (omega (arith, is))))
        (ap (λ (n : ℕ). nat_eq n from) order ∙ both.1))

    pub left_votes : votes_of shape (is_one_of shape rows (DecidedAs from)) ≡ votes_of shape (decided_as shape image from)
    left_votes = same_votes shape (is_one_of shape rows (DecidedAs from)) (decided_as shape image from) (λ g t lt lt'. sym (left_as g t lt lt'))

    pub raised : (order : ℕ) → from ≤ order → ((g t : ℕ) → g < shape.loggers → t < shape.numbers → decided_in shape rows g t ≡ true → from ≤ (row_in rows g t).order → order ≤ (row_in rows g t).order) → RowsLeft shape image rows order
    raised order le least g t lt lt' = left g t lt lt' ∙ (λ i. let row : Row = row_in rows g t in record row { voted = vote i })
      where
        vote : kept from g t ≡ kept order g t
        vote = both_ways (kept from g t) (kept order g t)
            (λ so.
            let both = and_parts (decided_in shape rows g t) (nat_le from (row_in rows g t).order) so in
            and_from (decided_in shape rows g t) (nat_le order (row_in rows g t).order) both.0 (le-leb order (row_in rows g t).order (least g t lt lt' both.0 (leb-true from (row_in rows g t).order both.1))))
            (λ so.
            let both = and_parts (decided_in shape rows g t) (nat_le order (row_in rows g t).order) so in
            and_from (decided_in shape rows g t) (nat_le from (row_in rows g t).order) both.0 (le-leb from (row_in rows g t).order (omega (arith, le, leb-true order (row_in rows g t).order both.1))))

    -- none are left
    pub none_left : ((g t : ℕ) → g < shape.loggers → t < shape.numbers → decided_in shape rows g t ≡ true → (row_in rows g t).order < from) → HasNoVote shape image
    none_left none g t lt lt' = left_voted g t lt lt' ∙ false_from_ne_true (kept from g t) (λ so.
        let both = and_parts (decided_in shape rows g t) (nat_le from (row_in rows g t).order) so in
        omega (arith, none g t lt lt' both.0, leb-true from (row_in rows g t).order both.1))

  -- once the votes of the lowest are cleared
  pub cleared_left : (order : ℕ) (old new : List ℕ) → RowsLeft shape old rows order → SameOutside (votes_of shape (is_one_of shape rows (DecidedAs order))) old new
      → ((g t : ℕ) → g < shape.loggers → t < shape.numbers → is_one_of shape rows (DecidedAs order) g t ≡ true → (row_of shape new g t).voted ≡ false) → RowsLeft shape new rows (order + 1)
  cleared_left order old new left same cleared g t lt lt' = row_with (row_in rows g t) (row_of shape new g t) (kept (order + 1) g t) vote rest
    where
      rest : SameRest (row_in rows g t) (row_of shape new g t)
      rest =
          let torn = torn_rest shape (is_one_of shape rows (DecidedAs order)) old new same g t lt lt' in
          let was = left g t lt lt' in
          record {
            mask = torn.mask ∙ ap (λ (r : Row). r.mask) was;
            first = torn.first ∙ ap (λ (r : Row). r.first) was;
            count = torn.count ∙ ap (λ (r : Row). r.count) was;
            group = torn.group ∙ ap (λ (r : Row). r.group) was;
            order = torn.order ∙ ap (λ (r : Row). r.order) was;
          }

      vote : (row_of shape new g t).voted ≡ kept (order + 1) g t
      vote = ⊎_elim
          (λ so.
          let is = eqb-true (row_in rows g t).order order (and_parts (decided_in shape rows g t) (nat_eq (row_in rows g t).order order) so).1 in
          cleared g t lt lt' so ∙ sym (and_right (decided_in shape rows g t) (nat_le (order + 1) (row_in rows g t).order) (lt-leb (order + 1) (row_in rows g t).order (omega (arith, is)))))
          (λ away. torn_kept shape (is_one_of shape rows (DecidedAs order)) old new same g t lt lt' away ∙ left_voted old order left g t lt lt' ∙ both_ways (kept order g t) (kept (order + 1) g t)
          (λ so.
          let both = and_parts (decided_in shape rows g t) (nat_le order (row_in rows g t).order) so in
          let le = leb-true order (row_in rows g t).order both.1 in
          and_from (decided_in shape rows g t) (nat_le (order + 1) (row_in rows g t).order) both.0 (le-leb (order + 1) (row_in rows g t).order (⊎_elim
          (λ is. absurd (false≢true (sym away ∙ and_from (decided_in shape rows g t) (nat_eq (row_in rows g t).order order) both.0 (eq-eqb (row_in rows g t).order order is))))
          (λ ne. omega (arith, le, ne)) (cases_eq (row_in rows g t).order order))))
          (λ so.
          let both = and_parts (decided_in shape rows g t) (nat_le (order + 1) (row_in rows g t).order) so in
          and_from (decided_in shape rows g t) (nat_le order (row_in rows g t).order) both.0 (le-leb order (row_in rows g t).order (omega (arith, leb-true (order + 1) (row_in rows g t).order both.1)))))
          (cases_Bool ((is_one_of shape rows (DecidedAs order)) g t))

  -- once the votes of the rows that are not decided are cleared
  pub dropped_left : (old new : List ℕ) → RowsAre shape old shape.numbers rows → SameOutside (votes_of shape (is_one_of shape rows Dropped)) old new
      → ((g t : ℕ) → g < shape.loggers → t < shape.numbers → is_one_of shape rows Dropped g t ≡ true → (row_of shape new g t).voted ≡ false) → RowsLeft shape new rows 0
  dropped_left old new are same cleared g t lt lt' = row_with (row_in rows g t) (row_of shape new g t) (kept 0 g t) vote rest
    where
      rest : SameRest (row_in rows g t) (row_of shape new g t)
      rest =
          let torn = torn_rest shape (is_one_of shape rows Dropped) old new same g t lt lt' in
          let was = sym (are g t lt lt') in
          record {
            mask = torn.mask ∙ ap (λ (r : Row). r.mask) was;
            first = torn.first ∙ ap (λ (r : Row). r.first) was;
            count = torn.count ∙ ap (λ (r : Row). r.count) was;
            group = torn.group ∙ ap (λ (r : Row). r.group) was;
            order = torn.order ∙ ap (λ (r : Row). r.order) was;
          }

      vote : (row_of shape new g t).voted ≡ kept 0 g t
      vote = ⊎_elim
          (λ so.
          let undecided = not-true (decided_in shape rows g t) (and_parts (row_in rows g t).voted (not (decided_in shape rows g t)) so).1 in
          cleared g t lt lt' so ∙ sym (and_left (decided_in shape rows g t) (nat_le 0 (row_in rows g t).order) undecided))
          (λ away. torn_kept shape (is_one_of shape rows Dropped) old new same g t lt lt' away ∙ ap (λ (r : Row). r.voted) (sym (are g t lt lt')) ∙ both_ways (row_in rows g t).voted (kept 0 g t)
          (λ so. ⊎_elim
          (λ is. and_from (decided_in shape rows g t) (nat_le 0 (row_in rows g t).order) is (le-leb 0 (row_in rows g t).order (omega arith)))
          (λ is_not. absurd (false≢true (sym away ∙ and_from (row_in rows g t).voted (not (decided_in shape rows g t)) so (not_from_false (decided_in shape rows g t) is_not))))
          (cases_Bool (decided_in shape rows g t)))
          (λ so. decided_voted shape.loggers shape.numbers (row_in rows) g t lt lt' (and_parts (decided_in shape rows g t) (nat_le 0 (row_in rows g t).order) so).0))
          (cases_Bool ((is_one_of shape rows Dropped) g t))

  -- where there are none
  pub none_dropped : (image : List ℕ) → RowsAre shape image shape.numbers rows → ((g t : ℕ) → g < shape.loggers → t < shape.numbers → is_one_of shape rows Dropped g t ≡ false) → RowsLeft shape image rows 0
  none_dropped image are none = dropped_left image image are (record { long = refl; same = λ i out. refl }) (λ g t lt lt' so. absurd (false≢true (sym (none g t lt lt') ∙ so)))
