-- Votes that are cleared in an image whose data is already what it settles to: those of rows that are not decided, and those of the
-- decided rows with the lowest order number. What is left at each logger is a suffix of what was there.
use Rattle.std.proofs.Common.{◌≡◌, ◌≢◌, ℕ, ◌+◌, ◌-◌, ◌<◌, ◌≤◌, ◌⊎◌, inl, inr, ⊎_elim, Bool, true, false, not, List, [], ◌++◌, length, sym, ◌∙◌, ap, subst, append_assoc, append-nil, arith}
use Rattle.std.specs.Prelude.{nat_eq}
use Rattle.std.specs.Cmp.{both_ways}
use Rattle.std.proofs.lemmas.Bool.{cases_Bool, cases_eq, and_parts, and_from, eq-eqb, eqb-true, false≢true, false_from_ne_true, not_from_true}
use Rattle.pcm_media.specs.Images.{SameOutside}
use Rattle.array_shape.specs.declared.shape.Shape.{Shape}
use Rattle.array_shape.specs.Places.{data_len}
use Rattle.array_shape.specs.Logged.{Part, applied, AllFit, AllOwned, AllPlaced, parts_at}
use Rattle.row_bytes.specs.declared.ballot.Ballot.{Ballot}
use Rattle.array_image.specs.Joined.{joined}
use Rattle.array_image.proofs.Applied.{applied_twice, applied-append, length-applied}
use Rattle.array_image.proofs.Data.{length-data_of, all_fit, all_placed, joined_placed, all_placed-append}
use Rattle.array_image.proofs.Joined.{joined_none, joined_same, joined_first}
use Rattle.array_image.proofs.Orders.{applied_any_order, parts_at-joined, parts_at-append}
use Rattle.array_image.specs.Image.{row_of}
use Rattle.array_shape.specs.NumberSet.{has}
use Rattle.row_bytes.specs.Ballots.{ballot_of}
use Rattle.array_image.specs.Decided.{decided, decided_as, decided_parts, order_parts, all_decided, orders}
use Rattle.array_image.specs.Standing.{IsLawful, IsSettled}
use Rattle.array_image.specs.Votes.{dropped, votes_of}
use Rattle.array_image.proofs.Deciding.{decided_has, decided_carried, decided_voted, decided_still, carried_decides}
use Rattle.array_image.proofs.Parts.{no_parts, no_order_parts, find_one, order_placed, at_logger, own_at}
use Rattle.array_image.proofs.Rows.{SameRest, rest_ballot}
use Rattle.array_image.proofs.Frames.{torn_cells, torn_data, torn_rest, torn_kept}
use Rattle.array_image.proofs.Recovery.{same_parts, still_lawful}

-- what is left of parts that change nothing changes nothing, if what was lost went before
pub rest_changes_nothing : (xs qs : List Part) (d : List ℕ) → AllFit (length d) xs → AllFit (length d) qs → applied (xs ++ qs) d ≡ d → applied qs d ≡ d
rest_changes_nothing xs qs d fit fit' already =
    let all = sym (applied-append xs qs d) ∙ already in
    ap (applied qs) (sym all) ∙ applied_twice qs (applied xs d) (subst (λ n. AllFit n qs) (sym (length-applied xs d fit)) fit') ∙ all

module _ (shape : Shape) (test : ℕ → ℕ → Bool) (old new : List ℕ) (same : SameOutside (votes_of shape test) old new) (d : List ℕ) (settled : IsSettled shape d old) (o : ℕ) (small : o < orders)
    (voted : (g t : ℕ) → g < shape.loggers → t < shape.numbers → test g t ≡ true → (row_of shape old g t).voted ≡ true)
    (only : (g t : ℕ) → g < shape.loggers → t < shape.numbers → test g t ≡ true → decided shape old g t ≡ true → (row_of shape old g t).order ≡ o)
    (lowest : (g t : ℕ) → g < shape.loggers → t < shape.numbers → decided shape old g t ≡ true → o ≤ (row_of shape old g t).order) where
  rest : (g t : ℕ) → g < shape.loggers → t < shape.numbers → SameRest (row_of shape old g t) (row_of shape new g t)
  rest = torn_rest shape test old new same

  ballots : (g t : ℕ) → g < shape.loggers → t < shape.numbers → ballot_of t (row_of shape new g t) ≡ ballot_of t (row_of shape old g t)
  ballots g t lt lt' = rest_ballot t (row_of shape old g t) (row_of shape new g t) (rest g t lt lt')

  fewer : (g t : ℕ) → g < shape.loggers → t < shape.numbers → (row_of shape new g t).voted ≡ true → (row_of shape old g t).voted ≡ true
  fewer g t lt lt' so = ⊎_elim (λ tested. voted g t lt lt' tested) (λ away. sym (torn_kept shape test old new same g t lt lt' away) ∙ so) (cases_Bool (test g t))

  was_decided : (g t : ℕ) → g < shape.loggers → t < shape.numbers → decided shape new g t ≡ true → decided shape old g t ≡ true
  was_decided g t lt lt' so = decided_still shape.loggers shape.numbers (row_of shape new) (row_of shape old) (λ h u below below'. sym (ballots h u below below')) g t lt lt'
      (λ h u below below' so' is. fewer h u below below' (decided_voted shape.loggers shape.numbers (row_of shape new) h u below below' so')) so

  stays : (g t : ℕ) → g < shape.loggers → t < shape.numbers → (row_of shape old g t).order ≢ o → decided shape old g t ≡ true → decided shape new g t ≡ true
  stays g t lt lt' ne so = decided_still shape.loggers shape.numbers (row_of shape old) (row_of shape new) ballots g t lt lt'
      (λ h u below below' so' is.
      torn_kept shape test old new same h u below below' (false_from_ne_true (test h u) (λ tested. ne (sym (ap (λ (b : Ballot). b.order) is) ∙ only h u below below' tested so')))
      ∙ decided_voted shape.loggers shape.numbers (row_of shape old) h u below below' so') so

  alike : (g t : ℕ) → g < shape.loggers → t < shape.numbers → (row_of shape old g t).order ≢ o → decided shape new g t ≡ decided shape old g t
  alike g t lt lt' ne = both_ways (decided shape new g t) (decided shape old g t) (was_decided g t lt lt') (stays g t lt lt' ne)

  lawful : IsLawful shape new
  lawful = still_lawful shape old new rest (torn_cells shape test old new same) same.long was_decided settled.lawful

  -- the parts of higher order numbers stay
  higher : (i : ℕ) → o < i → order_parts shape new i ≡ order_parts shape old i
  higher i above =
      joined_same (λ t. joined (decided_parts shape new i t) 0 shape.loggers) (λ t. joined (decided_parts shape old i t) 0 shape.loggers) 0 shape.numbers (λ t le' lt'.
      joined_same (decided_parts shape new i t) (decided_parts shape old i t) 0 shape.loggers (λ g le'' lt''.
      same_parts shape old new rest (torn_cells shape test old new same) i t g (omega arith) (omega arith) (settled.lawful.good g t (omega arith) (omega arith)) (λ is. alike g t (omega arith) (omega arith) (λ is'. omega (arith, is, is')))))

  -- those of the lowest one, at one logger
  abbrev low : List ℕ → ℕ → List Part
  low image g = joined (λ t. decided_parts shape image o t g) 0 shape.numbers

  abbrev Left : ℕ → Type 0
  Left g = ((k : ℕ) × (k < shape.numbers) × (decided_as shape new o g k ≡ true)) ⊎ ((k : ℕ) → k < shape.numbers → decided_as shape new o g k ≡ false)

  lost : (g : ℕ) → Left g → List Part
  lost g (inl some) = []
  lost g (inr none) = low old g

  lost_own : (g : ℕ) → g < shape.loggers → (l : Left g) → AllOwned shape g (lost g l)
  unfolding lost
  lost_own g lt (inl some) = tt
  lost_own g lt (inr none) = own_at shape old settled.lawful.long settled.lawful.good o g lt 0 shape.numbers (omega arith)

  -- where one row is left, all are: they have one group
  all_left : (g k t : ℕ) → g < shape.loggers → k < shape.numbers → t < shape.numbers → decided_as shape new o g k ≡ true → (row_of shape old g t).order ≡ o → decided shape old g t ≡ true → decided shape new g t ≡ true
  all_left g k t lt below lt' some order so =
      let both = and_parts (decided shape new g k) (nat_eq (row_of shape new g k).order o) some in
      let order_k = sym (rest g k lt below).order ∙ eqb-true (row_of shape new g k).order o both.1 in
      let one = settled.lawful.one g g k t lt lt below lt' (was_decided g k lt below both.0) so (order_k ∙ sym order) in
      let b = ballot_of k (row_of shape new g k) in
      let has_k = and_parts (has b.mask g) (has b.group k) (decided_has shape.loggers shape.numbers (row_of shape new) g k both.0) in
      let has_t = and_parts (has (ballot_of t (row_of shape old g t)).mask g) (has (ballot_of t (row_of shape old g t)).group t) (decided_has shape.loggers shape.numbers (row_of shape old) g t so) in
      let group : b.group ≡ (ballot_of t (row_of shape old g t)).group = ap (λ (x : Ballot). x.group) (ballots g k lt below) ∙ one in
      carried_decides shape.loggers shape.numbers (row_of shape new) b (decided_carried shape.loggers shape.numbers (row_of shape new) g k both.0) g t lt lt'
      (and_from (has b.mask g) (has b.group t) has_k.0 (ap (λ (n : ℕ). has n t) group ∙ has_t.1))

  lost_before : (g : ℕ) → g < shape.loggers → (l : Left g) → lost g l ++ low new g ≡ low old g
  unfolding lost
  lost_before g lt (inl some) =
      joined_same (λ t. decided_parts shape new o t g) (λ t. decided_parts shape old o t g) 0 shape.numbers (λ t le lt'.
      same_parts shape old new rest (torn_cells shape test old new same) o t g lt (omega arith) (settled.lawful.good g t lt (omega arith))
      (λ order. both_ways (decided shape new g t) (decided shape old g t) (was_decided g t lt (omega arith)) (all_left g some.0 t lt some.1 (omega arith) some.2 order)))
  lost_before g lt (inr none) =
      ap (λ (l : List Part). low old g ++ l) (joined_none (λ t. decided_parts shape new o t g) 0 shape.numbers (λ t le lt'.
      no_parts shape new o t g (λ so is. false≢true (sym (none t (omega arith)) ∙ and_from (decided shape new g t) (nat_eq (row_of shape new g t).order o) so (eq-eqb (row_of shape new g t).order o is)))))
      ∙ append-nil (low old g)

  abbrev upper : List ℕ → List Part
  upper image = joined (order_parts shape image) (o + 1) (0 + orders - (o + 1))

  split : (image : List ℕ) → ((g t : ℕ) → g < shape.loggers → t < shape.numbers → decided shape image g t ≡ true → o ≤ (row_of shape image g t).order) → all_decided shape image ≡ order_parts shape image o ++ upper image
  split image low_est = joined_first (order_parts shape image) 0 orders o (omega arith) (omega arith) (λ i le lt. no_order_parts shape image i (λ g t below below' so is. omega (arith, is, low_est g t below below' so)))

  upper_same : upper new ≡ upper old
  upper_same = joined_same (order_parts shape new) (order_parts shape old) (o + 1) (0 + orders - (o + 1)) (λ i le lt. higher i (omega arith))

  abbrev gone : List Part
  gone = joined (λ g. lost g (find_one shape.numbers (decided_as shape new o g))) 0 shape.loggers

  gone_placed : AllPlaced shape gone
  gone_placed = joined_placed shape (λ g. lost g (find_one shape.numbers (decided_as shape new o g))) 0 shape.loggers (λ g le lt. all_placed shape g (lost g (find_one shape.numbers (decided_as shape new o g))) (lost_own g (omega arith) (find_one shape.numbers (decided_as shape new o g))))

  upper_placed : AllPlaced shape (upper old)
  upper_placed = joined_placed shape (order_parts shape old) (o + 1) (0 + orders - (o + 1)) (λ i le lt. order_placed shape old settled.lawful.long settled.lawful.good i)

  left_placed : AllPlaced shape (order_parts shape new o ++ upper old)
  left_placed = all_placed-append shape (order_parts shape new o) (upper old) (order_placed shape new lawful.long lawful.good o) upper_placed

  here : (g : ℕ) → g < shape.loggers → parts_at shape g (order_parts shape old o ++ upper old) ≡ parts_at shape g (gone ++ (order_parts shape new o ++ upper old))
  here g lt =
      parts_at-append shape g (order_parts shape old o) (upper old)
      ∙ ap (λ (l : List Part). l ++ parts_at shape g (upper old)) (at_logger shape old settled.lawful.long settled.lawful.good o g lt ∙ sym (lost_before g lt (find_one shape.numbers (decided_as shape new o g))))
      ∙ append_assoc (lost g (find_one shape.numbers (decided_as shape new o g))) (low new g) (parts_at shape g (upper old))
      ∙ (λ i. its_lost i ++ (its_low i ++ parts_at shape g (upper old)))
      ∙ ap (λ (l : List Part). parts_at shape g gone ++ l) (sym (parts_at-append shape g (order_parts shape new o) (upper old)))
      ∙ sym (parts_at-append shape g gone (order_parts shape new o ++ upper old))
    where
      its_lost : lost g (find_one shape.numbers (decided_as shape new o g)) ≡ parts_at shape g gone
      its_lost = sym (parts_at-joined shape (λ h. lost h (find_one shape.numbers (decided_as shape new o h))) 0 shape.loggers (λ h le below. lost_own h (omega arith) (find_one shape.numbers (decided_as shape new o h))) g (omega arith) (omega arith))

      its_low : low new g ≡ parts_at shape g (order_parts shape new o)
      its_low = sym (at_logger shape new lawful.long lawful.good o g lt)

  d_long : length d ≡ data_len shape
  d_long = ap length (sym settled.holds) ∙ length-data_of shape old

  fits : (ps : List Part) → AllPlaced shape ps → AllFit (length d) ps
  fits ps placed = subst (λ n. AllFit n ps) (sym d_long) (all_fit shape ps placed)

  nothing_lost : applied (all_decided shape new) d ≡ d
  nothing_lost =
      ap (λ (ps : List Part). applied ps d) (split new (λ g t lt lt' so. omega (arith, (rest g t lt lt').order, lowest g t lt lt' (was_decided g t lt lt' so))) ∙ ap (λ (l : List Part). order_parts shape new o ++ l) upper_same)
      ∙ rest_changes_nothing gone (order_parts shape new o ++ upper old) d (fits gone gone_placed) (fits (order_parts shape new o ++ upper old) left_placed)
      (sym (applied_any_order shape (order_parts shape old o ++ upper old) (gone ++ (order_parts shape new o ++ upper old)) d d_long
      (all_placed-append shape (order_parts shape old o) (upper old) (order_placed shape old settled.lawful.long settled.lawful.good o) upper_placed)
      (all_placed-append shape gone (order_parts shape new o ++ upper old) gone_placed left_placed) here)
      ∙ (λ i. applied (sym (split old lowest) i) (sym settled.holds i)) ∙ settled.gives)

  pub cleared_settled : IsSettled shape d new
  cleared_settled =
      let holds = torn_data shape test old new same ∙ settled.holds in
      record { lawful = lawful; holds = holds; gives = ap (applied (all_decided shape new)) holds ∙ nothing_lost }

some_orders : 0 < orders
unfolding orders
some_orders = omega arith

-- the votes of rows that are not decided
pub dropped_settled : (shape : Shape) (d old new : List ℕ) → IsSettled shape d old → SameOutside (votes_of shape (dropped shape old)) old new → IsSettled shape d new
dropped_settled shape d old new settled same = cleared_settled shape (dropped shape old) old new same d settled 0 some_orders
    (λ g t lt lt' so. (and_parts (row_of shape old g t).voted (not (decided shape old g t)) so).0)
    (λ g t lt lt' so so'. absurd (false≢true (sym (not_from_true (decided shape old g t) so') ∙ (and_parts (row_of shape old g t).voted (not (decided shape old g t)) so).1)))
    (λ g t lt lt' so. omega arith)

-- the votes of the decided rows with the lowest order number
pub lowest_settled : (shape : Shape) (o : ℕ) (d old new : List ℕ) → o < orders → IsSettled shape d old → ((g t : ℕ) → g < shape.loggers → t < shape.numbers → decided shape old g t ≡ true → o ≤ (row_of shape old g t).order)
    → SameOutside (votes_of shape (decided_as shape old o)) old new → IsSettled shape d new
lowest_settled shape o d old new small settled lowest same = cleared_settled shape (decided_as shape old o) old new same d settled o small
    (λ g t lt lt' so. decided_voted shape.loggers shape.numbers (row_of shape old) g t lt lt' (and_parts (decided shape old g t) (nat_eq (row_of shape old g t).order o) so).0)
    (λ g t lt lt' so so'. eqb-true (row_of shape old g t).order o (and_parts (decided shape old g t) (nat_eq (row_of shape old g t).order o) so).1)
    lowest

-- once all of them are cleared, the decided rows that are left have higher order numbers
pub higher_left : (shape : Shape) (o : ℕ) (old new : List ℕ) → SameOutside (votes_of shape (decided_as shape old o)) old new → ((g t : ℕ) → g < shape.loggers → t < shape.numbers → decided shape old g t ≡ true → o ≤ (row_of shape old g t).order)
    → ((g t : ℕ) → g < shape.loggers → t < shape.numbers → decided_as shape old o g t ≡ true → (row_of shape new g t).voted ≡ false) → (g t : ℕ) → g < shape.loggers → t < shape.numbers → decided shape new g t ≡ true → o + 1 ≤ (row_of shape new g t).order
higher_left shape o old new same lowest none g t lt lt' so =
    let test = decided_as shape old o in
    let fewer : (h u : ℕ) → h < shape.loggers → u < shape.numbers → (row_of shape new h u).voted ≡ true → (row_of shape old h u).voted ≡ true = λ h u below below' so'. ⊎_elim
    (λ tested. absurd (false≢true (sym (none h u below below' tested) ∙ so')))
    (λ away. sym (torn_kept shape test old new same h u below below' away) ∙ so')
    (cases_Bool (test h u)) in
    let was : decided shape old g t ≡ true = decided_still shape.loggers shape.numbers (row_of shape new) (row_of shape old)
    (λ h u below below'. sym (rest_ballot u (row_of shape old h u) (row_of shape new h u) (torn_rest shape test old new same h u below below'))) g t lt lt'
    (λ h u below below' so' is. fewer h u below below' (decided_voted shape.loggers shape.numbers (row_of shape new) h u below below' so')) so in
    let order = (torn_rest shape test old new same g t lt lt').order in
    ⊎_elim
    (λ is. absurd (false≢true (sym (none g t lt lt' (and_from (decided shape old g t) (nat_eq (row_of shape old g t).order o) was (eq-eqb (row_of shape old g t).order o is))) ∙ decided_voted shape.loggers shape.numbers (row_of shape new) g t lt lt' so)))
    (λ ne. omega (arith, lowest g t lt lt' was, order))
    (cases_eq (row_of shape old g t).order o)
