-- What a carried ballot says, and which rows it decides.
use Rattle.std.proofs.Common.{◌≡◌, ℕ, zero, suc, ◌+◌, ◌^◌, ◌<◌, ◌≤◌, List, [], ◌∷◌, Bool, true, false, not, ◌&&◌, ◌||◌, ⊎_elim, refl, sym, ◌∙◌, ap, subst, arith}
use Rattle.std.specs.Prelude.{nat_eq, nat_lt}
use Rattle.std.specs.List.{list_all, list_any, range_with_len}
use Rattle.std.specs.Cmp.{both_ways}
use Rattle.std.proofs.lemmas.Bool.{and_left, and_right, and_parts, cases_eq, and_from, eq-eqb, eqb-true, lt-ltb, ltb-true, false≢true, false_from_ne_true}
use Rattle.row_bytes.specs.declared.row.Row.{Row}
use Rattle.row_bytes.specs.declared.ballot.Ballot.{Ballot}
use Rattle.row_bytes.specs.Ballots.{ballot_of, has_row, same_ballot}
use Rattle.array_image.specs.Decided.{all_below, agrees, carried, decides}

-- a test of the n numbers from a on holds for all of them, or fails for one,
module _ (p : ℕ → Bool) where
  on_all : (a n : ℕ) → ((k : ℕ) → a ≤ k → k < a + n → p k ≡ true) → list_all p (range_with_len a n) ≡ true
  on_all a zero f = refl
  on_all a (suc n) f = and_from (p a) (list_all p (range_with_len (a + 1) n)) (f a (omega arith) (omega arith)) (on_all (a + 1) n (λ k le lt. f k (omega arith) (omega arith)))

  on_none : (a n k : ℕ) → a ≤ k → k < a + n → p k ≡ false → list_all p (range_with_len a n) ≡ false
  on_none a zero k le lt fails = absurd (omega arith)
  on_none a (suc n) k le lt fails = ⊎_elim
      (λ is. and_left (p a) (list_all p (range_with_len (a + 1) n)) (ap p is ∙ fails))
      (λ ne. and_right (p a) (list_all p (range_with_len (a + 1) n)) (on_none (a + 1) n k (omega arith) (omega arith) fails))
      (cases_eq a k)

  on_each : (a n k : ℕ) → list_all p (range_with_len a n) ≡ true → a ≤ k → k < a + n → p k ≡ true
  on_each a zero k all le lt = absurd (omega arith)
  on_each a (suc n) k all le lt =
      let both = and_parts (p a) (list_all p (range_with_len (a + 1) n)) all in
      ⊎_elim (λ is. ap p (sym is) ∙ both.0) (λ ne. on_each (a + 1) n k both.1 (omega arith) (omega arith)) (cases_eq a k)

  -- and it holds for some of them unless it fails for all
  pub any_is : (xs : List ℕ) → list_any p xs ≡ not (list_all (λ k. not (p k)) xs)
  any_is [] = refl
  any_is (x ∷ xs) = ap (λ b. p x || b) (any_is xs) ∙ by (p x) (list_all (λ k. not (p k)) xs)
    where
      by : (a b : Bool) → (a || not b) ≡ not (not a && b)
      by true b = refl
      by false b = refl

pub all_from : (n : ℕ) (p : ℕ → Bool) → ((k : ℕ) → k < n → p k ≡ true) → all_below n p ≡ true
all_from n p f = on_all p 0 n (λ k le lt. f k (omega arith))

pub none_from : (n : ℕ) (p : ℕ → Bool) (k : ℕ) → k < n → p k ≡ false → all_below n p ≡ false
none_from n p k lt fails = on_none p 0 n k (omega arith) (omega arith) fails

pub implied : (a b : Bool) → (a ≡ true → b ≡ true) → (not a || b) ≡ true
implied true b f = f refl
implied false b f = refl

pub denied : (a b : Bool) → a ≡ true → b ≡ false → (not a || b) ≡ false
denied a b is fails = ap (λ c. not c || b) is ∙ fails

pub all_at : (n : ℕ) (p : ℕ → Bool) → all_below n p ≡ true → (k : ℕ) → k < n → p k ≡ true
all_at n p all k lt = on_each p 0 n k all (omega arith) (omega arith)

holds_where : (a b : Bool) → (not a || b) ≡ true → a ≡ true → b ≡ true
holds_where true b so is = so
holds_where false b so is = absurd (false≢true is)

ballots_same : (a b : Ballot) → same_ballot a b ≡ true → a ≡ b
ballots_same a b so =
    let two = and_parts (nat_eq a.mask b.mask && nat_eq a.group b.group) (nat_eq a.order b.order) so in
    let one = and_parts (nat_eq a.mask b.mask) (nat_eq a.group b.group) two.0 in
    let mask = eqb-true a.mask b.mask one.0 in
    let group = eqb-true a.group b.group one.1 in
    let order = eqb-true a.order b.order two.1 in
    (λ i. record { mask = mask i; group = group i; order = order i })

same_ballots : (a b : Ballot) → a ≡ b → same_ballot a b ≡ true
same_ballots a b is = and_from (nat_eq a.mask b.mask && nat_eq a.group b.group) (nat_eq a.order b.order)
    (and_from (nat_eq a.mask b.mask) (nat_eq a.group b.group) (eq-eqb a.mask b.mask (ap (λ (x : Ballot). x.mask) is)) (eq-eqb a.group b.group (ap (λ (x : Ballot). x.group) is)))
    (eq-eqb a.order b.order (ap (λ (x : Ballot). x.order) is))

-- the ballot has only loggers and numbers of the array, and its rows are voted with it
pub record IsCarried (loggers numbers : ℕ) (rows : ℕ → ℕ → Row) (b : Ballot) : Type 0 where
  pub small_mask : b.mask < 2 ^ loggers
  pub small_group : b.group < 2 ^ numbers
  pub voted : (g t : ℕ) → g < loggers → t < numbers → has_row b g t ≡ true → (rows g t).voted ≡ true
  pub same : (g t : ℕ) → g < loggers → t < numbers → has_row b g t ≡ true → ballot_of t (rows g t) ≡ b

module _ (loggers numbers : ℕ) where
  module _ (rows : ℕ → ℕ → Row) where
    pub carried_means : (b : Ballot) → carried loggers numbers rows b ≡ true → IsCarried loggers numbers rows b
    unfolding carried
    carried_means b so =
        let two = and_parts (nat_lt b.mask (2 ^ loggers) && nat_lt b.group (2 ^ numbers)) (all_below numbers (λ t. all_below loggers (λ g. agrees b rows g t))) so in
        let one = and_parts (nat_lt b.mask (2 ^ loggers)) (nat_lt b.group (2 ^ numbers)) two.0 in
        let each : (g t : ℕ) → g < loggers → t < numbers → has_row b g t ≡ true → ((rows g t).voted && same_ballot (ballot_of t (rows g t)) b) ≡ true =
        λ g t lt lt' has. holds_where (has_row b g t) ((rows g t).voted && same_ballot (ballot_of t (rows g t)) b) (all_at loggers (λ h. agrees b rows h t) (all_at numbers (λ u. all_below loggers (λ h. agrees b rows h u)) two.1 t lt') g lt) has in
        record {
          small_mask = ltb-true b.mask (2 ^ loggers) one.0;
          small_group = ltb-true b.group (2 ^ numbers) one.1;
          voted = λ g t lt lt' has. (and_parts (rows g t).voted (same_ballot (ballot_of t (rows g t)) b) (each g t lt lt' has)).0;
          same = λ g t lt lt' has. ballots_same (ballot_of t (rows g t)) b (and_parts (rows g t).voted (same_ballot (ballot_of t (rows g t)) b) (each g t lt lt' has)).1;
        }

    pub carried_from : (b : Ballot) → IsCarried loggers numbers rows b → carried loggers numbers rows b ≡ true
    unfolding carried
    carried_from b is = and_from (nat_lt b.mask (2 ^ loggers) && nat_lt b.group (2 ^ numbers)) (all_below numbers (λ t. all_below loggers (λ g. agrees b rows g t)))
        (and_from (nat_lt b.mask (2 ^ loggers)) (nat_lt b.group (2 ^ numbers)) (lt-ltb b.mask (2 ^ loggers) is.small_mask) (lt-ltb b.group (2 ^ numbers) is.small_group))
        (all_from numbers (λ t. all_below loggers (λ g. agrees b rows g t)) (λ t lt'. all_from loggers (λ g. agrees b rows g t) (λ g lt.
        implied (has_row b g t) ((rows g t).voted && same_ballot (ballot_of t (rows g t)) b) (λ has.
        and_from (rows g t).voted (same_ballot (ballot_of t (rows g t)) b) (is.voted g t lt lt' has) (same_ballots (ballot_of t (rows g t)) b (is.same g t lt lt' has))))))

    -- a decided row: its ballot has it, and is carried
    pub decided_has : (g t : ℕ) → decides loggers numbers rows g t ≡ true → has_row (ballot_of t (rows g t)) g t ≡ true
    decided_has g t so = (and_parts (has_row (ballot_of t (rows g t)) g t) (carried loggers numbers rows (ballot_of t (rows g t))) so).0

    pub decided_carried : (g t : ℕ) → decides loggers numbers rows g t ≡ true → IsCarried loggers numbers rows (ballot_of t (rows g t))
    decided_carried g t so = carried_means (ballot_of t (rows g t)) (and_parts (has_row (ballot_of t (rows g t)) g t) (carried loggers numbers rows (ballot_of t (rows g t))) so).1

    pub decided_voted : (g t : ℕ) → g < loggers → t < numbers → decides loggers numbers rows g t ≡ true → (rows g t).voted ≡ true
    decided_voted g t lt lt' so = (decided_carried g t so).voted g t lt lt' (decided_has g t so)

    pub not_decided : (g t : ℕ) → g < loggers → t < numbers → (rows g t).voted ≡ false → decides loggers numbers rows g t ≡ false
    not_decided g t lt lt' not_so = false_from_ne_true (decides loggers numbers rows g t) (λ so. false≢true (sym not_so ∙ decided_voted g t lt lt' so))

    -- each row of a carried ballot is decided
    pub carried_decides : (b : Ballot) → IsCarried loggers numbers rows b → (g t : ℕ) → g < loggers → t < numbers → has_row b g t ≡ true → decides loggers numbers rows g t ≡ true
    carried_decides b is g t lt lt' has =
        subst (λ a. (has_row a g t && carried loggers numbers rows a) ≡ true) (sym (is.same g t lt lt' has)) (and_from (has_row b g t) (carried loggers numbers rows b) has (carried_from b is))

  -- A row that is decided stays so where its ballot's rows keep what they say and their votes.
  module _ (rows others : ℕ → ℕ → Row) (ballots : (g t : ℕ) → g < loggers → t < numbers → ballot_of t (others g t) ≡ ballot_of t (rows g t)) where
    pub carried_still : (b : Ballot) → ((h u : ℕ) → h < loggers → u < numbers → has_row b h u ≡ true → (others h u).voted ≡ true) → IsCarried loggers numbers rows b → IsCarried loggers numbers others b
    carried_still b votes is = record {
      small_mask = is.small_mask;
      small_group = is.small_group;
      voted = votes;
      same = λ g t lt lt' has. ballots g t lt lt' ∙ is.same g t lt lt' has;
    }

    pub decided_still : (g t : ℕ) → g < loggers → t < numbers → ((h u : ℕ) → h < loggers → u < numbers → decides loggers numbers rows h u ≡ true → ballot_of u (rows h u) ≡ ballot_of t (rows g t) → (others h u).voted ≡ true)
        → decides loggers numbers rows g t ≡ true → decides loggers numbers others g t ≡ true
    decided_still g t lt lt' votes so =
        let b = ballot_of t (rows g t) in
        let is = decided_carried rows g t so in
        carried_decides others b (carried_still b (λ h u below below' has. votes h u below below' (carried_decides rows b is h u below below' has) (is.same h u below below' has)) is) g t lt lt' (decided_has rows g t so)

  -- rows that say the same are decided alike
  pub decides_same : (rows others : ℕ → ℕ → Row) → ((g t : ℕ) → g < loggers → t < numbers → others g t ≡ rows g t) → (g t : ℕ) → g < loggers → t < numbers → decides loggers numbers others g t ≡ decides loggers numbers rows g t
  decides_same rows others same g t lt lt' = both_ways (decides loggers numbers others g t) (decides loggers numbers rows g t)
      (decided_still others rows (λ h u below below'. ap (ballot_of u) (sym (same h u below below'))) g t lt lt' (λ h u below below' so is. ap (λ (r : Row). r.voted) (sym (same h u below below')) ∙ decided_voted others h u below below' so))
      (decided_still rows others (λ h u below below'. ap (ballot_of u) (same h u below below')) g t lt lt' (λ h u below below' so is. ap (λ (r : Row). r.voted) (same h u below below') ∙ decided_voted rows h u below below' so))

  -- a row that is decided stays so if each voted row says the same
  pub decided_where_voted : (rows others : ℕ → ℕ → Row) → ((g t : ℕ) → g < loggers → t < numbers → (rows g t).voted ≡ true → others g t ≡ rows g t) → (g t : ℕ) → g < loggers → t < numbers → decides loggers numbers rows g t ≡ true → decides loggers numbers others g t ≡ true
  decided_where_voted rows others same g t lt lt' so =
      let b = ballot_of t (rows g t) in
      let is = decided_carried rows g t so in
      carried_decides others b (record {
        small_mask = is.small_mask;
        small_group = is.small_group;
        voted = λ h u below below' has. ap (λ (r : Row). r.voted) (same h u below below' (is.voted h u below below' has)) ∙ is.voted h u below below' has;
        same = λ h u below below' has. ap (ballot_of u) (same h u below below' (is.voted h u below below' has)) ∙ is.same h u below below' has;
      }) g t lt lt' (decided_has rows g t so)

-- The tests of a ballot, one after another.
module _ (loggers numbers : ℕ) (rows : ℕ → ℕ → Row) (b : Ballot) where
  pub big_mask : nat_lt b.mask (2 ^ loggers) ≡ false → carried loggers numbers rows b ≡ false
  unfolding carried
  big_mask big = and_left (nat_lt b.mask (2 ^ loggers) && nat_lt b.group (2 ^ numbers)) _ (and_left (nat_lt b.mask (2 ^ loggers)) _ big)

  pub big_group : nat_lt b.group (2 ^ numbers) ≡ false → carried loggers numbers rows b ≡ false
  unfolding carried
  big_group big = and_left (nat_lt b.mask (2 ^ loggers) && nat_lt b.group (2 ^ numbers)) _ (and_right (nat_lt b.mask (2 ^ loggers)) _ big)

  pub one_disagrees : (t : ℕ) → t < numbers → all_below loggers (λ g. agrees b rows g t) ≡ false → carried loggers numbers rows b ≡ false
  unfolding carried
  one_disagrees t lt fails = and_right (nat_lt b.mask (2 ^ loggers) && nat_lt b.group (2 ^ numbers)) _ (none_from numbers (λ u. all_below loggers (λ g. agrees b rows g u)) t lt fails)

  pub all_agree : nat_lt b.mask (2 ^ loggers) ≡ true → nat_lt b.group (2 ^ numbers) ≡ true → ((t : ℕ) → t < numbers → all_below loggers (λ g. agrees b rows g t) ≡ true) → carried loggers numbers rows b ≡ true
  unfolding carried
  all_agree small small' each = and_from (nat_lt b.mask (2 ^ loggers) && nat_lt b.group (2 ^ numbers)) (all_below numbers (λ t. all_below loggers (λ g. agrees b rows g t)))
      (and_from (nat_lt b.mask (2 ^ loggers)) (nat_lt b.group (2 ^ numbers)) small small') (all_from numbers (λ t. all_below loggers (λ g. agrees b rows g t)) each)
