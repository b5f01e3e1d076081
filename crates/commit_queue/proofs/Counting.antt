-- How many commits are deferred.
use Rattle.std.proofs.Common.{◌≡◌, ◌≢◌, ℕ, zero, suc, ◌+◌, ◌-◌, ◌<◌, Bool, true, false, not, cond, List, [], ◌∷◌, ◌++◌, length, refl, sym, ◌∙◌, ap, arith}
use Rattle.std.specs.Prelude.{nat_eq}
use Rattle.std.specs.List.{filter, range_with_len}
use Rattle.array_image.specs.Joined.{joined}
use Rattle.std.proofs.lemmas.Bool.{and_parts, and_from, eq-eqb, eqb-true, false_from_ne_true, not_from_true, not_from_false}
use Rattle.array_shape.specs.declared.shape.Shape.{Shape}
use Rattle.row_bytes.specs.declared.ballot.Ballot.{Ballot}
use Rattle.row_bytes.specs.Ballots.{has_row}
use Rattle.array_image.specs.Decided.{all_below, decided, decided_as, orders}
use Rattle.array_image.proofs.Deciding.{all_from, none_from, any_is}
use Rattle.array_image.specs.Image.{row_of}
use Rattle.commit_queue.specs.Deferred.{any_below, is_order, deferred_orders}
use Rattle.commit_queue.specs.Queue.{Commit, IsWritten, IsVoted, Each, Rise}
use Rattle.commit_queue.specs.Between.{Holds}
use Rattle.commit_queue.proofs.Orders.{each_of, In, each_in, each_same, joined_rising}
use Rattle.commit_queue.proofs.Queues.{all_or_none, voted_carried, commit_of, its_rows}

pub any_from : (n : ℕ) (p : ℕ → Bool) (k : ℕ) → k < n → p k ≡ true → any_below n p ≡ true
any_from n p k lt so = any_is p (range_with_len 0 n) ∙ not_from_false (all_below n (λ i. not (p i))) (none_from n (λ i. not (p i)) k lt (not_from_true (p k) so))

pub any_none : (n : ℕ) (p : ℕ → Bool) → ((k : ℕ) → k < n → p k ≡ false) → any_below n p ≡ false
any_none n p none = any_is p (range_with_len 0 n) ∙ not_from_true (all_below n (λ i. not (p i))) (all_from n (λ i. not (p i)) (λ k lt. not_from_false (p k) (none k lt)))

-- those numbers that pass a test, each as a list
filtered : (p : ℕ → Bool) (k n : ℕ) → filter p (range_with_len k n) ≡ joined (λ o. cond (p o) (o ∷ []) []) k n
filtered p k zero = refl
filtered p k (suc n) = ap (λ (l : List ℕ). cond (p k) (k ∷ l) l) (filtered p (k + 1) n) ∙ by (p k) (joined (λ o. cond (p o) (o ∷ []) []) (k + 1) n)
  where
    by : (b : Bool) (l : List ℕ) → cond b (k ∷ l) l ≡ cond b (k ∷ []) [] ++ l
    by true l = refl
    by false l = refl

some_orders : 0 < orders
unfolding orders
some_orders = omega arith

module _ (shape : Shape) (queue : List Commit) (b image : List ℕ) (holds : Holds shape queue b image) where
  its_order : (c : Commit) → In c queue → (g : ℕ) × (t : ℕ) × (g < shape.loggers) × (t < shape.numbers) × (has_row c.ballot g t ≡ true) → is_order shape image c.ballot.order ≡ true
  its_order c is_in some =
      let written = each_in (IsWritten shape image) queue c holds.queued.written is_in in
      let so = all_or_none shape image c written some.0 some.1 some.2 some.3 some.4 ∙ voted_carried shape image c written (each_in (IsVoted shape image) queue c holds.voted is_in) in
      let order = ap (λ (x : Ballot). x.order) (written.rows some.0 some.1 some.2 some.3 some.4).ballot_is in
      any_from shape.numbers (λ t. any_below shape.loggers (λ g. decided_as shape image c.ballot.order g t)) some.1 some.3
      (any_from shape.loggers (λ g. decided_as shape image c.ballot.order g some.1) some.0 some.2
      (and_from (decided shape image some.0 some.1) (nat_eq (row_of shape image some.0 some.1).order c.ballot.order) so (eq-eqb (row_of shape image some.0 some.1).order c.ballot.order order)))

  no_order : (o : ℕ) → Each (λ c. c.ballot.order ≢ o) queue → is_order shape image o ≡ false
  no_order o away = any_none shape.numbers (λ t. any_below shape.loggers (λ g. decided_as shape image o g t)) (λ t lt'. any_none shape.loggers (λ g. decided_as shape image o g t) (λ g lt.
      false_from_ne_true (decided_as shape image o g t) (λ so.
      let both = and_parts (decided shape image g t) (nat_eq (row_of shape image g t).order o) so in
      let of = commit_of shape image queue b holds.queued g t lt lt' both.0 in
      let named = (its_rows shape image queue b holds.queued of.0 of.1).rows g t lt lt' of.2 in
      each_in (λ c. c.ballot.order ≢ o) queue of.0 away of.1 (sym (ap (λ (x : Ballot). x.order) named.ballot_is) ∙ eqb-true (row_of shape image g t).order o both.1))))

  -- each commit has an order number of its own among those of the decided rows
  pub deferred_are : Rise 1 queue → Each (λ c. (g : ℕ) × (t : ℕ) × (g < shape.loggers) × (t < shape.numbers) × (has_row c.ballot g t ≡ true)) queue → length (deferred_orders shape image) ≡ length queue
  deferred_are rise some =
      ap length (filtered (is_order shape image) 1 (orders - 1)
      ∙ joined_rising (λ o. cond (is_order shape image o) (o ∷ []) []) queue 1 (orders - 1) (omega (arith, some_orders)) rise (λ o le lt away. ap (λ (x : Bool). cond x (o ∷ []) []) (no_order o away))
      ∙ each_same (λ c. cond (is_order shape image c.ballot.order) (c.ballot.order ∷ []) []) (λ c. c.ballot.order ∷ []) queue (λ c is_in.
      ap (λ (x : Bool). cond x (c.ballot.order ∷ []) [])
      (its_order c is_in (each_in (λ e. (g : ℕ) × (t : ℕ) × (g < shape.loggers) × (t < shape.numbers) × (has_row e.ballot g t ≡ true)) queue c some is_in))))
      ∙ one_each queue
    where
      one_each : (q : List Commit) → length (each_of (λ c. c.ballot.order ∷ []) q) ≡ length q
      one_each [] = refl
      one_each (c ∷ cs) = ap suc (one_each cs)
