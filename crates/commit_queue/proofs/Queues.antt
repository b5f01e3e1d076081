-- What an image stands for that has the rows of a queue of commits.
use Rattle.std.proofs.Common.{◌≡◌, ◌≢◌, ℕ, ◌<◌, ⊎_elim, Bool, true, false, cond, List, [], ◌∷◌, ◌++◌, refl, sym, ◌∙◌, ap, subst, arith}
use Rattle.std.specs.Cmp.{both_ways}
use Rattle.std.proofs.lemmas.Bool.{cases_Bool, false≢true, false_from_ne_true}
use Rattle.array_shape.specs.declared.shape.Shape.{Shape}
use Rattle.array_shape.specs.Logged.{Part, applied}
use Rattle.row_bytes.specs.declared.ballot.Ballot.{Ballot}
use Rattle.array_image.specs.Joined.{joined}
use Rattle.array_image.specs.Image.{parts_from, row_of}
use Rattle.array_image.proofs.Joined.{joined_same}
use Rattle.row_bytes.specs.Ballots.{has_row}
use Rattle.array_image.specs.Decided.{carried, decided, decided_parts, order_parts, all_decided, orders}
use Rattle.array_image.specs.Standing.{IsLawful, StandsFor}
use Rattle.array_image.proofs.Deciding.{IsCarried, carried_means, carried_from, decided_carried, carried_decides}
use Rattle.array_image.proofs.Parts.{no_parts, its_parts, no_order_parts}
use Rattle.commit_queue.specs.Queue.{Commit, named_at, IsWritten, IsVoted, Each, some_has, IsQueued, carried_parts}
use Rattle.commit_queue.proofs.Orders.{each_of, In, each_in, each_same, same_commit, joined_rising, found}

module _ (shape : Shape) (image : List ℕ) where
  -- a commit whose rows are written: each is decided if the commit's ballot is carried
  module _ (c : Commit) (written : IsWritten shape image c) where
    pub all_or_none : (g t : ℕ) → g < shape.loggers → t < shape.numbers → has_row c.ballot g t ≡ true → decided shape image g t ≡ carried shape.loggers shape.numbers (row_of shape image) c.ballot
    all_or_none g t lt lt' has =
        let named = written.rows g t lt lt' has in
        both_ways (decided shape image g t) (carried shape.loggers shape.numbers (row_of shape image) c.ballot)
        (λ so. carried_from shape.loggers shape.numbers (row_of shape image) c.ballot (subst (IsCarried shape.loggers shape.numbers (row_of shape image)) named.ballot_is (decided_carried shape.loggers shape.numbers (row_of shape image) g t so)))
        (λ so. carried_decides shape.loggers shape.numbers (row_of shape image) c.ballot (carried_means shape.loggers shape.numbers (row_of shape image) c.ballot so) g t lt lt' has)

    pub voted_carried : IsVoted shape image c → carried shape.loggers shape.numbers (row_of shape image) c.ballot ≡ true
    voted_carried voted = carried_from shape.loggers shape.numbers (row_of shape image) c.ballot (record {
      small_mask = written.small_mask;
      small_group = written.small_group;
      voted = voted;
      same = λ g t lt lt' has. (written.rows g t lt lt' has).ballot_is;
    })

    pub lacking_carried : (g t : ℕ) → g < shape.loggers → t < shape.numbers → has_row c.ballot g t ≡ true → (row_of shape image g t).voted ≡ false → carried shape.loggers shape.numbers (row_of shape image) c.ballot ≡ false
    lacking_carried g t lt lt' has lacks = false_from_ne_true (carried shape.loggers shape.numbers (row_of shape image) c.ballot) (λ so.
        false≢true (sym lacks ∙ (carried_means shape.loggers shape.numbers (row_of shape image) c.ballot so).voted g t lt lt' has))

  module _ (queue : List Commit) (d : List ℕ) (queued : IsQueued shape queue d image) where
    pub commit_of : (g t : ℕ) → g < shape.loggers → t < shape.numbers → decided shape image g t ≡ true → (c : Commit) × In c queue × (has_row c.ballot g t ≡ true)
    commit_of g t lt lt' so = ⊎_elim
        (λ has. found queue g t has)
        (λ lacks. absurd (false≢true (sym (queued.others g t lt lt' lacks) ∙ so)))
        (cases_Bool (some_has queue g t))

    module _ (c : Commit) (is_in : In c queue) where
      pub its_rows : IsWritten shape image c
      its_rows = each_in (IsWritten shape image) queue c queued.written is_in

      -- decided rows with its order number are its own
      its_own : (g t : ℕ) → g < shape.loggers → t < shape.numbers → decided shape image g t ≡ true → (row_of shape image g t).order ≡ c.ballot.order → has_row c.ballot g t ≡ true
      its_own g t lt lt' so order =
          let of = commit_of g t lt lt' so in
          let named = (each_in (IsWritten shape image) queue of.0 queued.written of.1).rows g t lt lt' of.2 in
          let same = same_commit queue 0 of.0 c queued.rise of.1 is_in (sym (ap (λ (b : Ballot). b.order) named.ballot_is) ∙ order) in
          subst (λ (x : Commit). has_row x.ballot g t ≡ true) same of.2

      carried_here : carried shape.loggers shape.numbers (row_of shape image) c.ballot ≡ true → (g t : ℕ) → g < shape.loggers → t < shape.numbers → decided_parts shape image c.ballot.order t g ≡ named_at shape image c t g
      carried_here so g t lt lt' = ⊎_elim
          (λ has.
          let named = its_rows.rows g t lt lt' has in
          its_parts shape image c.ballot.order t g (all_or_none c its_rows g t lt lt' has ∙ so) (ap (λ (b : Ballot). b.order) named.ballot_is)
          ∙ (λ i. parts_from shape image g t (named.first_is i) (named.count_is i))
          ∙ ap (λ (b : Bool). cond b (parts_from shape image g t (c.first g t) (c.count g t)) []) (sym has))
          (λ lacks.
          no_parts shape image c.ballot.order t g (λ so' order. false≢true (sym lacks ∙ its_own g t lt lt' so' order))
          ∙ ap (λ (b : Bool). cond b (parts_from shape image g t (c.first g t) (c.count g t)) []) (sym lacks))
          (cases_Bool (has_row c.ballot g t))

      its_order : order_parts shape image c.ballot.order ≡ cond (carried shape.loggers shape.numbers (row_of shape image) c.ballot) c.parts []
      its_order = ⊎_elim
          (λ so.
          joined_same (λ t. joined (decided_parts shape image c.ballot.order t) 0 shape.loggers) (λ t. joined (named_at shape image c t) 0 shape.loggers) 0 shape.numbers (λ t le lt'.
          joined_same (decided_parts shape image c.ballot.order t) (named_at shape image c t) 0 shape.loggers (λ g le' lt. carried_here so g t (omega arith) (omega arith)))
          ∙ its_rows.parts_are ∙ ap (λ (b : Bool). cond b c.parts []) (sym so))
          (λ not_so.
          no_order_parts shape image c.ballot.order (λ g t lt lt' so order. false≢true (sym not_so ∙ sym (all_or_none c its_rows g t lt lt' (its_own g t lt lt' so order)) ∙ so))
          ∙ ap (λ (b : Bool). cond b c.parts []) (sym not_so))
          (cases_Bool (carried shape.loggers shape.numbers (row_of shape image) c.ballot))

    no_commit : (o : ℕ) → Each (λ c. c.ballot.order ≢ o) queue → order_parts shape image o ≡ []
    no_commit o away = no_order_parts shape image o (λ g t lt lt' so order.
        let of = commit_of g t lt lt' so in
        let named = (each_in (IsWritten shape image) queue of.0 queued.written of.1).rows g t lt lt' of.2 in
        each_in (λ c. c.ballot.order ≢ o) queue of.0 away of.1 (sym (ap (λ (b : Ballot). b.order) named.ballot_is) ∙ order))

    -- the parts of all decided rows are those of the commits that are carried, in the queue's order
    pub queued_decided : all_decided shape image ≡ carried_parts shape image queue
    queued_decided =
        joined_rising (order_parts shape image) queue 0 orders (omega arith) queued.rise (λ o le lt away. no_commit o away)
        ∙ each_same (λ c. order_parts shape image c.ballot.order) (λ c. cond (carried shape.loggers shape.numbers (row_of shape image) c.ballot) c.parts []) queue its_order
        ∙ as_parts queue
      where
        as_parts : (q : List Commit) → each_of (λ c. cond (carried shape.loggers shape.numbers (row_of shape image) c.ballot) c.parts []) q ≡ carried_parts shape image q
        as_parts [] = refl
        as_parts (c ∷ cs) = ap (λ (l : List Part). cond (carried shape.loggers shape.numbers (row_of shape image) c.ballot) c.parts [] ++ l) (as_parts cs)

    pub queued_lawful : IsLawful shape image
    queued_lawful = record {
      long = queued.long;
      one = λ g h t u lt lt' below below' so so' order.
          let of = commit_of g t lt below so in
          let named = (its_rows of.0 of.1).rows g t lt below of.2 in
          let named' = (its_rows of.0 of.1).rows h u lt' below' (its_own of.0 of.1 h u lt' below' so' (sym order ∙ ap (λ (b : Ballot). b.order) named.ballot_is)) in
          ap (λ (b : Ballot). b.group) named.ballot_is ∙ sym (ap (λ (b : Ballot). b.group) named'.ballot_is);
      good = λ g t lt lt' so.
          let of = commit_of g t lt lt' so in
          let named = (its_rows of.0 of.1).rows g t lt lt' of.2 in
          record {
            fits = omega (arith, named.first_is, named.count_is, named.fits);
            cells = λ e from below. named.cells e (omega (arith, named.first_is)) (omega (arith, named.first_is, named.count_is));
          };
    }

    -- so it stands for the data after them
    pub queued_stands : StandsFor shape image (applied (carried_parts shape image queue) d)
    queued_stands = record { lawful = queued_lawful; gives = (λ i. applied (queued_decided i) (queued.holds i)) }
