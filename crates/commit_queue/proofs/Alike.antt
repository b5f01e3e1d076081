-- Queues whose commits say the same: what a commit says of rows that it does not have does not matter.
use Rattle.std.proofs.Common.{◌≡◌, ℕ, ◌+◌, ◌^◌, ◌<◌, ◌≤◌, ◌||◌, Bool, true, false, cond, ⊎_elim, List, [], ◌∷◌, ◌++◌, refl, sym, ◌∙◌, ap, subst, arith}
use Rattle.std.proofs.lemmas.Bool.{cases_Bool}
use Rattle.pcm_media.specs.Images.{Content}
use Rattle.array_shape.specs.declared.shape.Shape.{Shape}
use Rattle.array_shape.specs.Logged.{Part}
use Rattle.row_bytes.specs.declared.ballot.Ballot.{Ballot}
use Rattle.row_bytes.specs.Ballots.{has_row}
use Rattle.array_image.specs.Image.{parts_from}
use Rattle.array_image.specs.Joined.{joined}
use Rattle.array_image.proofs.Joined.{joined_same}
use Rattle.array_image.specs.Decided.{orders}
use Rattle.commit_queue.specs.Queue.{AreAlike, Commit, Each, IsQueued, IsVoted, IsWritten, Rise, SaysTheSame, named_at, named_parts, queue_parts, some_has}
use Rattle.commit_queue.specs.Between.{IsAtRest, Rests}

pub parts_alike : (shape : Shape) (q r : List Commit) → AreAlike shape q r → queue_parts r ≡ queue_parts q
parts_alike shape [] [] alike = refl
parts_alike shape [] (b ∷ bs) alike = absurd alike
parts_alike shape (a ∷ q) [] alike = absurd alike
parts_alike shape (a ∷ q) (b ∷ r) alike = (λ i. alike.0.parts_are i ++ parts_alike shape q r alike.1 i)

some_alike : (shape : Shape) (q r : List Commit) → AreAlike shape q r → (g t : ℕ) → some_has r g t ≡ some_has q g t
some_alike shape [] [] alike g t = refl
some_alike shape [] (b ∷ bs) alike g t = absurd alike
some_alike shape (a ∷ q) [] alike g t = absurd alike
some_alike shape (a ∷ q) (b ∷ r) alike g t = (λ i. has_row (alike.0.ballot_is i) g t || some_alike shape q r alike.1 g t i)

rise_alike : (shape : Shape) (q r : List Commit) (least : ℕ) → AreAlike shape q r → Rise least q → Rise least r
rise_alike shape [] [] least alike rise = tt
rise_alike shape [] (b ∷ bs) least alike rise = absurd alike
rise_alike shape (a ∷ q) [] least alike rise = absurd alike
rise_alike shape (a ∷ q) (b ∷ r) least alike rise =
    let same = ap (λ (k : Ballot). k.order) alike.0.ballot_is in
    (omega (arith, rise.0, same), subst (λ (n : ℕ). n < orders) (sym same) rise.1, subst (λ (n : ℕ). Rise (n + 1) r) (sym same) (rise_alike shape q r (a.ballot.order + 1) alike.1 rise.2))

each_alike : (shape : Shape) (P : Commit → Type 0) → ((a b : Commit) → SaysTheSame shape a b → P a → P b) → (q r : List Commit) → AreAlike shape q r → Each P q → Each P r
each_alike shape P f [] [] alike each = tt
each_alike shape P f [] (b ∷ bs) alike each = absurd alike
each_alike shape P f (a ∷ q) [] alike each = absurd alike
each_alike shape P f (a ∷ q) (b ∷ r) alike each = (f a b alike.0 each.0, each_alike shape P f q r alike.1 each.1)

module _ (shape : Shape) (image : List ℕ) where
  row_back : (a b : Commit) → SaysTheSame shape a b → (g t : ℕ) → has_row b.ballot g t ≡ true → has_row a.ballot g t ≡ true
  row_back a b same g t has = ap (λ (k : Ballot). has_row k g t) (sym same.ballot_is) ∙ has

  cells_alike : (a b : Commit) → SaysTheSame shape a b → (g t : ℕ) → g < shape.loggers → t < shape.numbers → named_at shape image b t g ≡ named_at shape image a t g
  cells_alike a b same g t lt lt' =
      ap (λ (k : Ballot). cond (has_row k g t) (parts_from shape image g t (b.first g t) (b.count g t)) []) same.ballot_is
      ∙ ⊎_elim
      (λ has. (λ i. cond (has_row a.ballot g t) (parts_from shape image g t (same.first_is g t lt lt' has i) (same.count_is g t lt lt' has i)) []))
      (λ lacks.
      ap (λ (h : Bool). cond h (parts_from shape image g t (b.first g t) (b.count g t)) []) lacks
      ∙ ap (λ (h : Bool). cond h (parts_from shape image g t (a.first g t) (a.count g t)) []) (sym lacks))
      (cases_Bool (has_row a.ballot g t))

  pub named_alike : (a b : Commit) → SaysTheSame shape a b → named_parts shape image b ≡ named_parts shape image a
  named_alike a b same =
      joined_same (λ t. joined (named_at shape image b t) 0 shape.loggers) (λ t. joined (named_at shape image a t) 0 shape.loggers) 0 shape.numbers (λ t from below.
      joined_same (named_at shape image b t) (named_at shape image a t) 0 shape.loggers (λ g from' below'. cells_alike a b same g t (omega arith) (omega arith)))

  written_alike : (a b : Commit) → SaysTheSame shape a b → IsWritten shape image a → IsWritten shape image b
  written_alike a b same was = record {
    small_mask = subst (λ (k : Ballot). k.mask < 2 ^ shape.loggers) (sym same.ballot_is) was.small_mask;
    small_group = subst (λ (k : Ballot). k.group < 2 ^ shape.numbers) (sym same.ballot_is) was.small_group;
    rows = λ g t lt lt' has.
        let has' = row_back a b same g t has in
        let named = was.rows g t lt lt' has' in
        let first = same.first_is g t lt lt' has' in
        let count = same.count_is g t lt lt' has' in
        record {
          ballot_is = named.ballot_is ∙ sym same.ballot_is;
          first_is = named.first_is ∙ sym first;
          count_is = named.count_is ∙ sym count;
          fits = omega (arith, named.fits, first, count);
          cells = λ e from below. named.cells e (omega (arith, from, first)) (omega (arith, below, first, count));
        };
    parts_are = named_alike a b same ∙ was.parts_are ∙ sym same.parts_are;
  }

  voted_alike : (a b : Commit) → SaysTheSame shape a b → IsVoted shape image a → IsVoted shape image b
  voted_alike a b same was g t lt lt' has = was g t lt lt' (row_back a b same g t has)

  pub rests_alike : (q r : List Commit) (bytes : List ℕ) → AreAlike shape q r → Rests shape q bytes image → Rests shape r bytes image
  rests_alike q r bytes alike rests = record {
    holds = record {
      queued = record {
        long = rests.holds.queued.long;
        rise = rise_alike shape q r 0 alike rests.holds.queued.rise;
        written = each_alike shape (IsWritten shape image) written_alike q r alike rests.holds.queued.written;
        others = λ g t lt lt' none. rests.holds.queued.others g t lt lt' (sym (some_alike shape q r alike g t) ∙ none);
        holds = rests.holds.queued.holds;
      };
      voted = each_alike shape (IsVoted shape image) voted_alike q r alike rests.holds.voted;
    };
    quiet = λ g t lt lt' none. rests.quiet g t lt lt' (sym (some_alike shape q r alike g t) ∙ none);
  }
