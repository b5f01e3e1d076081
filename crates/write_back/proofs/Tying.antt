-- Ballots that go and come, and the entries with them.
use Rattle.std.proofs.Common.{◌≡◌, ℕ, zero, suc, ◌<◌, Bool, true, false, cond, ◌&&◌, ◌||◌, ◌⊎◌, nat_eq, nat_lt, inl, inr, List, [], ◌∷◌, ◌++◌, take, drop, map, refl, sym, ◌∙◌, ap, arith}
use Rattle.std.specs.List.{range_with_len}
use Rattle.std.proofs.lemmas.Bool.{cases_Bool, cases_eq, eq-eqb, ltb-false, ne_eqb, or_parts, false≢true}
use Rattle.std.proofs.lemmas.List.Elements.{All-head, All-tail}
use Rattle.array_shape.specs.declared.shape.Shape.{Shape}
use Rattle.array_shape.specs.NumberSet.{has}
use Rattle.row_bytes.specs.declared.ballot.Ballot.{Ballot}
use Rattle.row_bytes.specs.Ballots.{has_row}
use Rattle.commit_queue.specs.Queue.{Commit, Each}
use Rattle.coordinator.specs.declared.cells.Cells.{Cells}
use Rattle.coordinator.specs.Commits.{cells_in}
use Rattle.write_back.specs.declared.entry.Entry.{Entry}
use Rattle.write_back.specs.Entries.{cells_on}
use Rattle.write_back.specs.Turns.{HaveCells, has_some}
use Rattle.write_back.specs.Orders.{IsFree}
use Rattle.write_back.specs.Waiting.{commits_of}
use Rattle.write_back.specs.Tied.{AreApart, AreTied, Forgets, HasNamed, HaveNamed}

pub or_also : (x y : Bool) → y ≡ true → (x || y) ≡ true
or_also true y so = refl
or_also false y so = so

-- a number that none of them has
pub free_lacks : (bs : List Ballot) (t : ℕ) → IsFree t bs → has_some bs t ≡ false
free_lacks [] t free = refl
free_lacks (b ∷ bs) t free =
    let here = All-head (λ (k : Ballot). has k.group t ≡ false) b bs free in
    let rest = free_lacks bs t (All-tail (λ (k : Ballot). has k.group t ≡ false) b bs free) in
    λ i. here i || rest i

pub lacks_take : (n : ℕ) (bs : List Ballot) (t : ℕ) → has_some bs t ≡ false → has_some (take n bs) t ≡ false
lacks_take zero bs t lacks = refl
lacks_take (suc n) [] t lacks = refl
lacks_take (suc n) (b ∷ bs) t lacks = let both = or_parts (has b.group t) (has_some bs t) lacks in λ i. both.0 i || lacks_take n bs t both.1 i

pub lacks_drop : (n : ℕ) (bs : List Ballot) (t : ℕ) → has_some bs t ≡ false → has_some (drop n bs) t ≡ false
lacks_drop zero bs t lacks = lacks
lacks_drop (suc n) [] t lacks = refl
lacks_drop (suc n) (b ∷ bs) t lacks = lacks_drop n bs t (or_parts (has b.group t) (has_some bs t) lacks).1

whole_lacks : (n : ℕ) (bs : List Ballot) (t : ℕ) → has_some (take n bs) t ≡ false → has_some (drop n bs) t ≡ false → has_some bs t ≡ false
whole_lacks zero bs t first rest = rest
whole_lacks (suc n) [] t first rest = refl
whole_lacks (suc n) (b ∷ bs) t first rest = let both = or_parts (has b.group t) (has_some (take n bs) t) first in λ i. both.0 i || whole_lacks n bs t both.1 rest i

-- one more at the end
pub pushed_lacks : (bs : List Ballot) (b : Ballot) (t : ℕ) → has_some bs t ≡ false → has b.group t ≡ false → has_some (bs ++ b ∷ []) t ≡ false
pushed_lacks [] b t lacks none = λ i. none i || false
pushed_lacks (c ∷ bs) b t lacks none = let both = or_parts (has c.group t) (has_some bs t) lacks in λ i. both.0 i || pushed_lacks bs b t both.1 none i

lacks_both : (bs : List Ballot) (b : Ballot) (t : ℕ) → has_some (bs ++ b ∷ []) t ≡ false → (has_some bs t ≡ false) × (has b.group t ≡ false)
lacks_both [] b t lacks = (refl, (or_parts (has b.group t) false lacks).0)
lacks_both (c ∷ bs) b t lacks =
    let both = or_parts (has c.group t) (has_some (bs ++ b ∷ []) t) lacks in
    let rest = lacks_both bs b t both.1 in
    ((λ i. both.0 i || rest.0 i), rest.1)

pushed_has : (bs : List Ballot) (b : Ballot) (t : ℕ) → has_some (bs ++ b ∷ []) t ≡ true → has b.group t ≡ false → has_some bs t ≡ true
pushed_has [] b t so none = absurd (false≢true ((λ i. sym none i || false) ∙ so))
pushed_has (c ∷ bs) b t so none = elim (cases_Bool (has c.group t)) [
  | inl on ↦ ap (λ (x : Bool). x || has_some bs t) on
  | inr off ↦ or_also (has c.group t) (has_some bs t) (pushed_has bs b t (sym (ap (λ (x : Bool). x || has_some (bs ++ b ∷ []) t) off) ∙ so) none)
]

-- entries that go, group by group
pub forgets_none : (shape : Shape) (entries : ℕ → List Entry) → Forgets shape [] entries entries
forgets_none shape entries = record { gone = λ t lt so. absurd (false≢true so); others = λ t lt lacks. refl }

pub forgets_more : (shape : Shape) (bs : List Ballot) (b : Ballot) (old mid new : ℕ → List Entry) → Forgets shape bs old mid → ((t : ℕ) → t < shape.numbers → has b.group t ≡ true → new t ≡ []) → ((t : ℕ) → t < shape.numbers → has b.group t ≡ false → new t ≡ mid t)
    → Forgets shape (bs ++ b ∷ []) old new
forgets_more shape bs b old mid new first gone others = record {
  gone = λ t lt so. elim (cases_Bool (has b.group t)) [
    | inl on ↦ gone t lt on
    | inr off ↦ others t lt off ∙ first.gone t lt (pushed_has bs b t so off)
  ];
  others = λ t lt lacks. let both = lacks_both bs b t lacks in others t lt both.1 ∙ first.others t lt both.0;
}

-- no number is in two
apart_drop : (n : ℕ) (bs : List Ballot) → AreApart bs → AreApart (drop n bs)
apart_drop zero bs apart = apart
apart_drop (suc n) [] apart = tt
apart_drop (suc n) (b ∷ bs) apart = apart_drop n bs apart.1

apart_split : (n : ℕ) (bs : List Ballot) (t : ℕ) → AreApart bs → has_some (take n bs) t ≡ true → has_some (drop n bs) t ≡ false
apart_split zero bs t apart so = absurd (false≢true so)
apart_split (suc n) [] t apart so = absurd (false≢true so)
apart_split (suc n) (b ∷ bs) t apart so = elim (cases_Bool (has b.group t)) [
  | inl on ↦ lacks_drop n bs t (apart.0 t on)
  | inr off ↦ apart_split n bs t apart.1 (sym (ap (λ (x : Bool). x || has_some (take n bs) t) off) ∙ so)
]

apart_push : (bs : List Ballot) (b : Ballot) → AreApart bs → ((t : ℕ) → has b.group t ≡ true → has_some bs t ≡ false) → AreApart (bs ++ b ∷ [])
apart_push [] b apart free = ((λ t so. refl), tt)
apart_push (c ∷ bs) b apart free = ((λ t so. pushed_lacks bs b t (apart.0 t so) (other t so (cases_Bool (has b.group t)))), apart_push bs b apart.1 (λ t so. (both t so).1))
  where
    both : (t : ℕ) → has b.group t ≡ true → (has c.group t ≡ false) × (has_some bs t ≡ false)
    both t so = or_parts (has c.group t) (has_some bs t) (free t so)

    other : (t : ℕ) → has c.group t ≡ true → (has b.group t ≡ true) ⊎ (has b.group t ≡ false) → has b.group t ≡ false
    other t so (inl on) = absurd (false≢true (sym (both t on).0 ∙ so))
    other t so (inr off) = off

-- the cells of a commit, where its numbers' entries and cells stay
pub named_same : (shape : Shape) (old_cells new_cells : List Cells) (old new : ℕ → List Entry) (b : Ballot) → ((t : ℕ) → t < shape.numbers → has b.group t ≡ true → new t ≡ old t)
    → ((g t : ℕ) → g < shape.loggers → t < shape.numbers → has b.group t ≡ true → cells_in new_cells g t ≡ cells_in old_cells g t) → HasNamed shape old_cells old b → HasNamed shape new_cells new b
named_same shape old_cells new_cells old new b same cells named g t lt lt' so =
    ap (cells_on shape g) (same t lt' so) ∙ named g t lt lt' so
    ∙ ap (λ (x : Cells). cond (has_row b g t) (range_with_len x.first x.count) []) (sym (cells g t lt lt' so))

pub all_named_same : (shape : Shape) (old_cells new_cells : List Cells) (old new : ℕ → List Entry) (bs : List Ballot) → ((t : ℕ) → t < shape.numbers → has_some bs t ≡ true → new t ≡ old t)
    → ((g t : ℕ) → g < shape.loggers → t < shape.numbers → has_some bs t ≡ true → cells_in new_cells g t ≡ cells_in old_cells g t) → HaveNamed shape old_cells old bs → HaveNamed shape new_cells new bs
all_named_same shape old_cells new_cells old new [] same cells named = tt
all_named_same shape old_cells new_cells old new (b ∷ bs) same cells named =
    let here = λ (t : ℕ) (so : has b.group t ≡ true). ap (λ (x : Bool). x || has_some bs t) so in
    let later = λ (t : ℕ) (so : has_some bs t ≡ true). or_also (has b.group t) (has_some bs t) so in (
      named_same shape old_cells new_cells old new b (λ t lt so. same t lt (here t so)) (λ g t lt lt' so. cells g t lt lt' (here t so)) named.0,
      all_named_same shape old_cells new_cells old new bs (λ t lt so. same t lt (later t so)) (λ g t lt lt' so. cells g t lt lt' (later t so)) named.1,
    )

named_drop : (shape : Shape) (cells : List Cells) (entries : ℕ → List Entry) (n : ℕ) (bs : List Ballot) → HaveNamed shape cells entries bs → HaveNamed shape cells entries (drop n bs)
named_drop shape cells entries zero bs named = named
named_drop shape cells entries (suc n) [] named = tt
named_drop shape cells entries (suc n) (b ∷ bs) named = named_drop shape cells entries n bs named.1

named_push : (shape : Shape) (cells : List Cells) (entries : ℕ → List Entry) (bs : List Ballot) (b : Ballot) → HaveNamed shape cells entries bs → HasNamed shape cells entries b → HaveNamed shape cells entries (bs ++ b ∷ [])
named_push shape cells entries [] b named its = (its, tt)
named_push shape cells entries (c ∷ bs) b named its = (named.0, named_push shape cells entries bs b named.1 its)

-- the first ones go, and their entries with them
module _ (shape : Shape) (cells : List Cells) (old new : ℕ → List Entry) (n : ℕ) (bs : List Ballot) (aside : ℕ → Bool) (tied : AreTied shape cells old bs aside)
    (forgets : Forgets shape (take n bs) old new) where
  left_same : (t : ℕ) → t < shape.numbers → has_some (drop n bs) t ≡ true → new t ≡ old t
  left_same t lt so = elim (cases_Bool (has_some (take n bs) t)) [
    | inl on ↦ absurd (false≢true (sym (apart_split n bs t tied.apart on) ∙ so))
    | inr off ↦ forgets.others t lt off
  ]

  pub dropped : AreTied shape cells new (drop n bs) aside
  dropped = record {
    named = all_named_same shape cells cells old new (drop n bs) left_same (λ g t lt lt' so. refl) (named_drop shape cells old n bs tied.named);
    apart = apart_drop n bs tied.apart;
    none = λ t lt beside lacks. elim (cases_Bool (has_some (take n bs) t)) [
      | inl on ↦ forgets.gone t lt on
      | inr off ↦ forgets.others t lt off ∙ tied.none t lt beside (whole_lacks n bs t off lacks)
    ];
  }

-- one comes in, whose entries were set aside
module _ (shape : Shape) (cells : List Cells) (entries : ℕ → List Entry) (bs : List Ballot) (b : Ballot) (aside : ℕ → Bool) (aside_is : (t : ℕ) → aside t ≡ has b.group t) (tied : AreTied shape cells entries bs aside)
    (free : (t : ℕ) → has b.group t ≡ true → has_some bs t ≡ false) (its : HasNamed shape cells entries b) where
  pub added : AreTied shape cells entries (bs ++ b ∷ []) (λ t. false)
  added = record {
    named = named_push shape cells entries bs b tied.named its;
    apart = apart_push bs b tied.apart free;
    none = λ t lt beside lacks. let both = lacks_both bs b t lacks in tied.none t lt (aside_is t ∙ both.1) both.0;
  }

-- the entries of one number come in, which is set aside with others; if none may wait, nothing comes in
with_true : (b : Bool) → (b && true) ≡ false → b ≡ false
with_true true is = is
with_true false is = refl

pub set_aside : (shape : Shape) (cells : List Cells) (old new : ℕ → List Entry) (bs : List Ballot) (depth tid : ℕ) (aside : ℕ → Bool) → has_some bs tid ≡ false → ((t : ℕ) → (t ≡ tid → ⊥) → new t ≡ old t) → (depth ≡ 0 → (t : ℕ) → new t ≡ old t)
    → AreTied shape cells old bs (λ t. nat_lt 0 depth && aside t) → AreTied shape cells new bs (λ t. nat_lt 0 depth && (nat_eq t tid || aside t))
set_aside shape cells old new bs depth tid aside lacks others none_waits tied = record {
  named = all_named_same shape cells cells old new bs (λ t lt so. others t (λ is. false≢true (sym lacks ∙ ap (has_some bs) (sym is) ∙ so))) (λ g t lt lt' so. refl) tied.named;
  apart = tied.apart;
  none = λ t lt beside free. elim (cases_eq t tid) [
    | inl is ↦
        let off = with_true (nat_lt 0 depth) ((λ i. nat_lt 0 depth && (sym (eq-eqb t tid is) i || aside t)) ∙ beside) in
        let zero_is : depth ≡ 0 = omega (arith, ltb-false 0 depth off) in
        none_waits zero_is t ∙ tied.none t lt (ap (λ (b : Bool). b && aside t) off) free
    | inr ne ↦ others t ne ∙ tied.none t lt ((λ i. nat_lt 0 depth && (sym (ne_eqb t tid ne) i || aside t)) ∙ beside) free
  ];
}

-- the commits of the ballots have just the cells of the entries
pub commits_have_cells : (shape : Shape) (image : List ℕ) (cells : List Cells) (entries : ℕ → List Entry) (bs : List Ballot) → HaveNamed shape cells entries bs → Each (HaveCells shape entries) (commits_of shape image cells bs)
commits_have_cells shape image cells entries [] named = tt
commits_have_cells shape image cells entries (b ∷ bs) named = (named.0, commits_have_cells shape image cells entries bs named.1)

pub ballots_of : (shape : Shape) (image : List ℕ) (cells : List Cells) (bs : List Ballot) → map (λ (c : Commit). c.ballot) (commits_of shape image cells bs) ≡ bs
ballots_of shape image cells [] = refl
ballots_of shape image cells (b ∷ bs) = ap (λ (l : List Ballot). b ∷ l) (ballots_of shape image cells bs)
