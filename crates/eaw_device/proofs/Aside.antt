-- The numbers of a group, set aside one after another.
use Rattle.std.proofs.Common.{◌≡◌, ℕ, ◌+◌, ◌^◌, ◌<◌, Bool, true, false, cond, ◌&&◌, ◌||◌, nat_eq, nat_lt, inl, inr, List, [], ◌∷◌, ◌++◌, drop, refl, sym, ◌∙◌, ap, arith}
use Rattle.std.proofs.lemmas.Bool.{cases_Bool, cases_eq, cases_lt, eq-eqb, ne_eqb, lt-ltb, le-ltb, false≢true}
use Rattle.array_shape.specs.declared.shape.Shape.{Shape}
use Rattle.array_shape.specs.NumberSet.{has}
use Rattle.row_bytes.specs.declared.ballot.Ballot.{Ballot}
use Rattle.coordinator.specs.declared.cells.Cells.{Cells}
use Rattle.write_back.specs.declared.entry.Entry.{Entry}
use Rattle.coordinator.specs.Commits.{cells_in}
use Rattle.write_back.specs.Turns.{has_some}
use Rattle.write_back.specs.declared.queue.LateCommits.{LateCommits}
use Rattle.write_back.specs.Orders.{behind, due_for_place, with_one_more}
use Rattle.write_back.specs.Tied.{AreTied}
use Rattle.write_back.proofs.Tying.{lacks_drop, pushed_lacks}
use Rattle.eaw_device.specs.declared.log.Log.{Log}
use Rattle.eaw_device.specs.Sound.{IsBefore}
use Rattle.eaw_device.proofs.GroupBits.{has_bit}

-- another test of the numbers that are set aside
pub aside_as : (shape : Shape) (cells : List Cells) (entries : ℕ → List Entry) (ballots : List Ballot) (old new : ℕ → Bool) → ((t : ℕ) → t < shape.numbers → old t ≡ new t) → AreTied shape cells entries ballots old → AreTied shape cells entries ballots new
aside_as shape cells entries ballots old new same tied = record { named = tied.named; apart = tied.apart; none = λ t lt off lacks. tied.none t lt (same t lt ∙ off) lacks }

-- the numbers of a group below one that comes next
abbrev pub below : ℕ → ℕ → ℕ → Bool
below group k t = nat_lt t k && has group t

nothing : (a b : Bool) → (a && (false && b)) ≡ false
nothing true b = refl
nothing false b = refl

-- the next number is not below itself
pub not_below : (group : ℕ) (may : Bool) (k : ℕ) → (may && below group k k) ≡ false
not_below group may k = ap (λ (b : Bool). may && (b && has group k)) (le-ltb k k (omega arith)) ∙ nothing may (has group k)

one_more : (k t : ℕ) → (t ≡ k → ⊥) → nat_lt t k ≡ nat_lt t (k + 1)
one_more k t ne = elim (cases_lt t k) [
  | inl lt ↦ lt-ltb t k lt ∙ sym (lt-ltb t (k + 1) (omega (arith, lt)))
  | inr ge ↦ le-ltb t k (omega (arith, ge)) ∙ sym (le-ltb t (k + 1) (omega (arith, ge, ne)))
]

-- once it is in
pub below_next : (group k : ℕ) → has group k ≡ true → (t : ℕ) → (nat_eq t k || below group k t) ≡ below group (k + 1) t
below_next group k on t = elim (cases_eq t k) [
  | inl is ↦ (λ i. eq-eqb t k is i || below group k t) ∙ sym (λ i. lt-ltb t (k + 1) (omega (arith, is)) i && (ap (has group) is ∙ on) i)
  | inr ne ↦ (λ i. ne_eqb t k ne i || below group k t) ∙ ap (λ (b : Bool). b && has group t) (one_more k t ne)
]

-- one number alone
none_also : (b : Bool) → (b && false) ≡ false
none_also true = refl
none_also false = refl

or_none : (b : Bool) → (b || false) ≡ b
or_none true = refl
or_none false = refl

pub none_aside : (shape : Shape) (cells : List Cells) (entries : ℕ → List Entry) (ballots : List Ballot) (depth : ℕ) → AreTied shape cells entries ballots (λ t. false) → AreTied shape cells entries ballots (λ t. nat_lt 0 depth && false)
none_aside shape cells entries ballots depth = aside_as shape cells entries ballots (λ t. false) (λ t. nat_lt 0 depth && false) (λ t lt. sym (none_also (nat_lt 0 depth)))

pub alone_aside : (shape : Shape) (cells : List Cells) (entries : ℕ → List Entry) (ballots : List Ballot) (old new t group : ℕ) → new ≡ old → group ≡ 2 ^ t → AreTied shape cells entries ballots (λ u. nat_lt 0 old && (nat_eq u t || false))
    → AreTied shape cells entries ballots (λ u. nat_lt 0 new && has group u)
alone_aside shape cells entries ballots old new t group depth is = aside_as shape cells entries ballots (λ u. nat_lt 0 old && (nat_eq u t || false)) (λ u. nat_lt 0 new && has group u)
    (λ u lt. let same = or_none (nat_eq u t) ∙ sym (has_bit t u) ∙ ap (λ (k : ℕ). has k u) (sym is) in (λ i. nat_lt 0 (sym depth i) && same i))

-- what waits after one more commit
more_lacks : (depth : ℕ) (bs : List Ballot) (ballot : Ballot) (t : ℕ) → has ballot.group t ≡ false → has_some bs t ≡ false → has_some (with_one_more depth bs ballot) t ≡ false
more_lacks depth bs ballot t off lacks = by (nat_eq depth 0)
  where
    by : (b : Bool) → has_some (cond b bs (drop (due_for_place depth bs) bs ++ behind (drop (due_for_place depth bs) bs) ballot ∷ [])) t ≡ false
    by true = lacks
    by false = pushed_lacks (drop (due_for_place depth bs) bs) (behind (drop (due_for_place depth bs) bs) ballot) t (lacks_drop (due_for_place depth bs) bs t lacks) off

-- a number that is not in the group has a commit that waits only if it had, and its cells are as they were
module _ (shape : Shape) (group due : ℕ) (queue back named new : LateCommits) (ballot : Ballot) (group_is : ballot.group ≡ group) (left : back.ballots.items ≡ drop due queue.ballots.items) (table : back.cells ≡ queue.cells) (same_ballots : named.ballots ≡ back.ballots)
    (new_table : new.cells ≡ named.cells) (more : new.ballots.items ≡ with_one_more named.depth named.ballots.items ballot) where
  had : (t : ℕ) → has group t ≡ false → has_some new.ballots.items t ≡ true → has_some queue.ballots.items t ≡ true
  had t off so = elim (cases_Bool (has_some queue.ballots.items t)) [
    | inl on ↦ on
    | inr lacks ↦
        let named_lacks : has_some named.ballots.items t ≡ false = (λ i. has_some (same_ballots i).items t) ∙ ap (λ (bs : List Ballot). has_some bs t) left ∙ lacks_drop due queue.ballots.items t lacks in
        absurd (false≢true (sym (ap (λ (bs : List Ballot). has_some bs t) more ∙ more_lacks named.depth named.ballots.items ballot t (ap (λ (k : ℕ). has k t) group_is ∙ off) named_lacks) ∙ so))
  ]

  pub kept_before : (t : ℕ) (log : Log) → has group t ≡ false → ((g : ℕ) → g < 8 → cells_in named.cells g t ≡ cells_in back.cells g t) → IsBefore shape queue t log → IsBefore shape new t log
  kept_before t log off others before so g lt =
      let cells : cells_in new.cells g t ≡ cells_in queue.cells g t = ap (λ (l : List Cells). cells_in l g t) new_table ∙ others g (omega (arith, lt, shape.in_range.most_loggers)) ∙ ap (λ (l : List Cells). cells_in l g t) table in
      omega (arith, before (had t off so) g lt, ap (λ (x : Cells). x.first) cells)
