-- Lists of numbers, in the turn of a queue of ballots.
use Rattle.std.proofs.Common.{◌≡◌, ℕ, zero, suc, ◌+◌, ◌<◌, ⊎_elim, cond, Bool, true, false, List, [], ◌∷◌, ◌++◌, length, get_or, take, ◌≤◌, refl, sym, ◌∙◌, ap, append_assoc, append-nil, arith}
use Rattle.std.specs.Prelude.{All, count_by}
use Rattle.std.proofs.lemmas.Bool.{cases_Bool, or_left, or_right}
use Rattle.std.proofs.lemmas.List.Elements.{All-append, All-nil}
use Rattle.std.proofs.lemmas.List.Sums.{sum_by-append}
use Rattle.array_shape.specs.declared.shape.Shape.{Shape}
use Rattle.row_bytes.specs.declared.ballot.Ballot.{Ballot}
use Rattle.array_shape.specs.NumberSet.{has}
use Rattle.array_image.specs.Joined.{joined}
use Rattle.array_image.proofs.Joined.{joined_more, joined_same}
use Rattle.write_back.specs.declared.entry.Entry.{Entry}
use Rattle.write_back.specs.Turns.{of_group, in_turn, has_some}

-- one number more
pub joined_push : {A : Type 0} (f : ℕ → List A) (n : ℕ) → joined f 0 (n + 1) ≡ joined f 0 n ++ f n
joined_push {A = A} f n =
    let next : n + 1 ≡ suc n = omega arith in
    let here : 0 + n ≡ n = omega arith in
    ap (joined f 0) next ∙ joined_more f 0 n ∙ ap (λ (k : ℕ). joined f 0 n ++ f k) here

module _ (shape : Shape) {A : Type 0} where
  pub of_group_same : (f h : ℕ → List A) (group : ℕ) → ((t : ℕ) → t < shape.numbers → has group t ≡ true → f t ≡ h t) → of_group shape f group ≡ of_group shape h group
  of_group_same f h group same = joined_same (λ t. cond (has group t) (f t) []) (λ t. cond (has group t) (h t) []) 0 shape.numbers (λ t le lt. ⊎_elim
      (λ is. ap (λ b. cond b (f t) []) is ∙ same t (omega arith) is ∙ sym (ap (λ b. cond b (h t) []) is))
      (λ is. ap (λ b. cond b (f t) []) is ∙ sym (ap (λ b. cond b (h t) []) is))
      (cases_Bool (has group t)))

  pub in_turn_same : (f h : ℕ → List A) (queue : List Ballot) → ((t : ℕ) → t < shape.numbers → has_some queue t ≡ true → f t ≡ h t) → in_turn shape f queue ≡ in_turn shape h queue
  in_turn_same f h [] same = refl
  in_turn_same f h (b ∷ bs) same = (λ i.
      of_group_same f h b.group (λ t lt is. same t lt (or_left (has b.group t) (has_some bs t) is)) i
      ++ in_turn_same f h bs (λ t lt is. same t lt (or_right (has b.group t) (has_some bs t) is)) i)

  -- one more ballot at the end
  pub in_turn-push : (f : ℕ → List A) (queue : List Ballot) (b : Ballot) → in_turn shape f (queue ++ b ∷ []) ≡ in_turn shape f queue ++ of_group shape f b.group
  in_turn-push f [] b = append-nil (of_group shape f b.group)
  in_turn-push f (c ∷ cs) b = ap (λ (l : List A). of_group shape f c.group ++ l) (in_turn-push f cs b) ∙ sym (append_assoc (of_group shape f c.group) (in_turn shape f cs) (of_group shape f b.group))

  -- what holds of each element of the lists
  all_joined : (P : A → Type 0) (f : ℕ → List A) (k n : ℕ) → ((t : ℕ) → All P (f t)) → All P (joined f k n)
  all_joined P f k zero each = All-nil P
  all_joined P f k (suc n) each = All-append P (f k) (joined f (k + 1) n) (each k) (all_joined P f (k + 1) n each)

  pub all_of_group : (P : A → Type 0) (f : ℕ → List A) (group : ℕ) → ((t : ℕ) → All P (f t)) → All P (of_group shape f group)
  all_of_group P f group each = all_joined P (λ t. cond (has group t) (f t) []) 0 shape.numbers (λ t. one t (has group t))
    where
      one : (t : ℕ) (b : Bool) → All P (cond b (f t) [])
      one t true = each t
      one t false = All-nil P

  pub all_in_turn : (P : A → Type 0) (f : ℕ → List A) (queue : List Ballot) → ((t : ℕ) → All P (f t)) → All P (in_turn shape f queue)
  all_in_turn P f [] each = All-nil P
  all_in_turn P f (b ∷ bs) each = All-append P (of_group shape f b.group) (in_turn shape f bs) (all_of_group P f b.group each) (all_in_turn P f bs each)

-- the first ballots of a queue and one more have no more entries that pass a test than all
pub count_turn : (shape : Shape) (entries : ℕ → List Entry) (p : Entry → Bool) (queue : List Ballot) (i : ℕ) (d : Ballot) → i < length queue
    → count_by p (in_turn shape entries (take i queue)) + count_by p (of_group shape entries (get_or queue i d).group) ≤ count_by p (in_turn shape entries queue)
count_turn shape entries p [] i d lt = absurd (omega arith)
count_turn shape entries p (b ∷ bs) zero d lt = omega (arith, sum_by-append (λ e. cond (p e) 1 0) (of_group shape entries b.group) (in_turn shape entries bs))
count_turn shape entries p (b ∷ bs) (suc i) d lt =
    omega (
      arith,
      count_turn shape entries p bs i d (omega arith),
      sum_by-append (λ e. cond (p e) 1 0) (of_group shape entries b.group) (in_turn shape entries bs),
      sum_by-append (λ e. cond (p e) 1 0) (of_group shape entries b.group) (in_turn shape entries (take i bs)),
    )
