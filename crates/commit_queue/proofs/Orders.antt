-- Lists that are joined over rising order numbers, of which most are empty.
use Rattle.std.proofs.Common.{◌≡◌, ◌≢◌, ℕ, ◌+◌, ◌-◌, ◌<◌, ◌≤◌, inl, inr, ◌⊎◌, ⊎_elim, Bool, true, false, ◌||◌, List, [], ◌∷◌, ◌++◌, refl, sym, ◌∙◌, ap, subst, arith}
use Rattle.std.proofs.lemmas.Bool.{cases_Bool, false≢true}
use Rattle.array_image.specs.Joined.{joined}
use Rattle.array_image.proofs.Joined.{joined_none, joined_first}
use Rattle.row_bytes.specs.Ballots.{has_row}
use Rattle.array_image.specs.Decided.{orders}
use Rattle.commit_queue.specs.Queue.{Commit, Each, Rise, some_has}

-- what a function gives for each commit, joined
abbrev pub each_of : {A : Type 0} → (Commit → List A) → List Commit → List A
each_of f [] = []
each_of f (c ∷ cs) = f c ++ each_of f cs

-- a commit is in the queue
abbrev pub In : Commit → List Commit → Type 0
In c [] = ⊥
In c (d ∷ ds) = (c ≡ d) ⊎ In c ds

pub each_in : (P : Commit → Type 0) (q : List Commit) (c : Commit) → Each P q → In c q → P c
each_in P [] c each is = absurd is
each_in P (d ∷ ds) c each is = ⊎_elim (λ same. subst P (sym same) each.0) (λ later. each_in P ds c each.1 later) is

pub each_same : {A : Type 0} (f h : Commit → List A) (q : List Commit) → ((c : Commit) → In c q → f c ≡ h c) → each_of f q ≡ each_of h q
each_same f h [] same = refl
each_same f h (c ∷ cs) same = (λ i. same c (inl refl) i ++ each_same f h cs (λ d later. same d (inr later)) i)

pub rise_above : (q : List Commit) (k i : ℕ) → Rise k q → i < k → Each (λ c. c.ballot.order ≢ i) q
rise_above [] k i rise lt = tt
rise_above (c ∷ cs) k i rise lt = ((λ is. omega (arith, rise.0, is)), rise_above cs (c.ballot.order + 1) i rise.2 (omega (arith, rise.0)))

pub in_above : (q : List Commit) (k : ℕ) (c : Commit) → Rise k q → In c q → k ≤ c.ballot.order
in_above [] k c rise is = absurd is
in_above (d ∷ ds) k c rise is = ⊎_elim
    (λ same. let e = ap (λ (x : Commit). x.ballot.order) same in omega (arith, e, rise.0))
    (λ later. omega (arith, in_above ds (d.ballot.order + 1) c rise.2 later, rise.0))
    is

-- one order number, one commit
pub same_commit : (q : List Commit) (k : ℕ) (c d : Commit) → Rise k q → In c q → In d q → c.ballot.order ≡ d.ballot.order → c ≡ d
same_commit [] k c d rise is is' same = absurd is
same_commit (x ∷ xs) k c d rise is is' same = ⊎_elim
    (λ here. ⊎_elim
    (λ here'. here ∙ sym here')
    (λ later'. let e = ap (λ (y : Commit). y.ballot.order) here in absurd (omega (arith, e, same, in_above xs (x.ballot.order + 1) d rise.2 later')))
    is')
    (λ later. ⊎_elim
    (λ here'. let e = ap (λ (y : Commit). y.ballot.order) here' in absurd (omega (arith, e, same, in_above xs (x.ballot.order + 1) c rise.2 later)))
    (λ later'. same_commit xs (x.ballot.order + 1) c d rise.2 later later' same)
    is')
    is

-- if all others are empty, those of the queue's order numbers are left
pub joined_rising : {A : Type 0} (f : ℕ → List A) (q : List Commit) (k n : ℕ) → k + n ≡ orders → Rise k q → ((o : ℕ) → k ≤ o → o < k + n → Each (λ c. c.ballot.order ≢ o) q → f o ≡ []) → joined f k n ≡ each_of (λ c. f c.ballot.order) q
joined_rising f [] k n all rise none = joined_none f k n (λ o le lt. none o le lt tt)
joined_rising {A = A} f (c ∷ cs) k n all rise none =
    let o = c.ballot.order in
    joined_first f k n o rise.0 (omega (arith, all, rise.1)) (λ i le lt. none i le (omega (arith, all, rise.1)) ((λ is. omega (arith, is)), rise_above cs (o + 1) i rise.2 (omega arith)))
    ∙ ap (λ (l : List A). f o ++ l) (joined_rising f cs (o + 1) (k + n - (o + 1)) (omega (arith, all, rise.0, rise.1)) rise.2 (λ i le lt away. none i (omega (arith, rise.0)) (omega (arith, all, rise.0, rise.1)) ((λ is. omega (arith, is)), away)))

-- the commit that has a row
pub found : (q : List Commit) (g t : ℕ) → some_has q g t ≡ true → (c : Commit) × In c q × (has_row c.ballot g t ≡ true)
found [] g t so = absurd (false≢true so)
found (c ∷ cs) g t so = ⊎_elim
    (λ has. (c, inl refl, has))
    (λ lacks. let rest = found cs g t (or_false (has_row c.ballot g t) (some_has cs g t) lacks so) in (rest.0, inr rest.1, rest.2))
    (cases_Bool (has_row c.ballot g t))
  where
    or_false : (a b : Bool) → a ≡ false → (a || b) ≡ true → b ≡ true
    or_false true b lacks so' = absurd (false≢true (sym lacks))
    or_false false b lacks so' = so'
