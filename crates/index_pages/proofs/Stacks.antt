-- Lists of what is free, which are used as stacks.
use Rattle.std.proofs.Common.{◌≡◌, ◌≢◌, ℕ, zero, suc, ◌+◌, ◌-◌, ◌<◌, ◌≤◌, true, false, nat_eq, inl, inr, List, [], ◌∷◌, length, Option, Some, None, refl, sym, ◌∙◌, ap, subst, arith}
use Rattle.std.specs.Prelude.{if◌then◌else◌}
use Rattle.std.specs.List.{AllByRecursion, IsDistinct, list_any}
use Rattle.std.proofs.lemmas.Bool.{cases_Bool}
use Rattle.std.proofs.lemmas.Bool.Decides.{nat_tests}
use Rattle.std.proofs.lemmas.Map.Steps.{length-le_from_distinct_below}
use Rattle.mars_base.specs.Check.{test, both, IsSingle}
use Rattle.mars_base.proofs.Checks.{test_single, both_single}
use Rattle.record_slots.specs.Free.{next_of, member_at}
use Rattle.record_slots.specs.declared.free.Free.{Free}
use Rattle.index_pages.specs.Slots.{Names, HasRank, list_check}

-- so many of them: the first is named by its number plus 1, and ranks fall by one to 1
abbrev pub IsList : (ℕ → Option Free) → ℕ → ℕ → ℕ → ℕ → Type 0
IsList said low end zero named = named ≡ 0
IsList said low end (suc n) named = Names low end named × HasRank (suc n) (said (named - 1)) × IsList said low end n (next_of (said (named - 1)))

-- a list passes its check exactly if it is one
pub list_seen : (said : ℕ → Option Free) (page_of : ℕ → ℕ) (low end n named page : ℕ) → list_check said page_of low end n named page None → IsList said low end n named
list_seen said page_of low end zero named page c = c
list_seen said page_of low end (suc n) named page c = (c.0, c.1.0, list_seen said page_of low end n (next_of (said (named - 1))) (page_of (named - 1)) c.1.1)

pub list_passes : (said : ℕ → Option Free) (page_of : ℕ → ℕ) (low end n named page : ℕ) → IsList said low end n named → list_check said page_of low end n named page None
list_passes said page_of low end zero named page l = l
list_passes said page_of low end (suc n) named page l = (l.0, (l.1, list_passes said page_of low end n (next_of (said (named - 1))) (page_of (named - 1)) l.2))

-- one has a single rank
pub one_rank : (o : Option Free) (a b : ℕ) → HasRank a o → HasRank b o → a ≡ b
one_rank None a b x y = absurd x
one_rank (Some f) a b x y = sym x ∙ y

pub rank_some : (o : Option Free) (a : ℕ) → HasRank a o → o ≢ None
rank_some None a x e = x
rank_some (Some f) a x e = absurd (cc)

-- the one that follows member n
pub member_last : (said : ℕ → Option Free) (named n : ℕ) → member_at said named (suc n) ≡ next_of (said (member_at said named n - 1))
member_last said named zero = refl
member_last said named (suc n) = member_last said (next_of (said (named - 1))) n

module _ (said : ℕ → Option Free) (low end : ℕ) where
  -- what is left behind so many members
  pub list_after : (n k named : ℕ) → IsList said low end n named → k ≤ n → IsList said low end (n - k) (member_at said named k)
  list_after n zero named l le = subst (λ (m : ℕ). IsList said low end m named) (let e : n ≡ n - 0 = omega arith in e) l
  list_after zero (suc k) named l le = absurd (omega arith)
  list_after (suc n) (suc k) named l le = subst (λ (m : ℕ). IsList said low end m (member_at said named (suc k))) (let e : n - k ≡ suc n - suc k = omega arith in e) (list_after n k (next_of (said (named - 1))) l.2 (omega arith))

  pub member_is : (n i named : ℕ) → IsList said low end n named → i < n → Names low end (member_at said named i) × HasRank (n - i) (said (member_at said named i - 1))
  member_is zero i named l lt = absurd (omega arith)
  member_is (suc n) zero named l lt = (l.0, subst (λ (m : ℕ). HasRank m (said (named - 1))) (let e : suc n ≡ suc n - 0 = omega arith in e) l.1)
  member_is (suc n) (suc i) named l lt =
      let r = member_is n i (next_of (said (named - 1))) l.2 (omega arith) in
      (r.0, subst (λ (m : ℕ). HasRank m (said (member_at said named (suc i) - 1))) (let e : n - i ≡ suc n - suc i = omega arith in e) r.1)

  -- no member comes twice
  pub members_differ : (n i j named : ℕ) → IsList said low end n named → i < n → j < n → i ≢ j → member_at said named i - 1 ≢ member_at said named j - 1
  members_differ n i j named l lt lt' other same =
      let a = member_is n i named l lt in
      let b = member_is n j named l lt' in
      let e = one_rank (said (member_at said named i - 1)) (n - i) (n - j) a.1 (subst (λ (m : ℕ). HasRank (n - j) (said m)) (sym same) b.1) in
      other (omega (arith, e, lt, lt'))

  -- the list as other data has it, whose members say the same
  pub list_kept : (said' : ℕ → Option Free) (end' n named : ℕ) → end ≤ end' → IsList said low end n named
      → ((i : ℕ) → i < n → said' (member_at said named i - 1) ≡ said (member_at said named i - 1)) → IsList said' low end' n named
  list_kept said' end' zero named more l same = l
  list_kept said' end' (suc n) named more l same =
      let here : said' (named - 1) ≡ said (named - 1) = same zero (omega arith) in
      let rest = list_kept said' end' n (next_of (said (named - 1))) more l.2 (λ i lt. same (suc i) (omega arith)) in (
        (omega (arith, l.0.0), omega (arith, l.0.1, more)),
        subst (λ (o : Option Free). HasRank (suc n) o) (sym here) l.1,
        subst (λ (o : Option Free). IsList said' low end' n (next_of o)) (sym here) rest,
      )

  pub members_kept : (said' : ℕ → Option Free) (n i named : ℕ) → i ≤ n → ((j : ℕ) → j < n → said' (member_at said named j - 1) ≡ said (member_at said named j - 1)) → member_at said' named i ≡ member_at said named i
  members_kept said' n zero named le same = refl
  members_kept said' zero (suc i) named le same = absurd (omega arith)
  members_kept said' (suc n) (suc i) named le same =
      let here : said' (named - 1) ≡ said (named - 1) = same zero (omega arith) in
      ap (λ (o : Option Free). member_at said' (next_of o) i) here ∙ members_kept said' n i (next_of (said (named - 1))) (omega arith) (λ j lt. same (suc j) (omega arith))

-- so many members follow one another
pub member_after : (said : ℕ → Option Free) (named n i : ℕ) → member_at said (member_at said named n) i ≡ member_at said named (n + i)
member_after said named zero i = ap (λ (j : ℕ). member_at said named j) (let e : i ≡ 0 + i = omega arith in e)
member_after said named (suc n) i = member_after said (next_of (said (named - 1))) n i ∙ ap (λ (j : ℕ). member_at said named j) (let e : suc (n + i) ≡ suc n + i = omega arith in e)

-- the members, each as its distance from the lowest number
abbrev members : (ℕ → Option Free) → ℕ → ℕ → ℕ → List ℕ
members said low zero named = []
members said low (suc n) named = (named - 1 - low) ∷ members said low n (next_of (said (named - 1)))

module _ (said : ℕ → Option Free) (low end : ℕ) where
  many : (n named : ℕ) → length (members said low n named) ≡ n
  many zero named = refl
  many (suc n) named = ap suc (many n (next_of (said (named - 1))))

  -- one of a higher rank is not among them
  higher_apart : (n named m rank : ℕ) → IsList said low end n named → low ≤ m → HasRank rank (said m) → n < rank → AllByRecursion (λ y. nat_eq (m - low) y ≡ false) (members said low n named)
  higher_apart zero named m rank l le ranked less = tt
  higher_apart (suc n) named m rank l le ranked less =
      let other : m ≢ named - 1 = λ same. (let e = one_rank (said m) rank (suc n) ranked (subst (λ (x : ℕ). HasRank (suc n) (said x)) (sym same) l.1) in omega (arith, e, less)) in
      let apart : m - low ≢ named - 1 - low = λ same. other (omega (arith, same, le, l.0.0)) in
      (grind (arith, nat_tests, apart), higher_apart n (next_of (said (named - 1))) m rank l.2 le ranked (omega arith))

  distinct : (n named : ℕ) → IsList said low end n named → IsDistinct nat_eq (members said low n named)
  unfolding IsDistinct
  distinct zero named l = tt
  distinct (suc n) named l = (higher_apart n (next_of (said (named - 1))) (named - 1) (suc n) l.2 (omega (arith, l.0.0)) l.1 (omega arith), distinct n (next_of (said (named - 1))) l.2)

  inside : (n named q : ℕ) → IsList said low end n named → list_any (nat_eq q) (members said low n named) ≡ true → q < end - low
  inside zero named q l has = absurd (cc)
  inside (suc n) named q l has = elim (cases_Bool (nat_eq q (named - 1 - low))) [
    | inl here ↦ (let e : q ≡ named - 1 - low = grind (arith, nat_tests) in omega (arith, e, l.0.0, l.0.1))
    | inr there ↦ inside n (next_of (said (named - 1))) q l.2 (rw there at has)
  ]

  -- no more are free than there are numbers
  pub list_few : (n named : ℕ) → low ≤ end → IsList said low end n named → n + low ≤ end
  list_few n named le l =
      let few = length-le_from_distinct_below (members said low n named) (end - low) (distinct n named l) (λ q has. inside n named q l has) in
      omega (arith, few, many n named, le)

-- A list is a stack. One more member: it is named first now, names the one that was first, and ranks above them all.
pub list_pushed : (said said' : ℕ → Option Free) (low end n named m : ℕ) → IsList said low end n named → low ≤ m → m < end → said' m ≡ Some (record { next = named; rank = suc n })
    → ((x : ℕ) → low ≤ x → x < end → said x ≢ None → said' x ≡ said x) → IsList said' low end (suc n) (suc m)
list_pushed said said' low end n named m l from to is same =
    let kept = list_kept said low end said' end n named (omega arith) l (λ i lt.
    let r = member_is said low end n i named l lt in
    same (member_at said named i - 1) (omega (arith, r.0.0)) (omega (arith, r.0.0, r.0.1)) (rank_some (said (member_at said named i - 1)) (n - i) r.1)) in
    let at : suc m - 1 ≡ m = omega arith in
    let here : said' (suc m - 1) ≡ Some (record { next = named; rank = suc n }) = ap said' at ∙ is in (
      (omega (arith, from), omega (arith, to)),
      subst (λ (o : Option Free). HasRank (suc n) o) (sym here) refl,
      subst (λ (o : Option Free). IsList said' low end n (next_of o)) (sym here) kept,
    )

-- one less: the first may say anything then
pub list_popped : (said said' : ℕ → Option Free) (low end n named : ℕ) → IsList said low end (suc n) named → ((x : ℕ) → x ≢ named - 1 → said x ≢ None → said' x ≡ said x)
    → IsList said' low end n (next_of (said (named - 1)))
list_popped said said' low end n named l same =
    list_kept said low end said' end n (next_of (said (named - 1))) (omega arith) l.2 (λ i lt.
    let r = member_is said low end (suc n) (suc i) named l (omega (arith, lt)) in
    same (member_at said named (suc i) - 1) (members_differ said low end (suc n) (suc i) 0 named l (omega (arith, lt)) (omega arith) (λ e. omega (arith, e))) (rank_some (said (member_at said named (suc i) - 1)) (suc n - suc i) r.1))

-- if one of the range is not free, fewer are free than there are numbers
pub list_room : (said : ℕ → Option Free) (low end n named m : ℕ) → IsList said low end n named → low ≤ m → m < end → said m ≡ None → n + low < end
list_room said low end n named m l from to none =
    let with_one : ℕ → Option Free = λ x. if nat_eq x m then Some (record { next = named; rank = suc n }) else said x in
    let here : with_one m ≡ Some (record { next = named; rank = suc n }) = (let b : nat_eq m m ≡ true = grind (arith, nat_tests) in rw b refl) in
    let same : (x : ℕ) → said x ≢ None → with_one x ≡ said x = λ x some.
    let other : x ≢ m = λ e. some (ap said e ∙ none) in
    (let b : nat_eq x m ≡ false = grind (arith, nat_tests, other) in rw b refl) in
    let few = list_few with_one low end (suc n) (suc m) (omega (arith, from, to)) (list_pushed said with_one low end n named m l from to here (λ x low' high some. same x some)) in
    omega (arith, few)

-- a list has at most one verdict
pub list_single : (said : ℕ → Option Free) (page_of : ℕ → ℕ) (low end n named page : ℕ) → IsSingle (list_check said page_of low end n named page)
list_single said page_of low end zero named page = test_single (named ≡ 0) page
list_single said page_of low end (suc n) named page =
    both_single (test (Names low end named) page) (both (test (HasRank (suc n) (said (named - 1))) (page_of (named - 1))) (list_check said page_of low end n (next_of (said (named - 1))) (page_of (named - 1))))
    (test_single (Names low end named) page)
    (both_single (test (HasRank (suc n) (said (named - 1))) (page_of (named - 1))) (list_check said page_of low end n (next_of (said (named - 1))) (page_of (named - 1)))
    (test_single (HasRank (suc n) (said (named - 1))) (page_of (named - 1)))
    (list_single said page_of low end n (next_of (said (named - 1))) (page_of (named - 1))))
