-- A push and a take on the ring.
use Rattle.std.proofs.Common.{◌≡◌, ◌≢◌, ℕ, suc, ◌+◌, ◌-◌, ◌<◌, ◌≤◌, ◌⊎◌, inl, inr, ⊎_elim, List, [], ◌∷◌, ◌++◌, length, Option, Some, None, refl, sym, ◌∙◌, ap, subst, arith}
use Rattle.std.specs.Prelude.{decimal, ◌^◌}
use Rattle.std.specs.FinMap.{get, insert}
use Rattle.std.proofs.lemmas.Bool.{cases_lt, cond_below, cond_above}
use Rattle.std.proofs.lemmas.Fmt.{decimal_injective}
use Rattle.std.proofs.lemmas.List.{length-append}
use Rattle.history.specs.Key.{of_main}
use Rattle.history.specs.Writes.{Table, set_or_remove}
use Rattle.job_queue.specs.Queue.{IsNumber, place, Lie, IsQueue, Pushes, Takes}

-- a place is before the end of the ring or behind its beginning
place_is : (size first n : ℕ) → ((first + n < size) × (place size first n ≡ first + n)) ⊎ ((size ≤ first + n) × (place size first n ≡ first + n - size))
place_is size first n = ⊎_elim (λ lt. inl (lt, sym (cond_below (first + n) size (first + n) (first + n - size) lt)))
    (λ le. inr (le, sym (cond_above (first + n) size (first + n) (first + n - size) (first + n - size) le refl))) (cases_lt (first + n) size)

-- two places less than a ring apart differ
apart : (size first n m : ℕ) → first < size → n < m → m < size → place size first n ≢ place size first m
apart size first n m within less below same = by (place_is size first n) (place_is size first m)
  where
    by : ((first + n < size) × (place size first n ≡ first + n)) ⊎ ((size ≤ first + n) × (place size first n ≡ first + n - size))
        → ((first + m < size) × (place size first m ≡ first + m)) ⊎ ((size ≤ first + m) × (place size first m ≡ first + m - size)) → ⊥
    by (inl a) (inl b) = omega (arith, a.0, a.1, b.0, b.1, same, within, less, below)
    by (inl a) (inr b) = omega (arith, a.0, a.1, b.0, b.1, same, within, less, below)
    by (inr a) (inl b) = omega (arith, a.0, a.1, b.0, b.1, same, within, less, below)
    by (inr a) (inr b) = omega (arith, a.0, a.1, b.0, b.1, same, within, less, below)

-- the places after the second one are those of a ring that begins there
next : (size first n : ℕ) → first < size → suc n < size ⊎ (suc n ≡ size) → place size (place size first 1) n ≡ place size first (suc n)
next size first n within few = by (place_is size first 1) (place_is size (place size first 1) n) (place_is size first (suc n)) (⊎_elim (λ lt. omega (arith, lt)) (λ is. omega (arith, is)) few)
  where
    by : ((first + 1 < size) × (place size first 1 ≡ first + 1)) ⊎ ((size ≤ first + 1) × (place size first 1 ≡ first + 1 - size))
        → ((place size first 1 + n < size) × (place size (place size first 1) n ≡ place size first 1 + n)) ⊎ ((size ≤ place size first 1 + n) × (place size (place size first 1) n ≡ place size first 1 + n - size))
        → ((first + suc n < size) × (place size first (suc n) ≡ first + suc n)) ⊎ ((size ≤ first + suc n) × (place size first (suc n) ≡ first + suc n - size)) → n < size
        → place size (place size first 1) n ≡ place size first (suc n)
    by (inl a) (inl b) (inl c) most = omega (arith, a.0, a.1, b.0, b.1, c.0, c.1, within, most)
    by (inl a) (inl b) (inr c) most = omega (arith, a.0, a.1, b.0, b.1, c.0, c.1, within, most)
    by (inl a) (inr b) (inl c) most = omega (arith, a.0, a.1, b.0, b.1, c.0, c.1, within, most)
    by (inl a) (inr b) (inr c) most = omega (arith, a.0, a.1, b.0, b.1, c.0, c.1, within, most)
    by (inr a) (inl b) (inl c) most = omega (arith, a.0, a.1, b.0, b.1, c.0, c.1, within, most)
    by (inr a) (inl b) (inr c) most = omega (arith, a.0, a.1, b.0, b.1, c.0, c.1, within, most)
    by (inr a) (inr b) (inl c) most = omega (arith, a.0, a.1, b.0, b.1, c.0, c.1, within, most)
    by (inr a) (inr b) (inr c) most = omega (arith, a.0, a.1, b.0, b.1, c.0, c.1, within, most)

-- a record is one number at most
pub same_number : (m n : ℕ) (told : Option (List ℕ)) → m < 2 ^ 64 → n < 2 ^ 64 → IsNumber m told → IsNumber n told → m ≡ n
same_number m n (Some text) fits fits' is is' = decimal_injective m n fits fits' (sym is ∙ is')
same_number m n None fits fits' is is' = is ∙ sym is'

-- the jobs still lie there if their places were not written
lie_on : (size first n : ℕ) (old new : Table) (jobs : List (List ℕ)) → ((m : ℕ) → n ≤ m → m < n + length jobs → get new (of_main (place size first m + 2)) ≡ get old (of_main (place size first m + 2)))
    → Lie size old first n jobs → Lie size new first n jobs
lie_on size first n old new [] same lie = tt
lie_on size first n old new (job ∷ jobs) same lie =
    (same n (omega arith) (omega arith) ∙ lie.0, lie_on size first (suc n) old new jobs (λ m le lt. same m (omega (arith, le)) (omega (arith, lt))) lie.1)

-- one more job at the end
lie_more : (size first n : ℕ) (table : Table) (jobs : List (List ℕ)) (job : List ℕ) → Lie size table first n jobs → get table (of_main (place size first (n + length jobs) + 2)) ≡ Some job → Lie size table first n (jobs ++ job ∷ [])
lie_more size first n table [] job lie here = (ap (λ (m : ℕ). get table (of_main (place size first m + 2))) (omega arith) ∙ here, tt)
lie_more size first n table (other ∷ jobs) job lie here =
    (lie.0, lie_more size first (suc n) table jobs job lie.1 (ap (λ (m : ℕ). get table (of_main (place size first m + 2))) (omega arith) ∙ here))

-- the jobs after the first one, in a ring that begins behind it
lie_next : (size first n : ℕ) (table : Table) (jobs : List (List ℕ)) → first < size → n + length jobs < size → Lie size table first (suc n) jobs → Lie size table (place size first 1) n jobs
lie_next size first n table [] within few lie = tt
lie_next size first n table (job ∷ jobs) within few lie =
    (ap (λ (p : ℕ). get table (of_main (p + 2))) (next size first n within (inl (omega (arith, few)))) ∙ lie.0, lie_next size first (suc n) table jobs within (omega (arith, few)) lie.1)

next_within : (size first : ℕ) → first < size → place size first 1 < size
next_within size first within = by (place_is size first 1)
  where
    by : ((first + 1 < size) × (place size first 1 ≡ first + 1)) ⊎ ((size ≤ first + 1) × (place size first 1 ≡ first + 1 - size)) → place size first 1 < size
    by (inl a) = omega (arith, a.0, a.1)
    by (inr a) = omega (arith, a.0, a.1, within)

-- a write shows under its key,
abbrev pub ShowsHere : Type 0
ShowsHere = (table : Table) (key : ℕ) (value : Option (List ℕ)) → get (set_or_remove table (of_main key) value) (of_main key) ≡ value

-- and changes nothing under other keys
abbrev pub LeavesOthers : Type 0
LeavesOthers = (table : Table) (key other : ℕ) (value : Option (List ℕ)) → other ≢ key → get (set_or_remove table (of_main key) value) (of_main other) ≡ get table (of_main other)

module _ (set_here : ShowsHere) (set_there : LeavesOthers) where
  -- after a push
  pub push_queues : (size : ℕ) (job : List ℕ) (old new : Table) (jobs : List (List ℕ)) → size ≤ 2 ^ 32 → IsQueue size old jobs → Pushes size job old new → IsQueue size new (jobs ++ job ∷ [])
  push_queues size job old new jobs most q p = subst (λ (t : Table). IsQueue size t (jobs ++ job ∷ [])) (sym p.becomes) queue
    where
      put : Table
      put = insert old (of_main (place size p.first p.count + 2)) job

      made : Table
      made = insert put (of_main 1) (decimal (p.count + 1))

      count_is : p.count ≡ length jobs
      count_is = let room = p.room in let fits = q.fits in same_number p.count (length jobs) (get old (of_main 1)) (omega (arith, most, room)) (omega (arith, most, fits)) p.says_count q.says_count

      first_is : p.first ≡ q.first
      first_is = let one = p.within in let other = q.within in same_number p.first q.first (get old (of_main 0)) (omega (arith, most, one)) (omega (arith, most, other)) p.says_first q.says_first

      more : length (jobs ++ job ∷ []) ≡ p.count + 1
      more = length-append jobs (job ∷ []) ∙ ap (λ (n : ℕ). n + 1) (sym count_is)

      other : (key : ℕ) → key ≢ 1 → key ≢ place size p.first p.count + 2 → get made (of_main key) ≡ get old (of_main key)
      other key one two = set_there put 1 key (Some (decimal (p.count + 1))) one ∙ set_there old (place size p.first p.count + 2) key (Some job) two

      here : get made (of_main (place size p.first p.count + 2)) ≡ Some job
      here = set_there put 1 (place size p.first p.count + 2) (Some (decimal (p.count + 1))) (λ is. omega (arith, is)) ∙ set_here old (place size p.first p.count + 2) (Some job)

      kept : (m : ℕ) → 0 ≤ m → m < 0 + length jobs → get made (of_main (place size p.first m + 2)) ≡ get old (of_main (place size p.first m + 2))
      kept m le lt = let room = p.room in other (place size p.first m + 2) (λ is. omega (arith, is))
          (λ is. apart size p.first m p.count p.within (omega (arith, lt, count_is)) room (omega (arith, is)))

      lies : Lie size made p.first 0 (jobs ++ job ∷ [])
      lies = lie_more size p.first 0 made jobs job (lie_on size p.first 0 old made jobs kept (subst (λ (f : ℕ). Lie size old f 0 jobs) (sym first_is) q.lie))
          (ap (λ (n : ℕ). get made (of_main (place size p.first n + 2))) (omega (arith, count_is)) ∙ here)

      queue : IsQueue size made (jobs ++ job ∷ [])
      queue = record {
        first = p.first;
        within = p.within;
        says_first = subst (λ (o : Option (List ℕ)). IsNumber p.first o) (sym (other 0 (λ is. omega (arith, is)) (λ is. omega (arith, is)))) p.says_first;
        says_count = subst (λ (o : Option (List ℕ)). IsNumber (length (jobs ++ job ∷ [])) o) (sym (set_here put 1 (Some (decimal (p.count + 1))))) (ap decimal (sym more));
        fits = let room = p.room in omega (arith, room, more);
        lie = lies;
      }

  -- after a take
  pub take_queues : (size : ℕ) (job : List ℕ) (old new : Table) (jobs : List (List ℕ)) → size ≤ 2 ^ 32 → IsQueue size old jobs → Takes size job old new → (rest : List (List ℕ)) × (jobs ≡ job ∷ rest) × IsQueue size new rest
  take_queues size job old new [] most q p =
      let some = p.some in let fits = p.fits in
      absurd (let e = same_number p.count 0 (get old (of_main 1)) (omega (arith, most, fits)) (omega arith) p.says_count q.says_count in omega (arith, e, some))
  take_queues size job old new (one ∷ rest) most q p = (rest, ap (λ (j : List ℕ). j ∷ rest) job_is, subst (λ (t : Table). IsQueue size t rest) (sym p.becomes) queue)
    where
      put : Table
      put = insert old (of_main 0) (decimal (place size p.first 1))

      made : Table
      made = insert put (of_main 1) (decimal (p.count - 1))

      count_is : p.count ≡ suc (length rest)
      count_is = let fits = p.fits in let fits' = q.fits in same_number p.count (suc (length rest)) (get old (of_main 1)) (omega (arith, most, fits)) (omega (arith, most, fits')) p.says_count q.says_count

      first_is : p.first ≡ q.first
      first_is = let a = p.within in let b = q.within in same_number p.first q.first (get old (of_main 0)) (omega (arith, most, a)) (omega (arith, most, b)) p.says_first q.says_first

      place_here : place size p.first 0 ≡ p.first
      place_here = let within = p.within in by (place_is size p.first 0)
        where
          by : ((p.first + 0 < size) × (place size p.first 0 ≡ p.first + 0)) ⊎ ((size ≤ p.first + 0) × (place size p.first 0 ≡ p.first + 0 - size)) → place size p.first 0 ≡ p.first
          by (inl a) = omega (arith, a.1)
          by (inr a) = let within = p.within in omega (arith, a.0, within)

      lie_old : Lie size old p.first 0 (one ∷ rest)
      lie_old = subst (λ (f : ℕ). Lie size old f 0 (one ∷ rest)) (sym first_is) q.lie

      job_is : one ≡ job
      job_is = let e : Some one ≡ Some job = sym lie_old.0 ∙ ap (λ (n : ℕ). get old (of_main (n + 2))) place_here ∙ p.has in cc

      other : (key : ℕ) → key ≢ 1 → key ≢ 0 → get made (of_main key) ≡ get old (of_main key)
      other key one two = set_there put 1 key (Some (decimal (p.count - 1))) one ∙ set_there old 0 key (Some (decimal (place size p.first 1))) two

      says : get made (of_main 0) ≡ Some (decimal (place size p.first 1))
      says = set_there put 1 0 (Some (decimal (p.count - 1))) (λ is. omega (arith, is)) ∙ set_here old 0 (Some (decimal (place size p.first 1)))

      few : length rest < size
      few = let fits = q.fits in omega (arith, fits)

      lies : Lie size made (place size p.first 1) 0 rest
      lies = lie_on size (place size p.first 1) 0 old made rest (λ m le lt. other (place size (place size p.first 1) m + 2) (λ is. omega (arith, is)) (λ is. omega (arith, is)))
          (lie_next size p.first 0 old rest p.within (omega (arith, few)) lie_old.1)

      queue : IsQueue size made rest
      queue = record {
        first = place size p.first 1;
        within = next_within size p.first p.within;
        says_first = subst (λ (o : Option (List ℕ)). IsNumber (place size p.first 1) o) (sym says) refl;
        says_count = subst (λ (o : Option (List ℕ)). IsNumber (length rest) o) (sym (set_here put 1 (Some (decimal (p.count - 1))))) (ap decimal (omega (arith, count_is)));
        fits = omega (arith, few);
        lie = lies;
      }
