-- A user who comes into a group leaves both tables in step, and so does one of whom that is in doubt.
use Rattle.std.proofs.Common.{◌≡◌, ◌≢◌, ℕ, ◌<◌, ◌≤◌, ⊎_elim, true, false, List, [], ◌∷◌, ◌++◌, length, take, Option, Some, None, sym, ◌∙◌, ap, subst, arith}
use Rattle.std.specs.Prelude.{decimal, ◌^◌, IsSome}
use Rattle.std.specs.FinMap.{get, insert}
use Rattle.std.proofs.Math.Dec.{eqb}
use Rattle.std.proofs.Math.Nat.{le_refl}
use Rattle.std.proofs.lemmas.Bool.{cases_lt}
use Rattle.std.proofs.lemmas.Bool.Decides.{eqb_tells}
use Rattle.std.proofs.lemmas.Fmt.{decimal_injective}
use Rattle.std.proofs.lemmas.List.{append-nil, take-append-le, take_all, length-append}
use Rattle.std.proofs.lemmas.List.Sums.{fold-append}
use Rattle.history.specs.Key.{main_name, of_main, of_table}
use Rattle.history.specs.declared.key.Key.{Key}
use Rattle.history.specs.Legal.{records}
use Rattle.history.specs.Table.{Granted, left_by}
use Rattle.history.specs.Writes.{Table, set_or_remove}
use Rattle.history.specs.declared.transaction.Done.{Done}
use Rattle.caller_steps.specs.Core.{CoreView}
use Rattle.caller_steps.specs.State.{records_of, done_by}
use Rattle.transactions.specs.Makes.{Adds, MayAdd}
use Rattle.membership.specs.Enrolled.{pair_key, Enrolls, AreInStep, StaysInStep}

-- a write shows under its key,
abbrev pub ShowsHere : Type 0
ShowsHere = (table : Table) (key : Key) (value : Option (List ℕ)) → get (set_or_remove table key value) key ≡ value

-- and changes nothing under other keys
abbrev pub LeavesOthers : Type 0
LeavesOthers = (table : Table) (key other : Key) (value : Option (List ℕ)) → other ≢ key → get (set_or_remove table key value) other ≡ get table other

-- a pair has a key of its own
same_user : (user group u g : ℕ) → user < 2 ^ 32 → u < 2 ^ 32 → pair_key g u ≡ pair_key group user → u ≡ user
same_user user group u g small small' is = omega (arith, small, small', is)

same_group : (user group u g : ℕ) → user < 2 ^ 32 → u < 2 ^ 32 → pair_key g u ≡ pair_key group user → g ≡ group
same_group user group u g small small' is = omega (arith, small, small', is)

some_is : (one other : List ℕ) → Some one ≡ Some other → one ≡ other
some_is one other is = cc

module _ (here : ShowsHere) (there : LeavesOthers) (groups : List ℕ) (apart : groups ≢ main_name) where
  across : (user pair : ℕ) → of_main user ≢ of_table groups pair
  across user pair is = apart (sym (ap (λ (k : Key). k.table) is))

  pub enrolled : (user group : ℕ) (old new : Table) → user < 2 ^ 32 → group < 2 ^ 32 → AreInStep groups old → Enrolls groups user group old new → AreInStep groups new
  enrolled user group old new user_small group_small step enrolls = subst (λ (t : Table). AreInStep groups t) (sym enrolls.becomes) (record { listed = listed; has = has })
    where
      pair : Key
      pair = of_table groups (pair_key group user)

      put : Table
      put = insert old (of_main user) (decimal group)

      made : Table
      made = insert put pair (decimal 1)

      user_here : get made (of_main user) ≡ Some (decimal group)
      user_here = there put pair (of_main user) (Some (decimal 1)) (across user (pair_key group user)) ∙ here old (of_main user) (Some (decimal group))

      user_there : (u : ℕ) → u ≢ user → get made (of_main u) ≡ get old (of_main u)
      user_there u ne = there put pair (of_main u) (Some (decimal 1)) (across u (pair_key group user)) ∙ there old (of_main user) (of_main u) (Some (decimal group)) (λ is. ne (ap (λ (k : Key). k.key) is))

      pair_here : get made pair ≡ Some (decimal 1)
      pair_here = here put pair (Some (decimal 1))

      pair_there : (k : ℕ) → k ≢ pair_key group user → get made (of_table groups k) ≡ get old (of_table groups k)
      pair_there k ne = there put pair (of_table groups k) (Some (decimal 1)) (λ is. ne (ap (λ (k : Key). k.key) is))
          ∙ there old (of_main user) (of_table groups k) (Some (decimal group)) (λ is. across user k (sym is))

      listed : (u g : ℕ) → u < 2 ^ 32 → g < 2 ^ 32 → get made (of_main u) ≡ Some (decimal g) → get made (of_table groups (pair_key g u)) ≡ Some (decimal 1)
      listed u g u_small g_small is = ⊎_elim same other (eqb_tells u user)
        where
          same : (eqb u user ≡ true) × (u ≡ user) → get made (of_table groups (pair_key g u)) ≡ Some (decimal 1)
          same p =
              let text : decimal g ≡ decimal group = some_is (decimal g) (decimal group) (sym is ∙ ap (λ (v : ℕ). get made (of_main v)) p.1 ∙ user_here) in
              let group_is : g ≡ group = decimal_injective g group (omega (arith, g_small)) (omega (arith, group_small)) text in
              (λ i. get made (of_table groups (pair_key (group_is i) (p.1 i)))) ∙ pair_here

          other : (eqb u user ≡ false) × (u ≢ user) → get made (of_table groups (pair_key g u)) ≡ Some (decimal 1)
          other p = pair_there (pair_key g u) (λ eq. p.1 (same_user user group u g user_small u_small eq)) ∙ step.listed u g u_small g_small (sym (user_there u p.1) ∙ is)

      has : (u g : ℕ) → u < 2 ^ 32 → g < 2 ^ 32 → IsSome (get made (of_table groups (pair_key g u))) → get made (of_main u) ≡ Some (decimal g)
      has u g u_small g_small some = ⊎_elim same other (eqb_tells (pair_key g u) (pair_key group user))
        where
          same : (eqb (pair_key g u) (pair_key group user) ≡ true) × (pair_key g u ≡ pair_key group user) → get made (of_main u) ≡ Some (decimal g)
          same p =
              let user_is : u ≡ user = same_user user group u g user_small u_small p.1 in
              let group_is : g ≡ group = same_group user group u g user_small u_small p.1 in
              ap (λ (v : ℕ). get made (of_main v)) user_is ∙ user_here ∙ ap (λ (n : ℕ). Some (decimal n)) (sym group_is)

          other : (eqb (pair_key g u) (pair_key group user) ≡ false) × (pair_key g u ≢ pair_key group user) → get made (of_main u) ≡ Some (decimal g)
          other p =
              let was : get old (of_main u) ≡ Some (decimal g) = step.has u g u_small g_small (subst (λ (o : Option (List ℕ)). IsSome o) (pair_there (pair_key g u) p.1) some) in
              user_there u (λ eq. absurd (let e : None ≡ Some (decimal g) = sym enrolls.had_none ∙ ap (λ (v : ℕ). get old (of_main v)) (sym eq) ∙ was in cc)) ∙ was

-- one more transaction that leaves both in step
keeps_more : (groups : List ℕ) (base : Table) (history : List Done) (done : Done) → ((count : ℕ) → AreInStep groups (records base (take count history))) → (AreInStep groups (records base history) → AreInStep groups (left_by (records base history) done.calls))
    → (count : ℕ) → AreInStep groups (records base (take count (history ++ done ∷ [])))
keeps_more groups base history done keeps more count = ⊎_elim whole front (cases_lt (length history) count)
  where
    moved : (one other : Table) → one ≡ other → AreInStep groups one → AreInStep groups other
    moved one other is = subst (λ (t : Table). AreInStep groups t) is

    front : count ≤ length history → AreInStep groups (records base (take count (history ++ done ∷ [])))
    front le = moved _ _ (ap (λ (h : List Done). records base h) (sym (take-append-le count history (done ∷ []) le))) (keeps count)

    whole : length history < count → AreInStep groups (records base (take count (history ++ done ∷ [])))
    whole lt = moved _ _
        (sym (ap (λ (h : List Done). records base h) (take_all count (history ++ done ∷ []) (omega (arith, length-append history (done ∷ []), lt)))
        ∙ fold-append (λ (was : Table) (d : Done). left_by was d.calls) base history (done ∷ [])))
        (more (moved _ _ (ap (λ (h : List Done). records base h) (take_all (length history) history (le_refl (length history)))) (keeps (length history))))

-- the calls bring the user into the group
abbrev pub Enters : List ℕ → ℕ → ℕ → Unit {0} → Table → Granted → Type 0
Enters groups user group done table calls = Enrolls groups user group table (left_by table calls)

module _ (here : ShowsHere) (there : LeavesOthers) (groups : List ℕ) (apart : groups ≢ main_name) (caller user group : ℕ) (old new : CoreView) (user_small : user < 2 ^ 32) (group_small : group < 2 ^ 32)
    (base : new.state.base ≡ old.state.base) (keeps : StaysInStep groups old.state) where
  along : (history : List Done) → new.state.history ++ new.state.doubt ≡ history → ((count : ℕ) → AreInStep groups (records old.state.base (take count history))) → StaysInStep groups new.state
  along history is kept count = subst (λ (p : Table × List Done). AreInStep groups (records p.0 (take count p.1))) (λ i. (sym base i, sym is i)) (kept count)

  added : Adds (Enters groups user group) caller old new → StaysInStep groups new.state
  added adds =
      let certain : (count : ℕ) → AreInStep groups (records old.state.base (take count old.state.history)) =
      λ count. subst (λ (h : List Done). AreInStep groups (records old.state.base (take count h))) (ap (λ (d : List Done). old.state.history ++ d) adds.before ∙ append-nil old.state.history) (keeps count) in
      along (old.state.history ++ done_by old.state caller adds.calls ∷ []) adds.left
      (keeps_more groups old.state.base old.state.history (done_by old.state caller adds.calls) certain
      (λ step. enrolled here there groups apart user group (records_of old.state) (left_by (records_of old.state) adds.calls) user_small group_small step adds.does))

  pub in_step : MayAdd (Enters groups user group) caller old new → StaysInStep groups new.state
  in_step grows = ⊎_elim (λ same. along (old.state.history ++ old.state.doubt) same keeps) added grows
