-- What a transaction was told of a record before it wrote anything is what the records have.
use Rattle.std.proofs.Common.{◌≡◌, ℕ, List, [], ◌∷◌, ◌++◌, Option, Some, None, unwrap_or, ◌∙◌, ap, subst}
use Rattle.std.specs.FinMap.{get}
use Rattle.history.specs.Key.{of_table}
use Rattle.history.specs.Legal.{records}
use Rattle.history.specs.Table.{Granted, Work, begun, after, worked, found, Answers, IsRight, IsRightFrom}
use Rattle.history.specs.Writes.{Table}
use Rattle.history.specs.declared.call.TableCall.{TableCall}
use Rattle.history.specs.declared.call.TableCall.TheVariants.{Get}
use Rattle.history.specs.declared.call.Reply.{Reply}
use Rattle.history.specs.declared.call.Reply.TheVariants.{Found, Absent}
use Rattle.caller_steps.specs.Core.{CoreView}
use Rattle.caller_steps.specs.State.{State, records_of}
use Rattle.caller_steps.specs.Sound.{IsSound}
use Rattle.transactions.specs.Adds.{Stays, Adds}

found_same : (one other : Option (List ℕ)) → found one ≡ found other → one ≡ other
found_same None None same = cc
found_same (Some a) (Some b) same = cc
found_same None (Some b) same = absurd (let e : Absent ≡ Found b = same in cc)
found_same (Some a) None same = absurd (let e : Found a ≡ Absent = same in cc)

right_at : (work : Work) (front back : Granted) (call : TableCall) (reply : Reply) → IsRightFrom work (front ++ (call, reply) ∷ back) → Answers (worked work front) call reply
right_at work [] back call reply right = right.0
right_at work (entry ∷ front) back call reply right = right_at (after work entry.0) front back call reply right.1

pub read_among : (state : State) (caller : ℕ) (front back : Granted) (name : List ℕ) (key : ℕ) (told : Option (List ℕ)) → IsSound state
    → state.live caller ≡ Some (front ++ (Get name key, found told) ∷ back) → (worked (begun (records_of state)) front).table ≡ records_of state → told ≡ get (records_of state) (of_table name key)
read_among state caller front back name key told sound live wrote =
    let calls : Granted = front ++ (Get name key, found told) ∷ back in
    let right : IsRight (records_of state) calls = subst (λ (o : Option Granted). IsRight (records_of state) (unwrap_or o [])) live (sound.right caller) in
    found_same told (get (worked (begun (records_of state)) front).table (of_table name key)) (right_at (begun (records_of state)) front back (Get name key) (found told) right)
    ∙ ap (λ (table : Table). get table (of_table name key)) wrote

-- so it is of the records before a transaction of which these are the calls so far
pub read_is : (caller key : ℕ) (name : List ℕ) (first old new : CoreView) (front : Granted) → Stays caller first new → old.state.live caller ≡ Some front
    → (worked (begun (records_of new.state)) front).table ≡ records_of new.state → (told : Option (List ℕ)) → Adds caller (Get name key) (found told) old new → told ≡ get (records_of first.state) (of_table name key)
read_is caller key name first old new front stays live wrote told adds =
    let calls : new.state.live caller ≡ Some (front ++ (Get name key, found told) ∷ []) = adds ∙ ap (λ (o : Option Granted). Some (unwrap_or o [] ++ (Get name key, found told) ∷ [])) live in
    let table : records_of new.state ≡ records_of first.state = (λ i. records (stays.goes_on.base i) (stays.history i)) in
    read_among new.state caller front [] name key told stays.goes_on.sound calls wrote ∙ ap (λ (t : Table). get t (of_table name key)) table
