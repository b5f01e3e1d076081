-- What a caller sees after a call of its transaction.
use Rattle.std.proofs.Common.{◌≡◌, ℕ, [], ◌∷◌, ◌++◌, Option, unwrap_or, ◌∙◌, subst}
use Rattle.std.proofs.lemmas.List.Sums.{fold-append}
use Rattle.history.specs.Legal.{records}
use Rattle.history.specs.Table.{Granted, Work, begun, after, worked, Answers, IsRight, IsRightFrom}
use Rattle.history.specs.Writes.{Table}
use Rattle.history.specs.declared.call.TableCall.{TableCall}
use Rattle.history.specs.declared.call.Reply.{Reply}
use Rattle.caller_steps.specs.Core.{CoreView}
use Rattle.caller_steps.specs.State.{records_of, calls_of, view_of}
use Rattle.transactions.specs.Adds.{Stays, Adds, Keeps}

same_records : (caller : ℕ) (old new : CoreView) → Stays caller old new → records_of new.state ≡ records_of old.state
same_records caller old new stays = λ i. records (stays.goes_on.base i) (stays.history i)

-- a granted call makes of it what it makes of a table,
pub added : (caller : ℕ) (old new : CoreView) (call : TableCall) (reply : Reply) → Stays caller old new → Adds caller call reply old new → view_of new.state caller ≡ after (view_of old.state caller) call
added caller old new call reply stays adds =
    (λ i. worked (begun (same_records caller old new stays i)) (unwrap_or (adds i) []))
    ∙ fold-append (λ (was : Work) (entry : TableCall × Reply). after was entry.0) (begun (records_of old.state)) (calls_of old.state caller) ((call, reply) ∷ [])

-- one that is refused changes nothing,
pub kept : (caller : ℕ) (old new : CoreView) → Stays caller old new → Keeps caller old new → view_of new.state caller ≡ view_of old.state caller
kept caller old new stays keeps = λ i. worked (begun (same_records caller old new stays i)) (unwrap_or (keeps i) [])

right_at : (work : Work) (front : Granted) (call : TableCall) (reply : Reply) → IsRightFrom work (front ++ (call, reply) ∷ []) → Answers (worked work front) call reply
right_at work [] call reply right = right.0
right_at work (entry ∷ front) call reply right = right_at (after work entry.0) front call reply right.1

-- and it is answered from what the caller saw
pub answered : (caller : ℕ) (old new : CoreView) (call : TableCall) (reply : Reply) → Stays caller old new → Adds caller call reply old new → Answers (view_of old.state caller) call reply
answered caller old new call reply stays adds =
    let right : IsRight (records_of new.state) (calls_of old.state caller ++ (call, reply) ∷ []) = subst (λ (o : Option Granted). IsRight (records_of new.state) (unwrap_or o [])) adds (stays.goes_on.sound.right caller) in
    subst (λ (t : Table). Answers (worked (begun t) (calls_of old.state caller)) call reply) (same_records caller old new stays) (right_at (begun (records_of new.state)) (calls_of old.state caller) call reply right)
