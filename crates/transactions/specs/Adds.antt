-- What a call leaves of its caller's transaction.
use Rattle.std.specs.Prelude.{ℕ, ◌≡◌, ◌≢◌, ◌⊎◌, [], ◌∷◌, ◌++◌, Some, None}
use Rattle.history.specs.declared.call.TableCall.{TableCall}
use Rattle.history.specs.declared.call.Reply.{Reply}
use Rattle.caller_steps.specs.Core.{CoreView, Continues}
use Rattle.caller_steps.specs.State.{calls_of, done_by}
use Rattle.transactions.specs.Went.{Went}
use Rattle.transactions.specs.declared.refusal.Refusal.{Refusal}
use Rattle.transactions.specs.declared.refusal.Refusal.TheVariants.{Media}

-- nothing but calls of the caller: nothing was committed, nothing came to be in doubt, no other caller's transaction changed, and none was offered or
-- settled
pub record Stays (caller : ℕ) (old new : CoreView) : Type 0 where
  pub goes_on : Continues old new
  pub went : Went caller old new
  pub history : new.state.history ≡ old.state.history
  pub doubt : new.state.doubt ≡ old.state.doubt
  pub others : (other : ℕ) → other ≢ caller → new.state.live other ≡ old.state.live other
  pub offers : new.state.offers ≡ old.state.offers

-- the caller's transaction has one more granted call
abbrev pub Adds : ℕ → TableCall → Reply → CoreView → CoreView → Type 0
Adds caller call reply old new = new.state.live caller ≡ Some (calls_of old.state caller ++ (call, reply) ∷ [])

-- the caller's transaction is as it was
abbrev pub Keeps : ℕ → CoreView → CoreView → Type 0
Keeps caller old new = new.state.live caller ≡ old.state.live caller

-- the caller's transaction was committed
pub record Commits (caller : ℕ) (old new : CoreView) : Type 0 where
  pub history : new.state.history ≡ old.state.history ++ done_by old.state caller (calls_of old.state caller) ∷ []
  pub doubt : new.state.doubt ≡ old.state.doubt
  pub ended : new.state.live caller ≡ None

-- nothing came to be in doubt, or, after `Media`, the caller's transaction did
abbrev pub MayDoubt : ℕ → CoreView → CoreView → Refusal → Type 0
MayDoubt caller old new refusal =
    (new.state.doubt ≡ old.state.doubt) ⊎ ((refusal ≡ Media) × (new.state.doubt ≡ done_by old.state caller (calls_of old.state caller) ∷ []))

-- the transaction is as it was, or, after `Media`, it has ended
abbrev pub MayEnd : ℕ → CoreView → CoreView → Refusal → Type 0
MayEnd caller old new refusal = Keeps caller old new ⊎ ((refusal ≡ Media) × (new.state.live caller ≡ None))

-- nothing was added to the history, or the caller's transaction was, committed or in doubt
abbrev pub MayGrow : ℕ → CoreView → CoreView → Type 0
MayGrow caller old new =
    (new.state.history ++ new.state.doubt ≡ old.state.history ++ old.state.doubt)
    ⊎ ((old.state.doubt ≡ []) × (new.state.history ++ new.state.doubt ≡ old.state.history ++ done_by old.state caller (calls_of old.state caller) ∷ []))
