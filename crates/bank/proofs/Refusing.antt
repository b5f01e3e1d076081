-- Why a payment is given up, by what was read before.
use Rattle.std.proofs.Common.{◌≡◌, ℕ, inl, inr, ⊎_elim, Option, Some, List, ◌∙◌, sym, ap, subst}
use Rattle.std.specs.Prelude.{◌⊎◌, decimal}
use Rattle.std.specs.FinMap.{get}
use Rattle.history.specs.Key.{main_name, of_main}
use Rattle.history.specs.Table.{Granted, begun, worked}
use Rattle.history.specs.Writes.{Table}
use Rattle.history.specs.declared.call.TableCall.TheVariants.{Get}
use Rattle.history.specs.declared.call.Reply.TheVariants.{Found}
use Rattle.caller_steps.specs.Core.{CoreView}
use Rattle.caller_steps.specs.State.{records_of}
use Rattle.transactions.specs.Adds.{Stays, Adds}
use Rattle.transactions.specs.Makes.{IsGivenUp}
use Rattle.transactions.specs.declared.work.Stop.{Stop}
use Rattle.transactions.specs.declared.work.Stop.TheVariants.{Refused, GivenUp}
use Rattle.transactions.proofs.Reading.{read_is}
use Rattle.bank.specs.Moves.{HasFoundNone, HasNoReason, IsNoNumber, IsOfRead, IsRefused}
use Rattle.bank.specs.declared.accounts.Refusal.{Refusal}
use Rattle.bank.specs.declared.accounts.Refusal.TheVariants.{NoAccount, Insufficient, TooMuch}

-- a write stops only because the core refused it,
pub unwritten : (from to amount : ℕ) (table : Table) (stop : Stop Refusal) → HasNoReason stop → IsGivenUp (IsRefused from to amount) table stop
unwritten from to amount table (Refused refusal) none = tt
unwritten from to amount table (GivenUp reason) none = absurd none

-- and a read also where it found no number
pub unread : (from to amount caller account : ℕ) (front : Granted) (old mid new : CoreView) (stop : Stop Refusal) → (account ≡ from) ⊎ (account ≡ to) → Stays caller old new → mid.state.live caller ≡ Some front
    → (worked (begun (records_of new.state)) front).table ≡ records_of new.state → IsOfRead account stop → HasFoundNone account caller mid new stop → IsGivenUp (IsRefused from to amount) (records_of old.state) stop
unread from to amount caller account front old mid new (Refused refusal) which stays live wrote named none = tt
unread from to amount caller account front old mid new (GivenUp (NoAccount other)) which stays live wrote named none =
    let there = read_is caller account main_name old mid new front stays live wrote none.0 none.2 in (
      ⊎_elim (λ is. inl (named ∙ is)) (λ is. inr (named ∙ is)) which,
      subst (λ (told : Option (List ℕ)). IsNoNumber told) (there ∙ ap (λ (key : ℕ). get (records_of old.state) (of_main key)) (sym named)) none.1,
    )
unread from to amount caller account front old mid new (GivenUp (Insufficient balance)) which stays live wrote named none = absurd named
unread from to amount caller account front old mid new (GivenUp (TooMuch balance)) which stays live wrote named none = absurd named

-- a read that found a number found that of the records before
pub has_balance : (caller account balance : ℕ) (front : Granted) (old mid new : CoreView) → Stays caller old new → mid.state.live caller ≡ Some front → (worked (begun (records_of new.state)) front).table ≡ records_of new.state
    → Adds caller (Get main_name account) (Found (decimal balance)) mid new → get (records_of old.state) (of_main account) ≡ Some (decimal balance)
has_balance caller account balance front old mid new stays live wrote adds = sym (read_is caller account main_name old mid new front stays live wrote (Some (decimal balance)) adds)
