-- What a transfer does to a core, and why it is not made.
use Rattle.std.specs.Prelude.{ℕ, ◌≡◌, ◌+◌, ◌^◌, ◌<◌, ◌≤◌, ◌⊎◌, ◌++◌, List, Option, Some, None, decimal}
use Rattle.std.specs.FinMap.{get}
use Rattle.history.specs.Key.{main_name, of_main}
use Rattle.history.specs.Table.{found}
use Rattle.history.specs.Writes.{Table}
use Rattle.history.specs.declared.call.TableCall.TheVariants.{Get}
use Rattle.caller_steps.specs.Core.{CoreView}
use Rattle.caller_steps.specs.State.{State}
use Rattle.transactions.specs.Adds.{Adds}
use Rattle.transactions.specs.declared.work.Stop.{Stop}
use Rattle.transactions.specs.declared.work.Stop.TheVariants.{Refused, GivenUp}
use Rattle.bank.specs.Accounts.{KeepsSum}
use Rattle.bank.specs.declared.accounts.Refusal.{Refusal}
use Rattle.bank.specs.declared.accounts.Refusal.TheVariants.{NoAccount, Insufficient, TooMuch}

-- each prefix of the history keeps the sum, also with what is in doubt
abbrev pub IsBalanced : State → Type 0
IsBalanced state = KeepsSum state.base (state.history ++ state.doubt)

-- there is no record, or one that is the decimal of no u64
abbrev pub IsNoNumber : Option (List ℕ) → Type 0
IsNoNumber None = Unit {0}
IsNoNumber (Some text) = (n : ℕ) → n < 2 ^ 64 → text ≡ decimal n → ⊥

-- an account has no balance
abbrev pub HasNoBalance : ℕ → Table → Type 0
HasNoBalance account table = IsNoNumber (get table (of_main account))

-- why a transfer is refused on the records before it
abbrev pub IsRefused : ℕ → ℕ → ℕ → Refusal → Table → Type 0
IsRefused from to amount (NoAccount account) table = ((account ≡ from) ⊎ (account ≡ to)) × HasNoBalance account table
IsRefused from to amount (Insufficient balance) table = (get table (of_main from) ≡ Some (decimal balance)) × (balance < amount)
IsRefused from to amount (TooMuch balance) table = (get table (of_main to) ≡ Some (decimal balance)) × (2 ^ 64 ≤ balance + amount)

-- why a balance is not given
abbrev pub IsUntold : ℕ → Refusal → Table → Type 0
IsUntold account (NoAccount named) table = (named ≡ account) × HasNoBalance account table
IsUntold account refusal table = ⊥

-- there is no reason but that the core refused a call
abbrev pub HasNoReason : Stop Refusal → Type 0
HasNoReason (Refused refusal) = Unit {0}
HasNoReason _ = ⊥

-- a read also stops if there is no such account
abbrev pub IsOfRead : ℕ → Stop Refusal → Type 0
IsOfRead account (GivenUp (NoAccount named)) = named ≡ account
IsOfRead account stop = HasNoReason stop

-- a read that stops with a reason of its own has found no number
abbrev pub HasFoundNone : ℕ → ℕ → CoreView → CoreView → Stop Refusal → Type 0
HasFoundNone account caller old new (Refused refusal) = Unit {0}
HasFoundNone account caller old new (GivenUp reason) = (told : Option (List ℕ)) × IsNoNumber told × Adds caller (Get main_name account) (found told) old new
