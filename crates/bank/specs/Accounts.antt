-- Accounts as records of the table `main`: the key is the account, and the value is its balance in decimal.
use Rattle.std.specs.Prelude.{ℕ, ◌≡◌, ◌+◌, ◌-◌, ◌^◌, ◌<◌, ◌≤◌, List, take, Some, decimal}
use Rattle.std.specs.List.{sum_by}
use Rattle.std.specs.FinMap.{get, insert, entries}
use Rattle.std.specs.Str.Parse.{digits_value}
use Rattle.history.specs.Key.{of_main}
use Rattle.history.specs.declared.key.Key.{Key}
use Rattle.history.specs.Writes.{Table}
use Rattle.history.specs.Legal.{records}
use Rattle.history.specs.declared.transaction.Done.{Done}

-- the number whose digits a text has
abbrev pub worth : List ℕ → ℕ
worth text = digits_value 10 text

-- the sum of all records of a table
abbrev pub sum_of : Table → ℕ
sum_of table = sum_by (λ (entry : Key × List ℕ). worth entry.1) (entries table)

-- this amount went from one account to the other, and no other record changed
pub record Transfers (from to amount : ℕ) (old new : Table) : Type 0 where
  pub payer : ℕ
  pub payee : ℕ
  pub has_payer : get old (of_main from) ≡ Some (decimal payer)
  pub has_payee : get old (of_main to) ≡ Some (decimal payee)
  pub enough : amount ≤ payer
  pub small : payer < 2 ^ 64
  pub fits : payee + amount < 2 ^ 64
  pub becomes : new ≡ insert (insert old (of_main from) (decimal (payer - amount))) (of_main to) (decimal (payee + amount))

-- the records of each prefix of the history have the same sum as those at the opening
abbrev pub KeepsSum : Table → List Done → Type 0
KeepsSum base history = (count : ℕ) → sum_of (records base (take count history)) ≡ sum_of base
