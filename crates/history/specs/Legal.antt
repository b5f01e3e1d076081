-- Histories, and which of them are legal: each transaction is right on what those before it leave.
use Rattle.std.specs.Prelude.{ℕ, ◌≡◌, ◌+◌, List, [], ◌∷◌}
use Rattle.std.specs.List.{fold}
use Rattle.history.specs.Writes.{Table}
use Rattle.history.specs.Table.{left_by, IsRight}
use Rattle.history.specs.declared.transaction.Done.{Done}

-- the table after a history
abbrev pub records : Table → List Done → Table
records base history = fold (λ was done. left_by was done.calls) base history

-- transactions numbered from n on
abbrev pub AreNumberedFrom : ℕ → List Done → Type 0
AreNumberedFrom n [] = Unit {0}
AreNumberedFrom n (done ∷ dones) = (done.at ≡ n) × AreNumberedFrom (n + 1) dones

-- transactions numbered from n on, each right on what those before it leave
abbrev pub IsLegalFrom : ℕ → Table → List Done → Type 0
IsLegalFrom n base [] = Unit {0}
IsLegalFrom n base (done ∷ history) = (done.at ≡ n) × IsRight base done.calls × IsLegalFrom (n + 1) (left_by base done.calls) history

-- the same, numbered from 1
abbrev pub IsLegal : Table → List Done → Type 0
IsLegal base history = IsLegalFrom 1 base history
