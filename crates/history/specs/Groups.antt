-- Groups of transactions that were committed together, all or none. In a history each group lies behind another, and each transaction says the
-- number of the last one of its group.
use Rattle.std.specs.Prelude.{ℕ, ◌≡◌, ◌≤◌, ◌⊎◌, List, [], ◌∷◌, All}
use Rattle.history.specs.declared.transaction.Done.{Done}

-- a transaction is the last one of its group, or the next one is of that group too
abbrev pub GoesOn : Done → List Done → Type 0
GoesOn done [] = done.last ≡ done.at
GoesOn done (next ∷ dones) = (done.last ≡ done.at) ⊎ (done.last ≡ next.last)

-- so it is for each of them
abbrev pub AreGrouped : List Done → Type 0
AreGrouped [] = Unit {0}
AreGrouped (done ∷ dones) = GoesOn done dones × AreGrouped dones

-- each of them was committed alone
abbrev pub AreAlone : List Done → Type 0
AreAlone dones = All (λ done. done.last ≡ done.at) dones

-- none of these first transactions, so many, is of a group that ends later: of each group all are there, or none
abbrev pub AreWhole : ℕ → List Done → Type 0
AreWhole count dones = All (λ done. done.last ≤ count) dones
