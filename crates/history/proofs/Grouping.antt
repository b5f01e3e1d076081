-- Groups of transactions, one behind another.
use Rattle.std.proofs.Common.{◌≡◌, ℕ, zero, suc, ◌+◌, ◌<◌, ◌≤◌, inl, inr, List, [], ◌∷◌, ◌++◌, length, take, Some, sym, ap, subst, arith}
use Rattle.std.specs.Prelude.{All, slice_get}
use Rattle.std.proofs.lemmas.List.{take-append-le}
use Rattle.history.specs.Groups.{AreGrouped, AreAlone, AreWhole}
use Rattle.history.specs.Legal.{AreNumberedFrom, IsLegalFrom, IsLegal}
use Rattle.history.specs.Writes.{Table}
use Rattle.history.specs.Table.{left_by}
use Rattle.history.specs.declared.transaction.Done.{Done}

numbered_from : (n : ℕ) (base : Table) (history : List Done) → IsLegalFrom n base history → AreNumberedFrom n history
numbered_from n base [] legal = tt
numbered_from n base (done ∷ history) legal = (legal.0, numbered_from (n + 1) (left_by base done.calls) history legal.2)

-- a legal history is numbered from 1
pub legal_numbered : (base : Table) (history : List Done) → IsLegal base history → AreNumberedFrom 1 history
legal_numbered base history legal = numbered_from 1 base history legal

-- P holds of each
Each : (Done → Type 0) → List Done → Type 0
Each P [] = Unit {0}
Each P (done ∷ dones) = P done × Each P dones

all_of : (P : Done → Type 0) (dones : List Done) → Each P dones → All P dones
unfolding Each
all_of P [] each k d lt = absurd (omega (arith, lt))
all_of P (done ∷ dones) each zero d lt = each.0
all_of P (done ∷ dones) each (suc k) d lt = all_of P dones each.1 k d (omega (arith, lt))

each_of : (P : Done → Type 0) (dones : List Done) → All P dones → Each P dones
unfolding Each
each_of P [] all = tt
each_of P (done ∷ dones) all = (all zero done (omega arith), each_of P dones (λ k d lt. all (suc k) d (omega (arith, lt))))

each_weaker : (P Q : Done → Type 0) → ((done : Done) → P done → Q done) → (dones : List Done) → Each P dones → Each Q dones
unfolding Each
each_weaker P Q weaker [] each = tt
each_weaker P Q weaker (done ∷ dones) each = (weaker done each.0, each_weaker P Q weaker dones each.1)

-- what holds of each holds of the one at a place
each_at : (P : Done → Type 0) (dones : List Done) (place : ℕ) (done : Done) → Each P dones → slice_get dones place ≡ Some done → P done
unfolding Each
each_at P [] place done each is = absurd (cc)
each_at P (first ∷ dones) zero done each is = (let same : first ≡ done = cc in subst P same each.0)
each_at P (first ∷ dones) (suc place) done each is = each_at P dones place done each.1 is

-- the number of a transaction by its place
at_place : (n : ℕ) (dones : List Done) (place : ℕ) (done : Done) → AreNumberedFrom n dones → slice_get dones place ≡ Some done → done.at ≡ n + place
at_place n [] place done numbered is = absurd (cc)
at_place n (first ∷ dones) zero done numbered is = (let same : first ≡ done = cc in omega (arith, ap (λ (d : Done). d.at) same, numbered.0))
at_place n (first ∷ dones) (suc place) done numbered is = omega (arith, at_place (n + 1) dones place done numbered.1 is)

-- The last one of its group is no earlier one, and one of these transactions.
abbrev Ends : ℕ → Done → Type 0
Ends behind done = (done.at ≤ done.last) × (done.last < behind)

ends_from : (n behind : ℕ) (dones : List Done) → n + length dones ≡ behind → AreNumberedFrom n dones → AreGrouped dones → Each (Ends behind) dones
unfolding Each
ends_from n behind [] is numbered grouped = tt
ends_from n behind (done ∷ []) is numbered grouped = ((omega (arith, grouped.0), omega (arith, is, grouped.0, numbered.0)), tt)
ends_from n behind (done ∷ next ∷ dones) is numbered grouped =
    let rest = ends_from (n + 1) behind (next ∷ dones) (omega (arith, is)) numbered.1 grouped.1 in (
      elim grouped.0 [
        | inl alone ↦ (omega (arith, alone), omega (arith, alone, is, numbered.0))
        | inr same ↦ (omega (arith, same, numbered.0, numbered.1.0, rest.0.0), omega (arith, same, rest.0.1))
      ],
      rest,
    )

pub no_earlier : (history : List Done) → AreNumberedFrom 1 history → AreGrouped history → All (λ done. done.at ≤ done.last) history
no_earlier history numbered grouped =
    all_of (λ done. done.at ≤ done.last) history (each_weaker (Ends (1 + length history)) (λ done. done.at ≤ done.last) (λ done ends. ends.0) history (ends_from 1 (1 + length history) history (omega arith) numbered grouped))

-- a whole history has each group whole
pub all_whole : (history : List Done) → AreNumberedFrom 1 history → AreGrouped history → AreWhole (length history) history
all_whole history numbered grouped =
    all_of (λ done. done.last ≤ length history) history
    (each_weaker (Ends (1 + length history)) (λ done. done.last ≤ length history) (λ done ends. omega (arith, ends.1)) history (ends_from 1 (1 + length history) history (omega arith) numbered grouped))

-- the one at a place among the first ones
taken_at : (count : ℕ) (dones : List Done) (place : ℕ) (done : Done) → place < count → slice_get dones place ≡ Some done → slice_get (take count dones) place ≡ Some done
taken_at zero dones place done lt is = absurd (omega (arith, lt))
taken_at (suc count) [] place done lt is = absurd (cc)
taken_at (suc count) (first ∷ dones) zero done lt is = is
taken_at (suc count) (first ∷ dones) (suc place) done lt is = taken_at count dones place done (omega (arith, lt)) is

-- of a group of which one is among the first ones, all are
pub all_there : (history : List Done) (count one other : ℕ) (first second : Done) → AreNumberedFrom 1 history → AreGrouped history → AreWhole count (take count history)
    → slice_get history one ≡ Some first → slice_get history other ≡ Some second → second.last ≡ first.last → one < count → other < count
all_there history count one other first second numbered grouped whole is there same lt =
    let within : first.last ≤ count = each_at (λ done. done.last ≤ count) (take count history) one first (each_of (λ done. done.last ≤ count) (take count history) whole) (taken_at count history one first lt is) in
    let ends = each_at (Ends (1 + length history)) history other second (ends_from 1 (1 + length history) history (omega arith) numbered grouped) there in
    omega (arith, within, ends.0, same, at_place 1 history other second numbered there)

-- what is whole stays so in a longer history
pub whole_longer : (history more : List Done) (count : ℕ) → count ≤ length history → AreWhole count (take count history) → AreWhole count (take count (history ++ more))
whole_longer history more count le whole = subst (λ (dones : List Done). AreWhole count dones) (sym (take-append-le count history more le)) whole

alone_from : (n behind count : ℕ) (dones : List Done) → n + count ≡ behind → AreNumberedFrom n dones → Each (λ done. done.last ≡ done.at) dones → Each (λ done. done.last < behind) (take count dones)
unfolding Each
alone_from n behind zero dones is numbered alone = tt
alone_from n behind (suc count) [] is numbered alone = tt
alone_from n behind (suc count) (done ∷ dones) is numbered alone = (omega (arith, is, alone.0, numbered.0), alone_from (n + 1) behind count dones (omega (arith, is)) numbered.1 alone.1)

-- where each was committed alone, each first part is whole
pub alone_whole : (history : List Done) (count : ℕ) → AreNumberedFrom 1 history → AreAlone history → AreWhole count (take count history)
alone_whole history count numbered alone =
    all_of (λ done. done.last ≤ count) (take count history)
    (each_weaker (λ done. done.last < 1 + count) (λ done. done.last ≤ count) (λ done lt. omega (arith, lt)) (take count history)
    (alone_from 1 (1 + count) count history (omega arith) numbered (each_of (λ done. done.last ≡ done.at) history alone)))

alone_each : (dones : List Done) → Each (λ done. done.last ≡ done.at) dones → AreGrouped dones
unfolding Each
alone_each [] alone = tt
alone_each (done ∷ []) alone = (alone.0, tt)
alone_each (done ∷ next ∷ dones) alone = (inl alone.0, alone_each (next ∷ dones) alone.1)

-- and they are groups of one
pub alone_grouped : (history : List Done) → AreAlone history → AreGrouped history
alone_grouped history alone = alone_each history (each_of (λ done. done.last ≡ done.at) history alone)

-- a group behind others: no transaction before it goes on into it
pub grouped_more : (history more : List Done) → AreGrouped history → AreGrouped more → AreGrouped (history ++ more)
grouped_more [] more one two = two
grouped_more (done ∷ []) [] one two = one
grouped_more (done ∷ []) (next ∷ more) one two = (inl one.0, two)
grouped_more (done ∷ next ∷ dones) more one two = (one.0, grouped_more (next ∷ dones) more one.1 two)
