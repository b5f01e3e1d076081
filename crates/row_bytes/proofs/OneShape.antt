-- A header says one shape.
use Rattle.std.proofs.Common.{◌≡◌, ℕ, List, ap, subst}
use Rattle.std.proofs.Props.{props}
use Rattle.array_shape.specs.declared.shape.Shape.{Shape}
use Rattle.array_shape.specs.Numbers.{AreInRange}
use Rattle.array_shape.specs.Places.{HasNumbers}
use Rattle.row_bytes.specs.Header.{SaysShape}
use Rattle.row_bytes.proofs.Heading.{says_one}

in_range_prop : {loggers numbers entries pages : ℕ} → IsProp (AreInRange loggers numbers entries pages)
in_range_prop = hlevel props

-- a shape is its four numbers
same_shape : (a b : Shape) → HasNumbers b.loggers b.numbers b.entries b.pages a → a ≡ b
same_shape a b same =
    let with_numbers : ℕ → ℕ → ℕ → ℕ → Type 0 = λ l n e p. (r : AreInRange l n e p) → ◌≡◌ {A = Shape} a (record { loggers = l; numbers = n; entries = e; pages = p; in_range = r }) in
    let own : with_numbers a.loggers a.numbers a.entries a.pages = λ r. ap (λ (q : AreInRange a.loggers a.numbers a.entries a.pages). let s : Shape = record { loggers = a.loggers; numbers = a.numbers; entries = a.entries; pages = a.pages; in_range = q } in s) (in_range_prop a.in_range r) in
    let moved : with_numbers b.loggers b.numbers b.entries b.pages =
    subst (λ p. with_numbers b.loggers b.numbers b.entries p) same.pages_are
    (subst (λ e. with_numbers b.loggers b.numbers e a.pages) same.entries_are
    (subst (λ n. with_numbers b.loggers n a.entries a.pages) same.numbers_are
    (subst (λ l. with_numbers l a.numbers a.entries a.pages) same.loggers_are own))) in
    moved b.in_range

-- a header says one shape
pub one_shape : (bytes : List ℕ) (a b : Shape) → SaysShape bytes a → SaysShape bytes b → a ≡ b
one_shape bytes a b says says' = same_shape a b (says_one bytes a b says says')
