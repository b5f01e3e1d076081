-- The limits of an array determine its shape.
use Rattle.std.proofs.Common.{◌≡◌, ℕ, ◌*◌, ◌/◌, ◌≤◌, ap, subst, sym, ◌∙◌, arith}
use Rattle.std.proofs.Props.{props}
use Rattle.std.proofs.Math.Nat.{mul-div_cancel_left}
use Rattle.array_shape.specs.declared.shape.Shape.{Shape}
use Rattle.array_shape.specs.Numbers.{AreInRange}
use Rattle.caller_steps.specs.Room.{Limits}
use Rattle.page_store.specs.Index.{Index}
use Rattle.mars_core.specs.Over.{limits_of}

in_range_prop : {loggers numbers entries pages : ℕ} → IsProp (AreInRange loggers numbers entries pages)
in_range_prop = hlevel props

-- a shape is its four numbers
same_shape : (a b : Shape) → a.loggers ≡ b.loggers → a.numbers ≡ b.numbers → a.entries ≡ b.entries → a.pages ≡ b.pages → a ≡ b
same_shape a b loggers numbers entries pages =
    let IsHere : ℕ → ℕ → ℕ → ℕ → Type 0 = λ l n e p. (r : AreInRange l n e p) → ◌≡◌ {A = Shape} a (record { loggers = l; numbers = n; entries = e; pages = p; in_range = r }) in
    let own : IsHere a.loggers a.numbers a.entries a.pages = λ r. ap (λ (q : AreInRange a.loggers a.numbers a.entries a.pages). let s : Shape = record { loggers = a.loggers; numbers = a.numbers; entries = a.entries; pages = a.pages; in_range = q } in s) (in_range_prop a.in_range r) in
    let moved : IsHere b.loggers b.numbers b.entries b.pages =
    subst (λ p. IsHere b.loggers b.numbers b.entries p) pages
    (subst (λ e. IsHere b.loggers b.numbers e a.pages) entries
    (subst (λ n. IsHere b.loggers n a.entries a.pages) numbers
    (subst (λ l. IsHere l a.numbers a.entries a.pages) loggers own))) in
    moved b.in_range

-- with equally many loggers, equally many pages in all mean equally many pages a logger
same_pages : (l p q : ℕ) → 1 ≤ l → l * p ≡ l * q → p ≡ q
same_pages l p q some is = sym (mul-div_cancel_left p some) ∙ ap (λ n. n / l) is ∙ mul-div_cancel_left q some

pub same_limits : (index : Index) (a b : Shape) (few many : ℕ) → limits_of index a few ≡ limits_of index b many → a ≡ b
same_limits index a b few many is =
    let loggers : a.loggers ≡ b.loggers = ap (λ (l : Limits). l.loggers) is in
    let all : 4 * (a.loggers * a.pages) ≡ 4 * (b.loggers * b.pages) = ap (λ (l : Limits). l.slots) is in
    let each : a.loggers * a.pages ≡ b.loggers * b.pages = omega (arith, all) in
    same_shape a b loggers (ap (λ (l : Limits). l.callers) is) (ap (λ (l : Limits). l.entries) is)
    (same_pages a.loggers a.pages b.pages a.in_range.some_loggers (each ∙ ap (λ l. l * b.pages) (sym loggers)))
