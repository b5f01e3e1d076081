use Rattle.std.proofs.Common.{◌≡◌, ◌*◌, ℕ, length, ◌∙◌, ap, arith}
use Rattle.std.proofs.Math.Nat.{mul_comm}
use Rattle.write_back.proofs.Keeping.{capacities, entries_at_free, kept_free, memory_small}
use Rattle.write_back.proofs.deferred.DeferredParts.new.Goals as goal

pub invariant_of-result : goal.invariant_of-result
invariant_of-result c =
    let loggers = c.from.ensures in
    record { kept = kept_free c.args.shape.now c.in_ok-places.field-0.items c.in_ok-no_marks.field-0.items _ c.in_ok-places.ensures.free c.in_ok-no_marks.ensures.none (ap (λ (k : ℕ). k * c.args.shape.now.pages) loggers) }

pub returns-clause-none : goal.returns-clause-none
returns-clause-none c t = entries_at_free c.args.shape.now c.in_ok-places.field-0.items c.in_ok-places.ensures.free t

pub returns-clause-memory : goal.returns-clause-memory
returns-clause-memory c =
    let shape = c.args.shape.now in
    let most = c.args.shape.now.loggers * c.args.shape.now.entries in
    let many : c.args.shape.now.loggers * c.args.shape.now.entries * length c.in_ok-places.field-0.items ≡ c.args.shape.now.numbers * (c.args.shape.now.loggers * c.args.shape.now.entries) =
    ap (λ (k : ℕ). most * k) c.in_ok-places.ensures.many ∙ mul_comm most shape.numbers in
    let pages = ap (λ (k : ℕ). k * c.args.shape.now.pages) c.from.ensures in
    omega (arith, c.in_ok-places.ensures.capacity, capacities shape c.in_ok-places.field-0.items c.in_ok-places.ensures.free, many, c.in_ok-no_marks.ensures.capacity, pages)

pub returns-clause-small : goal.returns-clause-small
returns-clause-small c = memory_small c.args.shape.now c.args.shape.now.in_range
