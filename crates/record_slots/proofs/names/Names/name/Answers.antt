use Rattle.std.proofs.Common.{ℕ, List, ap, sym, subst, ◌∙◌, arith}
use Rattle.std.specs.Prelude.{◌≡◌, ◌<◌, length, slice_get, Option, Some, None}
use Rattle.std.specs.Option.{SomeIff}
use Rattle.record_slots.specs.Super.{tables_used}
use Rattle.record_slots.specs.Text.{IsName}
use Rattle.record_slots.proofs.Naming.{name_used, name_beyond, used_name}
use Rattle.record_slots.proofs.Used.{named_used_at}
use Rattle.record_slots.proofs.names.Names.name.Goals as goal

-- an answer for a text that is a name
given : (answer : Option (List ℕ)) (text : List ℕ) → IsName text → SomeIff answer (IsName text) text → answer ≡ Some text
given None text name refused = absurd (refused name)
given (Some n) text name is = ap Some is.1

pub name_at-requires-clause-short : goal.name_at-requires-clause-short
name_at-requires-clause-short c = named_used_at c.from-j.result c.self.inside.entries c.self.told c.self.invariant (omega (arith, c.if-j-used_count.true, c.used_count.ensures.count))

pub returns-then-j-used_count : goal.returns-then-j-used_count
returns-then-j-used_count c =
    let es = c.self.inside.entries in
    let lt : c.from-j.result < length (tables_used c.self.inside.entries) = omega (arith, c.if-j-used_count.true, c.used_count.ensures.count) in
    given c.of.result c.name_at.result.now (subst IsName (sym c.name_at.ensures) (used_name c.self.inside.entries c.from-j.result c.self.invariant lt)) c.of.ensures ∙ ap Some c.name_at.ensures
    ∙ sym (name_used c.self.inside.entries c.from-j.result lt) ∙ (λ i. slice_get (c.self.view_is i) (c.from-j.ensures i))

pub returns-else-j-used_count : goal.returns-else-j-used_count
returns-else-j-used_count c =
    sym (name_beyond c.self.inside.entries c.from-j.result (omega (arith, c.if-j-used_count.false, c.used_count.ensures.count))) ∙ (λ i. slice_get (c.self.view_is i) (c.from-j.ensures i))
