use Rattle.std.proofs.Common.{ℕ, ◌≢◌, inl, inr, sym, ◌∙◌, ap, arith}
use Rattle.std.specs.Cmp.Lexicographic.{same_text, other_text}
use Rattle.std.proofs.lemmas.Bool.{cases_eq, false≢true}
use Rattle.std.specs.Prelude.{slice_get}
use Rattle.record_slots.specs.Super.{tables_used, name_said}
use Rattle.byteorder.specs.Endian.{little_from}
use Rattle.record_slots.proofs.Used.{tables_used_at, named_used_at, clash_root, clash_name, differ, from}
use Rattle.record_slots.proofs.entries.is_apart.Goals as goal

pub root_at-requires : goal.root_at-requires
root_at-requires c = let h = (tables_used_at c.args.j c.args.entries.now c.requires.used).1 in omega (arith, h, c.loop-i-test.true)

pub root_at-requires-in-loop-i : goal.root_at-requires-in-loop-i
root_at-requires-in-loop-i c = (tables_used_at c.args.j c.args.entries.now c.requires.used).1

pub name_at-requires-clause-short : goal.name_at-requires-clause-short
name_at-requires-clause-short c = named_used_at c.loop-i.i c.args.entries.now c.told-entries c.requires.named (omega (arith, c.loop-i-test.true, c.requires.used))

pub name_at-requires-in-loop-i-clause-entry : goal.name_at-requires-in-loop-i-clause-entry
name_at-requires-in-loop-i-clause-entry c = (tables_used_at c.args.j c.args.entries.now c.requires.used).1

pub name_at-requires-in-loop-i-clause-short : goal.name_at-requires-in-loop-i-clause-short
name_at-requires-in-loop-i-clause-short c = named_used_at c.args.j c.args.entries.now c.told-entries c.requires.named c.requires.used

pub returns-then-root_at : goal.returns-then-root_at
returns-then-root_at c = (
  λ e. absurd (false≢true e),
  λ apart. absurd (clash_root c.args.entries.now c.loop-i.i c.args.j c.loop-i-test.true c.requires.used (sym c.root_at.ensures ∙ c.if-root_at.true ∙ c.root_at-in-loop-i.ensures) apart),
)

pub returns-then-eq : goal.returns-then-eq
returns-then-eq c = (
  λ e. absurd (false≢true e),
  λ apart. absurd (clash_name c.args.entries.now c.loop-i.i c.args.j c.loop-i-test.true c.requires.used (sym c.name_at.ensures ∙ same_text _ _ c.if-eq.ensures ∙ c.name_at-in-loop-i.ensures) apart),
)

pub loop-i-preserved : goal.loop-i-preserved
loop-i-preserved c = λ k one two lt is is'.
    let roots : little_from 20 4 (from c.args.entries.now c.loop-i.i) ≢ little_from 20 4 (from c.args.entries.now c.args.j) = λ e. c.if-root_at.false (c.root_at.ensures ∙ e ∙ sym c.root_at-in-loop-i.ensures) in
    let names : name_said (from c.args.entries.now c.loop-i.i) ≢ name_said (from c.args.entries.now c.args.j) = λ e. other_text _ _ c.if-eq.ensures (c.name_at.ensures ∙ e ∙ sym c.name_at-in-loop-i.ensures) in
    elim (cases_eq k c.loop-i.i) [
      | inl here ↦ differ c.args.entries.now c.loop-i.i c.args.j c.loop-i-test.true c.requires.used roots names one two (ap (λ (n : ℕ). slice_get (tables_used c.args.entries.now) n) (sym here) ∙ is) is'
      | inr other ↦ c.loop-i.invariant k one two (omega (arith, lt, other)) is is'
    ]
