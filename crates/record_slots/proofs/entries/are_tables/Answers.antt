use Rattle.std.proofs.Common.{ℕ, ◌≡◌, ◌<◌, Some, None, inl, inr, refl, sym, ◌∙◌, ap, subst, arith}
use Rattle.std.specs.Prelude.{slice_get}
use Rattle.std.specs.Cmp.Lexicographic.{same_text, other_text}
use Rattle.std.proofs.lemmas.Bool.{cases_eq, cases_lt, false≢true, not-true, not-false}
use Rattle.record_slots.specs.Super.{tables_used, IsApart}
use Rattle.record_slots.specs.declared.super_page.TableEntry.{TableEntry}
use Rattle.record_slots.proofs.Used.{tables_used_at, named_used_at, main_first, first_main, root_used, beyond_used}
use Rattle.record_slots.proofs.entries.are_tables.Goals as goal

nothing : {table : TableEntry} → None ≡ Some table → ⊥
nothing e = cc

pub name_at-requires-clause-short : goal.name_at-requires-clause-short
name_at-requires-clause-short c = named_used_at 0 c.args.entries.now c.told-entries c.requires (omega (arith, c.if-count-eq0.false, c.used_count-count.ensures.count))

pub returns-then-ne : goal.returns-then-ne
returns-then-ne c = (
  λ e. absurd (false≢true e),
  λ are. absurd (other_text _ _ (sym (not-true _ (sym c.if-ne.ensures))) (c.name_at.ensures ∙ (first_main c.args.entries.now (omega (arith, c.if-count-eq0.false, c.used_count-count.ensures.count)) are.main).0)),
)

pub returns-then-root_at-ne-MAIN_ROOT : goal.returns-then-root_at-ne-MAIN_ROOT
returns-then-root_at-ne-MAIN_ROOT c = (
  λ e. absurd (false≢true e),
  λ are. absurd (c.if-root_at-ne-MAIN_ROOT.true (c.root_at.ensures ∙ (first_main c.args.entries.now (omega (arith, c.if-count-eq0.false, c.used_count-count.ensures.count)) are.main).1)),
)

pub returns-then-root_at-lt2 : goal.returns-then-root_at-lt2
returns-then-root_at-lt2 c =
    let used : c.loop-j.j < _ = omega (arith, c.loop-j-test.true, c.used_count-count.ensures.count) in
    (λ e. absurd (false≢true e), λ are. absurd (let h = are.inside c.loop-j.j _ c.loop-j.auto.j (tables_used_at c.loop-j.j c.args.entries.now used).0 in omega (arith, h.0, c.if-root_at-lt2.true, c.root_at-in-loop-j.ensures)))

pub returns-then-root_at-pages : goal.returns-then-root_at-pages
returns-then-root_at-pages c =
    let used : c.loop-j.j < _ = omega (arith, c.loop-j-test.true, c.used_count-count.ensures.count) in
    (λ e. absurd (false≢true e), λ are. absurd (let h = are.inside c.loop-j.j _ c.loop-j.auto.j (tables_used_at c.loop-j.j c.args.entries.now used).0 in omega (arith, h.1, c.if-root_at-pages.true, c.root_at-in-loop-j-2.ensures)))

pub returns-then-not-is_apart : goal.returns-then-not-is_apart
returns-then-not-is_apart c = (
  λ e. absurd (false≢true e),
  λ are. absurd (false≢true (sym c.if-not-is_apart.true ∙ c.is_apart.ensures.1 (are.other c.loop-j.j))),
)

pub loop-j-preserved : goal.loop-j-preserved
loop-j-preserved c =
    let used : c.loop-j.j < _ = omega (arith, c.loop-j-test.true, c.used_count-count.ensures.count) in
    record {
      inside = λ k table some lt is. elim (cases_eq k c.loop-j.j) [
        | inl here ↦
            let e = root_used c.args.entries.now c.loop-j.j table used (ap (λ (n : ℕ). slice_get (tables_used c.args.entries.now) n) (sym here) ∙ is) in
            (omega (arith, e, c.root_at-in-loop-j.ensures, c.if-root_at-lt2.false), omega (arith, e, c.root_at-in-loop-j-2.ensures, c.if-root_at-pages.false))
        | inr other ↦ c.loop-j.invariant.inside k table some (omega (arith, lt, other)) is
      ];
      apart = λ k lt. elim (cases_eq k c.loop-j.j) [
        | inl here ↦ subst (λ (n : ℕ). IsApart (tables_used c.args.entries.now) n) (sym here) (c.is_apart.ensures.0 c.if-not-is_apart.false)
        | inr other ↦ c.loop-j.invariant.apart k (omega (arith, lt, other))
      ];
    }

pub returns : goal.returns
returns c = (
  λ e. record {
    main = main_first c.args.entries.now (omega (arith, c.if-count-eq0.false, c.used_count-count.ensures.count)) (sym c.name_at.ensures ∙ same_text _ _ (sym (not-false _ (sym c.if-ne.ensures))))
        (omega (arith, c.root_at.ensures, c.if-root_at-ne-MAIN_ROOT.false));
    inside = λ j table some is. elim (cases_lt j c.loop-j.j) [
      | inl lt ↦ c.loop-j.invariant.inside j table some lt is
      | inr ge ↦ absurd (let e = beyond_used (tables_used c.args.entries.now) j (omega (arith, ge, c.loop-j-test.false, c.used_count-count.ensures.count)) in nothing (sym e ∙ is))
    ];
    other = λ j. elim (cases_lt j c.loop-j.j) [
      | inl lt ↦ c.loop-j.invariant.apart j lt
      | inr ge ↦ λ i one two lt is is'. absurd (let e = beyond_used (tables_used c.args.entries.now) j (omega (arith, ge, c.loop-j-test.false, c.used_count-count.ensures.count)) in nothing (sym e ∙ is'))
    ];
  },
  λ are. refl,
)
