use Rattle.std.proofs.Common.{ℕ, List, ◌≡◌, ◌<◌, length, inl, inr, ap, sym, ◌∙◌, arith}
use Rattle.std.specs.Prelude.{slice_get, Option, Some, None}
use Rattle.std.specs.Cmp.Lexicographic.{same_text, other_text}
use Rattle.std.proofs.lemmas.Bool.{cases_eq, cases_lt}
use Rattle.record_slots.specs.Super.{tables_used}
use Rattle.record_slots.proofs.Naming.{name_used, name_beyond}
use Rattle.record_slots.proofs.Used.{named_used_at}
use Rattle.record_slots.proofs.Numbering.{first_is, none_is}
use Rattle.record_slots.proofs.names.Names.number.Goals as goal

some_is : (x y : List ℕ) → Some x ≡ Some y → x ≡ y
some_is x y e = cc

pub name_at-requires-clause-short : goal.name_at-requires-clause-short
name_at-requires-clause-short c = named_used_at c.loop-j.j c.self.inside.entries c.self.told c.self.invariant (omega (arith, c.loop-j-test.true, c.used_count-j-end.ensures.count))

pub returns-then-eq-clause-some : goal.returns-then-eq-clause-some
returns-then-eq-clause-some c =
    let es = c.self.inside.entries in
    let lt : c.loop-j.j < length (tables_used c.self.inside.entries) = omega (arith, c.loop-j-test.true, c.used_count-j-end.ensures.count) in
    ap (λ (names : List (List ℕ)). slice_get names c.loop-j.j) (sym c.self.view_is) ∙ name_used es c.loop-j.j lt ∙ ap Some (sym c.name_at.ensures ∙ same_text _ _ c.if-eq.ensures ∙ c.as_bytes.ensures.text)

pub loop-j-preserved : goal.loop-j-preserved
loop-j-preserved c = λ k lt is. elim (cases_eq k c.loop-j.j) [
  | inl here ↦
      let used : c.loop-j.j < length (tables_used c.self.inside.entries) = omega (arith, c.loop-j-test.true, c.used_count-j-end.ensures.count) in
      other_text _ _ c.if-eq.ensures (
      c.name_at.ensures
      ∙ some_is _ _ (sym (name_used c.self.inside.entries c.loop-j.j used) ∙ (λ i. slice_get (c.self.view_is i) (sym here i)) ∙ is)
      ∙ sym c.as_bytes.ensures.text
      )
  | inr other ↦ c.loop-j.invariant k (omega (arith, lt, other)) is
]

nothing : (x : List ℕ) → (let n : Option (List ℕ) = None in n ≡ Some x) → ⊥
nothing x e = absurd (cc)

pub returns-clause-none : goal.returns-clause-none
returns-clause-none c = λ j is. elim (cases_lt j c.loop-j.j) [
  | inl lt ↦ c.loop-j.invariant j lt is
  | inr ge ↦ nothing _ (sym (name_beyond c.self.inside.entries j (omega (arith, ge, c.loop-j-test.false, c.used_count-j-end.ensures.count))) ∙ ap (λ (names : List (List ℕ)). slice_get names j) c.self.view_is ∙ is)
]

pub returns-then-eq-clause-number : goal.returns-then-eq-clause-number
returns-then-eq-clause-number c =
    let es = c.self.inside.entries in
    let lt : c.loop-j.j < length (tables_used c.self.inside.entries) = omega (arith, c.loop-j-test.true, c.used_count-j-end.ensures.count) in
    sym (first_is _ _ c.loop-j.j (ap (λ (names : List (List ℕ)). slice_get names c.loop-j.j) (sym c.self.view_is) ∙ name_used es c.loop-j.j lt ∙ ap Some (sym c.name_at.ensures ∙ same_text _ _ c.if-eq.ensures ∙ c.as_bytes.ensures.text)) c.loop-j.invariant)

pub returns-clause-number : goal.returns-clause-number
returns-clause-number c = sym (none_is _ _ (λ j is. elim (cases_lt j c.loop-j.j) [
  | inl lt ↦ c.loop-j.invariant j lt is
  | inr ge ↦ nothing _ (sym (name_beyond c.self.inside.entries j (omega (arith, ge, c.loop-j-test.false, c.used_count-j-end.ensures.count))) ∙ ap (λ (names : List (List ℕ)). slice_get names j) c.self.view_is ∙ is)
]))
