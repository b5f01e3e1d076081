use Rattle.std.proofs.Common.{ℕ, List, [], ◌≡◌, refl, sym, subst, ap, ◌∙◌, IsTrue, arith}
use Rattle.record_slots.specs.Names.{names_in}
use Rattle.record_slots.specs.Super.{are_named, main_entries, tables_in, tables_used}
use Rattle.record_slots.proofs.names.Names.of.Goals as goal

pub invariant_of-result : goal.invariant_of-result
unfolding are_named
invariant_of-result c = subst (λ (es : List ℕ). IsTrue (are_named es)) (sym c.main_entries.ensures) refl

main_used : tables_used main_entries ≡ tables_in 1 []
unfolding tables_used
main_used = refl

pub returns-else-front-eq-VERSION : goal.returns-else-front-eq-VERSION
returns-else-front-eq-VERSION c =
    let one : c.args.front.now.version ≡ 1 = omega (arith, c.requires.oldest, c.requires.newest, c.if-front-eq-VERSION.false) in
    ap (λ (es : List ℕ). names_in (tables_used es)) c.main_entries.ensures ∙ ap names_in main_used ∙ ap (λ (v : ℕ). names_in (tables_in v c.args.front.now.entries)) (sym one)
