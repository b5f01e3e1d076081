use Rattle.std.proofs.Common.{◌≡◌, ◌∷◌, List, ℕ, sym, ap, subst, ◌∙◌, arith}
use Rattle.std.proofs.lemmas.List.{append-nil}
use Rattle.std.specs.Fmt.{decimal}
use Rattle.record_slots.specs.Text.{IsValue}
use Rattle.drill_gen.proofs.Values.{letter_and_number}
use Rattle.drill_gen.proofs.transaction.value_of.Goals as goal

pub unreachable-requires : goal.unreachable-requires
unreachable-requires c =
    let text : c.as_bytes.result.now ≡ 118 ∷ decimal c.args.drawn = c.as_bytes.ensures ∙ c.of-text.ensures.text ∙ ap (λ (l : List ℕ). 118 ∷ l) (append-nil (decimal c.args.drawn)) in
    c.in-None.ensures (subst IsValue (sym text) (letter_and_number c.args.drawn (omega (arith, c.requires))))
