use Rattle.std.proofs.Common.{List, ℕ, sym, ◌∙◌, subst}
use Rattle.std.proofs.lemmas.List.{append-nil}
use Rattle.std.specs.Prelude.{decimal}
use Rattle.record_slots.specs.Text.{IsValue}
use Rattle.transactions.proofs.Texts.{value_decimal}
use Rattle.transactions.proofs.numbers.value_of.Goals as goal

pub unreachable-requires : goal.unreachable-requires
unreachable-requires c =
    c.in-None.ensures (subst (λ (text : List ℕ). IsValue text) (sym (c.as_bytes.ensures ∙ c.of-text.ensures.text ∙ append-nil (decimal c.args.number))) (value_decimal c.args.number c.ranges.number.fits))
