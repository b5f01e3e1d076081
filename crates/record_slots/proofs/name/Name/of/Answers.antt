use Rattle.std.proofs.Common.{arith, ap, sym, ◌∙◌, ◌≡◌, length, ℕ, List, ◌++◌, drop, replicate}
use Rattle.std.proofs.lemmas.Bool.{eqb-false}
use Rattle.std.proofs.lemmas.List.{take_at, drop_at, drop-replicate, length-append, length-drop, length-replicate}
use Rattle.record_slots.specs.Text.{IsName, IsStored}
use Rattle.record_slots.proofs.name.Name.of.Goals as goal

-- a text that was copied over zeros is stored
stored : (text copied : List ℕ) → copied ≡ text → IsName text → IsStored 16 IsName (length text) (copied ++ drop (length text) (replicate 16 0))
stored text copied same value =
    let zeros : List ℕ = replicate 16 0 in
    record {
      size = omega (arith, value.short, ap length same, length-append copied (drop (length text) zeros), length-drop (length text) zeros, length-replicate {A = ℕ} 16 0);
      fits = value.short;
      text = rw (take_at copied (drop (length text) zeros) (length text) (ap length same), same) value;
      padded = drop_at copied (drop (length text) zeros) (length text) (ap length same) ∙ drop-replicate {X = ℕ} (length text) 16 0;
    }

pub invariant_of-result : goal.invariant_of-result
invariant_of-result c =
    let value : IsName c.args.text.now = record { some = omega (arith, eqb-false (length c.args.text.now) 0 (sym c.is_empty.ensures ∙ c.if-is_empty.false)); short = c.if-text-gt-NAME_MAX.false; letters = sym c.all_letters.ensures ∙ c.if-not-all_letters.false } in
    stored c.args.text.now c.copy_from_slice.new.self c.copy_from_slice.ensures.after value
