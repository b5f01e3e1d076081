use Rattle.std.proofs.Common.{◌*◌, ℕ, ap, ◌∙◌, arith, replicate}
use Rattle.std.proofs.lemmas.List.{take-replicate}
use Rattle.eaw_device.proofs.making.clear_rows.Goals as goal

pub fill_rows-requires-clause-zeros : goal.fill_rows-requires-clause-zeros
fill_rows-requires-clause-zeros g c =
    take-replicate (16 * c.from.result) 1024 0 (omega (arith, c.from.ensures)) ∙ ap (λ (n : ℕ). replicate (16 * n) 0) c.from.ensures
