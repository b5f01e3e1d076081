use Rattle.std.proofs.Common.{◌≡◌, ℕ, min, replicate, ◌∙◌, ap, arith}
use Rattle.std.proofs.lemmas.List.{take-replicate}
use Rattle.media_file.proofs.filling.zeros.Goals as goal

pub returns : goal.returns
returns c =
    let least : c.min.result ≡ min c.args.len 4096 = omega arith in
    take-replicate c.min.result 4096 0 (omega (arith, least)) ∙ ap (λ (n : ℕ). replicate n 0) least
