use Rattle.std.proofs.Common.{ℕ, List, ◌≡◌, ◌+◌, ◌-◌, take, drop, ap, ◌∙◌, arith}
use Rattle.std.proofs.lemmas.List.{drop-drop, drop-take}
use Rattle.byteorder.specs.Endian.{little_number}
use Rattle.byteorder.specs.Numbers.{little_from-take}
use Rattle.mirror.proofs.apply.cut_part.Goals as goal

pub returns-clause-rest : goal.returns-clause-rest
returns-clause-rest c =
    let len : c.from.result ≡ little_number 2 (drop 8 c.args.bytes.now) =
    c.from.ensures
    ∙ c.read_u16-len.ensures
    ∙ (λ i. little_number 2 (take (c.split_at.ensures.front_len i - 8) (drop 8 (c.split_at.ensures.front i))))
    ∙ ap (λ (l : List ℕ). little_number 2 (take 2 l)) (drop-take 8 2 c.args.bytes.now)
    ∙ little_from-take 0 2 2 (take 2 (drop 8 c.args.bytes.now)) (omega arith)
    ∙ little_from-take 0 2 2 (drop 8 c.args.bytes.now) (omega arith) in
    c.split_at-2.ensures.back ∙ ap (λ (l : List ℕ). drop c.from.result l) c.split_at.ensures.back ∙ drop-drop c.from.result 10 c.args.bytes.now ∙ ap (λ (n : ℕ). drop (10 + n) c.args.bytes.now) len
