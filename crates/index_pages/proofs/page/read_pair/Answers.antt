use Rattle.std.proofs.Common.{◌∙◌, arith, ap, ℕ, ◌-◌, ◌+◌, ◌*◌, ◌≡◌}
use Rattle.byteorder.specs.Endian.{little_from}
use Rattle.index_pages.specs.Page.{pair_said}
use Rattle.index_pages.proofs.Reading.{piece, pair_is}
use Rattle.index_pages.proofs.page.read_pair.Goals as goal

pub returns-clause-pair : goal.returns-clause-pair
returns-clause-pair c =
    let i = c.from.result in
    let at : (8 + 16 * i) + 8 ≡ 16 + 16 * i = omega arith in
    pair_is c.args.page.now i _ _ (c.read_u64.ensures ∙ piece (8 + 16 * i) 8 (512 - (8 + 16 * i)) c.args.page.now (omega arith))
    (c.read_u64-2.ensures ∙ piece (8 + 16 * i + 8) 8 (512 - (8 + 16 * i + 8)) c.args.page.now (omega arith) ∙ ap (λ (j : ℕ). little_from j 8 c.args.page.now) at)
    ∙ ap (λ (j : ℕ). pair_said c.args.page.now j) c.from.ensures
