use Rattle.std.proofs.Common.{rules, true, refl, sym, ◌∙◌}
use Rattle.row_bytes.proofs.Heading.{mark_told}
use Rattle.row_bytes.proofs.header.read_array_header.Goals as goal

pub returns-then-media_len-clause-fault : goal.returns-then-media_len-clause-fault
returns-then-media_len-clause-fault c =
    let marked = mark_told c.args.bytes.now true c.if-not-starts_with.ensures.value in
    (marked, (refl, (c.in_ok-shape.shape, record { has_mark = marked; numbers = search rules }, λ same. c.if-media_len.true (c.media_len.ensures ∙ sym same))))
