use Rattle.std.proofs.Common.{ℕ, ◌++◌, List, drop, replicate, sym, ◌∙◌, ap, subst}
use Rattle.std.proofs.lemmas.List.{drop-replicate}
use Rattle.row_bytes.specs.Header.{SaysShape, header_front, header_bytes}
use Rattle.row_bytes.proofs.Heading.{header_bytes-says}
use Rattle.row_bytes.proofs.header.write_array_header.Goals as goal

pub returns-clause-written : goal.returns-clause-written
unfolding header_bytes
returns-clause-written c =
    let front = c.copy_from_slice.ensures.after ∙ c.header_front.ensures in
    let zeros = c.fill.ensures.after (λ y same. same) ∙ ap (λ (n : ℕ). replicate n 0) c.told-out in
    (λ i. front i ++ drop 16 (zeros i)) ∙ ap (λ (l : List ℕ). header_front c.args.shape.now ++ l) (drop-replicate 16 512 0)

pub returns-clause-reads_back : goal.returns-clause-reads_back
returns-clause-reads_back c = subst (λ (l : List ℕ). SaysShape l c.args.shape.now) (sym (returns-clause-written c)) (header_bytes-says c.args.shape.now)
