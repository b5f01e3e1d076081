use Rattle.std.proofs.Common.{◌≡◌, inl, inr, sym, ◌∙◌, arith}
use Rattle.index_pages.specs.Page.{kind_said}
use Rattle.key_list.proofs.page.read_leaf_head.Goals as goal

pub returns-in_err-head-clause-other : goal.returns-in_err-head-clause-other
returns-in_err-head-clause-other c = rw c.from_residual.ensures (λ leaf. c.in_err-head.ensures.other (record { kind_is = inl (leaf.kind, leaf.level); most = leaf.most }))

pub returns-then-head-ne0-clause-other : goal.returns-then-head-ne0-clause-other
returns-then-head-ne0-clause-other c = λ leaf. c.if-head-ne0.true (c.in_ok-head.ensures.says.level ∙ leaf.level)

pub returns-clause-says : goal.returns-clause-says
returns-clause-says c =
    let says = c.in_ok-head.ensures.says in
    let level = sym says.level ∙ c.if-head-ne0.false in
    let kind : kind_said c.args.page.now ≡ 1 = elim says.page.kind_is [ inl f ↦ f.0 | inr f ↦ absurd (omega (arith, f.1, level)) ] in
    record { leaf = record { kind = kind; level = level; most = says.page.most }; count = says.count; link = says.link }
