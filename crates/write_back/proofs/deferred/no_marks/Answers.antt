use Rattle.std.proofs.Common.{◌≡◌, ℕ, length, ◌∙◌, ap, arith}
use Rattle.std.specs.Prelude.{replicate}
use Rattle.std.proofs.lemmas.List.{length-replicate}
use Rattle.write_back.proofs.deferred.no_marks.Goals as goal

pub push_reserved-requires : goal.push_reserved-requires
push_reserved-requires c = omega (arith, c.loop-page.masks.ok.0, ap length c.loop-page.invariant.items, length-replicate {A = ℕ} c.loop-page._page 0, c.loop-page.invariant.room, c.loop-page-test.true)

pub returns-clause-none : goal.returns-clause-none
returns-clause-none c =
    let all : c.loop-page._page ≡ c.args.pages = omega (arith, c.loop-page-test.false, c.loop-page.auto._page-end) in
    c.loop-page.invariant.items ∙ ap (λ (k : ℕ). replicate {A = ℕ} k 0) all
