use Rattle.std.proofs.Common.{refl, ap, sym, ◌∙◌}
use Rattle.std.proofs.lemmas.Bool.{false≢true}
use Rattle.page_store.specs.Pairs.{Pair}
use Rattle.btree_pages.proofs.Checks.{first_said}
use Rattle.btree_pages.proofs.checking.is_inner.Goals as goal

pub returns-then-read_pair-low : goal.returns-then-read_pair-low
returns-then-read_pair-low c = (
  λ bad. absurd (false≢true bad),
  λ all. absurd (c.if-read_pair-low.true (ap (λ (p : Pair). p.0) c.read_pair.ensures.pair ∙ sym (first_said c.args.bytes.now c.args.count c.args.low c.requires.count c.requires.some) ∙ all.0)),
)

pub returns-then-not-rises : goal.returns-then-not-rises
returns-then-not-rises c = (λ bad. absurd (false≢true bad), λ all. absurd (false≢true (c.if-not-rises.ensures.1 all.1)))

pub returns : goal.returns
returns c =
    let first = first_said c.args.bytes.now c.args.count c.args.low c.requires.count c.requires.some ∙ ap (λ (p : Pair). p.0) (sym c.read_pair.ensures.pair) ∙ c.if-read_pair-low.false in (
      λ good. (first, c.if-not-rises.ensures.0 refl, c.are_named.ensures.0 good),
      λ all. c.are_named.ensures.1 all.2,
    )
