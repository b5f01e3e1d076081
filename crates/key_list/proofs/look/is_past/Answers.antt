use Rattle.std.proofs.Common.{◌≡◌, ◌≢◌, ◌∙◌, ap, sym, subst, arith}
use Rattle.std.proofs.lemmas.Bool.Decides.{nat_tests}
use Rattle.page_store.specs.Pairs.{Pair}
use Rattle.index_pages.specs.Page.{count_said, pairs_said}
use Rattle.key_list.specs.Chain.{first_key}
use Rattle.key_list.proofs.Walking.{first_said}
use Rattle.key_list.proofs.look.is_past.Goals as goal

pub returns-then-count-gt0 : goal.returns-then-count-gt0
returns-then-count-gt0 c =
    let some : count_said c.args.bytes.now ≢ 0 = λ e. omega (arith, e) in
    let first : first_key (pairs_said c.args.bytes.now) ≡ c.read_pair.result.0 = first_said c.args.bytes.now some ∙ sym (ap (λ (p : Pair). p.0) c.read_pair.ensures.pair) in
    (λ lt. (some, grind (arith, nat_tests, first, lt)), λ both. (let less = both.1 in grind (arith, nat_tests, first, less)))
