use Rattle.std.proofs.Common.{ℕ, List, ◌≡◌, ◌+◌, ◌-◌, length, drop, replicate, ap, arith}
use Rattle.std.proofs.lemmas.List.{length-replicate}
use Rattle.page_store.specs.Pairs.{Pair}
use Rattle.table_builder.specs.Plan.{page_size, pages_of}
use Rattle.table_builder.proofs.Cutting.{count_more, count_none}
use Rattle.table_builder.proofs.Planning.{pages_few, size_is}
use Rattle.table_builder.proofs.counting.count_pages.Goals as goal

pub loop-left-smaller : goal.loop-left-smaller
loop-left-smaller c =
    let one = (size_is c.args.fill c.requires.some c.requires.most c.loop-left.left).some (omega (arith, c.loop-left-test.true)) in
    omega (arith, one, c.page_size-left.ensures.size, c.page_size-left.ensures.most)

pub loop-left-preserved : goal.loop-left-preserved
loop-left-preserved c =
    let fill = c.args.fill in
    let one = (size_is c.args.fill c.requires.some c.requires.most c.loop-left.left).some (omega (arith, c.loop-left-test.true)) in
    record {
      within = omega (arith, c.loop-left.invariant.within, one, c.page_size-left.ensures.size, c.page_size-left.ensures.most);
      count = λ ps long.
          let at : length ps - (c.args.pairs - c.loop-left.left) ≡ c.loop-left.left = omega (arith, long, c.loop-left.invariant.within) in
          let size : page_size c.args.fill (length ps - (c.args.pairs - c.loop-left.left)) ≡ page_size c.args.fill c.loop-left.left = ap (page_size c.args.fill) at in
          let next : c.args.pairs - c.loop-left.left + page_size c.args.fill (length ps - (c.args.pairs - c.loop-left.left)) ≡ c.args.pairs - (c.loop-left.left - c.page_size-left.result) =
          omega (arith, size, c.page_size-left.ensures.size, c.page_size-left.ensures.most, c.loop-left.invariant.within) in
          let more = count_more c.args.fill c.requires.some c.requires.most (c.args.pairs - c.loop-left.left) ps (omega (arith, long, c.loop-left-test.true, c.loop-left.invariant.within)) in
          let same = ap (λ (n : ℕ). length (pages_of c.args.fill (drop n ps))) next in
          let before = c.loop-left.invariant.count ps long in
          omega (arith, more, same, before);
    }

pub returns-clause-count : goal.returns-clause-count
returns-clause-count c = λ ps long.
    let before = c.loop-left.invariant.count ps long in
    let none = count_none c.args.fill c.requires.some c.requires.most (c.args.pairs - c.loop-left.left) ps (omega (arith, long, c.loop-left-test.false)) in
    omega (arith, before, none)

pub returns-clause-few : goal.returns-clause-few
returns-clause-few c =
    let ps : List Pair = replicate c.args.pairs (0, 0) in
    let long : length (replicate {A = Pair} c.args.pairs (0, 0)) ≡ c.args.pairs = length-replicate {A = Pair} c.args.pairs (0, 0) in
    let before = c.loop-left.invariant.count (replicate c.args.pairs (0, 0)) long in
    let none = count_none c.args.fill c.requires.some c.requires.most (c.args.pairs - c.loop-left.left) (replicate c.args.pairs (0, 0)) (omega (arith, long, c.loop-left-test.false)) in
    let few = pages_few c.args.fill c.requires.some c.requires.most (replicate c.args.pairs (0, 0)) (omega (arith, long, c.requires.many)) in
    omega (arith, before, none, few, long)
