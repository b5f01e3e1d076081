use Rattle.std.proofs.Common.{ℕ, List, length, ap, arith}
use Rattle.page_store.specs.Pairs.{Pair}
use Rattle.key_list.proofs.Walking.{length-said}
use Rattle.key_list.proofs.place.room_in.Goals as goal

pub returns : goal.returns
returns c = (
  c.leaf_of.ensures.page,
  c.leaf_of.ensures.link,
  c.leaf_of.ensures.pairs,
  omega (arith, ap (λ (ps : List Pair). length ps) c.leaf_of.ensures.pairs, length-said c.args.bytes.now, c.requires.count, c.from.ensures),
  c.leaf_of.ensures.small,
)
