use Rattle.std.proofs.Common.{◌≡◌, [], length}
use Rattle.array_shape.specs.NumberSet.{members}
use Rattle.eaw_face.specs.State.{with_each}
use Rattle.page_store.specs.Shown.{counts_in, top_in}
use Rattle.page_store.proofs.pages.forget_saves.Given as goal

abbrev pub invariant-loop-tid : goal.invariant-loop-tid
invariant-loop-tid l = record {
  many : length l.marks ≡ length l.fn.marks;
  counts : with_each (counts_in l.marks) l.tid-iterator [] ≡ with_each (counts_in l.fn.marks) (members l.fn.tids) [];
  top : top_in l.marks ≡ top_in l.fn.marks;
}
