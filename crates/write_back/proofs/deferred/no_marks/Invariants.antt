use Rattle.std.proofs.Common.{◌≡◌}
use Rattle.std.specs.Prelude.{replicate, vec_capacity}
use Rattle.write_back.proofs.deferred.no_marks.Given as goal

abbrev pub invariant-loop-page : goal.invariant-loop-page
invariant-loop-page l = record {
  items : l.masks.items ≡ replicate l._page 0;
  room : vec_capacity l.masks ≡ l.pages;
}
