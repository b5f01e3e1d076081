use Rattle.std.proofs.Common.{◌≡◌, [], None, replicate}
use Rattle.std.specs.Vec.{vec_capacity}
use Rattle.page_store.specs.Marked.{Marked}
use Rattle.page_store.proofs.room.fresh_marks.Given as goal

abbrev pub invariant-loop-tid : goal.invariant-loop-tid
invariant-loop-tid l = record {
  marks : l.marks.items ≡ replicate l._tid (let fresh : Marked = record { counts = []; top = None } in fresh);
  room : vec_capacity l.marks ≡ l.numbers;
}
