use Rattle.std.specs.Prelude.{◌≡◌, ◌<◌, ℕ, length, All}
use Rattle.array_shape.specs.NumberSet.{members}
use Rattle.mirror.specs.Log.{log_at}
use Rattle.mirror.proofs.Frees.{FreesOn}
use Rattle.mirror.proofs.primary.free_logs.Given as goal

abbrev pub invariant-loop-tid : goal.invariant-loop-tid
invariant-loop-tid l = record {
  len : length l.logs.items ≡ length l.fn.logs.items;
  within : All (λ t. t < length l.fn.logs.items) l.tid-iterator;
  freed : (t : ℕ) → FreesOn (members l.fn.tids) l.tid-iterator t (log_at l.fn.logs.items t) (log_at l.logs.items t);
}
