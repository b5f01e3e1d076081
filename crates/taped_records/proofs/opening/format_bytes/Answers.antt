use Rattle.std.proofs.Common.{inl, inr, refl}
use Rattle.taped_calls.proofs.Statuses.{unformatted}
use Rattle.taped_records.specs.Status.{bad_shape, no_memory}
use Rattle.taped_records.proofs.opening.format_bytes.Goals as goal

pub returns-in-Ok-make_fresh : goal.returns-in-Ok-make_fresh
returns-in-Ok-make_fresh c = inl (refl, (c.in-Ok.shape, c.in-Ok.ensures.shape, c.in-Ok-make_fresh.ensures.fresh))

pub returns-in-Err : goal.returns-in-Err
returns-in-Err c = inr (c.in-Err.ensures.same, unformatted bad_shape no_memory refl refl _ _ _ _ _ c.in-Ok.shape _ c.in-Ok.ensures.shape c.in-Err.ensures.cause)
