use Rattle.std.proofs.Common.{inl, inr, refl}
use Rattle.taped_calls.proofs.Statuses.{unformatted}
use Rattle.taped_array.specs.Status.{bad_shape, no_memory}
use Rattle.taped_array.proofs.opening.format_bytes.Goals as goal

pub returns-in-Ok-make_zero : goal.returns-in-Ok-make_zero
returns-in-Ok-make_zero c = inl (refl, (c.in-Ok.shape, c.in-Ok.ensures.shape, c.in-Ok-make_zero.ensures.made))

pub returns-in-Err : goal.returns-in-Err
returns-in-Err c = inr (c.in-Err.ensures.same, unformatted bad_shape no_memory refl refl _ _ _ _ _ c.in-Ok.shape _ c.in-Ok.ensures.shape c.in-Err.ensures.cause)
