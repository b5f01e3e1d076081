use Rattle.std.proofs.Common.{inl}
use Rattle.taped_calls.proofs.sizes.array_size.Goals as goal

pub returns-in-Ok : goal.returns-in-Ok
returns-in-Ok c = inl (c.in-Ok.shape, c.in-Ok.ensures.shape, c.media_len.ensures)
