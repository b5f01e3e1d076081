use Rattle.std.specs.Prelude.{is_some}
use Rattle.array_shape.proofs.Sets.{IsPassedBelow}
use Rattle.page_store.proofs.pages.live_among.Given as goal

abbrev pub invariant-loop-tid : goal.invariant-loop-tid
invariant-loop-tid g l = IsPassedBelow l.fn.tids.bits (λ t. is_some ((g.S.EawStore.view l.fn.store).ranges t)) l.tid l.live.bits
