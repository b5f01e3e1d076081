use Rattle.mirror.proofs.Logging.{LogsOn}
use Rattle.mirror.proofs.apply.log_parts.Given as goal

abbrev pub invariant-loop-part : goal.invariant-loop-part
invariant-loop-part g l = LogsOn g.S.EawStore.tells (g.S.EawStore.opens (g.S.EawStore.view l.fn.store).shape) l.number l.count l._part l.bytes l.rest (g.S.EawStore.view l.fn.store) (g.S.EawStore.view l.store)
