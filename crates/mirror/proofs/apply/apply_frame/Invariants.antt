use Rattle.mirror.proofs.Grouping.{GroupsOn}
use Rattle.mirror.proofs.apply.apply_frame.Given as goal

abbrev pub invariant-loop-group : goal.invariant-loop-group
invariant-loop-group g l = GroupsOn g.S.EawStore.tells g.S.EawStore.opens l._group l.frame l.rest l.numbers.bits (g.S.EawStore.view l.fn.store) (g.S.EawStore.view l.store)
