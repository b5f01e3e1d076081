use Rattle.std.proofs.Common.{◌≡◌, ◌+◌}
use Rattle.std.specs.Prelude.{IsTrue}
use Rattle.transactions.specs.Tries.{WentTries}
use Rattle.transactions.proofs.Again.{Tried}
use Rattle.transactions.proofs.making.transaction_retried.Given as goal

-- what the tries so far have come to, of which there are not too many
abbrev pub invariant-loop-retry : goal.invariant-loop-retry
invariant-loop-retry g l = record {
  limits : (g.C.Core.view l.core).limits ≡ (g.C.Core.view l.fn.core).limits;
  tried : IsTrue g.C.Core.tells → Tried (l._retry + 1) (λ answer. g.W.Work.does l.work answer) (λ reason. g.W.Work.gives_up l.work reason) l.caller (g.C.Core.view l.fn.core) (g.C.Core.view l.core) l.outcome;
  tries : IsTrue g.C.Core.tells → WentTries (l.retries + 1) l.caller (g.C.Core.view l.fn.core) (g.C.Core.view l.core);
}
