use Rattle.transactions.proofs.Going.{stays_on, core_later, core_before}
use Rattle.transactions.proofs.Trying.{within_on}
use Rattle.transactions.proofs.laws.calls_join.Goals as goal

pub returns : goal.returns
returns g c = record {
  stays = λ old mid new caller a b. stays_on caller (g.C.Core.view old) (g.C.Core.view mid) (g.C.Core.view new) (c.prefix_law.ensures.on old mid new a.goes_on b.goes_on) a b;
  within = λ old mid new caller a b. within_on caller (g.C.Core.view old) (g.C.Core.view mid) (g.C.Core.view new) a b;
  later = λ old mid new caller stop a r. core_later caller (g.C.Core.view old) (g.C.Core.view mid) (g.C.Core.view new) stop a.goes_on.limits a.went r;
  earlier = λ old mid new caller stop a r b. core_before caller (g.C.Core.view old) (g.C.Core.view mid) (g.C.Core.view new) stop a.goes_on.limits r b.went;
}
