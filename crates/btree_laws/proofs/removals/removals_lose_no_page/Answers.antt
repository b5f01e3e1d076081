use Rattle.btree_laws.proofs.Staying.{stays_but_left, stays_but_right}
use Rattle.btree_laws.proofs.removals.removals_lose_no_page.Goals as goal

pub returns-clause-joins_right : goal.returns-clause-joins_right
returns-clause-joins_right c = λ root old new key d x sound levels lt level joins kept u. stays_but_right root old new key d sound levels lt level joins kept x u

pub returns-clause-joins_left : goal.returns-clause-joins_left
returns-clause-joins_left c = λ root old new key d x sound levels lt level joins kept u. stays_but_left root old new key d sound levels lt level joins kept x u
