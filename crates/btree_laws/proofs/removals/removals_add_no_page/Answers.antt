use Rattle.btree_laws.proofs.Pages.{had_before_left, had_before_loss, had_before_right}
use Rattle.btree_laws.proofs.removals.removals_add_no_page.Goals as goal

pub returns-clause-loses : goal.returns-clause-loses
returns-clause-loses c = λ root old new x sound levels leaf bottom kept. had_before_loss root old new 0 x sound levels leaf bottom kept

pub returns-clause-joins_right : goal.returns-clause-joins_right
returns-clause-joins_right c = λ root old new key x sound levels d lt level joins kept. had_before_right root old new key x sound levels d lt level joins kept

pub returns-clause-joins_left : goal.returns-clause-joins_left
returns-clause-joins_left c = λ root old new key x sound levels d lt level joins kept. had_before_left root old new key x sound levels d lt level joins kept
