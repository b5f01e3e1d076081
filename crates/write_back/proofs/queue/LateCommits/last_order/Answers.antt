use Rattle.std.proofs.Common.{◌≡◌, ◌-◌, List, length, Some, None, sym, subst}
use Rattle.std.specs.Prelude.{slice_get}
use Rattle.row_bytes.specs.declared.ballot.Ballot.{Ballot}
use Rattle.write_back.proofs.Orders.{last_is, last_none}
use Rattle.write_back.proofs.queue.LateCommits.last_order.Goals as goal

pub returns-in-Some : goal.returns-in-Some
returns-in-Some c = let same = sym (last_is c.args.self.now.ballots.items c.in-Some.ballot.now (subst (λ (xs : List Ballot). Some c.in-Some.ballot.now ≡ slice_get xs (length xs - 1)) c.deref.ensures.value c.in-Some.ensures.value)) in same

pub returns-in-None : goal.returns-in-None
returns-in-None c = sym (last_none c.args.self.now.ballots.items (subst (λ (xs : List Ballot). None ≡ slice_get xs (length xs - 1)) c.deref.ensures.value c.in-None.ensures.value))
