use Rattle.std.proofs.Common.{List, ℕ, ◌∙◌, ap}
use Rattle.media_file.specs.declared.honest_call.Done.TheVariants.{Written}
use Rattle.media_file.specs.Past.{noted, stands}
use Rattle.media_file.specs.InMemory.{past_in}
use Rattle.media_file.proofs.Keeping.{kept_call}
use Rattle.media_file.proofs.honest_calls.HonestCalls.put.Goals as goal

pub returns-clause-put : goal.returns-clause-put
returns-clause-put c =
    let pushed = rw c.if-is_err.ensures.negation at c.push.ensures.items in
    kept_call c.args.self.now.first.items c.args.self.now.calls.items c.push.new.self.items (record { moment = c.args.moment; done = Written c.args.at c.in-Ok.copy }) pushed
    ∙ ap (λ (l : List ℕ). noted c.args.moment (stands c.args.at l) (past_in c.args.self.now)) c.in-Ok.ensures.items
