use Rattle.caller_steps.proofs.Exact.{one_reply}
use Rattle.caller_steps.proofs.laws.each_call_has_one_reply.Goals as goal

pub returns : goal.returns
returns c limits old caller call one other new next = one_reply limits old caller call one other new next
