use Rattle.caller_steps.proofs.Caused.{refused_so, refused_only, busy_cause, nobody_holds, granted_there, granted_free}
use Rattle.caller_steps.proofs.laws.what_a_cause_says.Goals as goal

pub returns : goal.returns
returns g = record {
  so = λ limits old caller call refusal reply is cause. refused_so limits old caller call refusal reply is cause;
  only = λ limits old caller call reply own cause. refused_only limits old caller call reply own cause;
  busy = λ limits old caller holder call cause. busy_cause limits old caller call holder cause;
  nobody = λ limits old caller holder call none cause. nobody_holds limits old caller holder call none cause;
  tabled = λ limits old caller call reply granted cause. granted_there limits old caller call reply granted cause;
  free = λ limits old caller call reply granted cause. granted_free limits old caller call reply granted cause;
}
