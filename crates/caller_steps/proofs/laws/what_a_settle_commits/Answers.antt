use Rattle.caller_steps.specs.Offers.{offerers, group_end}
use Rattle.caller_steps.proofs.Offering.{offerers_once}
use Rattle.caller_steps.proofs.Leaving.{group_records}
use Rattle.caller_steps.proofs.Settling.{group_last, settle_told, settle_commits}
use Rattle.caller_steps.proofs.laws.what_a_settle_commits.Goals as goal

pub returns : goal.returns
returns c = record {
  told = λ limits old new caller n sound step. settle_told limits old new caller n sound step;
  group = λ limits old new caller n gave step. (settle_commits limits old new caller n gave step).0;
  all = λ limits old new caller n other gave step lt ne is. (settle_commits limits old new caller n gave step).1 other lt ne is;
  records = λ state callers sound. group_records state (group_end state (offerers callers state)) (offerers callers state) (record { legal = sound.legal; right = sound.right; offers = sound.offers; apart = sound.apart }) (offerers_once callers state);
  last = group_last;
}
