use Rattle.caller_work.proofs.Histories.{fated, whole}
use Rattle.caller_work.proofs.laws.what_fates_say.Goals as goal

pub returns : goal.returns
returns g = record {
  fated = λ limits caller first now turns tries plans fates stopped run none free nothing certain work tables. fated limits caller first now turns run none free nothing certain tries plans fates stopped work tables;
  whole = λ turns caller tries plans fates work. whole tries plans work.0 fates work.2;
}
