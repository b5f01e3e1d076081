use Rattle.history.proofs.Grouping.{legal_numbered, no_earlier, all_there, whole_longer, all_whole}
use Rattle.history.proofs.laws.groups_are_there_or_not.Goals as goal

pub returns : goal.returns
returns c = record { numbered = legal_numbered; no_earlier = no_earlier; all = all_there; longer = whole_longer; whole = all_whole }
