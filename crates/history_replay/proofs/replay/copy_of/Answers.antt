use Rattle.std.proofs.lemmas.Map.Entries.{entries_from_clone}
use Rattle.history_replay.proofs.replay.copy_of.Goals as goal

pub returns : goal.returns
returns c = entries_from_clone _ _ (λ x y e. e) (λ v w e. e) _ _ c.in_ok-clone.ensures.cases
