use Rattle.btree_laws.proofs.Staying.{last_is, last_kept, last_seen}
use Rattle.btree_laws.proofs.removals.last_pairs_stay.Goals as goal

pub returns : goal.returns
returns c = λ root old new key sound lt levels kept parent few is.
    let s = last_seen old root.page key is in
    last_is new root.page key (last_kept root old new key sound lt levels kept parent s.below few s)
