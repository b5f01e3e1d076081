-- What is kept of a call that was done.
use Rattle.std.proofs.Common.{◌≡◌}
use Rattle.eaw_face.specs.StoreView.{StoreView}
use Rattle.eaw_face.specs.Command.{Command}
use Rattle.memory_eaw.specs.Kept.{Kept}
use Rattle.memory_eaw.specs.Calls.{IsCounted, is_change, FailsAs, kept_after, Counts}
use Rattle.memory_eaw.proofs.Doing.{answer}

module _ {T : Type 0} (x : T) (store : StoreView) (command : Command) (old new : Kept) where
  pub counts_done : IsCounted store command → (FailsAs (is_change command) old → ⊥) → new ≡ kept_after (is_change command) (answer x) store.state.bytes old → Counts command store old new (answer x)
  counts_done counted fine is = record {
    fails = (λ failed. absurd (cc failed), λ both. absurd (fine both.1));
    counted = λ same. is;
    uncounted = λ not. absurd (not counted);
  }

  -- there was no work
  pub counts_idle : (IsCounted store command → ⊥) → new ≡ old → Counts command store old new (answer x)
  counts_idle not same = record {
    fails = (λ failed. absurd (cc failed), λ both. absurd (not both.0));
    counted = λ counted. absurd (not counted);
    uncounted = λ still. same;
  }
