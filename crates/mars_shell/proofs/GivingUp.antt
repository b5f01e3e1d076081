-- A core whose store mirrors, and gives up a frame.
use Rattle.std.proofs.Common.{◌≡◌, ℕ, List, [], length, refl, sym}
use Rattle.std.specs.Prelude.{◌↔◌}
use Rattle.std.proofs.lemmas.List.{append-nil}
use Rattle.array_shape.specs.declared.shape.Shape.{Shape}
use Rattle.eaw_face.specs.StoreView.{StoreView}
use Rattle.eaw_face.specs.Mirroring.{GivesUp}
use Rattle.page_store.specs.Index.{Index}
use Rattle.caller_steps.specs.Core.{CoreView, IsSafe}
use Rattle.caller_steps.proofs.Continuing.{continues_as}
use Rattle.mars_core.specs.Held.{Held, core_of, core_over, state_over}
use Rattle.mars_shell.specs.Standing.{Progress, Stands, Comes}

-- The core stands as it stood, if only what might have been left is told in another way.
module _ (core : CoreView) (left : ℕ → List ℕ → Type 0) (same : (t : ℕ) (image : List ℕ) → left t image ↔ core.left_since t image) where
  abbrev after : CoreView
  after = record core { left_since = left }

  safe_on : (since least : ℕ) → IsSafe core since least → IsSafe after since least
  safe_on since least safe image was = safe image ((same since image).0 was)

  pub stands_on : (progress : Progress) → Stands core progress → Stands after progress
  stands_on progress stands = record {
    limits_are = stands.limits_are;
    state_is = stands.state_is;
    runs = stands.runs;
    sound = stands.sound;
    safe = safe_on core.moment (length core.state.history) stands.safe;
  }

  pub comes_on : (progress : Progress) → Stands core progress → Comes core progress after progress
  comes_on progress stands = record {
    more = [];
    turns_are = sym (append-nil progress.turns);
    runs = refl;
    continues = continues_as core left same stands.sound stands.safe;
  }

-- a core over a store that gave up a frame is as it was, but for that
module _ {S : Type 0} (Opens : Shape → List ℕ → List ℕ → Type 0) (index : Index) (old new : StoreView) (gives : GivesUp old new) (was is : Held S) (rest : is ≡ record was { records = is.records }) where
  pub core_is : core_of Opens index new is ≡ record (core_of Opens index old was) { left_since = new.left_since }
  core_is = λ i. record (core_over Opens index (record old { shape = gives.same.shape i; depth = gives.same.depth i; state = gives.same.state i; is_dead = gives.same.is_dead i; faults = gives.same.faults i; moment = gives.same.moment i })
      (state_over index (record old { state = gives.same.state i; is_dead = gives.same.is_dead i }) (rest i))) { left_since = new.left_since }
