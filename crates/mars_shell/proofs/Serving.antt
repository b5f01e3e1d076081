-- The work over the records of a store, from what it makes of a core.
use Rattle.std.proofs.Common.{◌≡◌, ◌⊎◌, ℕ, ◌≤◌, inl, inr, ⊎_elim, List, [], ◌++◌, length, take, Bool, false, refl, sym, ap, subst, ◌∙◌, arith}
use Rattle.std.proofs.lemmas.List.Elements.{All-nil}
use Rattle.history.specs.declared.transaction.Done.{Done}
use Rattle.std.specs.Prelude.{IsTrue}
use Rattle.mars_base.proofs.Going as going
use Rattle.array_shape.specs.declared.shape.Shape.{Shape}
use Rattle.eaw_face.specs.StoreView.{StoreView, LeavesOnly}
use Rattle.page_store.specs.Index.{Index}
use Rattle.record_slots.specs.Places.{version_of}
use Rattle.record_table.specs.Names.{names_of}
use Rattle.record_table.specs.Shown.{table_of}
use Rattle.record_table.specs.Upgrading.{upgraded, OpensUpgraded}
use Rattle.history.specs.Legal.{records}
use Rattle.caller_steps.specs.State.{State}
use Rattle.caller_steps.specs.Room.{Limits}
use Rattle.caller_steps.specs.Run.{Turn}
use Rattle.caller_steps.specs.Step.{Runs}
use Rattle.caller_steps.specs.Sound.{IsSound}
use Rattle.caller_steps.specs.Prefix.{HasPrefixOf}
use Rattle.caller_steps.specs.Core.{CoreView, Continues}
use Rattle.caller_steps.proofs.Sound.{opened_sound}
use Rattle.mars_core.specs.Over.{limits_of, index_of, IsOver, Begins, OpensWithTables}
use Rattle.mars_core.specs.declared.fault.CoreFault.TheVariants.{NoMemory}
use Rattle.mars_manager.specs.Sharing.{CanShare}
use Rattle.script_run.specs.declared.ended.Ended.{Ended}
use Rattle.mars_shell.specs.OnCore.{TurnsOn}
use Rattle.array_runs.specs.Records.{begun_on}
use Rattle.array_runs.specs.Untaken.{OpensAs, Untaken}
use Rattle.mars_shell.specs.Served.{opens_of, Served}
use Rattle.array_runs.proofs.Shapes.{same_limits}

module _ (tells : Bool) (Opens : Shape → List ℕ → List ℕ → Type 0) (index : Index) (old mid : StoreView) (core : CoreView) (begins : Begins tells (Opens old.shape) index old mid core) where
  pub limits_are : core.limits ≡ limits_of index old.shape old.depth
  limits_are = begins.over.limits ∙ (λ i. limits_of index (begins.shape i) (begins.depth i))

  pub begun_is : IsTrue tells → core.state ≡ begun_on index old.state.bytes
  begun_is told = begins.state told

  -- memory ran out before the work
  pub untold : (new : StoreView) → IsTrue tells → new ≡ mid → Untaken false Opens index old NoMemory false [] new
  untold new told same = record {
    whole = refl;
    silent = refl;
    cause = tt;
    time = subst (λ (v : StoreView). LeavesOnly (λ image. OpensAs false (Opens old.shape) old.state.bytes image) old v) (sym same)
        (going.weaker (λ image either. ⊎_elim (λ was. inl was) (λ is. inr (refl, is)) either) (begins.time told));
  }

  -- the core can be shared
  pub can_share : (callers : ℕ) → callers ≤ old.shape.numbers → (IsTrue tells → (image : List ℕ) → mid.left_since mid.moment image → Opens mid.shape image mid.state.bytes) → CanShare tells callers core
  can_share callers few only = record {
    alive = begins.over.dead ∙ begins.alive;
    history = begins.fresh.0;
    live = begins.fresh.1;
    offers = begins.fresh.3;
    enough = subst (λ (l : Limits). callers ≤ l.callers) (sym limits_are) few;
    sound = λ told. subst IsSound (sym (begun_is told)) (opened_sound (names_of old.state.bytes) (table_of index old.state.bytes) (index_of index (upgraded old.state.bytes)));
    now = λ told image left. record { count = 0; at_least = omega arith; at_most = omega arith; whole = All-nil (λ (done : Done). done.last ≤ 0); opens = opens_base told image left };
  }
    where
      opens_base : IsTrue tells → (image : List ℕ) → core.left_since core.moment image → core.opens image core.state.base
      opens_base told image left =
          let here = subst (λ (t : ℕ). mid.left_since t image) begins.over.moment ((begins.over.left core.moment image).1 left) in
          (begins.over.opens_to image core.state.base).0
          (record {
            bytes = mid.state.bytes;
            opened = subst (λ (s : Shape). Opens s image mid.state.bytes) begins.shape (only told image here);
            sound = begins.over.sound told begins.alive;
            version = begins.version told;
            named = begins.over.names told begins.alive;
            shows = begins.over.table told begins.alive ∙ ap (records core.state.base) begins.fresh.0;
          })

  module _ (told : IsTrue tells) (new : StoreView) (later : CoreView) (over : IsOver tells (Opens new.shape) index new later) (on : Continues core later) where
    shape : new.shape ≡ old.shape
    shape = same_limits index new.shape mid.shape new.depth mid.depth (sym over.limits ∙ on.limits ∙ begins.over.limits) ∙ begins.shape

    -- in terms of the store
    opens_now : (more least : ℕ) (image : List ℕ) → least ≤ more → HasPrefixOf later.opens later.state more image → opens_of Opens old.shape index later.state least image
    opens_now more least image le has =
        let table = records later.state.base (take has.count (later.state.history ++ later.state.doubt)) in
        record {
          count = has.count;
          at_least = omega (arith, le, has.at_least);
          at_most = has.at_most;
          whole = has.whole;
          opens = subst (λ (s : Shape). OpensWithTables (Opens s) index later.state.names image table) shape ((over.opens_to image table).1 has.opens);
        }

    turns_time : LeavesOnly (opens_of Opens old.shape index later.state 0) mid new
    turns_time = record {
      later = omega (arith, begins.over.moment, over.moment, on.time.later);
      keeps = λ t image le left. (over.left t image).1 (on.time.keeps t image (omega (arith, le, begins.over.moment)) ((begins.over.left t image).0 left));
      only = λ t image le left. ⊎_elim (λ was. inl ((begins.over.left t image).1 was)) (λ has. inr (opens_now (length core.state.history) 0 image (omega arith) has))
          (on.time.only t image (omega (arith, le, begins.over.moment)) ((over.left t image).0 left));
    }

    -- data in version 2 has the same names and the same records
    names_two : names_of (upgraded old.state.bytes) ≡ later.state.names
    names_two = ap names_of (sym (begins.bytes told)) ∙ begins.over.names told begins.alive ∙ sym on.names

    base_two : table_of index (upgraded old.state.bytes) ≡ later.state.base
    base_two = ap (table_of index) (sym (begins.bytes told)) ∙ begins.over.table told begins.alive ∙ ap (records core.state.base) begins.fresh.0 ∙ sym on.base

    -- within the opening
    base_opens : (image : List ℕ) → OpensUpgraded (Opens old.shape) old.state.bytes image → Opens old.shape image old.state.bytes ⊎ opens_of Opens old.shape index later.state 0 image
    base_opens image (inl was) = inl was
    base_opens image (inr is) = inr (record {
      count = 0;
      at_least = omega arith;
      at_most = omega arith;
      whole = All-nil (λ (done : Done). done.last ≤ 0);
      opens = record {
        bytes = upgraded old.state.bytes;
        opened = is;
        sound = subst index.sound (begins.bytes told) (begins.over.sound told begins.alive);
        version = subst (λ (b : List ℕ). version_of b ≡ 2) (begins.bytes told) (begins.version told);
        named = names_two;
        shows = base_two;
      };
    })

    -- what holds of the first state
    of_first : (P : Limits → State → Type 0) → P core.limits core.state → P (limits_of index old.shape old.depth) (begun_on index old.state.bytes)
    of_first P holds = subst (λ (l : Limits). P l (begun_on index old.state.bytes)) limits_are (subst (λ (s : State). P core.limits s) (begun_is told) holds)

    pub served_on : (Says : Limits → List Turn → State → Type 0) (ended : Ended) (turns : TurnsOn Says core ended later) → Served Says Opens index old ended new
    served_on Says ended turns = record {
      sound = begins.sound told;
      shape = shape;
      turns = turns.turns;
      final = later.state;
      runs = of_first (λ l s. Runs l s turns.turns later.state) turns.runs;
      says = subst (λ (l : Limits). Says l turns.turns later.state) limits_are turns.does;
      since = going.then (going.weaker base_opens (begins.time told)) (going.weaker (λ image has. inr has) turns_time);
      now = λ image left. opens_now (length later.state.history) (length later.state.history) image (omega arith)
          (on.now image ((over.left later.moment image).0 (subst (λ (t : ℕ). new.left_since t image) (sym over.moment) left)));
      left = λ unfailed.
          let living = sym over.dead ∙ turns.alive unfailed in
          (living, turns.alive unfailed, record { sound = over.sound told living; names = over.names told living; table = over.table told living; keys = over.keys told });
    }

  -- callers took turns
  pub served : (told : IsTrue tells) (new : StoreView) (later : CoreView) → IsOver tells (Opens new.shape) index new later → (Says : Limits → List Turn → State → Type 0) (ended : Ended)
      → TurnsOn Says core ended later → Served Says Opens index old ended new
  served told new later over Says ended turns = served_on told new later over turns.continues Says ended turns
