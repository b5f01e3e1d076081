-- A command that stops, since its call is to fail.
use Rattle.std.proofs.Common.{◌≡◌, ℕ, Bool, true, false, List, Result, Err, refl, sym, subst}
use Rattle.eaw_face.specs.Command.{Command}
use Rattle.eaw_face.specs.declared.fault.EawFault.{EawFault}
use Rattle.eaw_face.specs.declared.fault.EawFault.TheVariants.{Media}
use Rattle.memory_eaw.specs.Kept.{Kept, failed}
use Rattle.memory_eaw.specs.Plain.{Plain, view_of}
use Rattle.memory_eaw.specs.Steps.{failed_plain}
use Rattle.memory_eaw.specs.Calls.{IsCounted, is_change, FailsAs, kept_after, Counts}

-- the answer to a command that stopped
abbrev pub stop : (T : Type 0) → EawFault → Result T EawFault
stop T fault = Err fault

after_failed : (T : Type 0) (change : Bool) (fault : EawFault) (bytes : List ℕ) (kept : Kept) → failed kept ≡ kept_after change (stop T fault) bytes kept
after_failed T true fault bytes kept = refl
after_failed T false fault bytes kept = refl

module _ (T : Type 0) (old : Plain) (command : Command) (counted : IsCounted (view_of old) command) where
  counts_at_media : FailsAs (is_change command) old.kept → Counts command (view_of old) old.kept (failed old.kept) (stop T Media)
  counts_at_media must = record {
    fails = (λ is. (counted, must), λ both. refl);
    counted = λ is. after_failed T (is_change command) Media old.bytes old.kept;
    uncounted = λ not. absurd (not counted);
  }

  -- as a step of the command says it
  module _ (new : Plain) (fault : EawFault) (is : fault ≡ Media) (broken : new ≡ failed_plain old) where
    pub counts_failed : FailsAs (is_change command) old.kept → Counts command (view_of old) old.kept new.kept (stop T fault)
    counts_failed must =
        subst (λ f. Counts command (view_of old) old.kept new.kept (stop T f)) (sym is)
        (subst (λ plain. Counts command (view_of old) old.kept plain.kept (stop T Media)) (sym broken) (counts_at_media must))
