-- Work over a store that mirrors, told of the store below it.
use Rattle.std.proofs.Common.{◌≡◌, ℕ, List, Bool, true, false, Result, sym, ap, subst}
use Rattle.std.specs.Prelude.{IsTrue}
use Rattle.array_shape.specs.declared.shape.Shape.{Shape}
use Rattle.eaw_face.specs.Sending.{Sending}
use Rattle.eaw_face.specs.State.{State}
use Rattle.eaw_face.specs.StoreView.{StoreView}
use Rattle.page_store.specs.Index.{Index}
use Rattle.mirror.specs.Mirroring.{over}
use Rattle.mars_core.specs.Attached.{CoreCause}
use Rattle.mars_core.specs.declared.fault.CoreFault.{CoreFault}
use Rattle.mars_core.specs.declared.fault.CoreFault.TheVariants.{Damaged, Media, NoMemory}
use Rattle.script_run.specs.declared.ended.Ended.{Ended}
use Rattle.array_runs.specs.Untaken.{Untaken}
use Rattle.array_runs.specs.Forms.{index_of_form, index_at, SaysForm}
use Rattle.array_runs.specs.Records.{begun_on}
use Rattle.array_runs.proofs.Forming.{of_form}
use Rattle.mars_shell.specs.Served.{Served, Serves}
use Rattle.mars_shell.specs.FramedRun.{SaysFramed, says_framed}
use Rattle.mars_shell.proofs.Forming.{serves_on}

cause_below : (index : Index) (old : StoreView) (sent : Sending) (fault : CoreFault) → CoreCause true index (over old sent) fault → CoreCause true index old fault
cause_below index old sent (Damaged page) cause = cause
cause_below index old sent Media cause = cause
cause_below index old sent NoMemory cause = cause

module _ (Opens : Shape → List ℕ → List ℕ → Type 0) (index : Index) (old new : StoreView) (sent sent' : Sending) where
  -- the records were not taken
  pub untaken_below : (fault : CoreFault) (cut : Bool) (text : List ℕ) → Untaken false Opens index (over old sent) fault cut text (over new sent') → Untaken false Opens index old fault cut text new
  untaken_below fault cut text off = record { whole = off.whole; silent = off.silent; cause = cause_below index old sent fault off.cause; time = off.time }

  -- callers took turns
  pub served_below : (input : List ℕ) (cut : Bool) (text : List ℕ) (ended : Ended) → Served (says_framed index (over old sent) input cut text ended) Opens index (over old sent) ended (over new sent')
      → Served (says_framed index old input cut text ended) Opens index old ended new
  served_below input cut text ended served = record {
    sound = served.sound;
    shape = served.shape;
    turns = served.turns;
    final = served.final;
    runs = served.runs;
    says = served.says;
    since = served.since;
    now = served.now;
    left = served.left;
  }

-- the same under the index that the data names, which is found first
module _ (tells : Bool) (told : IsTrue tells) (Opens : Shape → List ℕ → List ℕ → Type 0) (form : ℕ) (old mid : StoreView) (says : SaysForm tells (Opens old.shape) form old mid) (new : StoreView) (input : List ℕ) (cut : Bool) (text : List ℕ) where
  pub says_on : (result : Result Ended CoreFault) → Serves (says_framed (index_of_form form) mid input cut text) Opens (index_of_form form) mid result cut text new
      → Serves (says_framed (index_at old.state.bytes) old input cut text) Opens (index_at old.state.bytes) old result cut text new
  says_on result served =
      let bytes_are : mid.state.bytes ≡ old.state.bytes = ap (λ (s : State). s.bytes) (says.state told) in
      let moved = subst (λ (x : Shape × List ℕ × Index). Serves (λ ended. SaysFramed x.2 x.0 x.1 (begun_on x.2 x.1) input ended cut text) Opens (index_of_form form) mid result cut text new)
      (λ i. (says.shape i, bytes_are i, sym (of_form form old.state.bytes (says.is told)) i)) served in
      serves_on tells told Opens form old mid says new (says_framed (index_at old.state.bytes) old input cut text) result cut text moved
