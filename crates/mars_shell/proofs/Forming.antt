-- Which index the data has, and work under that index.
use Rattle.std.proofs.Common.{◌≡◌, ◌⊎◌, ℕ, inl, Bool, false, List, sym, ap, subst, ◌∙◌, length, Result, Ok, Err}
use Rattle.std.specs.Prelude.{IsTrue}
use Rattle.mars_base.proofs.Going as going
use Rattle.array_shape.specs.declared.shape.Shape.{Shape}
use Rattle.eaw_face.specs.State.{State}
use Rattle.eaw_face.specs.StoreView.{StoreView, LeavesOnly}
use Rattle.page_store.specs.Index.{Index}
use Rattle.caller_steps.specs.State as face
use Rattle.caller_steps.specs.Room.{Limits}
use Rattle.caller_steps.specs.Run.{Turn}
use Rattle.caller_steps.specs.Step.{Runs}
use Rattle.mars_core.specs.Over.{limits_of}
use Rattle.mars_core.specs.declared.fault.CoreFault.{CoreFault}
use Rattle.script_run.specs.declared.ended.Ended.{Ended}
use Rattle.array_runs.specs.Forms.{index_of_form, index_at, SaysForm}
use Rattle.array_runs.specs.Records.{begun_on}
use Rattle.mars_shell.specs.Served.{opens_of, Served, Serves}
use Rattle.array_runs.proofs.Forming.{of_form}
use Rattle.array_runs.proofs.Untaken.{untaken_over}

-- the store's data named the index, and then work was done under it
module _ (tells : Bool) (told : IsTrue tells) (Opens : Shape → List ℕ → List ℕ → Type 0) (form : ℕ) (old mid : StoreView) (says : SaysForm tells (Opens old.shape) form old mid) where
  abbrev index : Index
  index = index_of_form form

  own : index_at old.state.bytes ≡ index
  own = of_form form old.state.bytes (says.is told)

  bytes_are : mid.state.bytes ≡ old.state.bytes
  bytes_are = ap (λ (s : State). s.bytes) (says.state told)

  -- what holds of the first state
  of_first : (P : Limits → face.State → Type 0) → P (limits_of index mid.shape mid.depth) (begun_on index mid.state.bytes) → P (limits_of index old.shape old.depth) (begun_on index old.state.bytes)
  of_first P holds = subst (λ (b : List ℕ). P (limits_of index old.shape old.depth) (begun_on index b)) bytes_are (subst (λ (x : Shape × ℕ). P (limits_of index x.0 x.1) (begun_on index mid.state.bytes)) (λ i. (says.shape i, says.depth i)) holds)

  module _ (new : StoreView) where
    served_on : (Says : Limits → List Turn → face.State → Type 0) (ended : Ended) → Served Says Opens index mid ended new → Served Says Opens index old ended new
    served_on Says ended served =
        let sound = subst (λ (b : List ℕ). index.sound b) bytes_are served.sound in
        record {
          sound = sound;
          shape = served.shape ∙ says.shape;
          turns = served.turns;
          final = served.final;
          runs = of_first (λ l s. Runs l s served.turns served.final) served.runs;
          says = subst (λ (x : Shape × ℕ). Says (limits_of index x.0 x.1) served.turns served.final) (λ i. (says.shape i, says.depth i)) served.says;
          since = going.then (going.weaker (λ image opens. inl opens) (says.time told))
              (subst (λ (x : Shape × List ℕ). LeavesOnly (λ image. Opens x.0 image x.1 ⊎ opens_of Opens x.0 index served.final 0 image) mid new) (λ i. (says.shape i, bytes_are i)) served.since);
          now = λ image left. subst (λ (s : Shape). opens_of Opens s index served.final (length served.final.history) image) says.shape (served.now image left);
          left = served.left;
        }

    -- the work was done under the store's own index
    pub serves_on : (Says : Ended → Limits → List Turn → face.State → Type 0) (result : Result Ended CoreFault) (cut : Bool) (text : List ℕ) → Serves Says Opens (index_of_form form) mid result cut text new
        → Serves Says Opens (index_at old.state.bytes) old result cut text new
    serves_on Says (Ok ended) cut text served = subst (λ (i : Index). Served (Says ended) Opens i old ended new) (sym own) (served_on (Says ended) ended served)
    serves_on Says (Err fault) cut text off = untaken_over tells told Opens form old mid new says false fault cut text off
