-- The status with which a script ends a run.
use Rattle.std.proofs.Common.{ℕ, inl, inr, ⊎_elim, List, Bool, true}
use Rattle.std.proofs.lemmas.Bool.{true≢false}
use Rattle.pcm_media.specs.View.{View}
use Rattle.script_run.specs.declared.ended.Ended.{Ended}
use Rattle.script_run.specs.declared.ended.Ended.TheVariants.{All, WriteFault, MediaFault, NoMemory}
use Rattle.array_runs.specs.Outcome.{Idle, OutcomeOf}
use Rattle.array_runs.specs.Statuses.{script_status}
use Rattle.array_runs.specs.declared.status.Status.{Status}
use Rattle.array_runs.specs.declared.status.Status.TheVariants as ends

-- the outcome if the work was done
pub outcome_of : (spares : Bool) (Works : Ended → Type 0) (looks : Bool) (callers : ℕ) (old new : View) (cut : Bool) (text : List ℕ) (ended : Ended) → Works ended → OutcomeOf spares looks callers Works old (script_status ended) new cut text
outcome_of spares Works looks callers old new cut text All works = works
outcome_of spares Works looks callers old new cut text WriteFault works = works
outcome_of spares Works looks callers old new cut text MediaFault works = inr works
outcome_of spares Works looks callers old new cut text NoMemory works = inr (inr works)

-- the outcome of work of which more was known
pub outcome_as : (spares : Bool) (Works Works' : Ended → Type 0) (looks : Bool) (callers : ℕ) (old : View) (status : Status) (new : View) (cut : Bool) (text : List ℕ) → ((ended : Ended) → Works ended → Works' ended)
    → OutcomeOf spares looks callers Works old status new cut text → OutcomeOf spares looks callers Works' old status new cut text
outcome_as spares Works Works' looks callers old ends.Good new cut text less outcome = less All outcome
outcome_as spares Works Works' looks callers old ends.WriteFault new cut text less outcome = less WriteFault outcome
outcome_as spares Works Works' looks callers old ends.MediaFault new cut text less outcome = ⊎_elim (λ idle. inl idle) (λ works. inr (less MediaFault works)) outcome
outcome_as spares Works Works' looks callers old ends.NoMemory new cut text less outcome = ⊎_elim (λ short. inl short) (λ later. inr (⊎_elim (λ idle. inl idle) (λ works. inr (less NoMemory works)) later)) outcome
outcome_as spares Works Works' looks callers old ends.Usage new cut text less outcome = outcome
outcome_as spares Works Works' looks callers old ends.TooLong new cut text less outcome = outcome
outcome_as spares Works Works' looks callers old ends.ReadFault new cut text less outcome = outcome
outcome_as spares Works Works' looks callers old (ends.Damaged page) new cut text less outcome = outcome
outcome_as spares Works Works' looks callers old (ends.BadRow logger tid) new cut text less outcome = outcome
outcome_as spares Works Works' looks callers old ends.NotMars new cut text less outcome = outcome
outcome_as spares Works Works' looks callers old (ends.BadShape which given) new cut text less outcome = outcome
outcome_as spares Works Works' looks callers old (ends.Refused refusal) new cut text less outcome = outcome
outcome_as spares Works Works' looks callers old (ends.BadFrame n) new cut text less outcome = outcome
outcome_as spares Works Works' looks callers old (ends.Gap expected got) new cut text less outcome = outcome

-- nothing done while data is spared is nothing done while it is not
pub idle_as : (spares : Bool) (MayWrite Cause : Type 0) (old new : View) (cut : Bool) (text : List ℕ) → Idle true MayWrite Cause old new cut text → Idle spares MayWrite Cause old new cut text
idle_as spares MayWrite Cause old new cut text idle = record {
  silent = idle.silent;
  later = idle.later;
  keeps = λ shape all image left. ⊎_elim (λ like. inl like) (λ other. absurd (true≢false other.0)) (idle.keeps shape all image left);
  spared = idle.spared;
  cause = idle.cause;
}

pub outcome_spared : (spares : Bool) (Works : Ended → Type 0) (looks : Bool) (callers : ℕ) (old : View) (status : Status) (new : View) (cut : Bool) (text : List ℕ)
    → OutcomeOf true looks callers Works old status new cut text → OutcomeOf spares looks callers Works old status new cut text
outcome_spared spares Works looks callers old ends.Good new cut text outcome = outcome
outcome_spared spares Works looks callers old ends.WriteFault new cut text outcome = outcome
outcome_spared spares Works looks callers old ends.MediaFault new cut text outcome = ⊎_elim (λ idle. inl (idle_as spares _ _ old new cut text idle)) (λ works. inr works) outcome
outcome_spared spares Works looks callers old ends.NoMemory new cut text outcome =
    ⊎_elim (λ short. inl short) (λ later. inr (⊎_elim (λ idle. inl (idle_as spares _ _ old new cut text idle)) (λ works. inr works) later)) outcome
outcome_spared spares Works looks callers old ends.Usage new cut text outcome = outcome
outcome_spared spares Works looks callers old ends.TooLong new cut text outcome = outcome
outcome_spared spares Works looks callers old ends.ReadFault new cut text outcome = outcome
outcome_spared spares Works looks callers old (ends.Damaged page) new cut text outcome = outcome
outcome_spared spares Works looks callers old (ends.BadRow logger tid) new cut text outcome = outcome
outcome_spared spares Works looks callers old ends.NotMars new cut text outcome = outcome
outcome_spared spares Works looks callers old (ends.BadShape which given) new cut text outcome = outcome
outcome_spared spares Works looks callers old (ends.Refused refusal) new cut text outcome = outcome
outcome_spared spares Works looks callers old (ends.BadFrame n) new cut text outcome = outcome
outcome_spared spares Works looks callers old (ends.Gap expected got) new cut text outcome = outcome
