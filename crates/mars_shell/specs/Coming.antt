-- What turns of a core come to: laws that responders give.
use Rattle.std.proofs.Common.{◌≡◌, ◌++◌, [], ℕ, List, true, refl, sym, ap, subst, ◌∙◌}
use Rattle.std.proofs.lemmas.List.{append-nil, append_assoc}
use Rattle.page_store.specs.Index.{Index}
use Rattle.caller_steps.specs.State.{State}
use Rattle.caller_steps.specs.Core.{CoreView}
use Rattle.caller_steps.specs.Room.{Limits}
use Rattle.caller_steps.specs.Run.{Turn}
use Rattle.caller_steps.specs.Step.{Runs}
use Rattle.caller_steps.proofs.Continuing.{continues_none, continues_on}
use Rattle.caller_steps.proofs.Running.{turns_on, turns_tell, turns_of_runs}
use Rattle.mars_core.specs.Over.{ShowsAll}
use Rattle.array_runs.specs.Records.{HasAll}
use Rattle.mars_shell.specs.Standing.{Progress, Stands, Comes}

-- no turn
pub comes_to_itself : (core : CoreView) (progress : Progress) → Stands core progress → Comes core progress core progress
comes_to_itself core progress stands = record {
  more = [];
  turns_are = sym (append-nil progress.turns);
  runs = refl;
  continues = continues_none core stands.sound stands.safe;
}

-- one run after another is a run
pub comes_further : (old now later : CoreView) (s t u : Progress) → Comes old s now t → Comes now t later u → Comes old s later u
comes_further old now later s t u before behind =
    let run = subst (λ (limits : Limits). Runs limits now.state behind.more later.state) before.continues.limits behind.runs in
    record {
      more = before.more ++ behind.more;
      turns_are = behind.turns_are ∙ ap (λ (turns : List Turn). turns ++ behind.more) before.turns_are ∙ append_assoc s.turns before.more behind.more;
      runs = turns_tell true old.limits old.state later.state (before.more ++ behind.more) refl (turns_on true old.limits old.state now.state later.state before.more behind.more
          (turns_of_runs old.limits old.state now.state before.more before.runs) (turns_of_runs old.limits now.state later.state behind.more run));
      continues = continues_on old now later before.continues behind.continues;
    }

-- the data of a state has its names, its records and its keys
pub has_all : (index : Index) (bytes : List ℕ) (state now : State) → now ≡ state → state.index.bytes ≡ bytes → ShowsAll index state → HasAll index bytes now
has_all index bytes state now same data_is shows = subst (λ (s : State). HasAll index bytes s) (sym same) (subst (λ (b : List ℕ). HasAll index b state) data_is (record {
  sound = shows.sound;
  names = shows.names;
  table = shows.table;
  keys = shows.keys;
}))
