-- What turns over an array leave, from their run alone.
use Rattle.std.proofs.Common.{◌≡◌, ℕ, ◌<◌, ◌≤◌, ◌^◌, List, [], ◌++◌, length, Bool, true, refl, sym, ap, subst, ◌∙◌, arith}
use Rattle.std.specs.Prelude.{IsFalse, Contains}
use Rattle.array_shape.specs.declared.shape.Shape.{Shape}
use Rattle.page_store.specs.Index.{Index}
use Rattle.record_table.specs.Names.{names_of}
use Rattle.record_table.specs.Shown.{table_of}
use Rattle.record_table.specs.Upgrading.{upgraded}
use Rattle.eaw_face.specs.Frame.{Frame}
use Rattle.history.specs.Legal.{IsLegal}
use Rattle.history.specs.declared.call.Reply.TheVariants.{Committed}
use Rattle.caller_steps.specs.State.{State}
use Rattle.caller_steps.specs.State as caller
use Rattle.caller_steps.specs.Run.{Turn, has_write}
use Rattle.caller_steps.specs.Sound.{IsSound}
use Rattle.caller_steps.specs.Step.{Runs}
use Rattle.caller_steps.proofs.Reading.{reads_leave}
use Rattle.caller_steps.proofs.Running.{turns_of_runs, turns_base, turns_names}
use Rattle.caller_steps.proofs.Sound.{opened_sound, runs_sound}
use Rattle.mars_core.specs.Over.{limits_of, index_of}
use Rattle.script_text.specs.Replies.{reply_line}
use Rattle.script_run.specs.Lines.{lines_of}
use Rattle.script_run.specs.Transcript.{Answered}
use Rattle.script_run.specs.declared.ended.Ended.{Ended}
use Rattle.frame_lines.specs.Framed.{Framed, framed, lines_of_frames}
use Rattle.array_runs.specs.Records.{HasAll, begun_on}
use Rattle.mars_shell.specs.FramedRun.{LeadTo}
use Rattle.mars_shell.specs.Lines.{call_script}
use Rattle.mars_shell.specs.Run.{AnswersLines}
use Rattle.mars_shell.proofs.Acknowledged.{committed_kept}
use Rattle.mars_shell.proofs.Unframed.{plain_of}

module _ (index : Index) (shape : Shape) (depth : ℕ) (bytes : List ℕ) (turns : List Turn) (final : State) (runs : Runs (limits_of index shape depth) (begun_on index bytes) turns final) where
  -- the names and the base are those of the data
  pub names_left : final.names ≡ names_of bytes
  names_left = turns_names true (limits_of index shape depth) (begun_on index bytes) final turns (turns_of_runs (limits_of index shape depth) (begun_on index bytes) final turns runs)

  pub base_left : final.base ≡ table_of index bytes
  base_left = turns_base true (limits_of index shape depth) (begun_on index bytes) final turns (turns_of_runs (limits_of index shape depth) (begun_on index bytes) final turns runs)

  begun_sound : IsSound (begun_on index bytes)
  begun_sound = opened_sound (names_of bytes) (table_of index bytes) (index_of index (upgraded bytes))

  -- the history is legal on it
  pub legal_left : IsLegal final.base (final.history ++ final.doubt)
  legal_left = (runs_sound (limits_of index shape depth) (begun_on index bytes) turns final begun_sound runs).doubtful

  -- data of the last state is that in version 2, if no turn asked to write
  pub unwritten_left : (own : Index) (now : List ℕ) → IsFalse (has_write turns) → IsFalse final.is_dead → HasAll own now final → now ≡ upgraded bytes
  unwritten_left own now reads alive has =
      ap (λ (x : caller.Index). x.bytes) (sym has.keys ∙ reads_leave (limits_of index shape depth) (begun_on index bytes) final turns runs (λ caller. refl) reads alive)

  few_callers : shape.numbers ≤ 2 ^ 64
  few_callers = let r = shape.in_range in omega (arith, r.most_numbers)

  -- what was acknowledged as committed is kept
  pub acknowledged : (input : List ℕ) (ended : Ended) (cut : Bool) (text : List ℕ) (told : AnswersLines (call_script shape.numbers) [] [] input ended cut text turns)
      → (caller n : ℕ) → caller < 2 ^ 64 → n < 2 ^ 64 → Contains told.answers (reply_line caller (Committed n)) → n ≤ length final.history
  acknowledged input ended cut text told caller n few fits has =
      committed_kept shape.numbers few_callers caller n few fits (limits_of index shape depth) (begun_on index bytes) final (lines_of input) ended cut told.answers told.rest turns begun_sound runs told.answered has

  -- also with frames
  pub acknowledged_framed : (first last : Framed (List Turn)) → first.inner ≡ [] → last.inner ≡ turns → (before input : List ℕ) (ended : Ended) (cut : Bool) (text : List ℕ)
      → (told : AnswersLines (framed (LeadTo index (limits_of index shape depth) (begun_on index bytes)) (call_script shape.numbers)) first before input ended cut text last)
      → (frames : List Frame) (caller n : ℕ) → caller < 2 ^ 64 → n < 2 ^ 64 → Contains told.answers (lines_of_frames frames ++ reply_line caller (Committed n)) → n ≤ length final.history
  acknowledged_framed first last none all before input ended cut text told frames caller n few fits has =
      let plain = plain_of (LeadTo index (limits_of index shape depth) (begun_on index bytes)) shape.numbers few_callers first 1 (lines_of input) ended cut told.answers told.rest last told.answered in
      committed_kept shape.numbers few_callers caller n few fits (limits_of index shape depth) (begun_on index bytes) final (lines_of input) plain.ended plain.cut plain.answers plain.rest last.inner begun_sound
      (subst (λ (ts : List Turn). Runs (limits_of index shape depth) (begun_on index bytes) ts final) (sym all) runs)
      (subst (λ (ts : List Turn). Answered (call_script shape.numbers) ts 1 (lines_of input) plain.ended plain.cut plain.answers plain.rest last.inner) none plain.answered) (plain.told frames caller n few has)
