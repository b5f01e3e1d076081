-- The lines of a script are answered by the turns of a core.
use Rattle.std.proofs.Common.{◌≡◌, ◌≢◌, ℕ, ◌+◌, ◌≤◌, List, [], ◌∷◌, length, Bool, false, inl, inr, refl, sym, ap, subst, ◌∙◌, arith}
use Rattle.std.specs.Prelude.{IsTrue}
use Rattle.caller_steps.specs.Run.{Turn, has_fault}
use Rattle.caller_steps.specs.Step.{Runs}
use Rattle.caller_steps.specs.Core.{CoreView, IsSafe}
use Rattle.history.specs.declared.call.Reply.TheVariants as reply
use Rattle.mars_manager.specs.Sharing.{CanShare}
use Rattle.script_run.specs.Lines.{lines_of}
use Rattle.script_run.specs.Transcript.{Ends, Answered, Ran}
use Rattle.script_run.specs.declared.ended.Ended.{Ended}
use Rattle.script_run.specs.declared.ended.Ended.TheVariants.{All as Done, WriteFault, MediaFault, NoMemory}
use Rattle.mars_shell.specs.Lines.{LineGives, LineStops, call_script}
use Rattle.mars_shell.specs.OnCore.{TurnsOn}
use Rattle.mars_shell.specs.Run.{AnswersLines}
use Rattle.mars_shell.specs.Standing.{Start, Progress, callers_of, line_script, Stands, Comes}
use Rattle.mars_shell.proofs.Making.{no_fault, clean_more, living}

-- ---- turns without a fault of the medium

module _ (callers : ℕ) where
  pub gives_clean : (old : List Turn) (n : ℕ) (bytes text : List ℕ) (new : List Turn) → LineGives callers old n bytes text new → has_fault old ≡ false → has_fault new ≡ false
  gives_clean old n bytes text new (inl over) none = ap has_fault over.2 ∙ none
  gives_clean old n bytes text new (inr (inl bad)) none = ap has_fault bad.2 ∙ none
  gives_clean old n bytes text new (inr (inr told)) none = ap has_fault told.2.2 ∙ clean_more old (told.0, told.2.0, told.1) none (no_fault told.1 told.3)

  pub stops_clean : (old : List Turn) (n : ℕ) (bytes : List ℕ) (new : List Turn) → LineStops callers old n bytes new → has_fault old ≡ false → has_fault new ≡ false
  stops_clean old n bytes new (inl short) none = ap has_fault short.1.2 ∙ clean_more old (short.0, short.1.0, reply.NoMemory) none refl
  stops_clean old n bytes new (inr done) none = gives_clean old n bytes done.0 new done.1 none

  ends_clean : (old : List Turn) (n : ℕ) (bytes : List ℕ) (ended : Ended) (cut : Bool) (rest : List ℕ) (new : List Turn) → ended ≢ MediaFault → Ends (call_script callers) old n bytes ended cut rest new
      → has_fault old ≡ false → has_fault new ≡ false
  ends_clean old n bytes WriteFault cut rest new unfailed ends none = gives_clean old n bytes ends.1 new ends.2 none
  ends_clean old n bytes MediaFault cut rest new unfailed ends none = absurd (unfailed refl)
  ends_clean old n bytes NoMemory cut rest new unfailed ends none = stops_clean old n bytes new ends.2 none
  ends_clean old n bytes Done cut rest new unfailed ends none = absurd ends

  answered_clean : (old : List Turn) (n : ℕ) (lines : List (List ℕ)) (ended : Ended) (cut : Bool) (answers : List (List ℕ)) (rest : List ℕ) (new : List Turn) → ended ≢ MediaFault
      → Answered (call_script callers) old n lines ended cut answers rest new → has_fault old ≡ false → has_fault new ≡ false
  answered_clean old n [] ended cut [] rest new unfailed is none = ap has_fault is.3 ∙ none
  answered_clean old n [] ended cut (answer ∷ answers) rest new unfailed is none = absurd is
  answered_clean old n (bytes ∷ lines) ended cut [] rest new unfailed ends none = ends_clean old n bytes ended cut rest new unfailed ends none
  answered_clean old n (bytes ∷ lines) ended cut (answer ∷ answers) rest new unfailed more none =
      answered_clean more.0 (n + 1) lines ended cut answers rest new unfailed more.2 (gives_clean old n bytes answer more.0 more.1 none)

-- ---- the turns of the lines

-- The lines that a responder answers act on the turns alone, since the number of callers stays.
ends_turns : (old : Progress) (n : ℕ) (line : List ℕ) (ended : Ended) (cut : Bool) (rest : List ℕ) (new : Progress) → Ends line_script old n line ended cut rest new
    → Ends (call_script (callers_of old)) old.turns n line ended cut rest new.turns
ends_turns old n line WriteFault cut rest new ends = (ends.0, ends.1, ends.2.1, ends.3)
ends_turns old n line MediaFault cut rest new ends = (ends.0, ends.1.1, ends.2)
ends_turns old n line NoMemory cut rest new ends = (ends.0, ends.1, ends.2.1)
ends_turns old n line Done cut rest new ends = absurd ends

pub answered_turns : (old : Progress) (n : ℕ) (lines : List (List ℕ)) (ended : Ended) (cut : Bool) (answers : List (List ℕ)) (rest : List ℕ) (new : Progress)
    → Answered line_script old n lines ended cut answers rest new → Answered (call_script (callers_of old)) old.turns n lines ended cut answers rest new.turns
answered_turns old n [] ended cut [] rest new is = (is.0, is.1, is.2, ap (λ (progress : Progress). progress.turns) is.3)
answered_turns old n [] ended cut (answer ∷ answers) rest new is = absurd is
answered_turns old n (line ∷ lines) ended cut [] rest new ends = ends_turns old n line ended cut rest new ends
answered_turns old n (line ∷ lines) ended cut (answer ∷ answers) rest new more = (
  more.0.turns,
  more.1.1,
  subst (λ (start : Start). Answered (call_script start.limits.callers) more.0.turns (n + 1) lines ended cut answers rest new.turns) more.1.0
      (answered_turns more.0 (n + 1) lines ended cut answers rest new more.2),
)

module _ (tells : Bool) (callers : ℕ) (core : CoreView) (ready : CanShare tells callers core) (told : IsTrue tells) where
  -- what may be left now has the whole history, which is empty
  pub safe_now : IsSafe core core.moment (length core.state.history)
  safe_now image left =
      let has = ready.now told image left in
      record { count = has.count; at_least = omega (arith, ap length ready.history); at_most = has.at_most; whole = has.whole; opens = has.opens }

  -- no caller has had a turn yet
  abbrev pub begun : Progress
  begun = record { start = record { limits = core.limits; state = core.state }; turns = []; state = core.state }

  pub stands : Stands core begun
  stands = record { limits_are = refl; state_is = refl; runs = refl; sound = ready.sound told; safe = safe_now }

  pub by_turns : (later : CoreView) → core.limits.callers ≤ 255 → (input : List ℕ) (ended : Ended) (cut : Bool) (text : List ℕ) → Ran line_script (Stands later) (Comes core begun later) begun (lines_of input) ended cut text
      → TurnsOn (λ limits turns final. AnswersLines (call_script limits.callers) [] [] input ended cut text turns) core ended later
  by_turns later few input ended cut text ran =
      let answered = answered_turns begun 1 (lines_of input) ended cut ran.answers ran.rest ran.final ran.answered in
      let runs : Runs core.limits core.state ran.final.turns later.state = subst (λ (turns : List Turn). Runs core.limits core.state turns later.state) (sym ran.comes.turns_are) ran.comes.runs in
      record {
        turns = ran.final.turns;
        runs = runs;
        does = record { answers = ran.answers; rest = ran.rest; text_is = ran.text_is; answered = answered };
        continues = ran.comes.continues;
        alive = λ unfailed. living core.limits core.state later.state ran.final.turns runs ready.alive
            (answered_clean core.limits.callers [] 1 (lines_of input) ended cut ran.answers ran.rest ran.final.turns unfailed answered refl);
      }
