-- What the lines that are answered with frames do to the turns alone.
use Rattle.std.proofs.Common.{◌≡◌, ℕ, ◌+◌, List, [], ◌∷◌, Bool, inl, inr, ap, subst, ◌∙◌}
use Rattle.eaw_face.specs.Mirroring.{followed}
use Rattle.page_store.specs.Index.{Index}
use Rattle.caller_steps.specs.Run.{Turn}
use Rattle.caller_steps.specs.Step.{Runs}
use Rattle.history.specs.declared.call.Reply.TheVariants.{Media}
use Rattle.script_run.specs.Script.{Script}
use Rattle.script_run.specs.Transcript.{Ends, Answered}
use Rattle.script_run.specs.declared.ended.Ended.{Ended}
use Rattle.script_run.specs.declared.ended.Ended.TheVariants.{All as Done, WriteFault, MediaFault, NoMemory}
use Rattle.frame_lines.specs.Framed.{Framed, GivesFramed, framed}
use Rattle.mars_shell.specs.FramedRun.{LeadTo}
use Rattle.mars_shell.specs.Lines.{LineGives, LineMeets, LineStops, call_script}
use Rattle.mars_shell.specs.Standing.{Start, Progress, HasShown, line_script, framed_lines, turns_in}

-- under this index, from this start on
module _ (index : Index) (start : Start) where
  abbrev turn_lines : Script (Framed (List Turn))
  turn_lines = framed (LeadTo index start.limits start.state) (call_script start.limits.callers)

  leads : (new : Progress) (bytes : List ℕ) → new.start ≡ start → HasShown index new bytes → LeadTo index start.limits start.state new.turns bytes
  leads new bytes is has = (new.state, subst (λ (s : Start). Runs s.limits s.state new.turns new.state) is has.runs, has.all)

  gives_turns : (old : Framed Progress) (n : ℕ) (line text : List ℕ) (new : Framed Progress) → old.inner.start ≡ start → GivesFramed line_script (HasShown index) old n line text new
      → GivesFramed (call_script start.limits.callers) (LeadTo index start.limits start.state) (turns_in old) n line text (turns_in new)
  gives_turns old n line text new is gives = record {
    sent = gives.sent;
    reply = gives.reply;
    gives = subst (λ (s : Start). LineGives s.limits.callers old.inner.turns n line gives.reply new.inner.turns) is gives.gives.1;
    text_is = gives.text_is;
    new_is = ap turns_in gives.new_is;
    good = gives.good;
    sequence = gives.sequence;
    data_is = leads new.inner (followed new.frames new.opened) (gives.gives.0 ∙ is) gives.data_is;
  }

  stops_turns : (old : Framed Progress) (n : ℕ) (line : List ℕ) (new : Framed Progress) → old.inner.start ≡ start → (framed_lines index).stops old n line new → turn_lines.stops (turns_in old) n line (turns_in new)
  stops_turns old n line new is (inl stops, none) = (inl (subst (λ (s : Start). LineStops s.limits.callers old.inner.turns n line new.inner.turns) is stops.1), ap turns_in none)
  stops_turns old n line new is (inr done, none) = (inr (done.0, subst (λ (s : Start). LineGives s.limits.callers old.inner.turns n line done.0 new.inner.turns) is done.1.1), ap turns_in none)

  ends_turns : (old : Framed Progress) (n : ℕ) (line : List ℕ) (ended : Ended) (cut : Bool) (rest : List ℕ) (new : Framed Progress) → old.inner.start ≡ start
      → Ends (framed_lines index) old n line ended cut rest new → Ends turn_lines (turns_in old) n line ended cut rest (turns_in new)
  ends_turns old n line WriteFault cut rest new is ends = (ends.0, ends.1, gives_turns old n line ends.1 new is ends.2, ends.3)
  ends_turns old n line MediaFault cut rest new is ends =
      (ends.0, (subst (λ (s : Start). LineMeets s.limits.callers Media old.inner.turns line ends.0 new.inner.turns) is ends.1.0.1, ap turns_in ends.1.1), ends.2)
  ends_turns old n line NoMemory cut rest new is ends = (ends.0, ends.1, stops_turns old n line new is ends.2)
  ends_turns old n line Done cut rest new is ends = absurd ends

  -- the lines are answered by what they do to the turns
  pub framed_turns : (old : Framed Progress) (n : ℕ) (lines : List (List ℕ)) (ended : Ended) (cut : Bool) (answers : List (List ℕ)) (rest : List ℕ) (new : Framed Progress) → old.inner.start ≡ start
      → Answered (framed_lines index) old n lines ended cut answers rest new → Answered turn_lines (turns_in old) n lines ended cut answers rest (turns_in new)
  framed_turns old n [] ended cut [] rest new is all = (all.0, all.1, all.2, ap turns_in all.3)
  framed_turns old n [] ended cut (answer ∷ answers) rest new is none = absurd none
  framed_turns old n (line ∷ lines) ended cut [] rest new is ends = ends_turns old n line ended cut rest new is ends
  framed_turns old n (line ∷ lines) ended cut (answer ∷ answers) rest new is more = (
    turns_in more.0,
    gives_turns old n line answer more.0 is more.1,
    framed_turns more.0 (n + 1) lines ended cut answers rest new (more.1.gives.0 ∙ is) more.2,
  )
