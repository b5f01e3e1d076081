-- Lines of callers that are answered with frames act on the turns as those without.
use Rattle.std.proofs.Common.{◌⊎◌, ℕ, ◌+◌, ◌<◌, ◌≤◌, ◌^◌, List, [], ◌∷◌, ◌++◌, Bool, false, inl, inr, refl, sym, ap, subst, ◌∙◌, arith}
use Rattle.std.specs.Prelude.{Contains}
use Rattle.std.proofs.lemmas.List.Elements.{Contains-append_left, Contains-append_right, Contains-push, Contains-append_cases, Contains-push_cases}
use Rattle.eaw_face.specs.Frame.{Frame}
use Rattle.history.specs.declared.call.Reply.TheVariants.{Committed}
use Rattle.caller_steps.specs.Run.{Turn}
use Rattle.script_text.specs.Replies.{reply_line}
use Rattle.script_run.specs.Transcript.{Ends, Answered}
use Rattle.script_run.specs.declared.ended.Ended.{Ended}
use Rattle.script_run.specs.declared.ended.Ended.TheVariants.{All as Done, WriteFault, MediaFault, NoMemory}
use Rattle.frame_lines.specs.Framed.{Framed, framed, lines_of_frames}
use Rattle.frame_lines.proofs.FrontLines.{determined}
use Rattle.mars_shell.specs.Lines.{LineGives, LineStops, call_script}
use Rattle.mars_shell.proofs.Acknowledged.{told_no_frame, no_frame}

-- The lines without frames. Of an answer with frames that ends in the line of a commit that line is the answer.
pub record Plain (callers : ℕ) (old : List Turn) (n : ℕ) (lines answered_framed : List (List ℕ)) (new : List Turn) : Type 0 where
  pub ended : Ended
  pub cut : Bool
  pub answers : List (List ℕ)
  pub rest : List ℕ
  pub answered : Answered (call_script callers) old n lines ended cut answers rest new
  pub told : (frames : List Frame) (caller m : ℕ) → caller < 2 ^ 64 → Contains answered_framed (lines_of_frames frames ++ reply_line caller (Committed m)) → Contains answers (reply_line caller (Committed m))

module _ (Holds : List Turn → List ℕ → Type 0) (callers : ℕ) where
  plain_stops : (old : List Turn) (n : ℕ) (line : List ℕ) (new : List Turn) → LineStops callers old n line new ⊎ ((reply : List ℕ) × LineGives callers old n line reply new) → LineStops callers old n line new
  plain_stops old n line new (inl stops) = stops
  plain_stops old n line new (inr done) = inr done

  -- what was not told may as well have been stopped for want of memory
  stopped : (old : List Turn) (n : ℕ) (line : List ℕ) (lines : List (List ℕ)) (new : List Turn) → LineStops callers old n line new → Plain callers old n (line ∷ lines) [] new
  stopped old n line lines new stops = record { ended = NoMemory; cut = false; answers = []; rest = []; answered = (refl, refl, stops); told = λ frames caller m few has. absurd (omega (arith, has.1)) }

  plain_ends : (old : Framed (List Turn)) (n : ℕ) (line : List ℕ) (lines : List (List ℕ)) (ended : Ended) (cut : Bool) (rest : List ℕ) (new : Framed (List Turn)) → Ends (framed Holds (call_script callers)) old n line ended cut rest new
      → Plain callers old.inner n (line ∷ lines) [] new.inner
  plain_ends old n line lines WriteFault cut rest new ends = stopped old.inner n line lines new.inner (plain_stops old.inner n line new.inner (inr (ends.2.reply, ends.2.gives)))
  plain_ends old n line lines MediaFault cut rest new ends = record {
    ended = MediaFault;
    cut = cut;
    answers = [];
    rest = rest;
    answered = (ends.0, ends.1.0, ends.2);
    told = λ frames caller m few has. absurd (omega (arith, has.1));
  }
  plain_ends old n line lines NoMemory cut rest new ends = stopped old.inner n line lines new.inner (plain_stops old.inner n line new.inner ends.2.0)
  plain_ends old n line lines Done cut rest new ends = absurd ends

  pub plain_of : callers ≤ 2 ^ 64 → (old : Framed (List Turn)) (n : ℕ) (lines : List (List ℕ)) (ended : Ended) (cut : Bool) (answers : List (List ℕ)) (rest : List ℕ) (new : Framed (List Turn))
      → Answered (framed Holds (call_script callers)) old n lines ended cut answers rest new → Plain callers old.inner n lines answers new.inner
  plain_of most old n [] ended cut [] rest new is = record {
    ended = ended;
    cut = cut;
    answers = [];
    rest = rest;
    answered = (is.0, is.1, is.2, ap (λ (s : Framed (List Turn)). s.inner) is.3);
    told = λ frames caller m few has. absurd (omega (arith, has.1));
  }
  plain_of most old n [] ended cut (answer ∷ answers) rest new is = absurd is
  plain_of most old n (line ∷ lines) ended cut [] rest new ends = plain_ends old n line lines ended cut rest new ends
  plain_of most old n (line ∷ lines) ended cut (answer ∷ answers) rest new more =
      let gives = more.1 in
      let later = plain_of most more.0 (n + 1) lines ended cut answers rest new more.2 in
      record {
        ended = later.ended;
        cut = later.cut;
        answers = gives.reply ∷ later.answers;
        rest = later.rest;
        answered = (more.0.inner, gives.gives, later.answered);
        told = λ frames caller m few has.
            let told = reply_line caller (Committed m) in
            elim (Contains-append_cases (answer ∷ []) answers (lines_of_frames frames ++ told) has) [
              | inl first ↦ elim (Contains-push_cases [] answer (lines_of_frames frames ++ told) first) [
                | inl none ↦ absurd (omega (arith, none.1))
                | inr same ↦ subst (λ (reply : List ℕ). Contains (gives.reply ∷ later.answers) reply)
                    (determined gives.sent frames gives.reply told (no_frame callers most old.inner n line gives.reply more.0.inner gives.gives) (told_no_frame caller (Committed m) few)
                    (sym gives.text_is ∙ same)) (Contains-append_left (gives.reply ∷ []) later.answers gives.reply (Contains-push [] gives.reply))
              ]
              | inr behind ↦ Contains-append_right (gives.reply ∷ []) later.answers told (later.told frames caller m few behind)
            ];
      }
