-- The lines of a script are answered by the turns of a core, with the frames that its store sends.
use Rattle.std.proofs.Common.{◌≡◌, ◌≢◌, ◌⊎◌, ℕ, ◌+◌, ◌<◌, List, [], ◌∷◌, ◌++◌, length, map, Bool, true, false, inl, inr, refl, sym, ap, subst, ◌∙◌, arith}
use Rattle.std.specs.Prelude.{IsTrue, All}
use Rattle.array_shape.specs.declared.shape.Shape.{Shape}
use Rattle.eaw_face.specs.Frame.{Frame, frame_bytes}
use Rattle.eaw_face.specs.Mirroring.{AreInSequence, followed}
use Rattle.eaw_face.specs.StoreView.{StoreView}
use Rattle.page_store.specs.Index.{Index}
use Rattle.caller_steps.specs.State.{State}
use Rattle.caller_steps.specs.Core.{CoreView}
use Rattle.caller_steps.specs.Run.{Turn, has_fault}
use Rattle.caller_steps.specs.Step.{Runs}
use Rattle.mars_core.specs.Over.{Begins}
use Rattle.mars_core.specs.Held.{Held, core_of}
use Rattle.mars_manager.specs.Sharing.{CanShare}
use Rattle.script_run.specs.Lines.{lines_of}
use Rattle.script_run.specs.Transcript.{Ends, Answered}
use Rattle.script_run.specs.declared.ended.Ended.{Ended}
use Rattle.script_run.specs.declared.ended.Ended.TheVariants.{All as Done, WriteFault, MediaFault, NoMemory}
use Rattle.frame_lines.specs.Framed.{Framed, lines_of_frames, HasSent}
use Rattle.frame_lines.specs.Begun.{HasBegun, RanFramed}
use Rattle.frame_lines.proofs.Framing.{are_some}
use Rattle.array_runs.specs.Records.{begun_on}
use Rattle.mars_shell.specs.OnCore.{TurnsOn}
use Rattle.mars_shell.specs.Standing.{Progress, callers_of, HasShown, line_script, framed_lines, framed_start, turns_in, IsShown, Stands, Comes}
use Rattle.mars_shell.specs.FramedRun.{says_framed}
use Rattle.mars_shell.proofs.Lining.{gives_clean, stops_clean, safe_now}
use Rattle.mars_shell.proofs.FramedTurns.{framed_turns}
use Rattle.mars_shell.proofs.Making.{living}
use Rattle.mars_shell.proofs.Serving.{begun_is}

-- ---- turns without a fault of the medium

framed_stops_clean : (old : Framed Progress) (n : ℕ) (line : List ℕ) (new : Framed Progress) → line_script.stops old.inner n line new.inner ⊎ ((reply : List ℕ) × line_script.gives old.inner n line reply new.inner)
    → has_fault old.inner.turns ≡ false → has_fault new.inner.turns ≡ false
framed_stops_clean old n line new (inl stops) none = stops_clean (callers_of old.inner) old.inner.turns n line new.inner.turns stops.1 none
framed_stops_clean old n line new (inr done) none = gives_clean (callers_of old.inner) old.inner.turns n line done.0 new.inner.turns done.1.1 none

framed_ends_clean : (index : Index) (old : Framed Progress) (n : ℕ) (line : List ℕ) (ended : Ended) (cut : Bool) (rest : List ℕ) (new : Framed Progress) → ended ≢ MediaFault
    → Ends (framed_lines index) old n line ended cut rest new → has_fault old.inner.turns ≡ false → has_fault new.inner.turns ≡ false
framed_ends_clean index old n line WriteFault cut rest new unfailed ends none = gives_clean (callers_of old.inner) old.inner.turns n line ends.2.reply new.inner.turns ends.2.gives.1 none
framed_ends_clean index old n line MediaFault cut rest new unfailed ends none = absurd (unfailed refl)
framed_ends_clean index old n line NoMemory cut rest new unfailed ends none = framed_stops_clean old n line new ends.2.0 none
framed_ends_clean index old n line Done cut rest new unfailed ends none = absurd ends

framed_clean : (index : Index) (old : Framed Progress) (n : ℕ) (lines : List (List ℕ)) (ended : Ended) (cut : Bool) (answers : List (List ℕ)) (rest : List ℕ) (new : Framed Progress) → ended ≢ MediaFault
    → Answered (framed_lines index) old n lines ended cut answers rest new → has_fault old.inner.turns ≡ false → has_fault new.inner.turns ≡ false
framed_clean index old n [] ended cut [] rest new unfailed is none = ap (λ (s : Framed Progress). has_fault s.inner.turns) is.3 ∙ none
framed_clean index old n [] ended cut (answer ∷ answers) rest new unfailed is none = absurd is
framed_clean index old n (line ∷ lines) ended cut [] rest new unfailed ends none = framed_ends_clean index old n line ended cut rest new unfailed ends none
framed_clean index old n (line ∷ lines) ended cut (answer ∷ answers) rest new unfailed more none =
    framed_clean index more.0 (n + 1) lines ended cut answers rest new unfailed more.2 (gives_clean (callers_of old.inner) old.inner.turns n line more.1.reply more.0.inner.turns more.1.gives.1 none)

-- ---- a core that has begun over a store that mirrors

module _ (tells : Bool) (Opens : Shape → List ℕ → List ℕ → Type 0) (index : Index) (old mid : StoreView) (S : Type 0) (held : Held S)
    (begins : Begins tells (Opens old.shape) index old mid (core_of Opens index mid held)) where
  abbrev core : CoreView
  core = core_of Opens index mid held

  -- the frames that the opening has sent
  abbrev sent : List Frame
  sent = begins.mirrors.added

  -- each has some bytes
  pub some_bytes : IsTrue old.sending.told → old.sending.frames ≡ [] → All (λ (b : List ℕ). 0 < length b) mid.sending.frames
  some_bytes listed none = subst (All (λ (b : List ℕ). 0 < length b)) (sym (begins.mirrors.adds.frames listed ∙ ap (λ (fs : List (List ℕ)). fs ++ map frame_bytes sent) none)) (are_some sent)

  module _ (told : IsTrue tells) (callers : ℕ) (ready : CanShare tells callers (core_of Opens index mid held)) (listed : IsTrue old.sending.told) (none : old.sending.frames ≡ [])
      (mirroring : old.sending.mirrors ≡ true) (from_one : old.sending.sent ≡ 0) where
    abbrev pub first : Framed Progress
    first = framed_start (core_of Opens index mid held).limits old.shape old.state.bytes (begun_on index old.state.bytes) sent

    pub stands_first : Stands (core_of Opens index mid held) first.inner
    stands_first = record {
      limits_are = refl;
      state_is = sym (begun_is tells Opens index old mid (core_of Opens index mid held) begins told);
      runs = refl;
      sound = ready.sound told;
      safe = safe_now tells callers (core_of Opens index mid held) ready told;
    }

    -- the data of the store shows the first state
    pub shown_first : IsShown (core_of Opens index mid held)
    shown_first lives = record { sound = begins.over.sound told begins.alive; names = begins.over.names told begins.alive; table = begins.over.table told begins.alive; keys = begins.over.keys told }

    pub has_begun : HasBegun mid first
    has_begun = record {
      shape = sym begins.shape;
      count = omega (arith, begins.mirrors.adds.count, from_one);
      sequence = subst (λ (n : ℕ). AreInSequence (n + 1) sent) from_one begins.mirrors.adds.sequence;
      kept = begins.mirrors.adds.frames listed ∙ ap (λ (fs : List (List ℕ)). fs ++ map frame_bytes sent) none;
      data_is = λ up. begins.mirrors.data_is told mirroring up begins.alive;
    }

    module _ (later : CoreView) (input : List ℕ) (ended : Ended) (cut : Bool) (text : List ℕ) where
      -- a state that is come to
      module _ (last : Framed Progress) (comes : Comes (core_of Opens index mid held) first.inner later last.inner) where
        turned : Runs core.limits core.state last.inner.turns later.state
        turned = subst (λ (turns : List Turn). Runs core.limits core.state turns later.state) (sym comes.turns_are) comes.runs

        turns_on : says_framed index old input cut text ended core.limits last.inner.turns later.state → (ended ≢ MediaFault → has_fault last.inner.turns ≡ false)
            → TurnsOn (says_framed index old input cut text ended) (core_of Opens index mid held) ended later
        turns_on does clean = record {
          turns = last.inner.turns;
          runs = turned;
          does = does;
          continues = comes.continues;
          alive = λ unfailed. living core.limits core.state later.state last.inner.turns turned ready.alive (clean unfailed);
        }

      module _ (new : StoreView) (data_is : later.state.index.bytes ≡ new.state.bytes) where
        -- the frames of the opening bring the data to that of the first state
        brought : mid.sending.is_down ≡ false → (begun_on index old.state.bytes).index.bytes ≡ followed sent old.state.bytes
        brought up = ap (λ (s : State). s.index.bytes) (sym (begun_is tells Opens index old mid (core_of Opens index mid held) begins told)) ∙ has_begun.data_is up

        pub by_frames : RanFramed line_script (HasShown index) (λ (s : Framed Progress). (Stands later s.inner × IsShown later) × HasSent new s) (λ (s : Framed Progress). Comes (core_of Opens index mid held) first.inner later s.inner)
            mid first (lines_of input) ended cut text → TurnsOn (says_framed index old input cut text ended) (core_of Opens index mid held) ended later
        by_frames (inl (up, behind, text_is, ran)) = turns_on ran.final ran.comes (inl (record {
          sent = sent;
          good = begins.mirrors.adds.good;
          sequence = has_begun.sequence;
          brought = brought up;
          wrote = inl (
            turns_in ran.final,
            refl,
            (λ all. data_is ∙ (ran.stands all).1.data_is),
            record {
              answers = ran.answers;
              rest = ran.rest;
              text_is = text_is ∙ ap (λ (t : List ℕ). lines_of_frames sent ++ t) ran.text_is;
              answered = framed_turns index first.inner.start first 1 (lines_of input) ended cut ran.answers ran.rest ran.final refl ran.answered;
            },
          );
        })) (λ unfailed. framed_clean index first 1 (lines_of input) ended cut ran.answers ran.rest ran.final unfailed ran.answered refl)
        by_frames (inr (inl (up, is, short, part, comes))) = turns_on first comes (inl (record {
          sent = sent;
          good = begins.mirrors.adds.good;
          sequence = has_begun.sequence;
          brought = brought up;
          wrote = inr (refl, is, short, part);
        })) (λ unfailed. refl)
        by_frames (inr (inr (is, whole, silent, comes))) = turns_on first comes (inr (refl, is, whole, silent)) (λ unfailed. refl)
