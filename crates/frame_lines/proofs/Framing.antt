-- What a line with its frames comes to.
use Rattle.std.proofs.Common.{◌≡◌, ℕ, ◌+◌, ◌<◌, inl, Bool, false, List, [], ◌∷◌, ◌++◌, length, drop, Result, Err, refl, sym, ◌∙◌, ap, subst, arith}
use Rattle.std.specs.Prelude.{IsTrue, All, map, flat_map, slice_index_or}
use Rattle.std.proofs.lemmas.List.{length-append}
use Rattle.std.proofs.lemmas.List.Elements.{All-nil, All-cons}
use Rattle.array_shape.specs.declared.shape.Shape.{Shape}
use Rattle.eaw_face.specs.Frame.{Frame, frame_bytes, IsFrameIn}
use Rattle.eaw_face.specs.Sending.{Sending}
use Rattle.eaw_face.specs.StoreView.{StoreView}
use Rattle.eaw_face.specs.Mirroring.{AreInSequence, followed, Mirrors, GivesUp}
use Rattle.eaw_face.proofs.Mirroring.{sequence_append, followed_append}
use Rattle.script_run.specs.Script.{Script}
use Rattle.script_run.specs.Answers.{Answers}
use Rattle.script_run.specs.declared.responder.Stop.{Stop}
use Rattle.script_run.specs.declared.responder.Stop.TheVariants.{Media, NoMemory}
use Rattle.frame_lines.specs.Framed.{bytes_line, lines_of_frames, Framed, framed, GivesFramed, IsSending, HasSent, IsBut, StandsOn}

-- the bytes of frames are some, and their lines are those of the frames
pub are_some : (fs : List Frame) → All (λ (b : List ℕ). 0 < length b) (map frame_bytes fs)
are_some [] = All-nil (λ (b : List ℕ). 0 < length b)
are_some (f ∷ fs) = All-cons (λ (b : List ℕ). 0 < length b) (frame_bytes f) (map frame_bytes fs) (omega arith) (are_some fs)

pub lines_are : (fs : List Frame) → flat_map bytes_line (map frame_bytes fs) ≡ lines_of_frames fs
lines_are [] = refl
lines_are (f ∷ fs) = ap (λ (t : List ℕ). bytes_line (frame_bytes f) ++ t) (lines_are fs)

-- frames of which the oldest has bytes
pub first_and_rest : (frames : List (List ℕ)) (first : List ℕ) → first ≡ slice_index_or frames 0 [] → (length first ≡ 0 → ⊥) → frames ≡ first ∷ drop 1 frames
first_and_rest [] first is some = absurd (some (ap (λ (b : List ℕ). length b) is))
first_and_rest (f ∷ fs) first is some = ap (λ (b : List ℕ). b ∷ fs) (sym is)

-- frames of which the oldest has none, though each has some
pub no_frames : (frames : List (List ℕ)) (first : List ℕ) → first ≡ slice_index_or frames 0 [] → length first ≡ 0 → All (λ (b : List ℕ). 0 < length b) frames → frames ≡ []
no_frames [] first is none some = refl
no_frames (f ∷ fs) first is none some = absurd (let short : length f ≡ 0 = ap (λ (b : List ℕ). length b) (sym is) ∙ none in omega (arith, some 0 [] (omega arith), short))

-- what is left once the oldest was given up
pub one_given_up : (old mid new : StoreView) → IsTrue mid.sending.told → IsBut old mid → GivesUp mid new → IsBut old new
one_given_up old mid new told but gives = record {
  shape = gives.same.shape ∙ but.shape;
  depth = gives.same.depth ∙ but.depth;
  state = gives.same.state ∙ but.state;
  is_dead = gives.same.is_dead ∙ but.is_dead;
  sending = gives.sending ∙ ap (λ (s : Sending). record s { frames = new.sending.frames }) but.sending;
}

pub stands_then : {R State : Type 0} (tells : Bool) (IsReady : R → Type 0) (Stands : R → State → Type 0) (Comes : R → State → R → State → Type 0) (faults : R → ℕ)
    → ((first mid last : R) (s t u : State) → IsTrue tells → IsReady mid → Stands mid t → Comes first s mid t → Comes mid t last u → Comes first s last u)
    → (old mid new : R) → IsReady mid → StandsOn tells IsReady Stands Comes faults old mid → StandsOn tells IsReady Stands Comes faults mid new → StandsOn tells IsReady Stands Comes faults old new
stands_then {R} {State} tells IsReady Stands Comes faults comes_on old mid new ready one two = record {
  ready = λ was. two.ready ready;
  faults = two.faults ∙ one.faults;
  stands = λ told state stood. two.stands told state (one.stands told state stood);
  comes = λ told was state stood. comes_on old mid new state state state told ready (one.stands told state stood) (one.comes told was state stood) (two.comes told ready state (one.stands told state stood));
}

-- a line that was done over a store that mirrors and still sends
module _ (tells : Bool) (old mid : StoreView) (sends : Mirrors tells old mid) (sending : IsSending old) where
  pub frames_now : mid.sending.frames ≡ map frame_bytes sends.added
  frames_now = sends.adds.frames sending.told ∙ ap (λ (fs : List (List ℕ)). fs ++ map frame_bytes sends.added) sending.none

  module _ {State : Type 0} (state : Framed State) (has : HasSent old state) (inner : State) (told : IsTrue tells) (up : mid.sending.is_down ≡ false) (alive : mid.is_dead ≡ false) where
    abbrev pub next : Framed State
    next = record state { inner = inner; frames = state.frames ++ sends.added }

    in_sequence : AreInSequence 1 (state.frames ++ sends.added)
    in_sequence = sequence_append 1 state.frames sends.added has.sequence (subst (λ (n : ℕ). AreInSequence n sends.added) (let same : old.sending.sent + 1 ≡ 1 + length state.frames = omega (arith, has.count) in same) sends.adds.sequence)

    data_now : mid.state.bytes ≡ followed (state.frames ++ sends.added) state.opened
    data_now = sends.data_is told sending.mirrors up alive ∙ ap (followed sends.added) has.data_is ∙ sym (followed_append state.frames sends.added state.opened)

    pub has_sent : (new : StoreView) → IsBut mid new → HasSent new next
    has_sent new but = record {
      shape = has.shape ∙ sym sends.shape ∙ sym but.shape;
      count = ap (λ (s : Sending). s.sent) but.sending ∙ (let same : mid.sending.sent ≡ length (state.frames ++ sends.added) = omega (arith, sends.adds.count, has.count, length-append state.frames sends.added) in same);
      sequence = in_sequence;
      data_is = ap (λ s. s.bytes) but.state ∙ data_now;
    }

    pub gives_framed : (script : Script State) (Holds : State → List ℕ → Type 0) (n : ℕ) (line text reply cleared : List ℕ) → script.gives state.inner n line reply inner → Holds inner mid.state.bytes
        → cleared ≡ [] → text ≡ (cleared ++ flat_map bytes_line mid.sending.frames) ++ reply → GivesFramed script Holds state n line text next
    gives_framed script Holds n line text reply cleared gives holds empty is = record {
      sent = sends.added;
      reply = reply;
      gives = gives;
      text_is = is ∙ ap (λ (t : List ℕ). (t ++ flat_map bytes_line mid.sending.frames) ++ reply) empty ∙ ap (λ (t : List ℕ). t ++ reply) (ap (flat_map bytes_line) frames_now ∙ lines_are sends.added);
      new_is = refl;
      good = subst (λ (s : Shape). All (IsFrameIn s) sends.added) (sym has.shape) sends.adds.good;
      sequence = in_sequence;
      data_is = subst (Holds inner) data_now holds;
    }

  pub still_sending : (new : StoreView) → IsBut mid new → mid.sending.is_down ≡ false → new.sending.frames ≡ [] → IsSending new
  still_sending new but up none = record {
    mirrors = ap (λ (s : Sending). s.mirrors) but.sending ∙ sends.kind.mirrors ∙ sending.mirrors;
    told = subst IsTrue (sym (ap (λ (s : Sending). s.told) but.sending ∙ sends.kind.told)) sending.told;
    up = ap (λ (s : Sending). s.is_down) but.sending ∙ up;
    none = none;
  }

-- a line at which the script ends for the reason of the responder
abbrev Ended : {State : Type 0} → Script State → (State → Type 0) → State → ℕ → List ℕ → Stop → Type 0
Ended {State} script Comes state n line stop = let ended : Result (Unit {0}) Stop = Err stop in Answers script (λ (s : State). Unit {0}) Comes state n line [] ended

pub framed_stop : {State : Type 0} (script : Script State) (Holds : State → List ℕ → Type 0) (Comes : State → Type 0) (state : Framed State) (n : ℕ) (line : List ℕ) (stop : Stop)
    → Ended script Comes state.inner n line stop → Ended (framed Holds script) (λ (after : Framed State). Comes after.inner) state n line stop
framed_stop script Holds Comes state n line (Media number) ended = (record state { inner = ended.0 }, (ended.1, refl), ended.2)
framed_stop script Holds Comes state n line NoMemory ended = (record state { inner = ended.0 }, (inl ended.1, refl), ended.2)
