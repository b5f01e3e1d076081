-- A script that is run after frames were sent.
use Rattle.std.proofs.Common.{◌≡◌, ℕ, inl, inr, Bool, true, false, List, Err, Result, refl, sym, ◌∙◌, ap, subst}
use Rattle.std.specs.Prelude.{flat_map}
use Rattle.eaw_face.specs.Sending.{Sending}
use Rattle.eaw_face.specs.StoreView.{StoreView}
use Rattle.texts.specs.Written.{IsWritten}
use Rattle.script_run.specs.Script.{Script}
use Rattle.script_run.specs.declared.ended.Ended.{Ended}
use Rattle.script_run.specs.declared.ended.Ended.TheVariants.{All, WriteFault, MediaFault, NoMemory}
use Rattle.frame_lines.specs.Framed.{bytes_line, lines_of_frames, Framed, HasSent, IsBut}
use Rattle.frame_lines.specs.Begun.{HasBegun, FrontWritten, RanFramed}
use Rattle.frame_lines.proofs.Framing.{lines_are}

module _ {State : Type 0} (store : StoreView) (first : Framed State) (begun : HasBegun store first) where
  -- the lines of the frames that it keeps
  pub front_is : flat_map bytes_line store.sending.frames ≡ lines_of_frames first.frames
  front_is = ap (flat_map bytes_line) begun.kept ∙ lines_are first.frames

  -- the script ended before its first line
  pub front_ends : (script : Script State) (Holds : State → List ℕ → Type 0) (Stands Comes : Framed State → Type 0) (lines : List (List ℕ)) (ended : Ended) (cut : Bool) (text : List ℕ)
      → (let result : Result (Unit {0}) Ended = Err ended in FrontWritten store result cut text) → Comes first → RanFramed script Holds Stands Comes store first lines ended cut text
  front_ends script Holds Stands Comes lines All cut text wrote comes = absurd wrote
  front_ends script Holds Stands Comes lines WriteFault cut text wrote comes = inr (inl (wrote.0, refl, wrote.1, subst (IsWritten true text) front_is wrote.2, comes))
  front_ends script Holds Stands Comes lines MediaFault cut text wrote comes = absurd wrote
  front_ends script Holds Stands Comes lines NoMemory cut text wrote comes = inr (inr (refl, wrote.0, wrote.1, comes))

  -- once its frames are given up, they are those that were sent
  pub has_sent_first : (mid : StoreView) → store.sending.is_down ≡ false → IsBut store mid → HasSent mid first
  has_sent_first mid up but = record {
    shape = begun.shape ∙ sym but.shape;
    count = ap (λ (s : Sending). s.sent) but.sending ∙ begun.count;
    sequence = begun.sequence;
    data_is = ap (λ s. s.bytes) but.state ∙ begun.data_is up;
  }
