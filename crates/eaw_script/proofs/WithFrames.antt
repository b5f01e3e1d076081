-- A run over a primary, told of the store below it.
use Rattle.std.proofs.Common.{◌≡◌, ℕ, List, refl}
use Rattle.std.specs.Prelude.{Bool}
use Rattle.array_shape.specs.declared.shape.Shape.{Shape}
use Rattle.eaw_face.specs.Sending.{Sending}
use Rattle.eaw_face.specs.StoreView.{StoreView}
use Rattle.mirror.specs.Mirroring.{over}
use Rattle.script_run.specs.Transcript.{Ran}
use Rattle.script_run.specs.declared.ended.Ended.{Ended}
use Rattle.frame_lines.specs.Framed.{Framed, HasSent}
use Rattle.eaw_script.specs.Progress.{Progress, Shows, Comes, begun}
use Rattle.eaw_script.specs.Mirrored.{framed_script, framed_begun}

-- a primary that has sent nothing stands at the start
pub stands_first : (store : StoreView) (sending : Sending) → sending.sent ≡ 0 → Shows (over store sending) (begun store.shape store.state) × HasSent (over store sending) (framed_begun store.shape store.state)
stands_first store sending none = (record { shape = refl; state = refl; certain = refl }, record { shape = refl; count = none; sequence = tt; data_is = refl })

pub ran_below : (Opens : Shape → List ℕ → List ℕ → Type 0) (old new : StoreView) (sent sent' : Sending) (lines : List (List ℕ)) (ended : Ended) (cut : Bool) (text : List ℕ)
    → Ran framed_script (λ (state : Framed Progress). Shows (over new sent') state.inner × HasSent (over new sent') state)
    (λ (after : Framed Progress). Comes Opens (over old sent) (begun old.shape old.state) (over new sent') after.inner) (framed_begun old.shape old.state) lines ended cut text
    → Ran framed_script (λ (state : Framed Progress). Shows new state.inner) (λ (after : Framed Progress). Comes Opens old (begun old.shape old.state) new after.inner) (framed_begun old.shape old.state) lines ended cut text
ran_below Opens old new sent sent' lines ended cut text ran = record {
  answers = ran.answers;
  rest = ran.rest;
  text_is = ran.text_is;
  final = ran.final;
  answered = ran.answered;
  stands = λ all. let shows = (ran.stands all).0 in record { shape = shows.shape; state = shows.state; certain = shows.certain };
  comes = record { shape = ran.comes.shape; grows = ran.comes.grows; since = ran.comes.since; now = ran.comes.now };
}
