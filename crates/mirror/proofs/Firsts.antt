-- A follower that is fed a beginning of the frames that a store has sent.
use Rattle.std.proofs.Common.{◌≡◌, ℕ, ◌+◌, Bool, List, [], ◌++◌, length, sym, ◌∙◌, ap, subst, append_assoc}
use Rattle.std.specs.Prelude.{All, flat_map, IsTrue, true, false}
use Rattle.std.proofs.lemmas.List.{append-nil}
use Rattle.array_shape.specs.declared.shape.Shape.{Shape}
use Rattle.eaw_face.specs.StoreView.{StoreView}
use Rattle.eaw_face.specs.Frame.{Frame, frame_bytes, IsFrameIn}
use Rattle.eaw_face.specs.Mirroring.{Mirrors, followed}
use Rattle.mirror.specs.Following.{HasNoFrame, Stand, Cuts, Follows, LeavesFirst}
use Rattle.mirror.specs.Both.{HaveOneData, FirstOf, HasFirst, OpensFirstOf}
use Rattle.mirror.proofs.Ways.{first_frames, no_frames}

module _ (tells : Bool) (old new : StoreView) (sent : Mirrors tells old new) (one : Stand) (both : HaveOneData old one) where
  -- the frames that were cut are the first of those that were sent
  cut_first : (bytes more : List ℕ) (frames : List Frame) (left : List ℕ) → flat_map frame_bytes sent.added ≡ bytes ++ more → Cuts one bytes frames left
      → (later : List Frame) × (sent.added ≡ frames ++ later) × (left ++ more ≡ flat_map frame_bytes later) × All (IsFrameIn old.shape) later
  cut_first bytes more frames left is cuts = first_frames old.shape frames sent.added (left ++ more)
      (subst (λ (s : Shape). All (IsFrameIn s) frames) both.shape cuts.good) sent.adds.good
      (sym (append_assoc (flat_map frame_bytes frames) left more)
      ∙ ap (λ (l : List ℕ). l ++ more) (sym cuts.joined ∙ ap (λ (l : List ℕ). l ++ bytes) both.rest)
      ∙ sym is)

  first_of : (bytes more : List ℕ) (frames : List Frame) (left : List ℕ) → flat_map frame_bytes sent.added ≡ bytes ++ more → Cuts one bytes frames left → FirstOf sent.added
  first_of bytes more frames left is cuts = record { firsts = frames; later = (cut_first bytes more frames left is cuts).0; are = (cut_first bytes more frames left is cuts).1 }

  -- the data of one is that of the other
  same_data : (frames : List Frame) → followed frames one.store.state.bytes ≡ followed frames old.state.bytes
  same_data frames = ap (λ (bytes : List ℕ). followed frames bytes) both.data_is

  pub has_first : (follows : Bool) (other : Stand) (bytes more : List ℕ) → IsTrue follows → flat_map frame_bytes sent.added ≡ bytes ++ more → Follows follows one other bytes → HasFirst sent.added old other
  unfolding first_of
  has_first follows other bytes more told is f = record {
    first = first_of bytes more f.frames other.rest is f.cuts;
    count = f.count ∙ ap (λ (n : ℕ). n + length f.frames) both.applied;
    data_is = f.data_is.data_is told ∙ same_data f.frames;
  }

  pub leaves_first : (Opens : Shape → List ℕ → List ℕ → Type 0) (bytes more image : List ℕ) → flat_map frame_bytes sent.added ≡ bytes ++ more → LeavesFirst Opens one bytes image → OpensFirstOf Opens sent.added old image
  unfolding first_of
  leaves_first Opens bytes more image is l = record {
    first = first_of bytes more l.frames l.left is l.cuts;
    opens = subst (λ (bytes : List ℕ). Opens old.shape image bytes) (same_data l.frames) (subst (λ (s : Shape). Opens s image (followed l.frames one.store.state.bytes)) both.shape l.opens);
  }

  pub has_all : (follows : Bool) (other : Stand) → IsTrue tells → IsTrue follows → old.sending.mirrors ≡ true → new.sending.is_down ≡ false → new.is_dead ≡ false
      → Follows follows one other (flat_map frame_bytes sent.added) → HaveOneData new other
  has_all follows other tell told mirrors up alive f =
      let all = flat_map frame_bytes sent.added in
      let cut = cut_first all [] f.frames other.rest (sym (append-nil all)) f.cuts in
      let nothing : other.rest ≡ flat_map frame_bytes cut.0 = sym (append-nil other.rest) ∙ cut.2 in
      let none : HasNoFrame old.shape other.rest = subst (λ (s : Shape). HasNoFrame s other.rest) (f.data_is.shape ∙ both.shape) f.ready.none in
      let ended : cut.0 ≡ [] = no_frames old.shape cut.0 other.rest cut.3 none nothing in
      let are : sent.added ≡ f.frames = cut.1 ∙ ap (λ (later : List Frame). f.frames ++ later) ended ∙ append-nil f.frames in
      record {
        shape = f.data_is.shape ∙ both.shape ∙ sym sent.shape;
        data_is = f.data_is.data_is told ∙ same_data f.frames ∙ ap (λ (frames : List Frame). followed frames old.state.bytes) (sym are) ∙ sym (sent.data_is tell mirrors up alive);
        applied = f.count ∙ ap (λ (n : ℕ). n + length f.frames) both.applied ∙ ap (λ (frames : List Frame). old.sending.sent + length frames) (sym are) ∙ sym sent.adds.count;
        rest = nothing ∙ ap (λ (later : List Frame). flat_map frame_bytes later) ended;
      }
