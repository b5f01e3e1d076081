-- What is sent from one view of a store to a later one.
use Rattle.std.proofs.Common.{◌≡◌, ℕ, ◌+◌, ◌^◌, ◌≤◌, ◌⊎◌, inl, inr, ⊎_elim, Bool, true, false, List, [], ◌∷◌, ◌++◌, suc, append_assoc, length, Result, Ok, Err, refl, sym, ◌∙◌, ap, subst, arith}
use Rattle.std.specs.Prelude.{IsTrue, OnOk, All, map}
use Rattle.std.proofs.lemmas.Bool.{false≢true, cases_Bool}
use Rattle.std.proofs.lemmas.List.{append-nil, length-append, map-append}
use Rattle.std.proofs.lemmas.List.Elements.{All-nil, All-append}
use Rattle.mars_base.specs.Causes.{Rose}
use Rattle.array_shape.specs.declared.shape.Shape.{Shape}
use Rattle.array_shape.specs.Logged.{applied}
use Rattle.eaw_face.specs.Frame.{Frame, frame_bytes, written_by, IsFrameIn}
use Rattle.eaw_face.specs.Sending.{Sending}
use Rattle.eaw_face.specs.StoreView.{StoreView}
use Rattle.eaw_face.specs.Mirroring.{AreInSequence, followed, Adds, EndsFor, Mirrors}
use Rattle.eaw_face.specs.Command.{Command}
use Rattle.eaw_face.specs.Due.{SendsDue}
use Rattle.eaw_face.specs.declared.fault.EawFault.{EawFault}

-- nothing was sent, and the data is as it was
pub none_sent : (tells : Bool) (old new : StoreView) → new.shape ≡ old.shape → new.depth ≡ old.depth → new.device ≡ old.device → new.sending ≡ old.sending → (new.is_dead ≡ false → old.is_dead ≡ false)
    → (IsTrue tells → old.sending.mirrors ≡ true → new.is_dead ≡ false → new.state.bytes ≡ old.state.bytes) → Mirrors tells old new
none_sent tells old new shape depth device sending lived same = record {
  added = [];
  shape = shape;
  depth = depth;
  device = device;
  kind = record { mirrors = ap (λ (s : Sending). s.mirrors) sending; told = ap (λ (s : Sending). s.told) sending };
  adds = record {
    good = All-nil (IsFrameIn old.shape);
    sequence = tt;
    count = omega (arith, ap (λ (s : Sending). s.sent) sending);
    frames = λ told. ap (λ (s : Sending). s.frames) sending ∙ sym (append-nil old.sending.frames);
  };
  ends = record {
    later = omega (arith, ap (λ (s : Sending). s.faults) sending);
    cause = λ down. inl (sym (ap (λ (s : Sending). s.is_down) sending) ∙ down);
    goes_on = λ up. ap (λ (s : Sending). s.faults) sending;
    ended = λ down. (ap (λ (s : Sending). s.is_down) sending ∙ down, refl);
  };
  none = λ not. refl;
  lived = lived;
  data_is = λ told mirrors up alive. same told mirrors alive;
}

-- no frame is due of a store that does not mirror
pub none_due : {T : Type 0} (tells : Bool) (command : Command) (added : List Frame) (old new : StoreView) (r : Result T EawFault) → old.sending.mirrors ≡ false → OnOk r (old.sending.mirrors ≡ true → SendsDue tells command added old new)
none_due tells command added old new (Ok x) none = λ mirrors. absurd (false≢true (sym none ∙ mirrors))
none_due tells command added old new (Err fault) none = tt

pub sequence_append : (n : ℕ) (f1 f2 : List Frame) → AreInSequence n f1 → AreInSequence (n + length f1) f2 → AreInSequence n (f1 ++ f2)
sequence_append n [] f2 one two = subst (λ (m : ℕ). AreInSequence m f2) (let same : n + 0 ≡ n = omega arith in same) two
sequence_append n (f ∷ f1) f2 one two = (one.0, sequence_append (n + 1) f1 f2 one.1 (subst (λ (m : ℕ). AreInSequence m f2) (let same : n + suc (length f1) ≡ n + 1 + length f1 = omega arith in same) two))

pub followed_append : (f1 f2 : List Frame) (bytes : List ℕ) → followed (f1 ++ f2) bytes ≡ followed f2 (followed f1 bytes)
followed_append [] f2 bytes = refl
followed_append (f ∷ f1) f2 bytes = followed_append f1 f2 (applied (written_by f) bytes)

-- what was sent by a first call and by a second
module _ (tells : Bool) (old mid new : StoreView) (one : Mirrors tells old mid) (two : Mirrors tells mid new) where
  adds : Adds old.shape (one.added ++ two.added) old.sending new.sending
  adds = record {
    good = All-append (IsFrameIn old.shape) one.added two.added one.adds.good (subst (λ (s : Shape). All (IsFrameIn s) two.added) one.shape two.adds.good);
    sequence = sequence_append (old.sending.sent + 1) one.added two.added one.adds.sequence
        (subst (λ (n : ℕ). AreInSequence n two.added) (let same : mid.sending.sent + 1 ≡ old.sending.sent + 1 + length one.added = omega (arith, one.adds.count) in same) two.adds.sequence);
    count = omega (arith, one.adds.count, two.adds.count, length-append one.added two.added);
    frames = λ told.
        two.adds.frames (subst IsTrue (sym one.kind.told) told)
        ∙ ap (λ (fs : List (List ℕ)). fs ++ map frame_bytes two.added) (one.adds.frames told)
        ∙ append_assoc old.sending.frames (map frame_bytes one.added) (map frame_bytes two.added)
        ∙ ap (λ (fs : List (List ℕ)). old.sending.frames ++ fs) (sym (map-append frame_bytes one.added two.added));
  }

  abbrev Ended : Type 0
  Ended = (old.sending.is_down ≡ true) ⊎ ((2 ^ 64 ≤ new.sending.sent + 1) ⊎ Rose old.sending.faults new.sending.faults)

  ended_first : (old.sending.is_down ≡ true) ⊎ ((2 ^ 64 ≤ mid.sending.sent + 1) ⊎ Rose old.sending.faults mid.sending.faults) → Ended
  ended_first (inl was) = inl was
  ended_first (inr (inl last)) = inr (inl (omega (arith, last, two.adds.count)))
  ended_first (inr (inr rose)) = inr (inr (omega (arith, rose, two.ends.later)))

  ended_then : (mid.sending.is_down ≡ true) ⊎ ((2 ^ 64 ≤ new.sending.sent + 1) ⊎ Rose mid.sending.faults new.sending.faults) → Ended
  ended_then (inl was) = ended_first (one.ends.cause was)
  ended_then (inr (inl last)) = inr (inl last)
  ended_then (inr (inr rose)) = inr (inr (omega (arith, one.ends.later, rose)))

  still_up : new.sending.is_down ≡ false → mid.sending.is_down ≡ false
  still_up up = ⊎_elim (λ down. absurd (false≢true (sym up ∙ (two.ends.ended down).0))) (λ going. going) (cases_Bool mid.sending.is_down)

  ends : EndsFor (one.added ++ two.added) old.sending new.sending
  ends = record {
    later = omega (arith, one.ends.later, two.ends.later);
    cause = λ down. ended_then (two.ends.cause down);
    goes_on = λ up. two.ends.goes_on up ∙ one.ends.goes_on (still_up up);
    ended = λ down. let first = one.ends.ended down in let second = two.ends.ended first.0 in (second.0, (λ i. first.1 i ++ second.1 i));
  }

  pub sent_then : Mirrors tells old new
  sent_then = record {
    added = one.added ++ two.added;
    shape = two.shape ∙ one.shape;
    depth = two.depth ∙ one.depth;
    device = two.device ∙ one.device;
    kind = record { mirrors = two.kind.mirrors ∙ one.kind.mirrors; told = two.kind.told ∙ one.kind.told };
    adds = adds;
    ends = ends;
    none = λ not. (λ i. one.none not i ++ two.none (one.kind.mirrors ∙ not) i);
    lived = λ alive. one.lived (two.lived alive);
    data_is = λ told mirrors up alive.
        two.data_is told (one.kind.mirrors ∙ mirrors) up alive
        ∙ ap (followed two.added) (one.data_is told mirrors (still_up up) (two.lived alive))
        ∙ sym (followed_append one.added two.added old.state.bytes);
  }
