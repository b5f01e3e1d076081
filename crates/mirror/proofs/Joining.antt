-- Pieces of a stream that are fed one after another are fed as one.
use Rattle.std.proofs.Common.{◌≡◌, ℕ, suc, ◌+◌, ◌<◌, Bool, List, [], ◌∷◌, ◌++◌, length, take, drop, refl, sym, ◌∙◌, ap, subst, arith, append_assoc, slice_index}
use Rattle.std.specs.Prelude.{IsTrue, All, flat_map}
use Rattle.std.proofs.lemmas.List.{append-nil, length-append, take_more, take-append-drop}
use Rattle.std.proofs.lemmas.List.Elements.{All-nil, All-append}
use Rattle.std.proofs.lemmas.List.Concat.{flat_map-append}
use Rattle.mars_base.proofs.Going.{weaker, then}
use Rattle.array_shape.specs.declared.shape.Shape.{Shape}
use Rattle.array_shape.specs.Logged.{applied}
use Rattle.eaw_face.specs.StoreView.{StoreView, LeavesOnly}
use Rattle.mirror.specs.declared.follow_fault.FollowFault.{FollowFault}
use Rattle.mirror.specs.declared.follow_fault.FollowFault.TheVariants.{BadFrame, Gap, Media, Dead, NoMemory}
use Rattle.eaw_face.specs.Frame.{Frame, frame_bytes, written_by, IsFrameIn}
use Rattle.eaw_face.specs.Mirroring.{AreInSequence, followed}
use Rattle.mirror.specs.Following.{HasNoFrame, IsBroken, Stand, IsReady, Cuts, HasFollowed, Follows, LeavesFirst, IsGap, StopCause}

sequence_append : (n : ℕ) (f1 f2 : List Frame) → AreInSequence n f1 → AreInSequence (n + length f1) f2 → AreInSequence n (f1 ++ f2)
sequence_append n [] f2 one two = subst (λ (m : ℕ). AreInSequence m f2) (let same : n + 0 ≡ n = omega arith in same) two
sequence_append n (f ∷ f1) f2 one two = (one.0, sequence_append (n + 1) f1 f2 one.1 (subst (λ (m : ℕ). AreInSequence m f2) (let same : n + suc (length f1) ≡ n + 1 + length f1 = omega arith in same) two))

followed_append : (f1 f2 : List Frame) (bytes : List ℕ) → followed (f1 ++ f2) bytes ≡ followed f2 (followed f1 bytes)
followed_append [] f2 bytes = refl
followed_append (f ∷ f1) f2 bytes = followed_append f1 f2 (applied (written_by f) bytes)

cuts_longer : (old : Stand) (p q : List ℕ) (fs : List Frame) (left : List ℕ) → Cuts old p fs left → Cuts old (p ++ q) fs (left ++ q)
cuts_longer old p q fs left c = record {
  good = c.good;
  sequence = c.sequence;
  joined = sym (append_assoc old.rest p q) ∙ ap (λ (l : List ℕ). l ++ q) c.joined ∙ append_assoc (flat_map frame_bytes fs) left q;
}

module _ (tells : Bool) (Opens : Shape → List ℕ → List ℕ → Type 0) (old mid : Stand) (p q : List ℕ) (one : Follows tells old mid p) where
  cuts_more : (f2 : List Frame) (left : List ℕ) → Cuts mid q f2 left → Cuts old (p ++ q) (one.frames ++ f2) left
  cuts_more f2 left c =
      let f1 = one.frames in
      record {
        good = All-append (IsFrameIn old.store.shape) f1 f2 one.cuts.good (subst (λ (s : Shape). All (IsFrameIn s) f2) one.data_is.shape c.good);
        sequence = sequence_append (old.applied + 1) f1 f2 one.cuts.sequence (subst (λ (n : ℕ). AreInSequence n f2) (let same : mid.applied + 1 ≡ old.applied + 1 + length f1 = omega (arith, one.count) in same) c.sequence);
        joined =
            sym (append_assoc old.rest p q)
            ∙ ap (λ (l : List ℕ). l ++ q) one.cuts.joined
            ∙ append_assoc (flat_map frame_bytes f1) mid.rest q
            ∙ ap (λ (l : List ℕ). flat_map frame_bytes f1 ++ l) c.joined
            ∙ sym (append_assoc (flat_map frame_bytes f1) (flat_map frame_bytes f2) left)
            ∙ ap (λ (l : List ℕ). l ++ left) (sym (flat_map-append frame_bytes f1 f2));
      }

  data_more : (f2 : List Frame) (new : StoreView) → HasFollowed tells f2 mid.store new → HasFollowed tells (one.frames ++ f2) old.store new
  data_more f2 new h = record {
    shape = h.shape ∙ one.data_is.shape;
    depth = h.depth ∙ one.data_is.depth;
    data_is = λ told. h.data_is told ∙ ap (λ (d : List ℕ). followed f2 d) (one.data_is.data_is told) ∙ sym (followed_append one.frames f2 old.store.state.bytes);
  }

  pub follows_more : (new : Stand) → Follows tells mid new q → Follows tells old new (p ++ q)
  follows_more new two = record {
    frames = one.frames ++ two.frames;
    cuts = cuts_more two.frames new.rest two.cuts;
    count = let more = length-append one.frames two.frames in omega (arith, more, one.count, two.count);
    faults = two.faults ∙ one.faults;
    data_is = data_more two.frames new.store two.data_is;
    ready = two.ready;
  }

  leaves_more : IsTrue tells → (image : List ℕ) → LeavesFirst Opens mid q image → LeavesFirst Opens old (p ++ q) image
  leaves_more told image l = record {
    frames = one.frames ++ l.frames;
    left = l.left;
    cuts = cuts_more l.frames l.left l.cuts;
    opens = subst (λ (d : Shape × List ℕ). Opens d.0 image d.1)
        (λ i. (one.data_is.shape i, (ap (λ (b : List ℕ). followed l.frames b) (one.data_is.data_is told) ∙ sym (followed_append one.frames l.frames old.store.state.bytes)) i)) l.opens;
  }

  leaves_longer : (image : List ℕ) → LeavesFirst Opens old p image → LeavesFirst Opens old (p ++ q) image
  leaves_longer image l = record { frames = l.frames; left = l.left ++ q; cuts = cuts_longer old p q l.frames l.left l.cuts; opens = l.opens }

  pub moments_more : IsTrue tells → (new : StoreView) → LeavesOnly (LeavesFirst Opens old p) old.store mid.store → LeavesOnly (LeavesFirst Opens mid q) mid.store new → LeavesOnly (LeavesFirst Opens old (p ++ q)) old.store new
  moments_more told new first second = then (weaker leaves_longer first) (weaker (leaves_more told) second)

  pub stop_more : (new : StoreView) (fault : FollowFault) → StopCause tells mid new q fault → StopCause tells old new (p ++ q) fault
  stop_more new BadFrame s = record {
    frames = one.frames ++ s.frames;
    broken = s.broken;
    later = s.later;
    stops = record { cuts = cuts_more s.frames (s.broken ++ s.later) s.stops.cuts; data_is = data_more s.frames new s.stops.data_is; faults = s.stops.faults ∙ one.faults; alive = s.stops.alive };
    none = subst (λ (shape : Shape). HasNoFrame shape s.broken) one.data_is.shape s.none;
    is_broken = subst (λ (shape : Shape). IsBroken shape s.broken) one.data_is.shape s.is_broken;
  }
  stop_more new (Gap expected got) s = record {
    frames = one.frames ++ s.frames;
    next = s.next;
    later = s.later;
    stops = record { cuts = cuts_more s.frames (frame_bytes s.next ++ s.later) s.stops.cuts; data_is = data_more s.frames new s.stops.data_is; faults = s.stops.faults ∙ one.faults; alive = s.stops.alive };
    good = subst (λ (shape : Shape). IsFrameIn shape s.next) one.data_is.shape s.good;
    got_is = s.got_is;
    gap = subst (λ (n : ℕ). IsGap n expected got) (let more = length-append one.frames s.frames in let same : mid.applied + length s.frames ≡ old.applied + length (one.frames ++ s.frames) = omega (arith, more, one.count) in same) s.gap;
  }
  stop_more new Media s = omega (arith, s, one.faults)
  stop_more new Dead s = s
  stop_more new NoMemory s = record { frames = one.frames ++ s.frames; left = s.left; stops = record { cuts = cuts_more s.frames s.left s.stops.cuts; data_is = data_more s.frames new s.stops.data_is; faults = s.stops.faults ∙ one.faults; alive = s.stops.alive } }

-- what stands of a first part of a piece stands of the piece
pub stop_longer : (tells : Bool) (old : Stand) (new : StoreView) (p q : List ℕ) (fault : FollowFault) → StopCause tells old new p fault → StopCause tells old new (p ++ q) fault
stop_longer tells old new p q BadFrame s = record {
  frames = s.frames;
  broken = s.broken;
  later = s.later ++ q;
  stops = record {
    cuts = subst (λ (l : List ℕ). Cuts old (p ++ q) s.frames l) (append_assoc s.broken s.later q) (cuts_longer old p q s.frames (s.broken ++ s.later) s.stops.cuts);
    data_is = s.stops.data_is;
    faults = s.stops.faults;
    alive = s.stops.alive;
  };
  none = s.none;
  is_broken = s.is_broken;
}
stop_longer tells old new p q (Gap expected got) s = record {
  frames = s.frames;
  next = s.next;
  later = s.later ++ q;
  stops = record {
    cuts = subst (λ (l : List ℕ). Cuts old (p ++ q) s.frames l) (append_assoc (frame_bytes s.next) s.later q) (cuts_longer old p q s.frames (frame_bytes s.next ++ s.later) s.stops.cuts);
    data_is = s.stops.data_is;
    faults = s.stops.faults;
    alive = s.stops.alive;
  };
  good = s.good;
  got_is = s.got_is;
  gap = s.gap;
}
stop_longer tells old new p q Media s = s
stop_longer tells old new p q Dead s = s
stop_longer tells old new p q NoMemory s = record { frames = s.frames; left = s.left ++ q; stops = record { cuts = cuts_longer old p q s.frames s.left s.stops.cuts; data_is = s.stops.data_is; faults = s.stops.faults; alive = s.stops.alive } }

pub moments_longer : (Opens : Shape → List ℕ → List ℕ → Type 0) (old : Stand) (new : StoreView) (p q : List ℕ) → LeavesOnly (LeavesFirst Opens old p) old.store new → LeavesOnly (LeavesFirst Opens old (p ++ q)) old.store new
moments_longer Opens old new p q e = weaker (λ image l. record { frames = l.frames; left = l.left ++ q; cuts = cuts_longer old p q l.frames l.left l.cuts; opens = l.opens }) e

-- nothing was fed yet
pub follows_none : (tells : Bool) (old : Stand) → IsReady old → Follows tells old old []
follows_none tells old ready = record {
  frames = [];
  cuts = record { good = All-nil (IsFrameIn old.store.shape); sequence = tt; joined = append-nil old.rest };
  count = omega arith;
  faults = refl;
  data_is = record { shape = refl; depth = refl; data_is = λ told. refl };
  ready = ready;
}

-- a piece up to a byte, the byte, and what is behind it
pub first_more : (piece : List ℕ) (i : ℕ) → i < length piece → take i piece ++ slice_index piece i ∷ [] ≡ take (i + 1) piece
first_more piece i lt = sym (take_more piece i 0 lt)

pub all_of : (piece : List ℕ) (i : ℕ) → i < length piece → (take i piece ++ slice_index piece i ∷ []) ++ drop (i + 1) piece ≡ piece
all_of piece i lt = ap (λ (l : List ℕ). l ++ drop (i + 1) piece) (first_more piece i lt) ∙ take-append-drop (i + 1) piece
