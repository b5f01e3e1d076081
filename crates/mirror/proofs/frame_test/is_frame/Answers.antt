use Rattle.std.proofs.Common.{ℕ, List, ◌≡◌, ◌+◌, [], ◌∷◌, ◌++◌, take, drop, subst, sym, ◌∙◌, ap, slice_index}
use Rattle.std.proofs.lemmas.Bool.{false≢true}
use Rattle.std.proofs.lemmas.List.{append-nil, take_all, take-append-drop, drop_more}
use Rattle.eaw_face.specs.Frame.{AreFrame}
use Rattle.mirror.proofs.frame_test.is_frame.Goals as goal

pub returns-in-None : goal.returns-in-None
returns-in-None c =
    let bytes = c.args.bytes.now in
    let i = c.loop-byte.byte-index in
    let split : bytes ≡ take i bytes ++ (slice_index bytes i ∷ drop (i + 1) bytes) = sym (take-append-drop i bytes) ∙ ap (λ (l : List ℕ). take i bytes ++ l) (drop_more bytes i 0 c.loop-byte-test.true) in (
      (λ no. absurd (false≢true no)),
      (λ frame. absurd (c.in-None.ensures (drop (i + 1) bytes) ((c.loop-byte.invariant.same (slice_index bytes i ∷ drop (i + 1) bytes)).0 (subst (AreFrame c.args.shape) split frame)))),
    )

pub returns : goal.returns
returns c =
    let bytes = c.args.bytes.now in
    let i = c.loop-byte.byte-index in
    let whole : take i bytes ++ [] ≡ bytes = append-nil (take i bytes) ∙ take_all i bytes c.loop-byte-test.false in
    let same = c.loop-byte.invariant.same [] in
    let end = c.is_end.ensures c.args.shape c.loop-byte.invariant.ready in (
      (λ is. subst (AreFrame c.args.shape) whole (same.1 (end.0 is))),
      (λ frame. end.1 (same.0 (subst (AreFrame c.args.shape) (sym whole) frame))),
    )

pub loop-byte-init : goal.loop-byte-init
loop-byte-init c = record { ready = c.start-place.ensures.ready c.args.shape; same = c.start-place.ensures.same c.args.shape }
