use Rattle.std.proofs.Common.{ℕ, List, [], ◌∷◌, ◌++◌, ◌<◌, length, sym, ◌∙◌, ap, subst}
use Rattle.std.proofs.lemmas.Bool.{eqb-false}
use Rattle.std.specs.Prelude.{IsTrue, All, flat_map}
use Rattle.std.proofs.lemmas.List.{append_assoc, append-nil}
use Rattle.std.proofs.lemmas.List.Elements.{All-drop}
use Rattle.std.proofs.lemmas.Grind.{flat_map-append}
use Rattle.eaw_face.specs.Sending.{Sending}
use Rattle.frame_lines.specs.Framed.{bytes_line}
use Rattle.frame_lines.proofs.Framing.{first_and_rest, one_given_up, stands_then}
use Rattle.frame_lines.proofs.framed.write_frames.Goals as goal

pub frames-preserved : goal.frames-preserved
frames-preserved g c =
    let r = g.R.Responder in
    let view = g.R.Mirrored.view in
    let so = c.frames.invariant in
    let old = c.args.responder.now in
    let mid = c.frames.responder in
    let new = c.drop_frame.new.self in
    let gives = c.drop_frame.ensures.gives_up in
    let frame = c.first_frame-frame.result.now in
    let left = gives.frames so.frames.told in
    let split = first_and_rest (view mid).sending.frames frame (c.first_frame-frame.ensures so.frames.told) (eqb-false _ _ (sym c.if-is_empty.ensures)) in
    record {
      ready = c.drop_frame.ensures.stands.ready so.ready;
      frames = record {
        told = subst IsTrue (sym (ap (λ (s : Sending). s.told) gives.sending)) so.frames.told;
        some = subst (All (λ (b : List ℕ). 0 < length b)) (sym left) (All-drop (λ (b : List ℕ). 0 < length b) 1 (view mid).sending.frames so.frames.some);
      };
      stands = stands_then r.tells r.is_ready r.stands r.comes r.faults g.met.R.Responder.comes_on old mid new so.ready so.stands c.drop_frame.ensures.stands;
      is_but = one_given_up (view old) (view mid) (view new) so.frames.told so.is_but gives;
      far = (
        so.far.0 ++ frame ∷ [],
        so.far.1 ∙ ap (λ (fs : List (List ℕ)). so.far.0 ++ fs) (split ∙ ap (λ (fs : List (List ℕ)). frame ∷ fs) (sym left)) ∙ sym (append_assoc so.far.0 (frame ∷ []) (view new).sending.frames),
        c.in_ok-append_line.ensures ∙ ap (λ (t : List ℕ). t ++ bytes_line frame) so.far.2 ∙ append_assoc c.args.out.now.items (flat_map bytes_line so.far.0) (bytes_line frame)
            ∙ ap (λ (t : List ℕ). c.args.out.now.items ++ t) (ap (λ (t : List ℕ). flat_map bytes_line so.far.0 ++ t) (sym (append-nil (bytes_line frame))) ∙ sym (flat_map-append bytes_line so.far.0 (frame ∷ []))),
      );
    }
