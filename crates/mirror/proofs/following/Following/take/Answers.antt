use Rattle.std.proofs.Common.{ℕ, [], ◌∷◌, ◌++◌, ◌≡◌, ◌+◌, ◌⊎◌, sym, ◌∙◌, ap, subst}
use Rattle.std.proofs.lemmas.Bool.{false≢true}
use Rattle.mars_base.proofs.Going.{stays}
use Rattle.array_shape.specs.declared.shape.Shape.{Shape}
use Rattle.eaw_face.specs.Frame.{AreFrame}
use Rattle.mirror.specs.Following.{stand, CanGoOn, LeavesFirst, IsBroken}
use Rattle.mirror.specs.declared.reader.FrameReader.{FrameReader}
use Rattle.mirror.specs.declared.follow_fault.FollowFault.TheVariants.{BadFrame, NoMemory}
use Rattle.mirror.proofs.Streams.{byte_kept, byte_refused, frame_refused, byte_moments, frame_applied}
use Rattle.std.proofs.lemmas.Result.{err_from_is_err_and}
use Rattle.mirror.proofs.following.Following.take.Goals as goal

pub returns-then-not-branch-clause-follows : goal.returns-then-not-branch-clause-follows
returns-then-not-branch-clause-follows g c =
    let s = g.S.EawStore in
    let self = c.args.self.now in
    let old = stand (s.view self.store) self.applied self.reader.bytes.items in
    let rest = self.reader.bytes.items ++ c.args.byte ∷ [] in
    let e = c.in_ok-take.ensures in
    byte_kept s.tells s.opens old c.args.byte c.requires.ready c.take.new.self.bytes.items e.bytes
    (λ f. false≢true (sym c.if-not-branch.true ∙ e.whole.1 (subst (λ (shape : Shape). AreFrame shape rest) (sym c.requires.shape) f)))
    (subst (λ (shape : Shape). CanGoOn shape c.take.new.self.bytes.items) (c.take.ensures.shape ∙ c.requires.shape) e.leads.goes_on)

pub returns-then-not-branch-clause-moments : goal.returns-then-not-branch-clause-moments
returns-then-not-branch-clause-moments g c told =
    let s = g.S.EawStore in
    let self = c.args.self.now in
    let old = stand (s.view self.store) self.applied self.reader.bytes.items in
    stays (s.view self.store).moment (s.view self.store).left_since (LeavesFirst s.opens old (c.args.byte ∷ []))

pub returns-in_err-take-clause-fault : goal.returns-in_err-take-clause-fault
returns-in_err-take-clause-fault g c =
    let exit = err_from_is_err_and c.from_residual.result c.from_residual.ensures.1 in
    rw (exit.1, exit.2) (
    let s = g.S.EawStore in
    let self = c.args.self.now in
    let old = stand (s.view self.store) self.applied self.reader.bytes.items in
    let rest = self.reader.bytes.items ++ c.args.byte ∷ [] in
    byte_refused s.tells s.opens old c.args.byte c.requires.ready c.in_err-take.field-0.0
    (subst (λ (shape : Shape). (c.in_err-take.field-0.0 ≡ NoMemory) ⊎ ((c.in_err-take.field-0.0 ≡ BadFrame) × IsBroken shape rest)) c.requires.shape c.in_err-take.ensures.fault))

pub returns-in_err-take-clause-moments : goal.returns-in_err-take-clause-moments
returns-in_err-take-clause-moments g c told =
    let s = g.S.EawStore in
    let self = c.args.self.now in
    let old = stand (s.view self.store) self.applied self.reader.bytes.items in
    stays (s.view self.store).moment (s.view self.store).left_since (LeavesFirst s.opens old (c.args.byte ∷ []))

pub returns-in_err-apply_next-clause-fault : goal.returns-in_err-apply_next-clause-fault
returns-in_err-apply_next-clause-fault g c =
    let exit = err_from_is_err_and c.from_residual-in_err-apply_next.result c.from_residual-in_err-apply_next.ensures.1 in
    rw (exit.1, exit.2) (
    let s = g.S.EawStore in
    let self = c.args.self.now in
    let old = stand (s.view self.store) self.applied self.reader.bytes.items in
    let rest = self.reader.bytes.items ++ c.args.byte ∷ [] in
    let e = c.in_ok-take.ensures in
    let f = subst (λ (shape : Shape). AreFrame shape rest) c.requires.shape (e.whole.0 c.if-not-branch.false) in
    frame_refused s.tells s.opens old c.args.byte c.requires.ready c.take.new.self.bytes.items e.bytes f (s.view c.apply_next.new.self.store) c.in_err-apply_next.field-0.0 c.in_err-apply_next.ensures.fault)

pub returns-in_err-apply_next-clause-moments : goal.returns-in_err-apply_next-clause-moments
returns-in_err-apply_next-clause-moments g c told =
    let s = g.S.EawStore in
    let self = c.args.self.now in
    let old = stand (s.view self.store) self.applied self.reader.bytes.items in
    byte_moments s.tells s.opens old c.args.byte c.requires.ready c.take.new.self.bytes.items c.in_ok-take.ensures.bytes (s.view c.apply_next.new.self.store) (c.apply_next.ensures.moments told)

pub returns-clause-follows : goal.returns-clause-follows
returns-clause-follows g c =
    let s = g.S.EawStore in
    let self = c.args.self.now in
    let old = stand (s.view self.store) self.applied self.reader.bytes.items in
    frame_applied s.tells s.opens old c.args.byte c.requires.ready c.take.new.self.bytes.items c.in_ok-take.ensures.bytes (s.view c.apply_next.new.self.store) (c.apply_next.new.self.applied + 1)
    (ap (λ (n : ℕ). n + 1) c.apply_next.ensures.applied) c.clear.new.self.bytes.items c.clear.ensures.bytes
    (subst (λ (shape : Shape). CanGoOn shape c.clear.new.self.bytes.items) (c.clear.ensures.shape ∙ ap (λ (r : FrameReader). r.shape) c.apply_next.ensures.reader ∙ c.take.ensures.shape ∙ c.requires.shape) c.clear.ensures.leads.goes_on) c.in_ok-apply_next.ensures.next

pub returns-clause-moments : goal.returns-clause-moments
returns-clause-moments g c told =
    let s = g.S.EawStore in
    let self = c.args.self.now in
    let old = stand (s.view self.store) self.applied self.reader.bytes.items in
    byte_moments s.tells s.opens old c.args.byte c.requires.ready c.take.new.self.bytes.items c.in_ok-take.ensures.bytes (s.view c.apply_next.new.self.store) (c.apply_next.ensures.moments told)
