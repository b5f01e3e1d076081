use Rattle.std.proofs.Common.{ℕ, List, [], ◌∷◌, ◌++◌, ◌+◌, take, drop, subst, slice_index}
use Rattle.std.proofs.lemmas.List.{take_all}
use Rattle.mars_base.proofs.Going.{stays}
use Rattle.eaw_face.specs.StoreView.{LeavesOnly}
use Rattle.mirror.specs.Following.{stand, Follows, LeavesFirst, StopCause}
use Rattle.mirror.proofs.Joining.{follows_none, follows_more, moments_more, stop_more, stop_longer, moments_longer, first_more, all_of}
use Rattle.std.proofs.lemmas.Result.{err_from_is_err_and}
use Rattle.mirror.proofs.following.Following.feed.Goals as goal

pub loop-byte-init : goal.loop-byte-init
loop-byte-init g c =
    let s = g.S.EawStore in
    let self = c.args.self.now in
    let old = stand (s.view self.store) self.applied self.reader.bytes.items in
    record { follows = follows_none s.tells old c.requires.ready; leads = c.requires.leads; shape = c.requires.shape; moments = λ told. stays old.store.moment old.store.left_since (LeavesFirst s.opens old []) }

pub loop-byte-preserved : goal.loop-byte-preserved
loop-byte-preserved g c =
    let s = g.S.EawStore in
    let self = c.args.self.now in
    let old = stand (s.view self.store) self.applied self.reader.bytes.items in
    let mid = stand (s.view c.loop-byte.self.store) c.loop-byte.self.applied c.loop-byte.self.reader.bytes.items in
    let next = c.take.new.self in
    let new = stand (s.view next.store) next.applied next.reader.bytes.items in
    let piece = c.args.piece.now in
    let i = c.loop-byte.byte-index in
    let on = c.loop-byte.invariant in
    let more = first_more piece i c.loop-byte-test.true in
    record {
      follows = subst (λ (p : List ℕ). Follows s.tells old new p) more (follows_more s.tells s.opens old mid (take i piece) (slice_index piece i ∷ []) on.follows new c.in_ok-take.ensures.follows);
      leads = c.in_ok-take.ensures.leads;
      shape = c.in_ok-take.ensures.shape;
      moments = λ told. subst (λ (p : List ℕ). LeavesOnly (LeavesFirst s.opens old p) old.store new.store) more
          (moments_more s.tells s.opens old mid (take i piece) (slice_index piece i ∷ []) on.follows told new.store (on.moments told) (c.take.ensures.moments told));
    }

pub returns-in_err-take-clause-fault : goal.returns-in_err-take-clause-fault
returns-in_err-take-clause-fault g c =
    let exit = err_from_is_err_and c.from_residual.result c.from_residual.ensures.1 in
    rw (exit.1, exit.2) (
    let s = g.S.EawStore in
    let self = c.args.self.now in
    let old = stand (s.view self.store) self.applied self.reader.bytes.items in
    let mid = stand (s.view c.loop-byte.self.store) c.loop-byte.self.applied c.loop-byte.self.reader.bytes.items in
    let new = s.view c.take.new.self.store in
    let piece = c.args.piece.now in
    let i = c.loop-byte.byte-index in
    let on = c.loop-byte.invariant in
    let front = take i piece ++ slice_index piece i ∷ [] in
    subst (λ (p : List ℕ). StopCause s.tells old new p c.in_err-take.field-0.0) (all_of piece i c.loop-byte-test.true)
    (stop_longer s.tells old new front (drop (i + 1) piece) c.in_err-take.field-0.0 (stop_more s.tells s.opens old mid (take i piece) (slice_index piece i ∷ []) on.follows new c.in_err-take.field-0.0 c.in_err-take.ensures.fault)))

pub returns-in_err-take-clause-moments : goal.returns-in_err-take-clause-moments
returns-in_err-take-clause-moments g c told =
    let s = g.S.EawStore in
    let self = c.args.self.now in
    let old = stand (s.view self.store) self.applied self.reader.bytes.items in
    let mid = stand (s.view c.loop-byte.self.store) c.loop-byte.self.applied c.loop-byte.self.reader.bytes.items in
    let new = s.view c.take.new.self.store in
    let piece = c.args.piece.now in
    let i = c.loop-byte.byte-index in
    let on = c.loop-byte.invariant in
    let front = take i piece ++ slice_index piece i ∷ [] in
    subst (λ (p : List ℕ). LeavesOnly (LeavesFirst s.opens old p) old.store new) (all_of piece i c.loop-byte-test.true)
    (moments_longer s.opens old new front (drop (i + 1) piece)
    (moments_more s.tells s.opens old mid (take i piece) (slice_index piece i ∷ []) on.follows told new (on.moments told) (c.take.ensures.moments told)))

pub returns-clause-follows : goal.returns-clause-follows
returns-clause-follows g c =
    let s = g.S.EawStore in
    let self = c.args.self.now in
    let old = stand (s.view self.store) self.applied self.reader.bytes.items in
    let new = stand (s.view c.loop-byte.self.store) c.loop-byte.self.applied c.loop-byte.self.reader.bytes.items in
    subst (λ (p : List ℕ). Follows s.tells old new p) (take_all c.loop-byte.byte-index c.args.piece.now c.loop-byte-test.false) c.loop-byte.invariant.follows

pub returns-clause-moments : goal.returns-clause-moments
returns-clause-moments g c told =
    let s = g.S.EawStore in
    let self = c.args.self.now in
    let old = stand (s.view self.store) self.applied self.reader.bytes.items in
    let new = s.view c.loop-byte.self.store in
    subst (λ (p : List ℕ). LeavesOnly (LeavesFirst s.opens old p) old.store new) (take_all c.loop-byte.byte-index c.args.piece.now c.loop-byte-test.false) (c.loop-byte.invariant.moments told)
