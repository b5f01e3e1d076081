use Rattle.std.proofs.Common.{◌≡◌, ℕ, ◌<◌, true, inl, inr, List, [], None, false, Ok, Err, Result, length, refl, sym, ◌∙◌, ap, subst, arith}
use Rattle.std.specs.Prelude.{IsTrue, IsErrOf}
use Rattle.std.proofs.lemmas.Bool.{cases_lt}
use Rattle.std.proofs.lemmas.Result.{err_from_is_err_and, IfErr-at_err}
use Rattle.array_shape.specs.NumberSet.{members}
use Rattle.eaw_face.specs.State.{group_log, is_one_of, with_each}
use Rattle.eaw_face.proofs.Groups.{group_live}
use Rattle.page_store.specs.Command.{end_group}
use Rattle.page_store.specs.Kept.{IsOrdered}
use Rattle.page_store.specs.Does.{Does}
use Rattle.page_store.specs.Invariant.{outline_in}
use Rattle.page_store.specs.Marked.{Marked}
use Rattle.page_store.specs.Shown.{PagesView, counts_in, top_in}
use Rattle.page_store.specs.declared.fault.PageFault.{PageFault}
use Rattle.page_store.specs.declared.fault.PageFault.TheVariants.{Media}
use Rattle.page_store.proofs.Shown.{IsTold}
use Rattle.page_store.proofs.Ordered.{ordered_after}
use Rattle.page_store.proofs.Grouping.{answer_known, group_does, media_of}
use Rattle.page_store.proofs.Marking.{written_over, top_past}
use Rattle.page_store.proofs.pages.Pages.end_group.Given.{Over}
use Rattle.page_store.specs.declared.fault.PageFault.TheVariants.{Dead}
use Rattle.page_store.proofs.Lifting.{unchanged}
use Rattle.page_store.proofs.pages.Pages.end_group.Goals as goal

pub told-requires : goal.told-requires
told-requires g c =
    let store = g.S.EawStore.view c.self.inside.store in
    answer_known store (g.met.S.EawStore.beyond c.self.inside.store) (members c.args.tids) (members c.live_among-live.result) c.live_among-live.ensures (g.S.EawStore.view c.commit_group.new.self).faults c.commit_group.result c.commit_group.ensures.does.cause

-- no number of the set has an open top action, whether the array has it or not
all_closed : (numbers : ℕ) (marks : List Marked) (ts : List ℕ) → length marks ≡ numbers → ((t : ℕ) → t < numbers → is_one_of ts t ≡ true → top_in marks t ≡ None) → (t : ℕ) → is_one_of ts t ≡ true → top_in marks t ≡ None
all_closed numbers marks ts many closed t so = elim (cases_lt t numbers) [
  | inl lt ↦ closed t lt so
  | inr past ↦ top_past marks t (omega (arith, many))
]

pub returns-in_err-told-clause-does : goal.returns-in_err-told-clause-does
returns-in_err-told-clause-does g c =
    let view = g.S.EawStore.view in
    let inner = c.self.inside.store in
    let marks = c.self.inside.marks.items in
    let alive : (view inner).is_dead ≡ false = sym c.is_dead.ensures ∙ c.if-is_dead.false in
    let closed = all_closed (view inner).shape.numbers marks (members c.args.tids) c.self.invariant.many ((rw (← c.self.view_is) at c.requires.closed) alive) in
    let told : IsTrue g.S.EawStore.tells → IsTold (view inner) = λ tell. record {
      long = g.met.S.EawStore.long inner tell;
      outlines = λ u. g.met.S.EawStore.outlines inner u tell alive;
      placed = g.met.S.EawStore.placed inner;
    } in
    let old : PagesView = record { store = view inner; counts = counts_in marks; top = top_in marks } in
    let new : PagesView = record { store = view c.commit_group.new.self; counts = counts_in marks; top = top_in marks } in
    let p = err_from_is_err_and c.from_residual.result c.from_residual.ensures.1 in
    rw (p.1, p.2, ← c.self.view_is)
    (group_does g.S.EawStore.tells (g.S.EawStore.opens (view inner).shape) (members c.args.tids) (members c.live_among-live.result) old new c.live_among-live.ensures closed (c.self.invariant.ordered alive) told
    c.commit_group.result (let r : Result (Unit {0}) PageFault = Err c.in_err-told.field-0.0 in r) c.in_err-told.ensures c.commit_group.ensures.does tt (refl, refl))

pub returns-in_err-told-clause-due : goal.returns-in_err-told-clause-due
returns-in_err-told-clause-due g c =
    let view = g.S.EawStore.view in
    let inner = c.self.inside.store in
    let whole : group_log (view inner).ranges (members c.live_among-live.result) ≡ group_log (view inner).ranges (members c.args.tids) =
    ap (group_log (view inner).ranges) c.live_among-live.ensures ∙ group_live (view inner).ranges (members c.args.tids) in
    let fault = c.in_err-told.field-0.0 in
    let p = err_from_is_err_and c.from_residual.result c.from_residual.ensures.1 in
    rw (p.1, p.2, ← c.self.view_is) (λ (is : IsErrOf (let r : Result (Unit {0}) PageFault = Err fault in r) Media).
    subst (λ (l : List (ℕ × ℕ)). 0 < length l) whole (c.commit_group.ensures.due (media_of c.commit_group.result fault c.in_err-told.ensures (IfErr-at_err (λ q. fault ≡ q) is refl))))

pub returns-in_err-told-clause-idle : goal.returns-in_err-told-clause-idle
returns-in_err-told-clause-idle g c =
    let view = g.S.EawStore.view in
    let inner = c.self.inside.store in
    let whole : group_log (view inner).ranges (members c.live_among-live.result) ≡ group_log (view inner).ranges (members c.args.tids) =
    ap (group_log (view inner).ranges) c.live_among-live.ensures ∙ group_live (view inner).ranges (members c.args.tids) in
    rw (← c.self.view_is) (λ none. c.commit_group.ensures.idle (ap length whole ∙ none))

-- what it does, over the store and the marks that it began with
done_does : (g : Over) (c : goal.After-self-1 g)
    → (let view = g.S.EawStore.view in
    let marks = c.self.inside.marks.items in
    let old : PagesView = record { store = view c.self.inside.store; counts = counts_in marks; top = top_in marks } in
    let new : PagesView = record { store = view c.commit_group.new.self; counts = counts_in c.forget_saves.new.marks; top = top_in c.forget_saves.new.marks } in
    let r : Result (Unit {0}) PageFault = Ok tt in
    Does g.S.EawStore.tells (g.S.EawStore.opens (view c.self.inside.store).shape) (end_group (members c.args.tids)) old new r)
done_does g c =
    let view = g.S.EawStore.view in
    let inner = c.self.inside.store in
    let marks = c.self.inside.marks.items in
    let alive : (view inner).is_dead ≡ false = sym c.is_dead.ensures ∙ c.if-is_dead.false in
    let closed = all_closed (view inner).shape.numbers marks (members c.args.tids) c.self.invariant.many ((rw (← c.self.view_is) at c.requires.closed) alive) in
    let told : IsTrue g.S.EawStore.tells → IsTold (view inner) = λ tell. record {
      long = g.met.S.EawStore.long inner tell;
      outlines = λ u. g.met.S.EawStore.outlines inner u tell alive;
      placed = g.met.S.EawStore.placed inner;
    } in
    let old : PagesView = record { store = view inner; counts = counts_in marks; top = top_in marks } in
    let new : PagesView = record { store = view c.commit_group.new.self; counts = counts_in c.forget_saves.new.marks; top = top_in c.forget_saves.new.marks } in
    let lent = c.deref_mut.ensures.value in
    group_does g.S.EawStore.tells (g.S.EawStore.opens (view inner).shape) (members c.args.tids) (members c.live_among-live.result) old new c.live_among-live.ensures closed (c.self.invariant.ordered alive) told
    c.commit_group.result (let r : Result (Unit {0}) PageFault = Ok tt in r) c.in_ok-told.ensures c.commit_group.ensures.does
    (c.forget_saves.ensures.counts ∙ ap (λ (ms : List Marked). with_each (counts_in ms) (members c.args.tids) []) lent, c.forget_saves.ensures.top ∙ ap top_in lent) tt

pub invariant_of-self-2 : goal.invariant_of-self-2
invariant_of-self-2 g c =
    let view = g.S.EawStore.view in
    let inner = c.self.inside.store in
    let marks = c.self.inside.marks.items in
    let alive : (view inner).is_dead ≡ false = sym c.is_dead.ensures ∙ c.if-is_dead.false in
    let closed = all_closed (view inner).shape.numbers marks (members c.args.tids) c.self.invariant.many ((rw (← c.self.view_is) at c.requires.closed) alive) in
    let does = done_does g c in
    let many = c.forget_saves.ensures.many ∙ ap length c.deref_mut.ensures.value in
    let same = written_over c.self.inside.marks.len marks c.forget_saves.new.marks c.self.inside.marks.ok.0 many in
    rw (same) (record {
      many = many ∙ c.self.invariant.many ∙ (λ i. (sym does.shape i).numbers);
      ordered = λ living. subst IsOrdered (sym does.done.outline) (ordered_after (view inner).shape (outline_in (view inner) marks) (c.self.invariant.ordered alive) (end_group (members c.args.tids)) closed);
    })

pub returns-clause-does : goal.returns-clause-does
returns-clause-does g c =
    let many = c.forget_saves.ensures.many ∙ ap length c.deref_mut.ensures.value in
    let same = written_over c.self.inside.marks.len c.self.inside.marks.items c.forget_saves.new.marks c.self.inside.marks.ok.0 many in
    rw (← c.self.view_is, same) (done_does g c)

pub returns-clause-idle : goal.returns-clause-idle
returns-clause-idle g c =
    let view = g.S.EawStore.view in
    let inner = c.self.inside.store in
    let whole : group_log (view inner).ranges (members c.live_among-live.result) ≡ group_log (view inner).ranges (members c.args.tids) =
    ap (group_log (view inner).ranges) c.live_among-live.ensures ∙ group_live (view inner).ranges (members c.args.tids) in
    rw (← c.self.view_is) (λ none. c.commit_group.ensures.idle (ap length whole ∙ none))

pub returns-then-is_dead-clause-does : goal.returns-then-is_dead-clause-does
returns-then-is_dead-clause-does g c =
    let s = g.S.EawStore in
    rw (← c.self.view_is) (unchanged s.tells (s.opens (s.view c.self.inside.store).shape) (end_group (members c.args.tids)) _ Dead (λ is. cc) (sym c.is_dead.ensures ∙ c.if-is_dead.true))
