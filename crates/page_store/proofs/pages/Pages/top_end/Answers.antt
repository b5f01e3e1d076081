use Rattle.std.proofs.Common.{◌≡◌, ◌<◌, Some, None, false, Ok, Result, length, set, refl, sym, ◌∙◌, ap, subst, arith}
use Rattle.std.specs.Prelude.{IsTrue}
use Rattle.std.proofs.lemmas.List.{length-set}
use Rattle.eaw_face.specs.Command.{nested_top}
use Rattle.page_store.specs.Command.{top_end}
use Rattle.page_store.specs.Kept.{IsOrdered}
use Rattle.page_store.specs.Does.{Does}
use Rattle.page_store.specs.Invariant.{outline_in}
use Rattle.page_store.specs.Shown.{PagesView, counts_in, top_in}
use Rattle.page_store.specs.declared.fault.PageFault.{PageFault}
use Rattle.page_store.proofs.Shown.{IsTold}
use Rattle.page_store.proofs.Ordered.{ordered_after}
use Rattle.page_store.proofs.Lifting.{live_does, unchanged}
use Rattle.page_store.proofs.Marking.{was, counts_stay, top_become}
use Rattle.page_store.proofs.pages.Pages.top_end.Given as given
use Rattle.page_store.specs.declared.fault.PageFault.TheVariants.{Dead}
use Rattle.page_store.proofs.pages.Pages.top_end.Goals as goal

-- what it does, over the store and the marks that it began with
done_does : (g : given.Over) (c : goal.After-self-1 g)
    → (let view = g.S.EawStore.view in
    let marks = c.self.inside.marks.items in
    let old : PagesView = record { store = view c.self.inside.store; counts = counts_in marks; top = top_in marks } in
    let marks' = set marks c.from.result c.end_top.new.self in
    let new : PagesView = record { store = view c.commit_from.new.store; counts = counts_in marks'; top = top_in marks' } in
    let r : Result (Unit {0}) PageFault = Ok tt in
    Does g.S.EawStore.tells (g.S.EawStore.opens (view c.self.inside.store).shape) (top_end c.args.tid c.args.mark) old new r)
done_does g c =
    let view = g.S.EawStore.view in
    let store = view c.self.inside.store in
    let marks = c.self.inside.marks.items in
    let t = c.args.tid in
    let old : PagesView = record { store = store; counts = counts_in marks; top = top_in marks } in
    let marks' = set marks c.from.result c.end_top.new.self in
    let new : PagesView = record { store = view c.commit_from.new.store; counts = counts_in marks'; top = top_in marks' } in
    let alive : store.is_dead ≡ false = sym c.is_dead.ensures ∙ c.if-is_dead.false in
    let there : c.args.tid < length marks = omega (arith, c.self.invariant.many, rw (← c.self.view_is) at c.requires.tid) in
    let told : IsTrue g.S.EawStore.tells → IsTold store = λ tell. record {
      long = g.met.S.EawStore.long c.self.inside.store tell;
      outlines = λ u. g.met.S.EawStore.outlines c.self.inside.store u tell alive;
      placed = g.met.S.EawStore.placed c.self.inside.store;
    } in
    let m = c.index_mut.result.now in
    let kept = was marks t c.from.result c.from.ensures there m m c.index_mut.ensures.value in
    let open_is : top_in marks c.args.tid ≡ Some c.args.mark = rw (← c.self.view_is) at c.requires.open alive in
    live_does g.S.EawStore.tells (g.S.EawStore.opens store.shape) (top_end c.args.tid c.args.mark) (nested_top c.args.tid c.args.mark) t old new
    (refl)
    alive open_is (c.self.invariant.ordered alive) told tt (λ j h n no. no) (λ u ne is. ne is) (let r : Result (Unit {0}) PageFault = Ok tt in r)
    c.in_ok-commit_from.ensures.does (λ same. ap view same)
    (counts_stay marks t c.from.result c.from.ensures there m m c.index_mut.ensures.value c.end_top.new.self (ap (λ x. x.counts) c.end_top.ensures), top_become marks t c.from.result c.from.ensures there m m c.index_mut.ensures.value c.end_top.new.self None (ap (λ x. x.top) c.end_top.ensures)) tt

pub invariant_of-self-2 : goal.invariant_of-self-2
invariant_of-self-2 g c =
    let store = g.S.EawStore.view c.self.inside.store in
    let marks = c.self.inside.marks.items in
    let alive : store.is_dead ≡ false = sym c.is_dead.ensures ∙ c.if-is_dead.false in
    let does = done_does g c in
    let open_is : top_in marks c.args.tid ≡ Some c.args.mark = rw (← c.self.view_is) at c.requires.open alive in
    record {
      many = length-set marks c.from.result c.end_top.new.self ∙ c.self.invariant.many ∙ (λ i. (sym does.shape i).numbers);
      ordered = λ living. subst IsOrdered (sym does.done.outline) (ordered_after store.shape (outline_in store marks) (c.self.invariant.ordered alive) (top_end c.args.tid c.args.mark) open_is);
    }

pub returns-clause-does : goal.returns-clause-does
returns-clause-does g c = rw (← c.self.view_is) (done_does g c)

pub returns-then-is_dead-clause-due : goal.returns-then-is_dead-clause-due
returns-then-is_dead-clause-due g c = λ is. cc

pub returns-clause-due : goal.returns-clause-due
returns-clause-due g c = λ is. cc

pub returns-clause-refused : goal.returns-clause-refused
returns-clause-refused g c = tt

pub returns-then-is_dead-clause-does : goal.returns-then-is_dead-clause-does
returns-then-is_dead-clause-does g c =
    let s = g.S.EawStore in
    rw (← c.self.view_is) (unchanged s.tells (s.opens (s.view c.self.inside.store).shape) (top_end c.args.tid c.args.mark) _ Dead (λ is. cc) (sym c.is_dead.ensures ∙ c.if-is_dead.true))
