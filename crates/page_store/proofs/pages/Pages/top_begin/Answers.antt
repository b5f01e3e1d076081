use Rattle.std.proofs.Common.{◌≡◌, ◌<◌, Some, None, false, length, set, refl, sym, ◌∙◌, ap, subst, arith}
use Rattle.std.specs.Prelude.{IsTrue}
use Rattle.std.proofs.lemmas.List.{length-set}
use Rattle.page_store.specs.Command.{top_begin}
use Rattle.page_store.specs.Kept.{IsOrdered}
use Rattle.page_store.specs.Does.{Becomes}
use Rattle.page_store.specs.Invariant.{outline_in}
use Rattle.page_store.specs.Shown.{PagesView, counts_in, top_in}
use Rattle.page_store.proofs.Shown.{IsTold}
use Rattle.page_store.proofs.Ordered.{ordered_after}
use Rattle.page_store.proofs.Lifting.{still_becomes}
use Rattle.page_store.proofs.Marking.{counts_stay, top_become}
use Rattle.page_store.proofs.pages.Pages.top_begin.Given as given
use Rattle.page_store.proofs.pages.Pages.top_begin.Goals as goal

-- what it does while the store is not dead, over the store and the marks that it began with
begun : (g : given.Over) (c : goal.After-self-1 g) → (g.S.EawStore.view c.self.inside.store).is_dead ≡ false
    → (let view = g.S.EawStore.view in
    let marks = c.self.inside.marks.items in
    let old : PagesView = record { store = view c.self.inside.store; counts = counts_in marks; top = top_in marks } in
    let marks' = set marks c.from.result c.begin_top.new.self in
    let new : PagesView = record { store = view c.self.inside.store; counts = counts_in marks'; top = top_in marks' } in
    Becomes g.S.EawStore.tells (top_begin c.args.tid) old new)
begun g c alive =
    let view = g.S.EawStore.view in
    let store = view c.self.inside.store in
    let marks = c.self.inside.marks.items in
    let t = c.args.tid in
    let old : PagesView = record { store = store; counts = counts_in marks; top = top_in marks } in
    let marks' = set marks c.from.result c.begin_top.new.self in
    let new : PagesView = record { store = store; counts = counts_in marks'; top = top_in marks' } in
    let there : c.args.tid < length marks = omega (arith, c.self.invariant.many, rw (← c.self.view_is) at c.requires.tid) in
    let closed : top_in marks c.args.tid ≡ None = rw (← c.self.view_is) at c.requires.closed alive in
    let told : IsTrue g.S.EawStore.tells → IsTold store = λ tell. record {
      long = g.met.S.EawStore.long c.self.inside.store tell;
      outlines = λ u. g.met.S.EawStore.outlines c.self.inside.store u tell alive;
      placed = g.met.S.EawStore.placed c.self.inside.store;
    } in
    let m = c.index_mut.result.now in
    still_becomes g.S.EawStore.tells (g.S.EawStore.opens store.shape) (top_begin t) old new refl alive closed (c.self.invariant.ordered alive) told refl
    (counts_stay marks t c.from.result c.from.ensures there m m c.index_mut.ensures.value c.begin_top.new.self (ap (λ x. x.counts) c.begin_top.ensures))
    (top_become marks t c.from.result c.from.ensures there m m c.index_mut.ensures.value c.begin_top.new.self _ (ap (λ x. x.top) c.begin_top.ensures ∙ ap Some c.log_len-mark.ensures))

pub invariant_of-self : goal.invariant_of-self
invariant_of-self g c =
    let store = g.S.EawStore.view c.self.inside.store in
    let marks = c.self.inside.marks.items in
    record {
      many = length-set marks c.from.result c.begin_top.new.self ∙ c.self.invariant.many;
      ordered = λ alive. subst IsOrdered (sym (begun g c alive).outline)
          (ordered_after store.shape (outline_in store marks) (c.self.invariant.ordered alive) (top_begin c.args.tid) (rw (← c.self.view_is) at c.requires.closed alive));
    }

pub returns-clause-begun : goal.returns-clause-begun
returns-clause-begun g c = rw (← c.self.view_is) (λ alive. begun g c alive)
