use Rattle.std.proofs.Common.{◌≡◌, ℕ, ◌-◌, ◌<◌, List, None, false, Ok, Result, length, get_or, set, take, sym, ◌∙◌, ap, subst, arith}
use Rattle.std.specs.Prelude.{IsTrue}
use Rattle.std.proofs.lemmas.Bool.{false≢true}
use Rattle.std.proofs.lemmas.List.{length-set}
use Rattle.eaw_face.specs.Command.{partial_abort}
use Rattle.page_store.specs.Command.{back}
use Rattle.page_store.specs.Outline.{count_at}
use Rattle.page_store.specs.Device.{if_live}
use Rattle.page_store.specs.Kept.{IsOrdered}
use Rattle.page_store.specs.Does.{Does}
use Rattle.page_store.specs.Invariant.{outline_in}
use Rattle.page_store.specs.Shown.{PagesView, counts_in, top_in, outline_of}
use Rattle.page_store.specs.declared.fault.PageFault.{PageFault}
use Rattle.page_store.proofs.Shown.{IsTold}
use Rattle.page_store.proofs.Ordered.{ordered_after}
use Rattle.page_store.proofs.Lifting.{live_does, unchanged}
use Rattle.page_store.proofs.Marking.{was, counts_become, top_stay}
use Rattle.page_store.proofs.pages.Pages.back.Given as given
use Rattle.page_store.specs.declared.fault.PageFault.TheVariants.{Dead}
use Rattle.page_store.proofs.pages.Pages.back.Goals as goal

-- what it does, over the store and the marks that it began with
done_does : (g : given.Over) (c : goal.After-self-1 g)
    → (let view = g.S.EawStore.view in
    let marks = c.self.inside.marks.items in
    let old : PagesView = record { store = view c.self.inside.store; counts = counts_in marks; top = top_in marks } in
    let marks' = set marks c.from-2.result c.cut.new.self in
    let new : PagesView = record { store = view c.drop_from.new.store; counts = counts_in marks'; top = top_in marks' } in
    let r : Result (Unit {0}) PageFault = Ok tt in
    Does g.S.EawStore.tells (g.S.EawStore.opens (view c.self.inside.store).shape) (back c.args.tid c.args.n) old new r)
done_does g c =
    let view = g.S.EawStore.view in
    let store = view c.self.inside.store in
    let marks = c.self.inside.marks.items in
    let t = c.args.tid in
    let old : PagesView = record { store = store; counts = counts_in marks; top = top_in marks } in
    let marks' = set marks c.from-2.result c.cut.new.self in
    let new : PagesView = record { store = view c.drop_from.new.store; counts = counts_in marks'; top = top_in marks' } in
    let alive : store.is_dead ≡ false = sym c.is_dead.ensures ∙ c.if-is_dead.false in
    let there : c.args.tid < length marks = omega (arith, c.self.invariant.many, rw (← c.self.view_is) at c.requires.tid) in
    let told : IsTrue g.S.EawStore.tells → IsTold store = λ tell. record {
      long = g.met.S.EawStore.long c.self.inside.store tell;
      outlines = λ u. g.met.S.EawStore.outlines c.self.inside.store u tell alive;
      placed = g.met.S.EawStore.placed c.self.inside.store;
    } in
    let m = c.index_mut.result.now in
    let kept = was marks t c.from-2.result c.from-2.ensures there m m c.index_mut.ensures.value in
    let closed : top_in marks c.args.tid ≡ None = rw (← c.self.view_is) at c.requires.closed alive in
    let enough = rw (← c.self.view_is) at c.requires.there in
    let saved = was marks t c.from.result c.from.ensures there c.index.result.now c.index.result.now c.index.ensures in
    let count : c.at_save-count.result ≡ count_at (counts_in marks t) c.args.n = c.at_save-count.ensures ∙ ap (λ (ns : List ℕ). get_or ns (c.args.n - 1) 0) (sym saved.0) in
    live_does g.S.EawStore.tells (g.S.EawStore.opens store.shape) (back c.args.tid c.args.n) (partial_abort c.args.tid c.at_save-count.result) t old new
    (ap (λ (k : ℕ). if_live (outline_of old) t (partial_abort t k)) (sym count))
    alive (c.requires.some, enough, closed) (c.self.invariant.ordered alive) told tt (λ j h n no. no) (λ u ne is. ne is) (let r : Result (Unit {0}) PageFault = Ok tt in r)
    c.in_ok-drop_from.ensures.does (λ same. ap view same)
    (counts_become marks t c.from-2.result c.from-2.ensures there m m c.index_mut.ensures.value c.cut.new.self _ (ap (λ x. x.counts) c.cut.ensures ∙ ap (take c.args.n) (sym kept.0)), top_stay marks t c.from-2.result c.from-2.ensures there m m c.index_mut.ensures.value c.cut.new.self (ap (λ x. x.top) c.cut.ensures)) tt

pub invariant_of-self-2 : goal.invariant_of-self-2
invariant_of-self-2 g c =
    let store = g.S.EawStore.view c.self.inside.store in
    let marks = c.self.inside.marks.items in
    let alive : store.is_dead ≡ false = sym c.is_dead.ensures ∙ c.if-is_dead.false in
    let does = done_does g c in
    let closed : top_in marks c.args.tid ≡ None = rw (← c.self.view_is) at c.requires.closed alive in
    let enough = rw (← c.self.view_is) at c.requires.there in
    record {
      many = length-set marks c.from-2.result c.cut.new.self ∙ c.self.invariant.many ∙ (λ i. (sym does.shape i).numbers);
      ordered = λ living. subst IsOrdered (sym does.done.outline) (ordered_after store.shape (outline_in store marks) (c.self.invariant.ordered alive) (back c.args.tid c.args.n) (c.requires.some, enough, closed));
    }

pub returns-clause-does : goal.returns-clause-does
returns-clause-does g c = rw (← c.self.view_is) (done_does g c)

pub returns-in_err-drop_from : goal.returns-in_err-drop_from
returns-in_err-drop_from g c = absurd (false≢true c.in_err-drop_from.ensures.done)

pub returns-clause-refused : goal.returns-clause-refused
returns-clause-refused g c = tt

pub at_save-count-requires-clause-some : goal.at_save-count-requires-clause-some
at_save-count-requires-clause-some g c = c.requires.some

pub at_save-count-requires-clause-there : goal.at_save-count-requires-clause-there
at_save-count-requires-clause-there g c =
    let marks = c.self.inside.marks.items in
    let there : c.args.tid < length marks = omega (arith, c.self.invariant.many, rw (← c.self.view_is) at c.requires.tid) in
    let saved = was marks c.args.tid c.from.result c.from.ensures there c.index.result.now c.index.result.now c.index.ensures in
    omega (arith, rw (← c.self.view_is) at c.requires.there, ap length saved.0)

pub returns-then-is_dead-clause-does : goal.returns-then-is_dead-clause-does
returns-then-is_dead-clause-does g c =
    let s = g.S.EawStore in
    rw (← c.self.view_is) (unchanged s.tells (s.opens (s.view c.self.inside.store).shape) (back c.args.tid c.args.n) _ Dead (λ is. cc) (sym c.is_dead.ensures ∙ c.if-is_dead.true))
