use Rattle.std.proofs.Common.{◌≡◌, ℕ, ◌<◌, Bool, true, [], Some, None, false, Ok, Result, length, set, refl, sym, ◌∙◌, ap, subst, arith}
use Rattle.std.specs.Prelude.{IsTrue, if◌then◌else◌}
use Rattle.std.proofs.lemmas.List.{length-set}
use Rattle.eaw_face.specs.StoreView.{StoreView}
use Rattle.eaw_face.specs.Causes.{room_for, IsNumberOf}
use Rattle.eaw_face.specs.Command.{Command, commit, abort}
use Rattle.page_store.specs.Command.{end}
use Rattle.page_store.specs.Kept.{IsOrdered}
use Rattle.page_store.specs.Does.{Does}
use Rattle.page_store.specs.Invariant.{outline_in}
use Rattle.page_store.specs.Shown.{PagesView, counts_in, top_in}
use Rattle.page_store.specs.declared.fault.PageFault.{PageFault}
use Rattle.page_store.proofs.Shown.{IsTold}
use Rattle.page_store.proofs.Ordered.{ordered_after}
use Rattle.page_store.proofs.Lifting.{live_does, unchanged}
use Rattle.page_store.proofs.Marking.{was, counts_become, top_stay}
use Rattle.page_store.proofs.pages.Pages.end.Given as given
use Rattle.page_store.specs.declared.fault.PageFault.TheVariants.{Dead}
use Rattle.page_store.proofs.pages.Pages.end.Goals as goal

abbrev ended : Bool → ℕ → Command
ended b t = if b then commit t else abort t

never_full : (store : StoreView) (b : Bool) (t g h n : ℕ) → room_for store (ended b t) (Some (g, h, n)) → ⊥
never_full store true t g h n full = full
never_full store false t g h n full = full

names : (b : Bool) (t u : ℕ) → IsNumberOf (ended b t) u → u ≡ t
names true t u is = is
names false t u is = is

-- what it does, over the store and the marks that it began with
done_does : (g : given.Over) (c : goal.After-self-1 g)
    → (let view = g.S.EawStore.view in
    let marks = c.self.inside.marks.items in
    let old : PagesView = record { store = view c.self.inside.store; counts = counts_in marks; top = top_in marks } in
    let marks' = set marks c.from.result c.cut.new.self in
    let new : PagesView = record { store = view c.end_number.new.store; counts = counts_in marks'; top = top_in marks' } in
    let r : Result (Unit {0}) PageFault = Ok tt in
    Does g.S.EawStore.tells (g.S.EawStore.opens (view c.self.inside.store).shape) (end c.args.tid c.args.commits) old new r)
done_does g c =
    let view = g.S.EawStore.view in
    let store = view c.self.inside.store in
    let marks = c.self.inside.marks.items in
    let t = c.args.tid in
    let old : PagesView = record { store = store; counts = counts_in marks; top = top_in marks } in
    let marks' = set marks c.from.result c.cut.new.self in
    let new : PagesView = record { store = view c.end_number.new.store; counts = counts_in marks'; top = top_in marks' } in
    let alive : store.is_dead ≡ false = sym c.is_dead.ensures ∙ c.if-is_dead.false in
    let there : c.args.tid < length marks = omega (arith, c.self.invariant.many, rw (← c.self.view_is) at c.requires.tid) in
    let told : IsTrue g.S.EawStore.tells → IsTold store = λ tell. record {
      long = g.met.S.EawStore.long c.self.inside.store tell;
      outlines = λ u. g.met.S.EawStore.outlines c.self.inside.store u tell alive;
      placed = g.met.S.EawStore.placed c.self.inside.store;
    } in
    let m = c.index_mut.result.now in
    let kept = was marks t c.from.result c.from.ensures there m m c.index_mut.ensures.value in
    let closed : top_in marks c.args.tid ≡ None = rw (← c.self.view_is) at c.requires.closed alive in
    live_does g.S.EawStore.tells (g.S.EawStore.opens store.shape) (end c.args.tid c.args.commits) (ended c.args.commits c.args.tid) t old new
    (refl)
    alive closed (c.self.invariant.ordered alive) told tt (λ j h n full. absurd (never_full store c.args.commits t j h n full)) (λ u ne is. ne (names c.args.commits t u is)) (let r : Result (Unit {0}) PageFault = Ok tt in r)
    c.in_ok-end_number.ensures.does (λ same. ap view same)
    (counts_become marks t c.from.result c.from.ensures there m m c.index_mut.ensures.value c.cut.new.self [] (ap (λ x. x.counts) c.cut.ensures), top_stay marks t c.from.result c.from.ensures there m m c.index_mut.ensures.value c.cut.new.self (ap (λ x. x.top) c.cut.ensures)) tt

pub invariant_of-self-2 : goal.invariant_of-self-2
invariant_of-self-2 g c =
    let store = g.S.EawStore.view c.self.inside.store in
    let marks = c.self.inside.marks.items in
    let alive : store.is_dead ≡ false = sym c.is_dead.ensures ∙ c.if-is_dead.false in
    let does = done_does g c in
    let closed : top_in marks c.args.tid ≡ None = rw (← c.self.view_is) at c.requires.closed alive in
    record {
      many = length-set marks c.from.result c.cut.new.self ∙ c.self.invariant.many ∙ (λ i. (sym does.shape i).numbers);
      ordered = λ living. subst IsOrdered (sym does.done.outline) (ordered_after store.shape (outline_in store marks) (c.self.invariant.ordered alive) (end c.args.tid c.args.commits) closed);
    }

pub returns-clause-does : goal.returns-clause-does
returns-clause-does g c = rw (← c.self.view_is) (done_does g c)

pub returns-then-is_dead-clause-due : goal.returns-then-is_dead-clause-due
returns-then-is_dead-clause-due g c = λ is. cc

pub returns-clause-due : goal.returns-clause-due
returns-clause-due g c = λ is. cc

pub returns-clause-refused : goal.returns-clause-refused
returns-clause-refused g c = tt

pub returns-then-is_dead-clause-does : goal.returns-then-is_dead-clause-does
returns-then-is_dead-clause-does g c =
    let s = g.S.EawStore in
    rw (← c.self.view_is) (unchanged s.tells (s.opens (s.view c.self.inside.store).shape) (end c.args.tid c.args.commits) _ Dead (λ is. cc) (sym c.is_dead.ensures ∙ c.if-is_dead.true))
