use Rattle.std.proofs.Common.{◌≡◌, ℕ, ◌<◌, ◌∷◌, [], ◌++◌, List, None, false, Err, Result, length, get_or, set, refl, sym, ◌∙◌, ap, subst, arith}
use Rattle.std.specs.Prelude.{IsTrue}
use Rattle.std.proofs.lemmas.List.{length-set, set-get_or}
use Rattle.eaw_face.specs.State.{listed}
use Rattle.eaw_face.specs.StoreView.{StoreView}
use Rattle.page_store.specs.State.{with_one}
use Rattle.page_store.specs.Command.{save}
use Rattle.page_store.specs.Marked.{Marked}
use Rattle.page_store.specs.Outline.{outline_after}
use Rattle.page_store.specs.Kept.{IsOrdered}
use Rattle.page_store.specs.Invariant.{outline_in}
use Rattle.page_store.specs.Shown.{PagesView, counts_in, top_in}
use Rattle.page_store.proofs.Shown.{IsTold}
use Rattle.page_store.proofs.Ordered.{ordered_after}
use Rattle.page_store.proofs.Lifting.{still, unchanged}
use Rattle.page_store.proofs.Marking.{was, counts_become, top_stay, counts_now}
use Rattle.page_store.specs.declared.fault.PageFault.TheVariants.{Dead, SavesFull}
use Rattle.page_store.specs.declared.fault.PageFault.{PageFault}
use Rattle.page_store.specs.Does.{Does}
use Rattle.page_store.proofs.pages.Pages.save.Goals as goal

-- the marks of one number, with one more save
module _ (store : StoreView) (marks : List Marked) (t k : ℕ) (k_is : k ≡ t) (there : t < length marks) (m m' : Marked) (m_is : m ≡ get_or marks k m)
    (n : ℕ) (n_is : n ≡ length (listed (store.ranges t))) (after : m' ≡ record m { counts = m.counts ++ n ∷ [] }) where
  counts_after : counts_in (set marks k m') ≡ with_one (counts_in marks) t (counts_in marks t ++ length (listed (store.ranges t)) ∷ [])
  counts_after = counts_become marks t k k_is there m m m_is m' _ (ap (λ x. x.counts) after ∙ (λ i. sym (was marks t k k_is there m m m_is).0 i ++ n_is i ∷ []))

  top_after : top_in (set marks k m') ≡ top_in marks
  top_after = top_stay marks t k k_is there m m m_is m' (ap (λ x. x.top) after)

  saved_outline : outline_in store (set marks k m') ≡ outline_after (save t) (outline_in store marks)
  saved_outline = λ i. record { ranges = store.ranges; counts = counts_after i; top = top_after i }

pub save-requires : goal.save-requires
save-requires g c = c.if-is_full.ensures.room

pub invariant_of-self-2 : goal.invariant_of-self-2
invariant_of-self-2 g c =
    let view = g.S.EawStore.view c.self.inside.store in
    let marks = c.self.inside.marks.items in
    let alive : view.is_dead ≡ false = sym c.is_dead.ensures ∙ c.if-is_dead.false in
    let there : c.args.tid < length marks = omega (arith, c.self.invariant.many, rw (← c.self.view_is) at c.requires.tid) in
    let closed : top_in marks c.args.tid ≡ None = rw (← c.self.view_is) at c.requires.closed alive in
    let out = saved_outline view marks c.args.tid c.from.result c.from.ensures there c.index_mut-marks.result.now c.save.new.self c.index_mut-marks.ensures.value c.log_len-count.result c.log_len-count.ensures c.save.ensures in
    record {
      many = length-set marks c.from.result c.save.new.self ∙ c.self.invariant.many;
      ordered = λ living. subst IsOrdered (sym out) (ordered_after view.shape (outline_in view marks) (c.self.invariant.ordered alive) (save c.args.tid) closed);
    }

pub returns-clause-does : goal.returns-clause-does
returns-clause-does g c =
    let view = g.S.EawStore.view c.self.inside.store in
    let marks = c.self.inside.marks.items in
    let alive : view.is_dead ≡ false = sym c.is_dead.ensures ∙ c.if-is_dead.false in
    let there : c.args.tid < length marks = omega (arith, c.self.invariant.many, rw (← c.self.view_is) at c.requires.tid) in
    let closed : top_in marks c.args.tid ≡ None = rw (← c.self.view_is) at c.requires.closed alive in
    let old : PagesView = record { store = view; counts = counts_in marks; top = top_in marks } in
    let new : PagesView = record { store = view; counts = counts_in (set marks c.from.result c.save.new.self); top = top_in (set marks c.from.result c.save.new.self) } in
    let told : IsTrue g.S.EawStore.tells → IsTold view = λ tell. record {
      long = g.met.S.EawStore.long c.self.inside.store tell;
      outlines = λ t. g.met.S.EawStore.outlines c.self.inside.store t tell alive;
      placed = g.met.S.EawStore.placed c.self.inside.store;
    } in
    let counts = counts_after view marks c.args.tid c.from.result c.from.ensures there c.index_mut-marks.result.now c.save.new.self c.index_mut-marks.ensures.value c.log_len-count.result c.log_len-count.ensures c.save.ensures in
    let top = top_after view marks c.args.tid c.from.result c.from.ensures there c.index_mut-marks.result.now c.save.new.self c.index_mut-marks.ensures.value c.log_len-count.result c.log_len-count.ensures c.save.ensures in
    let few = subst (λ ns. length ns < 32) (sym (was marks c.args.tid c.from.result c.from.ensures there c.index_mut-marks.result.now c.index_mut-marks.result.now c.index_mut-marks.ensures.value).0) c.if-is_full.ensures.room in
    rw (← c.self.view_is) (still g.S.EawStore.tells (g.S.EawStore.opens view.shape) (save c.args.tid) old new refl alive closed (c.self.invariant.ordered alive) told refl counts top c.saves.result few)

pub returns-clause-count : goal.returns-clause-count
returns-clause-count g c =
    let marks = c.self.inside.marks.items in
    let there : c.args.tid < length marks = omega (arith, c.self.invariant.many, rw (← c.self.view_is) at c.requires.tid) in
    c.saves.ensures.count ∙ ap length (sym (ap (λ (j : ℕ). counts_in (set marks j c.save.new.self) c.args.tid) c.from.ensures ∙ counts_now marks c.args.tid c.save.new.self _ there refl))

pub returns-then-is_dead-clause-count : goal.returns-then-is_dead-clause-count
returns-then-is_dead-clause-count g c = tt

pub returns-then-is_full-clause-count : goal.returns-then-is_full-clause-count
returns-then-is_full-clause-count g c = tt

pub returns-clause-refused : goal.returns-clause-refused
returns-clause-refused g c = tt

pub returns-then-is_dead-clause-does : goal.returns-then-is_dead-clause-does
returns-then-is_dead-clause-does g c =
    let s = g.S.EawStore in
    rw (← c.self.view_is) (unchanged s.tells (s.opens (s.view c.self.inside.store).shape) (save c.args.tid) _ Dead (λ is. cc) (sym c.is_dead.ensures ∙ c.if-is_dead.true))

pub returns-then-is_full-clause-does : goal.returns-then-is_full-clause-does
returns-then-is_full-clause-does g c =
    let s = g.S.EawStore in
    let view = s.view c.self.inside.store in
    let marks = c.self.inside.marks.items in
    let m = c.index_mut-marks.result.now in
    let alive : view.is_dead ≡ false = sym c.is_dead.ensures ∙ c.if-is_dead.false in
    let there : c.args.tid < length marks = omega (arith, c.self.invariant.many, rw (← c.self.view_is) at c.requires.tid) in
    let full : length (counts_in marks c.args.tid) ≡ 32 = ap length (was marks c.args.tid c.from.result c.from.ensures there m m c.index_mut-marks.ensures.value).0 ∙ c.if-is_full.ensures.full in
    let same : set marks c.from.result m ≡ marks = ap (λ (x : Marked). set marks c.from.result x) c.index_mut-marks.ensures.value ∙ set-get_or marks c.from.result m in
    let old : PagesView = record { store = view; counts = counts_in marks; top = top_in marks } in
    rw (← c.self.view_is) (subst
    (λ (ms : List Marked).
    let r : Result ℕ PageFault = Err SavesFull in
    let now : PagesView = record { store = view; counts = counts_in ms; top = top_in ms } in
    Does s.tells (s.opens view.shape) (save c.args.tid) old now r)
    (sym same)
    (unchanged s.tells (s.opens view.shape) (save c.args.tid) old SavesFull (λ is. cc) (alive, full)))
