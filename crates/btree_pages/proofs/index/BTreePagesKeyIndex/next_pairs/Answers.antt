use Rattle.std.proofs.lemmas.Bool.{eqb-true, eqb-false}
use Rattle.std.proofs.Common.{◌≡◌, ◌∙◌, ℕ, Bool, false, [], Option, refl, sym, ap, subst, arith}
use Rattle.page_store.specs.Index.{slots_of}
use Rattle.page_store.specs.Looks.{Looks}
use Rattle.page_store.specs.Shown.{pages_of}
use Rattle.page_store.specs.Pairs.{AreInside}
use Rattle.index_pages.proofs.Looking.{looks_next}
use Rattle.index_pages.proofs.Turns.{inside_less}
use Rattle.btree_pages.specs.Leaf.{Reaches}
use Rattle.btree_pages.specs.Start.{key_of}
use Rattle.btree_pages.specs.declared.look.Reached.{Reached}
use Rattle.btree_pages.proofs.Nexting.{no_error, other_error, begun_fine, look_before, reached_some, reached_end, ok_at}
use Rattle.index_pages.proofs.Faulting.{dead_look}
use Rattle.std.proofs.Common.{Some}
use Rattle.index_pages.proofs.Courses.{walks_ok, walks_err}
use Rattle.btree_pages.specs.Downward.{down, down_and_on, pairs_at, Gathered}
use Rattle.btree_pages.proofs.Turning.{first_way, some_answer, end_answer, again_err, again_ok, begun_items}
use Rattle.std.proofs.lemmas.Result.{err_from_is_err_and}
use Rattle.btree_pages.proofs.index.BTreePagesKeyIndex.next_pairs.Goals as goal

pub returns-in_err-at : goal.returns-in_err-at
returns-in_err-at g c =
    let exit = err_from_is_err_and c.from_residual.result c.from_residual.ensures.1 in
    rw (exit.1, exit.2) (record {
      looks = c.in_err-at.ensures.looks;
      cause = c.in_err-at.ensures.cause;
      follows = walks_err g.S.EawStore.tells (g.S.EawStore.calls c.args.pages.now.store) (g.S.EawStore.calls c.reach.new.pages.store) (down c.args.root c.args.from) (down_and_on c.args.root c.args.from) 8 15
          (Gathered c.args.from) (λ some read. pairs_at c.args.from read ≡ Some some.items) (g.S.EawStore.view c.args.pages.now.store) (g.S.EawStore.view c.reach.new.pages.store) (first_way c.args.root c.args.from) (omega arith) c.in_err-at.field-0.0 c.in_err-at.ensures.walks;
      next = λ told. tt;
      inside = tt;
      dead = λ told. c.in_err-at.ensures.dead (other_error _ Reached _ _ told);
    })

pub returns-then-not-is_empty : goal.returns-then-not-is_empty
returns-then-not-is_empty g c = record {
  looks = c.in_ok-at.ensures.looks;
  cause = c.in_ok-at.ensures.cause;
  follows = walks_ok g.S.EawStore.tells (g.S.EawStore.calls c.args.pages.now.store) (g.S.EawStore.calls c.reach.new.pages.store) (down c.args.root c.args.from) (down_and_on c.args.root c.args.from) 8 15
      (Gathered c.args.from) (λ some read. pairs_at c.args.from read ≡ Some some.items) (g.S.EawStore.view c.args.pages.now.store) (g.S.EawStore.view c.reach.new.pages.store) (first_way c.args.root c.args.from) (omega arith) c.in_ok-at.at _ c.in_ok-at.ensures.walks
      (λ read way ends. some_answer c.args.root c.args.from c.in_ok-at.at read way ends (omega (arith, eqb-false _ 0 (sym c.if-not-is_empty.ensures))));
  next = λ told. reached_some (record { page = c.args.root; table = c.args.table }) (g.S.EawStore.view c.args.pages.now.store).state.bytes c.args.from c.in_ok-at.at.some.items (c.in_ok-at.ensures.reaches told).0 (c.in_ok-at.ensures.reaches told).1 (omega (arith, eqb-false _ 0 (sym c.if-not-is_empty.ensures)));
  inside = c.in_ok-at.ensures.inside;
  dead = λ told. no_error _ _ told;
}

pub returns-in_default : goal.returns-in_default
returns-in_default g c = record {
  looks = c.in_ok-at.ensures.looks;
  cause = c.in_ok-at.ensures.cause;
  follows = walks_ok g.S.EawStore.tells (g.S.EawStore.calls c.args.pages.now.store) (g.S.EawStore.calls c.reach.new.pages.store) (down c.args.root c.args.from) (down_and_on c.args.root c.args.from) 8 15
      (Gathered c.args.from) (λ some read. pairs_at c.args.from read ≡ Some some.items) (g.S.EawStore.view c.args.pages.now.store) (g.S.EawStore.view c.reach.new.pages.store) (first_way c.args.root c.args.from) (omega arith) c.in_ok-at.at _ c.in_ok-at.ensures.walks
      (λ read way ends. end_answer c.args.root c.args.from c.in_ok-at.at read way ends (eqb-true _ 0 (sym c.if-not-is_empty.ensures)) c.in_default.is);
  next = λ told. reached_end (record { page = c.args.root; table = c.args.table }) (g.S.EawStore.view c.args.pages.now.store).state.bytes c.args.from c.in_ok-at.at.some.items (let at = c.in_ok-at.ensures.reaches told in subst (λ (o : Option ℕ). Reaches (record { page = c.args.root; table = c.args.table }) (g.S.EawStore.view c.args.pages.now.store).state.bytes c.args.from c.in_ok-at.at.some.items o) (at.2 refl ∙ ap key_of c.in_default.is) at.1) (eqb-true _ 0 (sym c.if-not-is_empty.ensures));
  inside = c.in_ok-at.ensures.inside;
  dead = λ told. no_error _ _ told;
}

pub returns-in_err-later : goal.returns-in_err-later
returns-in_err-later g c =
    let exit = err_from_is_err_and c.from_residual-in_err-later.result c.from_residual-in_err-later.ensures.1 in
    rw (exit.1, exit.2) (record {
      looks = looks_next g.S.EawStore.tells g.S.EawStore.opens _ (pages_of (g.S.EawStore.view c.args.pages.now.store) c.args.pages.now) (pages_of (g.S.EawStore.view c.reach.new.pages.store) c.reach.new.pages) (pages_of (g.S.EawStore.view c.reach-2.new.pages.store) c.reach-2.new.pages) c.in_ok-at.ensures.looks c.in_err-later.ensures.looks;
      cause = look_before Reached Reached g.S.EawStore.tells (g.S.EawStore.view c.args.pages.now.store) (g.S.EawStore.view c.reach.new.pages.store) c.in_err-later.field-0.0 (c.in_ok-at.ensures.looks.still refl) c.in_err-later.ensures.cause;
      follows = again_err c.args.root c.args.from c.in-Some.next_start c.in_ok-at.at (eqb-true _ 0 (sym c.if-not-is_empty.ensures)) c.in-Some.is (λ some. some.items)
          g.S.EawStore.tells (g.S.EawStore.calls c.args.pages.now.store) (g.S.EawStore.calls c.reach.new.pages.store) (g.S.EawStore.calls c.reach-2.new.pages.store)
          (g.S.EawStore.view c.args.pages.now.store) (g.S.EawStore.view c.reach.new.pages.store) (g.S.EawStore.view c.reach-2.new.pages.store) (c.in_ok-at.ensures.looks.still refl) c.in_ok-at.ensures.looks.shape (rw c.in-Some.is at c.in_ok-at.ensures.behind).fewer c.in_ok-at.ensures.walks c.in_err-later.field-0.0 c.in_err-later.ensures.walks;
      next = λ told. tt;
      inside = tt;
      dead = λ told. dead_look Reached g.S.EawStore.tells (g.S.EawStore.view c.reach.new.pages.store) c.in_err-later.field-0.0 ((c.in_ok-at.ensures.looks.still refl).dead ∙ c.in_ok-at.ensures.cause) (let e : c.in_err-later.field-0.0 ≡ _ = cc in e) c.in_err-later.ensures.cause;
    })

pub returns-clause-inside : goal.returns-clause-inside
returns-clause-inside g c =
    let slots : slots_of (g.S.EawStore.view c.reach.new.pages.store).shape ≡ slots_of (g.S.EawStore.view c.args.pages.now.store).shape = ap slots_of c.in_ok-at.ensures.looks.shape in
    ok_at c.begun.result c.in_ok-later.later.some _ (λ some. AreInside c.args.from (slots_of (g.S.EawStore.view c.args.pages.now.store).shape) some.items) c.begun.ensures.some
    (subst (λ (n : ℕ). AreInside c.args.from n c.in_ok-later.later.some.items) slots
    (inside_less c.args.from c.in-Some.next_start.key (slots_of (g.S.EawStore.view c.reach.new.pages.store).shape) c.in_ok-later.later.some.items (omega (arith, (rw c.in-Some.is at c.in_ok-at.ensures.behind).above)) c.in_ok-later.ensures.inside))

pub returns-clause-follows : goal.returns-clause-follows
returns-clause-follows g c =
    again_ok c.args.root c.args.from c.in-Some.next_start c.in_ok-at.at (eqb-true _ 0 (sym c.if-not-is_empty.ensures)) c.in-Some.is (λ some. some.items)
    g.S.EawStore.tells (g.S.EawStore.calls c.args.pages.now.store) (g.S.EawStore.calls c.reach.new.pages.store) (g.S.EawStore.calls c.reach-2.new.pages.store)
    (g.S.EawStore.view c.args.pages.now.store) (g.S.EawStore.view c.reach.new.pages.store) (g.S.EawStore.view c.reach-2.new.pages.store) (c.in_ok-at.ensures.looks.still refl) c.in_ok-at.ensures.looks.shape (rw c.in-Some.is at c.in_ok-at.ensures.behind).fewer c.in_ok-at.ensures.walks c.in_ok-later.later c.in_ok-later.ensures.walks c.begun.result (begun_items c.begun.result c.in_ok-later.later.some (λ some. some.items) c.begun.ensures.some) c.begun.ensures.none

pub returns-clause-looks : goal.returns-clause-looks
returns-clause-looks g c =
    let V = g.S.EawStore.view in
    let old = pages_of (V c.args.pages.now.store) c.args.pages.now in
    let new = pages_of (V c.reach-2.new.pages.store) c.reach-2.new.pages in
    subst (λ (b : Bool). Looks g.S.EawStore.tells (g.S.EawStore.opens (V c.args.pages.now.store).shape) b (pages_of (V c.args.pages.now.store) c.args.pages.now) (pages_of (V c.reach-2.new.pages.store) c.reach-2.new.pages))
    (sym (begun_fine c.begun.result c.in_ok-later.later.page (c.in_ok-later.later.some.items ≡ []) c.begun.ensures.none))
    (looks_next g.S.EawStore.tells g.S.EawStore.opens false old (pages_of (V c.reach.new.pages.store) c.reach.new.pages) new c.in_ok-at.ensures.looks c.in_ok-later.ensures.looks)
