use Rattle.std.proofs.Common.{◌≡◌, ◌+◌, ◌-◌, ℕ, false, Option, Some, refl, sym, ◌∙◌, ap, subst, arith, rules, Result, Err}
use Rattle.eaw_face.specs.State.{State}
use Rattle.record_slots.specs.Free.{next_of}
use Rattle.record_slots.specs.Places.{free_page_of}
use Rattle.record_slots.specs.declared.free.Free.{Free}
use Rattle.page_store.specs.Shown.{pages_of}
use Rattle.index_pages.specs.Slots.{Names, HasRank, list_check}
use Rattle.index_pages.proofs.Looking.{looks_next, looks_none}
use Rattle.index_pages.proofs.Members.{names_fail, rank_fails, rank_on, rank_is}
use Rattle.index_pages.proofs.Tests.{check_looks}
use Rattle.page_store.specs.Looks.{is_failed}
use Rattle.page_store.specs.declared.fault.PageFault.{PageFault}
use Rattle.std.proofs.Common.{suc}
use Rattle.record_slots.specs.Places.{page_bytes}
use Rattle.record_slots.specs.Free.{free_said}
use Rattle.index_pages.specs.Plans.{list_plan, free_page_plan, free_pages_plan}
use Rattle.index_pages.proofs.Trying.{SoFar, so_first, so_holds, so_bad, so_passes, so_page, so_page_err, so_member, so_listed, so_ranked}
use Rattle.std.proofs.lemmas.Result.{err_from_is_err_and}
use Rattle.index_pages.proofs.checking.check_free_pages.Goals as goal

pub returns-then-named-le2-clause-cause : goal.returns-then-named-le2-clause-cause
returns-then-named-le2-clause-cause g c = λ told says.
    let view = g.S.EawStore.view c.args.pages.now.store in
    let b = view.state.bytes in
    let front = c.args.front.now in
    let inv = c.loop-done.invariant in
    inv.left told says (Some c.loop-done.page) (names_fail (free_page_of b) (λ (p : ℕ). p) 2 front.next_page (front.free_pages - c.loop-done.done) c.loop-done.named c.loop-done.page (λ e. omega (arith, e, c.loop-done-test.true)) (λ names. omega (arith, names.0, c.if-named-le2.true)))

pub returns-then-named-front-clause-cause : goal.returns-then-named-front-clause-cause
returns-then-named-front-clause-cause g c = λ told says.
    let view = g.S.EawStore.view c.args.pages.now.store in
    let b = view.state.bytes in
    let front = c.args.front.now in
    let inv = c.loop-done.invariant in
    inv.left told says (Some c.loop-done.page) (names_fail (free_page_of b) (λ (p : ℕ). p) 2 front.next_page (front.free_pages - c.loop-done.done) c.loop-done.named c.loop-done.page (λ e. omega (arith, e, c.loop-done-test.true)) (λ names. omega (arith, names.1, c.if-named-front.true)))

pub returns-in_default-clause-cause : goal.returns-in_default-clause-cause
returns-in_default-clause-cause g c = λ told says.
    let view = g.S.EawStore.view c.args.pages.now.store in
    let b = view.state.bytes in
    let front = c.args.front.now in
    let inv = c.loop-done.invariant in
    let said : c.in_ok-said.said ≡ free_page_of b (c.loop-done.named - 1) = c.in_ok-said.ensures.said told ∙ ap (λ (s : State). free_page_of s.bytes (c.loop-done.named - 1)) ((inv.looks.still refl).state told) in
    let names : Names 2 front.next_page c.loop-done.named = (omega (arith, c.if-named-le2.false), c.if-named-front.false) in
    let bad : ¬ HasRank (front.free_pages - c.loop-done.done) (free_page_of b (c.loop-done.named - 1)) = subst (λ (o : Option Free). ¬ HasRank (front.free_pages - c.loop-done.done) o) said c.in_default.ensures.none in
    inv.left told says (Some (c.loop-done.named - 1)) (rank_fails (free_page_of b) (λ (p : ℕ). p) 2 front.next_page (front.free_pages - c.loop-done.done) c.loop-done.named c.loop-done.page (λ e. omega (arith, e, c.loop-done-test.true)) names bad)

pub loop-done-preserved : goal.loop-done-preserved
loop-done-preserved g c =
    let view = g.S.EawStore.view c.args.pages.now.store in
    let b = view.state.bytes in
    let front = c.args.front.now in
    let inv = c.loop-done.invariant in
    record {
      looks = looks_next g.S.EawStore.tells g.S.EawStore.opens false (pages_of view c.args.pages.now) (pages_of (g.S.EawStore.view c.loop-done.pages.store) c.loop-done.pages)
          (pages_of (g.S.EawStore.view c.fetch_free_page.new.pages.store) c.fetch_free_page.new.pages) inv.looks c.in_ok-said.ensures.looks;
      alive = (c.in_ok-said.ensures.looks.still refl).dead ∙ inv.alive;
      left = λ told says verdict rest.
          let said : c.in_ok-said.said ≡ free_page_of b (c.loop-done.named - 1) = c.in_ok-said.ensures.said told ∙ ap (λ (s : State). free_page_of s.bytes (c.loop-done.named - 1)) ((inv.looks.still refl).state told) in
          let names : Names 2 front.next_page c.loop-done.named = (omega (arith, c.if-named-le2.false), c.if-named-front.false) in
          let found : free_page_of b (c.loop-done.named - 1) ≡ Some c.in-Some.free = sym said ∙ c.in-Some.ensures.some.0 in
          let rank = rank_is (front.free_pages - c.loop-done.done) (free_page_of b (c.loop-done.named - 1)) c.in-Some.free found c.in-Some.ensures.some.1 in
          let next : c.in-Some.free.next ≡ next_of (free_page_of b (c.loop-done.named - 1)) = ap next_of (sym found) in
          inv.left told says verdict (rank_on (free_page_of b) (λ (p : ℕ). p) 2 front.next_page (front.free_pages - c.loop-done.done) (front.free_pages - (c.loop-done.done + 1)) c.loop-done.named c.loop-done.page (omega (arith, c.loop-done-test.true)) names rank verdict
          (subst (λ (n : ℕ). list_check (free_page_of b) (λ (p : ℕ). p) 2 front.next_page (front.free_pages - (c.loop-done.done + 1)) n (c.loop-done.named - 1) verdict) next rest));
      tests =
          so_ranked free_page_plan (λ page. page) 2 c.args.front.now.next_page (c.args.front.now.free_pages - c.loop-done.done) (c.args.front.now.free_pages - (c.loop-done.done + 1)) c.loop-done.named (free_said 0xFF 4 c.in_ok-said.ensures.reads.0) c.in-Some.free c.in-Some.free.next (c.loop-done.named - 1) (let e : (c.args.front.now.free_pages - c.loop-done.done) ≡ suc (c.args.front.now.free_pages - (c.loop-done.done + 1)) = omega (arith, c.loop-done-test.true) in e) (so_page (c.loop-done.invariant.looks.still refl) c.loop-done.invariant.looks.shape (c.loop-done.named - 1) _ c.in_ok-said.ensures.reads.0 (so_holds _ _ _ (so_member free_page_plan (λ page. page) 2 c.args.front.now.next_page (c.args.front.now.free_pages - c.loop-done.done) (c.args.front.now.free_pages - (c.loop-done.done + 1)) c.loop-done.named c.loop-done.page (let e : (c.args.front.now.free_pages - c.loop-done.done) ≡ suc (c.args.front.now.free_pages - (c.loop-done.done + 1)) = omega (arith, c.loop-done-test.true) in e) c.loop-done.invariant.tests) (omega (arith, c.if-named-le2.false), c.if-named-front.false)) c.in_ok-said.ensures.reads.1)
          (sym c.in_ok-said.ensures.reads.2 ∙ c.in-Some.ensures.some.0) c.in-Some.ensures.some.1 refl refl;
    }

pub loop-done-init : goal.loop-done-init
loop-done-init g c = record {
  looks = looks_none g.S.EawStore.tells (g.S.EawStore.opens (g.S.EawStore.view c.args.pages.now.store).shape) (pages_of (g.S.EawStore.view c.args.pages.now.store) c.args.pages.now);
  alive = c.requires.alive;
  left = search rules;
  tests = subst (λ (n : ℕ). SoFar g.S.EawStore.tells (g.S.EawStore.calls c.args.pages.now.store) (g.S.EawStore.calls c.args.pages.now.store) (list_plan free_page_plan (λ page. page) 2 c.args.front.now.next_page n c.args.front.now.free_page 0) (free_pages_plan c.args.front.now) (g.S.EawStore.view c.args.pages.now.store) (g.S.EawStore.view c.args.pages.now.store)) (let e : c.args.front.now.free_pages ≡ c.args.front.now.free_pages - 0 = omega arith in e) (so_first (free_pages_plan c.args.front.now));
}

pub returns-in_default-clause-looks : goal.returns-in_default-clause-looks
returns-in_default-clause-looks g c =
    looks_next g.S.EawStore.tells g.S.EawStore.opens false (pages_of (g.S.EawStore.view c.args.pages.now.store) c.args.pages.now) (pages_of (g.S.EawStore.view c.loop-done.pages.store) c.loop-done.pages) (pages_of (g.S.EawStore.view c.fetch_free_page.new.pages.store) c.fetch_free_page.new.pages) c.loop-done.invariant.looks c.in_ok-said.ensures.looks

pub returns-in_err-said-clause-looks : goal.returns-in_err-said-clause-looks
returns-in_err-said-clause-looks g c =
    let exit = err_from_is_err_and c.from_residual.result c.from_residual.ensures.1 in
    rw (exit.1) (
    let r : Result (Option Free) PageFault = Err c.in_err-said.field-0.0 in
    check_looks (Option Free) g.S.EawStore.tells (g.S.EawStore.opens (g.S.EawStore.view c.args.pages.now.store).shape) (pages_of (g.S.EawStore.view c.args.pages.now.store) c.args.pages.now) (pages_of (g.S.EawStore.view c.fetch_free_page.new.pages.store) c.fetch_free_page.new.pages) c.in_err-said.field-0.0 exit.0 exit.2
    (looks_next g.S.EawStore.tells g.S.EawStore.opens (is_failed r) (pages_of (g.S.EawStore.view c.args.pages.now.store) c.args.pages.now) (pages_of (g.S.EawStore.view c.loop-done.pages.store) c.loop-done.pages) (pages_of (g.S.EawStore.view c.fetch_free_page.new.pages.store) c.fetch_free_page.new.pages) c.loop-done.invariant.looks c.in_err-said.ensures.looks))

pub returns-then-named-le2-clause-tests : goal.returns-then-named-le2-clause-tests
returns-then-named-le2-clause-tests g c = so_bad _ _ _ (so_member free_page_plan (λ page. page) 2 c.args.front.now.next_page (c.args.front.now.free_pages - c.loop-done.done) (c.args.front.now.free_pages - (c.loop-done.done + 1)) c.loop-done.named c.loop-done.page (let e : (c.args.front.now.free_pages - c.loop-done.done) ≡ suc (c.args.front.now.free_pages - (c.loop-done.done + 1)) = omega (arith, c.loop-done-test.true) in e) c.loop-done.invariant.tests) (λ names. omega (arith, names.0, c.if-named-le2.true))

pub returns-then-named-front-clause-tests : goal.returns-then-named-front-clause-tests
returns-then-named-front-clause-tests g c = so_bad _ _ _ (so_member free_page_plan (λ page. page) 2 c.args.front.now.next_page (c.args.front.now.free_pages - c.loop-done.done) (c.args.front.now.free_pages - (c.loop-done.done + 1)) c.loop-done.named c.loop-done.page (let e : (c.args.front.now.free_pages - c.loop-done.done) ≡ suc (c.args.front.now.free_pages - (c.loop-done.done + 1)) = omega (arith, c.loop-done-test.true) in e) c.loop-done.invariant.tests) (λ names. omega (arith, names.1, c.if-named-front.true))

pub returns-in_err-said-clause-tests : goal.returns-in_err-said-clause-tests
returns-in_err-said-clause-tests g c =
    let exit = err_from_is_err_and c.from_residual.result c.from_residual.ensures.1 in
    rw (exit.1) (so_page_err (c.loop-done.invariant.looks.still refl) c.loop-done.invariant.looks.shape (Option Free) (c.loop-done.named - 1) _ c.in_err-said.ensures.reads.0 (page_bytes (g.S.EawStore.view c.loop-done.pages.store).state.bytes (c.loop-done.named - 1)) c.in_err-said.field-0.0 exit.0 exit.2 (so_holds _ _ _ (so_member free_page_plan (λ page. page) 2 c.args.front.now.next_page (c.args.front.now.free_pages - c.loop-done.done) (c.args.front.now.free_pages - (c.loop-done.done + 1)) c.loop-done.named c.loop-done.page (let e : (c.args.front.now.free_pages - c.loop-done.done) ≡ suc (c.args.front.now.free_pages - (c.loop-done.done + 1)) = omega (arith, c.loop-done-test.true) in e) c.loop-done.invariant.tests) (omega (arith, c.if-named-le2.false), c.if-named-front.false)) c.loop-done.invariant.alive c.in_err-said.ensures.cause c.in_err-said.ensures.reads.1)

pub returns-in_default-clause-tests : goal.returns-in_default-clause-tests
returns-in_default-clause-tests g c =
    so_bad _ _ _ (so_page (c.loop-done.invariant.looks.still refl) c.loop-done.invariant.looks.shape (c.loop-done.named - 1) _ c.in_ok-said.ensures.reads.0 (so_holds _ _ _ (so_member free_page_plan (λ page. page) 2 c.args.front.now.next_page (c.args.front.now.free_pages - c.loop-done.done) (c.args.front.now.free_pages - (c.loop-done.done + 1)) c.loop-done.named c.loop-done.page (let e : (c.args.front.now.free_pages - c.loop-done.done) ≡ suc (c.args.front.now.free_pages - (c.loop-done.done + 1)) = omega (arith, c.loop-done-test.true) in e) c.loop-done.invariant.tests) (omega (arith, c.if-named-le2.false), c.if-named-front.false)) c.in_ok-said.ensures.reads.1) (λ ranked. c.in_default.ensures.none (subst (λ (o : Option Free). HasRank (c.args.front.now.free_pages - c.loop-done.done) o) (sym c.in_ok-said.ensures.reads.2) (subst (λ (k : ℕ). HasRank k (free_said 0xFF 4 c.in_ok-said.ensures.reads.0)) (sym (let e : (c.args.front.now.free_pages - c.loop-done.done) ≡ suc (c.args.front.now.free_pages - (c.loop-done.done + 1)) = omega (arith, c.loop-done-test.true) in e)) ranked)))

pub returns-then-named-ne0-clause-tests : goal.returns-then-named-ne0-clause-tests
returns-then-named-ne0-clause-tests g c = so_bad _ _ _ (so_listed free_page_plan (λ page. page) 2 c.args.front.now.next_page (c.args.front.now.free_pages - c.loop-done.done) c.loop-done.named c.loop-done.page (omega (arith, c.loop-done-test.false)) c.loop-done.invariant.tests) c.if-named-ne0.true

pub returns-clause-tests : goal.returns-clause-tests
returns-clause-tests g c = so_passes tt (so_holds _ _ _ (so_listed free_page_plan (λ page. page) 2 c.args.front.now.next_page (c.args.front.now.free_pages - c.loop-done.done) c.loop-done.named c.loop-done.page (omega (arith, c.loop-done-test.false)) c.loop-done.invariant.tests) c.if-named-ne0.false)
