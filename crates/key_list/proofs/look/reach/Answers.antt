use Rattle.std.proofs.Common.{◌≡◌, ◌≤◌, ◌+◌, ℕ, false, List, None, refl, sym, ◌∙◌, ap, subst, arith, Option, Result, Err}
use Rattle.std.proofs.lemmas.Bool.{false≢true}
use Rattle.eaw_face.specs.State.{State}
use Rattle.eaw_face.specs.Causes.{IsAlive}
use Rattle.page_store.specs.Pairs.{next}
use Rattle.record_slots.specs.Places.{page_bytes}
use Rattle.index_pages.specs.Page.{pairs_said, link_said, page_pairs, link_of}
use Rattle.index_pages.proofs.Looking.{looks_none, looks_next}
use Rattle.index_pages.proofs.Sizes.{index_pages_are}
use Rattle.page_store.specs.Index.{index_pages_of}
use Rattle.page_store.specs.Shown.{pages_of}
use Rattle.key_list.specs.Resting.{sound_table}
use Rattle.key_list.specs.Linked.{Reaches}
use Rattle.key_list.proofs.Walking.{Next, next_first, next_step, next_last, reached, none_is, some_is}
use Rattle.index_pages.specs.declared.page.Head.{Head}
use Rattle.index_pages.proofs.Courses.{on_first, on_step, on_end, on_err, on_out}
use Rattle.key_list.specs.Along.{along, Arrives}
use Rattle.key_list.specs.Linked.{IsLinked}
use Rattle.key_list.proofs.Ends.{leads_on, ends_last, ends_some}
use Rattle.page_store.specs.Looks.{is_failed}
use Rattle.page_store.specs.declared.fault.PageFault.{PageFault}
use Rattle.key_list.specs.declared.look.Reached.{Reached}
use Rattle.std.proofs.lemmas.Result.{err_from_is_err_and}
use Rattle.key_list.proofs.look.reach.Goals as goal

pub loop-step-init : goal.loop-step-init
loop-step-init g c = record {
  inside = c.requires.may.inside;
  looks = looks_none g.S.EawStore.tells (g.S.EawStore.opens (g.S.EawStore.view c.args.pages.now.store).shape) (pages_of (g.S.EawStore.view c.args.pages.now.store) c.args.pages.now);
  alive = λ some. absurd (omega arith);
  dead = λ dead. refl;
  on = on_first g.S.EawStore.tells (g.S.EawStore.calls c.args.pages.now.store) (along c.args.root c.args.from) c.args.root c.args.root (g.S.EawStore.view c.args.pages.now.store) refl;
  few = omega arith;
  chain = λ told alive. (let b = (g.S.EawStore.view c.args.pages.now.store).state.bytes in next_first b c.args.root c.args.table c.args.from (omega (arith, (c.requires.may.sound told alive).0.some_pages)) (sound_table b c.args.table c.args.root (c.requires.may.sound told alive) (c.requires.may.named told alive)));
}

pub loop-step-preserved : goal.loop-step-preserved
loop-step-preserved g c =
    let view = g.S.EawStore.view c.args.pages.now.store in
    let still = c.loop-step.invariant.looks.still refl in
    let looks = looks_next g.S.EawStore.tells g.S.EawStore.opens false (pages_of view c.args.pages.now) (pages_of (g.S.EawStore.view c.loop-step.pages.store) c.loop-step.pages)
    (pages_of (g.S.EawStore.view c.read_page.new.pages.store) c.read_page.new.pages) c.loop-step.invariant.looks c.in_ok-head.ensures.looks in
    let alive : IsAlive view = sym still.dead ∙ c.in_ok-head.ensures.cause in
    let alive' : IsAlive (g.S.EawStore.view c.read_page.new.pages.store) = (looks.still refl).dead ∙ alive in
    record {
      inside = (let e : index_pages_of (g.S.EawStore.view c.loop-step.pages.store).shape ≡ index_pages_of view.shape = ap index_pages_of (c.loop-step.invariant.looks.shape) in omega (arith, c.in_ok-head.ensures.link, e));
      looks = looks;
      alive = λ some. alive';
      dead = λ dead. absurd (false≢true (sym alive' ∙ dead));
      on = on_step g.S.EawStore.tells (g.S.EawStore.calls c.args.pages.now.store) (g.S.EawStore.calls c.loop-step.pages.store) (g.S.EawStore.calls c.read_page.new.pages.store)
          (along c.args.root c.args.from) c.loop-step._step c.loop-step.page c.loop-step.last view (g.S.EawStore.view c.loop-step.pages.store) (g.S.EawStore.view c.read_page.new.pages.store)
          still c.loop-step.invariant.looks.shape c.loop-step.invariant.on c.read_page.new.bytes c.in_ok-head.head.link c.in_ok-head.ensures.reads
          (leads_on c.args.root c.args.from c.loop-step.page c.read_page.new.bytes c.in_ok-head.head.link (sym c.next_pair.ensures ∙ none_is c.next_pair.result c.if-is_some.ensures) c.in_ok-head.ensures.head.link c.if-head-eq0.false);
      few = omega (arith, c.loop-step-test.true, c.index_page_count-count.ensures.count);
      chain = λ told living.
          let bytes = view.state.bytes in
          let buf = c.in_ok-head.ensures.bytes told ∙ ap (λ (s : State). page_bytes s.bytes c.loop-step.page) (still.state told) in
          let none : next (page_pairs bytes c.loop-step.page) c.args.from ≡ None =
          ap (λ (b : List ℕ). next (pairs_said b) c.args.from) (sym buf) ∙ sym c.next_pair.ensures ∙ none_is c.next_pair.result c.if-is_some.ensures in
          let link : c.in_ok-head.head.link ≡ link_of bytes c.loop-step.page = c.in_ok-head.ensures.head.link ∙ ap link_said buf in
          subst (λ (n : ℕ). Next bytes c.args.root c.args.table c.args.from (c.loop-step._step + 1) n) (sym link)
          (next_step bytes c.args.root c.args.table c.args.from c.loop-step._step c.loop-step.page (c.loop-step.invariant.chain told alive) (λ e. c.if-head-eq0.false (link ∙ e)) none);
    }

pub returns-clause-cause : goal.returns-clause-cause
returns-clause-cause g c =
    let view = g.S.EawStore.view c.args.pages.now.store in
    let still = c.loop-step.invariant.looks.still refl in
    let alive : IsAlive view = sym still.dead ∙ c.loop-step.invariant.alive (omega (arith, c.index_page_count-count.ensures.some, c.loop-step-test.false)) in (
      alive,
      λ told.
          let at = c.loop-step.invariant.chain told alive in
          omega (arith, at.left, (c.requires.may.sound told alive).0.pages, index_pages_are view.shape view.state.bytes (g.met.S.EawStore.long c.args.pages.now.store told), c.index_page_count-count.ensures.count, c.loop-step-test.false),
    )

pub returns-then-is_some-clause-looks : goal.returns-then-is_some-clause-looks
returns-then-is_some-clause-looks g c = looks_next g.S.EawStore.tells g.S.EawStore.opens false (pages_of (g.S.EawStore.view c.args.pages.now.store) c.args.pages.now) (pages_of (g.S.EawStore.view c.loop-step.pages.store) c.loop-step.pages) (pages_of (g.S.EawStore.view c.read_page.new.pages.store) c.read_page.new.pages) c.loop-step.invariant.looks c.in_ok-head.ensures.looks

pub returns-then-is_some-clause-dead : goal.returns-then-is_some-clause-dead
returns-then-is_some-clause-dead g c = λ is. cc

pub returns-then-head-eq0-clause-looks : goal.returns-then-head-eq0-clause-looks
returns-then-head-eq0-clause-looks g c = looks_next g.S.EawStore.tells g.S.EawStore.opens false (pages_of (g.S.EawStore.view c.args.pages.now.store) c.args.pages.now) (pages_of (g.S.EawStore.view c.loop-step.pages.store) c.loop-step.pages) (pages_of (g.S.EawStore.view c.read_page.new.pages.store) c.read_page.new.pages) c.loop-step.invariant.looks c.in_ok-head.ensures.looks

pub returns-then-head-eq0-clause-dead : goal.returns-then-head-eq0-clause-dead
returns-then-head-eq0-clause-dead g c = λ is. cc

pub returns-clause-looks : goal.returns-clause-looks
returns-clause-looks g c = c.loop-step.invariant.looks

pub returns-clause-dead : goal.returns-clause-dead
returns-clause-dead g c = λ is. cc

pub returns-then-is_some-clause-reaches : goal.returns-then-is_some-clause-reaches
returns-then-is_some-clause-reaches g c = λ told.
    let view = g.S.EawStore.view c.args.pages.now.store in
    let still = c.loop-step.invariant.looks.still refl in
    let alive : IsAlive view = sym still.dead ∙ c.in_ok-head.ensures.cause in
    let buf = c.in_ok-head.ensures.bytes told ∙ ap (λ (s : State). page_bytes s.bytes c.loop-step.page) (still.state told) in
    subst (λ (b : List ℕ). Reaches view.state.bytes c.args.root c.args.table c.args.from b) (sym buf)
    (reached view.state.bytes c.args.root c.args.table c.args.from c.loop-step._step c.loop-step.page (c.loop-step.invariant.chain told alive))

pub returns-then-is_some-clause-end : goal.returns-then-is_some-clause-end
returns-then-is_some-clause-end g c = λ told. tt

pub returns-then-is_some-clause-some : goal.returns-then-is_some-clause-some
returns-then-is_some-clause-some g c = (
  c.in_ok-head.ensures.head.count,
  subst (λ (n : ℕ). n ≤ 30) (sym c.in_ok-head.ensures.head.count) c.in_ok-head.ensures.head.leaf.most,
  λ none. some_is c.next_pair.result c.if-is_some.ensures (c.next_pair.ensures ∙ none),
)

pub returns-then-head-eq0-clause-reaches : goal.returns-then-head-eq0-clause-reaches
returns-then-head-eq0-clause-reaches g c = λ told. tt

pub returns-then-head-eq0-clause-end : goal.returns-then-head-eq0-clause-end
returns-then-head-eq0-clause-end g c = λ told.
    let view = g.S.EawStore.view c.args.pages.now.store in
    let still = c.loop-step.invariant.looks.still refl in
    let alive : IsAlive view = sym still.dead ∙ c.in_ok-head.ensures.cause in
    let buf = c.in_ok-head.ensures.bytes told ∙ ap (λ (s : State). page_bytes s.bytes c.loop-step.page) (still.state told) in
    let link : link_of view.state.bytes c.loop-step.page ≡ 0 = sym (ap link_said buf) ∙ sym c.in_ok-head.ensures.head.link ∙ c.if-head-eq0.true in
    next_last view.state.bytes c.args.root c.args.table c.args.from c.loop-step._step c.loop-step.page (c.loop-step.invariant.chain told alive) link
    (ap (λ (b : List ℕ). next (pairs_said b) c.args.from) (sym buf) ∙ sym c.next_pair.ensures ∙ none_is c.next_pair.result c.if-is_some.ensures)

pub returns-then-head-eq0-clause-some : goal.returns-then-head-eq0-clause-some
returns-then-head-eq0-clause-some g c = tt

pub returns-in_err-head-clause-reaches : goal.returns-in_err-head-clause-reaches
returns-in_err-head-clause-reaches g c =
    let exit = err_from_is_err_and c.from_residual.result c.from_residual.ensures.1 in
    rw (exit.1) (λ told. tt)

pub returns-in_err-head-clause-end : goal.returns-in_err-head-clause-end
returns-in_err-head-clause-end g c =
    let exit = err_from_is_err_and c.from_residual.result c.from_residual.ensures.1 in
    rw (exit.1) (λ told. tt)

pub returns-in_err-head-clause-some : goal.returns-in_err-head-clause-some
returns-in_err-head-clause-some g c =
    let exit = err_from_is_err_and c.from_residual.result c.from_residual.ensures.1 in
    rw (exit.1) tt

pub returns-clause-reaches : goal.returns-clause-reaches
returns-clause-reaches g c = λ told. tt

pub returns-clause-end : goal.returns-clause-end
returns-clause-end g c = λ told. tt

pub returns-clause-some : goal.returns-clause-some
returns-clause-some g c = tt

pub returns-in_err-head-clause-walks : goal.returns-in_err-head-clause-walks
returns-in_err-head-clause-walks g c =
    let exit = err_from_is_err_and c.from_residual.result c.from_residual.ensures.1 in
    rw (exit.1, exit.2) (
    let view = g.S.EawStore.view c.args.pages.now.store in
    let mid = g.S.EawStore.view c.loop-step.pages.store in
    on_err g.S.EawStore.tells (g.S.EawStore.calls c.args.pages.now.store) (g.S.EawStore.calls c.loop-step.pages.store) (g.S.EawStore.calls c.read_page.new.pages.store)
    (along c.args.root c.args.from) c.loop-step._step c.loop-step.page c.loop-step.last view mid (g.S.EawStore.view c.read_page.new.pages.store)
    (c.loop-step.invariant.looks.still refl) c.loop-step.invariant.looks.shape c.loop-step.invariant.on (index_pages_of view.shape) (Arrives c.args.from c.read_page.new.bytes)
    Head (IsLinked (index_pages_of mid.shape) (page_bytes mid.state.bytes c.loop-step.page)) c.read_page.new.bytes (page_bytes mid.state.bytes c.loop-step.page) c.in_err-head.field-0.0
    (omega (arith, c.loop-step-test.true, c.index_page_count-count.ensures.count)) c.in_err-head.ensures.reads c.in_err-head.ensures.cause)

pub returns-then-is_some-clause-walks : goal.returns-then-is_some-clause-walks
returns-then-is_some-clause-walks g c =
    let view = g.S.EawStore.view c.args.pages.now.store in
    on_end g.S.EawStore.tells (g.S.EawStore.calls c.args.pages.now.store) (g.S.EawStore.calls c.loop-step.pages.store) (g.S.EawStore.calls c.read_page.new.pages.store)
    (along c.args.root c.args.from) c.loop-step._step c.loop-step.page c.loop-step.last view (g.S.EawStore.view c.loop-step.pages.store) (g.S.EawStore.view c.read_page.new.pages.store)
    (c.loop-step.invariant.looks.still refl) c.loop-step.invariant.looks.shape c.loop-step.invariant.on (index_pages_of view.shape) (Arrives c.args.from c.read_page.new.bytes)
    c.read_page.new.bytes _ (omega (arith, c.loop-step-test.true, c.index_page_count-count.ensures.count)) c.in_ok-head.ensures.reads
    ((refl, ends_some c.args.from c.read_page.new.bytes (λ none. some_is c.next_pair.result c.if-is_some.ensures (c.next_pair.ensures ∙ none))), refl)

pub returns-then-head-eq0-clause-walks : goal.returns-then-head-eq0-clause-walks
returns-then-head-eq0-clause-walks g c =
    let view = g.S.EawStore.view c.args.pages.now.store in
    on_end g.S.EawStore.tells (g.S.EawStore.calls c.args.pages.now.store) (g.S.EawStore.calls c.loop-step.pages.store) (g.S.EawStore.calls c.read_page.new.pages.store)
    (along c.args.root c.args.from) c.loop-step._step c.loop-step.page c.loop-step.last view (g.S.EawStore.view c.loop-step.pages.store) (g.S.EawStore.view c.read_page.new.pages.store)
    (c.loop-step.invariant.looks.still refl) c.loop-step.invariant.looks.shape c.loop-step.invariant.on (index_pages_of view.shape) (Arrives c.args.from c.read_page.new.bytes)
    c.read_page.new.bytes _ (omega (arith, c.loop-step-test.true, c.index_page_count-count.ensures.count)) c.in_ok-head.ensures.reads
    ((refl, ends_last c.args.from c.read_page.new.bytes c.in_ok-head.head.link (sym c.next_pair.ensures ∙ none_is c.next_pair.result c.if-is_some.ensures) c.in_ok-head.ensures.head.link c.if-head-eq0.true), tt)

pub returns-clause-walks : goal.returns-clause-walks
returns-clause-walks g c =
    let view = g.S.EawStore.view c.args.pages.now.store in
    on_out g.S.EawStore.tells (g.S.EawStore.calls c.args.pages.now.store) (g.S.EawStore.calls c.loop-step.pages.store) (along c.args.root c.args.from)
    c.loop-step._step c.loop-step.page c.loop-step.last view (g.S.EawStore.view c.loop-step.pages.store) (index_pages_of view.shape) (Arrives c.args.from c.loop-step.bytes)
    c.loop-step.invariant.on (omega (arith, c.index_page_count-count.ensures.some, c.loop-step-test.false)) c.loop-step.invariant.few

pub returns-then-head-eq0-clause-none : goal.returns-then-head-eq0-clause-none
returns-then-head-eq0-clause-none g c = sym c.next_pair.ensures ∙ none_is c.next_pair.result c.if-is_some.ensures

pub returns-in_err-head-clause-looks : goal.returns-in_err-head-clause-looks
returns-in_err-head-clause-looks g c =
    let exit = err_from_is_err_and c.from_residual.result c.from_residual.ensures.1 in
    rw (exit.1, exit.2) (
    let r : Result (Option Reached) PageFault = Err c.in_err-head.field-0.0 in
    looks_next g.S.EawStore.tells g.S.EawStore.opens (is_failed r) (pages_of (g.S.EawStore.view c.args.pages.now.store) c.args.pages.now) (pages_of (g.S.EawStore.view c.loop-step.pages.store) c.loop-step.pages) (pages_of (g.S.EawStore.view c.read_page.new.pages.store) c.read_page.new.pages) c.loop-step.invariant.looks c.in_err-head.ensures.looks)
