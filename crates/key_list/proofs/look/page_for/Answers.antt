use Rattle.std.proofs.Common.{◌≡◌, ◌≢◌, ◌<◌, ◌≤◌, ℕ, Bool, true, false, List, length, Result, Ok, Err, refl, inl, inr, sym, ◌∙◌, ap, subst, arith}
use Rattle.std.proofs.lemmas.Bool.{cases_lt, false≢true}
use Rattle.eaw_face.specs.State.{State}
use Rattle.eaw_face.specs.Causes.{IsAlive}
use Rattle.page_store.specs.Index.{index_pages_of}
use Rattle.page_store.specs.Looks.{is_failed}
use Rattle.page_store.specs.Pairs.{Pair}
use Rattle.page_store.specs.Shown.{pages_of}
use Rattle.page_store.specs.declared.fault.PageFault.{PageFault}
use Rattle.record_slots.specs.Places.{page_bytes}
use Rattle.index_pages.specs.Page.{count_said, link_said, pairs_said, page_pairs}
use Rattle.index_pages.specs.declared.page.Head.{Head}
use Rattle.index_pages.proofs.Causing.{look_cause, still_same}
use Rattle.index_pages.proofs.Courses.{on_first, on_err}
use Rattle.index_pages.proofs.Looking.{looks_next}
use Rattle.index_pages.proofs.Sizes.{index_pages_are}
use Rattle.key_list.specs.Along.{along, ends_at, Stays}
use Rattle.key_list.specs.Chain.{first_key}
use Rattle.key_list.specs.Linked.{IsLinked}
use Rattle.key_list.specs.Resting.{sound_table}
use Rattle.key_list.specs.declared.look.KeyPage.{KeyPage}
use Rattle.key_list.proofs.Others.{root_own}
use Rattle.key_list.proofs.Staying.{along_first, along_on, along_ends, along_out, along_more, along_past, begins_below, ends_linked}
use Rattle.key_list.proofs.Walking.{place_first, first_linked, place_linked, place_some, place_here, place_step, place_ends, place_out, some_said, length-said}
use Rattle.std.proofs.lemmas.Result.{err_from_is_err_and}
use Rattle.key_list.proofs.look.page_for.Goals as goal

pub returns-in_err-head-clause-cause : goal.returns-in_err-head-clause-cause
returns-in_err-head-clause-cause g c =
    let exit = err_from_is_err_and c.from_residual.result c.from_residual.ensures.1 in
    rw (exit.1, exit.2) (
    let view = g.S.EawStore.view c.args.pages.now.store in
    look_cause Head KeyPage g.S.EawStore.tells view view (IsLinked (index_pages_of view.shape) (page_bytes view.state.bytes c.args.root)) c.args.root c.in_err-head.field-0.0 (still_same g.S.EawStore.tells view)
    (λ told alive. first_linked view.state.bytes c.args.root c.args.table (index_pages_of view.shape) (c.requires.may.sound told alive).0 (sound_table view.state.bytes c.args.table c.args.root (c.requires.may.sound told alive) (c.requires.may.named told alive)) (index_pages_are view.shape view.state.bytes (g.met.S.EawStore.long c.args.pages.now.store told)))
    c.in_err-head.ensures.cause)

pub returns-in_err-head-clause-walks : goal.returns-in_err-head-clause-walks
returns-in_err-head-clause-walks g c =
    let exit = err_from_is_err_and c.from_residual.result c.from_residual.ensures.1 in
    rw (exit.1, exit.2) (
    let view = g.S.EawStore.view c.args.pages.now.store in
    on_err g.S.EawStore.tells (g.S.EawStore.calls c.args.pages.now.store) (g.S.EawStore.calls c.args.pages.now.store) (g.S.EawStore.calls c.read_page.new.pages.store)
    (along c.args.root c.args.key) 0 c.args.root c.args.root view view (g.S.EawStore.view c.read_page.new.pages.store)
    (still_same g.S.EawStore.tells view) refl (on_first g.S.EawStore.tells (g.S.EawStore.calls c.args.pages.now.store) (along c.args.root c.args.key) c.args.root c.args.root view refl)
    (index_pages_of view.shape) (Stays c.args.key c.read_page.new.bytes)
    Head (IsLinked (index_pages_of view.shape) (page_bytes view.state.bytes c.args.root)) c.read_page.new.bytes (page_bytes view.state.bytes c.args.root) c.in_err-head.field-0.0
    (omega (arith, c.index_page_count-count.ensures.count, c.index_page_count-count.ensures.some)) c.in_err-head.ensures.reads c.in_err-head.ensures.cause)

pub returns-then-root-eq0-clause-walks : goal.returns-then-root-eq0-clause-walks
returns-then-root-eq0-clause-walks g c =
    let view = g.S.EawStore.view c.args.pages.now.store in
    along_out g.S.EawStore.tells (g.S.EawStore.calls c.args.pages.now.store) (g.S.EawStore.calls c.read_page.new.pages.store) c.args.root c.args.key 1 c.args.root c.read_page.new.bytes view (g.S.EawStore.view c.read_page.new.pages.store)
    (along_first g.S.EawStore.tells (g.S.EawStore.calls c.args.pages.now.store) (g.S.EawStore.calls c.read_page.new.pages.store) c.args.root c.args.key c.read_page.new.bytes view (g.S.EawStore.view c.read_page.new.pages.store) c.in_ok-head.ensures.reads)
    KeyPage (index_pages_of view.shape) (Stays c.args.key c.read_page.new.bytes) (omega (arith, c.index_page_count-count.ensures.count, c.index_page_count-count.ensures.some))

pub returns-then-root-eq0-clause-cause : goal.returns-then-root-eq0-clause-cause
returns-then-root-eq0-clause-cause g c =
    let view = g.S.EawStore.view c.args.pages.now.store in (
      c.in_ok-head.ensures.cause,
      λ told.
          let own = root_own view.state.bytes c.args.table c.args.root (c.requires.may.sound told c.in_ok-head.ensures.cause) (c.requires.may.named told c.in_ok-head.ensures.cause) in
          omega (arith, own.0, c.if-root-eq0.true),
    )

pub returns-then-root-count-clause-walks : goal.returns-then-root-count-clause-walks
returns-then-root-count-clause-walks g c =
    let view = g.S.EawStore.view c.args.pages.now.store in
    along_out g.S.EawStore.tells (g.S.EawStore.calls c.args.pages.now.store) (g.S.EawStore.calls c.read_page.new.pages.store) c.args.root c.args.key 1 c.args.root c.read_page.new.bytes view (g.S.EawStore.view c.read_page.new.pages.store)
    (along_first g.S.EawStore.tells (g.S.EawStore.calls c.args.pages.now.store) (g.S.EawStore.calls c.read_page.new.pages.store) c.args.root c.args.key c.read_page.new.bytes view (g.S.EawStore.view c.read_page.new.pages.store) c.in_ok-head.ensures.reads)
    KeyPage (index_pages_of view.shape) (Stays c.args.key c.read_page.new.bytes) (omega (arith, c.index_page_count-count.ensures.count, c.index_page_count-count.ensures.some))

pub returns-then-root-count-clause-cause : goal.returns-then-root-count-clause-cause
returns-then-root-count-clause-cause g c =
    let view = g.S.EawStore.view c.args.pages.now.store in (
      c.in_ok-head.ensures.cause,
      λ told.
          let own = root_own view.state.bytes c.args.table c.args.root (c.requires.may.sound told c.in_ok-head.ensures.cause) (c.requires.may.named told c.in_ok-head.ensures.cause) in
          omega (arith, own.1, (c.requires.may.sound told c.in_ok-head.ensures.cause).0.pages, index_pages_are view.shape view.state.bytes (g.met.S.EawStore.long c.args.pages.now.store told), c.index_page_count-count.ensures.count, c.if-root-count.true),
    )

pub loop-step-init : goal.loop-step-init
loop-step-init g c =
    let view = g.S.EawStore.view c.args.pages.now.store in
    record {
      some = omega (arith, c.if-root-eq0.false);
      inside = omega (arith, c.if-root-count.false, c.index_page_count-count.ensures.count);
      link = c.in_ok-head.ensures.link;
      looks = c.in_ok-head.ensures.looks;
      alive = (c.in_ok-head.ensures.looks.still refl).dead ∙ c.in_ok-head.ensures.cause;
      says = c.in_ok-head.ensures.head;
      bytes = λ told. c.in_ok-head.ensures.bytes told;
      on = along_first g.S.EawStore.tells (g.S.EawStore.calls c.args.pages.now.store) (g.S.EawStore.calls c.read_page.new.pages.store) c.args.root c.args.key c.read_page.new.bytes view (g.S.EawStore.view c.read_page.new.pages.store) c.in_ok-head.ensures.reads;
      few = omega (arith, c.index_page_count-count.ensures.count, c.index_page_count-count.ensures.some);
      place = λ told. place_first view.state.bytes c.args.root c.args.table c.args.key c.in_ok-head.head.link (omega (arith, (c.requires.may.sound told c.in_ok-head.ensures.cause).0.some_pages))
          (sound_table view.state.bytes c.args.table c.args.root (c.requires.may.sound told c.in_ok-head.ensures.cause) (c.requires.may.named told c.in_ok-head.ensures.cause))
          (c.in_ok-head.ensures.head.link ∙ ap link_said (c.in_ok-head.ensures.bytes told));
    }

pub returns-in_err-behind-clause-cause : goal.returns-in_err-behind-clause-cause
returns-in_err-behind-clause-cause g c =
    let exit = err_from_is_err_and c.from_residual-in_err-behind.result c.from_residual-in_err-behind.ensures.1 in
    rw (exit.1, exit.2) (
    let view = g.S.EawStore.view c.args.pages.now.store in
    let mid = g.S.EawStore.view c.loop-step.pages.store in
    let inv = c.loop-step.invariant in
    let still = inv.looks.still refl in
    let goes : ends_at c.args.key c.loop-step.bytes ≡ false = sym c.if-ends_at.ensures in
    let more : c.loop-step.head.link ≢ 0 = λ e. ends_linked c.args.key c.loop-step.bytes goes (sym inv.says.link ∙ e) in
    look_cause Head KeyPage g.S.EawStore.tells view mid (IsLinked (index_pages_of mid.shape) (page_bytes mid.state.bytes c.loop-step.head.link)) c.loop-step.head.link c.in_err-behind.field-0.0 still
    (λ told alive.
    let pages = index_pages_are view.shape view.state.bytes (g.met.S.EawStore.long c.args.pages.now.store told) in
    let linked = place_linked view.state.bytes c.args.root c.args.table (index_pages_of view.shape) c.args.key c.loop-step._step c.loop-step.page c.loop-step.head.link (c.requires.may.sound told alive).0 pages (inv.place told) more in
    subst (λ (n : ℕ). IsLinked n (page_bytes mid.state.bytes c.loop-step.head.link)) (ap index_pages_of (sym inv.looks.shape))
    (subst (λ (s : State). IsLinked (index_pages_of view.shape) (page_bytes s.bytes c.loop-step.head.link)) (sym (still.state told)) linked))
    c.in_err-behind.ensures.cause)

pub returns-in_err-behind-clause-walks : goal.returns-in_err-behind-clause-walks
returns-in_err-behind-clause-walks g c =
    let exit = err_from_is_err_and c.from_residual-in_err-behind.result c.from_residual-in_err-behind.ensures.1 in
    rw (exit.1, exit.2) (
    let view = g.S.EawStore.view c.args.pages.now.store in
    let mid = g.S.EawStore.view c.loop-step.pages.store in
    let inv = c.loop-step.invariant in
    let still = inv.looks.still refl in
    let goes : ends_at c.args.key c.loop-step.bytes ≡ false = sym c.if-ends_at.ensures in
    on_err g.S.EawStore.tells (g.S.EawStore.calls c.args.pages.now.store) (g.S.EawStore.calls c.loop-step.pages.store) (g.S.EawStore.calls c.read_page-in-loop-step.new.pages.store)
    (along c.args.root c.args.key) c.loop-step._step c.loop-step.head.link c.loop-step.page view mid (g.S.EawStore.view c.read_page-in-loop-step.new.pages.store)
    still inv.looks.shape (along_on g.S.EawStore.tells (g.S.EawStore.calls c.args.pages.now.store) (g.S.EawStore.calls c.loop-step.pages.store) c.args.root c.args.key c.loop-step._step c.loop-step.page c.loop-step.bytes view mid inv.on
    c.loop-step.head.link goes inv.says.link)
    (index_pages_of view.shape) (Stays c.args.key c.loop-step.bytes)
    Head (IsLinked (index_pages_of mid.shape) (page_bytes mid.state.bytes c.loop-step.head.link)) c.read_page-in-loop-step.new.bytes (page_bytes mid.state.bytes c.loop-step.head.link) c.in_err-behind.field-0.0
    (omega (arith, c.loop-step-test.true, c.index_page_count-count.ensures.count)) c.in_err-behind.ensures.reads c.in_err-behind.ensures.cause)

pub returns-in_err-behind-clause-looks : goal.returns-in_err-behind-clause-looks
returns-in_err-behind-clause-looks g c =
    let exit = err_from_is_err_and c.from_residual-in_err-behind.result c.from_residual-in_err-behind.ensures.1 in
    rw (exit.1, exit.2) (
    let r : Result KeyPage PageFault = Err c.in_err-behind.field-0.0 in
    looks_next g.S.EawStore.tells g.S.EawStore.opens (is_failed r) (pages_of (g.S.EawStore.view c.args.pages.now.store) c.args.pages.now) (pages_of (g.S.EawStore.view c.loop-step.pages.store) c.loop-step.pages) (pages_of (g.S.EawStore.view c.read_page-in-loop-step.new.pages.store) c.read_page-in-loop-step.new.pages) c.loop-step.invariant.looks c.in_err-behind.ensures.looks)

pub returns-then-ends_at-clause-looks : goal.returns-then-ends_at-clause-looks
returns-then-ends_at-clause-looks g c =
    c.loop-step.invariant.looks

pub returns-then-ends_at-clause-walks : goal.returns-then-ends_at-clause-walks
returns-then-ends_at-clause-walks g c =
    let view = g.S.EawStore.view c.args.pages.now.store in
    let mid = g.S.EawStore.view c.loop-step.pages.store in
    let inv = c.loop-step.invariant in
    let still = inv.looks.still refl in
    let ends : ends_at c.args.key c.loop-step.bytes ≡ true = sym c.if-ends_at.ensures in
    along_ends g.S.EawStore.tells (g.S.EawStore.calls c.args.pages.now.store) (g.S.EawStore.calls c.loop-step.pages.store) c.args.root c.args.key c.loop-step._step c.loop-step.page c.loop-step.bytes view mid inv.on
    (index_pages_of view.shape) (record { page = c.loop-step.page; head = c.loop-step.head }) refl ends inv.few

pub returns-then-ends_at-clause-page : goal.returns-then-ends_at-clause-page
returns-then-ends_at-clause-page g c = λ told.
    let view = g.S.EawStore.view c.args.pages.now.store in
    let mid = g.S.EawStore.view c.loop-step.pages.store in
    let inv = c.loop-step.invariant in
    let still = inv.looks.still refl in
    let ends : ends_at c.args.key c.loop-step.bytes ≡ true = sym c.if-ends_at.ensures in
    sym (place_ends view.state.bytes c.args.root c.args.table c.args.key c.loop-step._step c.loop-step.page c.loop-step.head.link (inv.place told) (sym (ap (λ (b : List ℕ). ends_at c.args.key b) (inv.bytes told)) ∙ ends))

pub returns-then-ends_at-2-clause-looks : goal.returns-then-ends_at-2-clause-looks
returns-then-ends_at-2-clause-looks g c =
    c.loop-step.invariant.looks

pub returns-then-ends_at-2-clause-walks : goal.returns-then-ends_at-2-clause-walks
returns-then-ends_at-2-clause-walks g c =
    let view = g.S.EawStore.view c.args.pages.now.store in
    let mid = g.S.EawStore.view c.loop-step.pages.store in
    let inv = c.loop-step.invariant in
    let still = inv.looks.still refl in
    let ends : ends_at c.args.key c.loop-step.bytes ≡ true = sym c.if-ends_at-2.ensures in
    along_ends g.S.EawStore.tells (g.S.EawStore.calls c.args.pages.now.store) (g.S.EawStore.calls c.loop-step.pages.store) c.args.root c.args.key c.loop-step._step c.loop-step.page c.loop-step.bytes view mid inv.on
    (index_pages_of view.shape) (record { page = c.loop-step.page; head = c.loop-step.head }) refl ends inv.few

pub returns-then-ends_at-2-clause-page : goal.returns-then-ends_at-2-clause-page
returns-then-ends_at-2-clause-page g c = λ told.
    let view = g.S.EawStore.view c.args.pages.now.store in
    let mid = g.S.EawStore.view c.loop-step.pages.store in
    let inv = c.loop-step.invariant in
    let still = inv.looks.still refl in
    let ends : ends_at c.args.key c.loop-step.bytes ≡ true = sym c.if-ends_at-2.ensures in
    sym (place_ends view.state.bytes c.args.root c.args.table c.args.key c.loop-step._step c.loop-step.page c.loop-step.head.link (inv.place told) (sym (ap (λ (b : List ℕ). ends_at c.args.key b) (inv.bytes told)) ∙ ends))

pub returns-then-is_past-clause-looks : goal.returns-then-is_past-clause-looks
returns-then-is_past-clause-looks g c =
    looks_next g.S.EawStore.tells g.S.EawStore.opens false (pages_of (g.S.EawStore.view c.args.pages.now.store) c.args.pages.now) (pages_of (g.S.EawStore.view c.loop-step.pages.store) c.loop-step.pages) (pages_of (g.S.EawStore.view c.read_page-in-loop-step.new.pages.store) c.read_page-in-loop-step.new.pages) c.loop-step.invariant.looks c.in_ok-behind.ensures.looks

pub returns-then-is_past-clause-walks : goal.returns-then-is_past-clause-walks
returns-then-is_past-clause-walks g c =
    let view = g.S.EawStore.view c.args.pages.now.store in
    let mid = g.S.EawStore.view c.loop-step.pages.store in
    let inv = c.loop-step.invariant in
    let still = inv.looks.still refl in
    let goes : ends_at c.args.key c.loop-step.bytes ≡ false = sym c.if-ends_at.ensures in
    let past = c.if-is_past.ensures.0 refl in
    along_past g.S.EawStore.tells (g.S.EawStore.calls c.args.pages.now.store) (g.S.EawStore.calls c.loop-step.pages.store) c.args.root c.args.key c.loop-step._step c.loop-step.page c.loop-step.bytes view mid inv.on
    (g.S.EawStore.calls c.read_page-in-loop-step.new.pages.store) (g.S.EawStore.view c.read_page-in-loop-step.new.pages.store) still inv.looks.shape c.loop-step.head.link goes inv.says.link c.read_page-in-loop-step.new.bytes c.in_ok-behind.ensures.reads
    (index_pages_of view.shape) (record { page = c.loop-step.page; head = c.loop-step.head }) refl (some_said c.read_page-in-loop-step.new.bytes past.0) past.1 (omega (arith, c.loop-step-test.true, c.index_page_count-count.ensures.count))

pub returns-then-is_past-clause-page : goal.returns-then-is_past-clause-page
returns-then-is_past-clause-page g c = λ told.
    let view = g.S.EawStore.view c.args.pages.now.store in
    let mid = g.S.EawStore.view c.loop-step.pages.store in
    let inv = c.loop-step.invariant in
    let still = inv.looks.still refl in
    let goes : ends_at c.args.key c.loop-step.bytes ≡ false = sym c.if-ends_at.ensures in
    let buf = c.in_ok-behind.ensures.bytes told ∙ ap (λ (s : State). page_bytes s.bytes c.loop-step.head.link) (still.state told) in
    let more : c.loop-step.head.link ≢ 0 = λ e. ends_linked c.args.key c.loop-step.bytes goes (sym inv.says.link ∙ e) in
    let past = c.if-is_past.ensures.0 refl in
    sym (place_here view.state.bytes c.args.root c.args.table c.args.key c.loop-step._step c.loop-step.page c.loop-step.head.link (inv.place told) more
    (subst (λ (b : List ℕ). c.args.key < first_key (pairs_said b)) buf past.1))

pub loop-step-preserved : goal.loop-step-preserved
loop-step-preserved g c =
    let view = g.S.EawStore.view c.args.pages.now.store in
    let mid = g.S.EawStore.view c.loop-step.pages.store in
    let inv = c.loop-step.invariant in
    let still = inv.looks.still refl in
    let goes : ends_at c.args.key c.loop-step.bytes ≡ false = sym c.if-ends_at.ensures in
    let more : c.loop-step.head.link ≢ 0 = λ e. ends_linked c.args.key c.loop-step.bytes goes (sym inv.says.link ∙ e) in
    record {
      some = omega (arith, more);
      inside = inv.link;
      link = omega (arith, c.in_ok-behind.ensures.link, ap index_pages_of inv.looks.shape);
      looks = looks_next g.S.EawStore.tells g.S.EawStore.opens false (pages_of (g.S.EawStore.view c.args.pages.now.store) c.args.pages.now) (pages_of (g.S.EawStore.view c.loop-step.pages.store) c.loop-step.pages) (pages_of (g.S.EawStore.view c.read_page-in-loop-step.new.pages.store) c.read_page-in-loop-step.new.pages) inv.looks c.in_ok-behind.ensures.looks;
      alive = (c.in_ok-behind.ensures.looks.still refl).dead ∙ inv.alive;
      says = c.in_ok-behind.ensures.head;
      bytes = λ told. c.in_ok-behind.ensures.bytes told ∙ ap (λ (s : State). page_bytes s.bytes c.loop-step.head.link) (still.state told);
      on = along_more g.S.EawStore.tells (g.S.EawStore.calls c.args.pages.now.store) (g.S.EawStore.calls c.loop-step.pages.store) c.args.root c.args.key c.loop-step._step c.loop-step.page c.loop-step.bytes view mid inv.on
          (g.S.EawStore.calls c.read_page-in-loop-step.new.pages.store) (g.S.EawStore.view c.read_page-in-loop-step.new.pages.store) still inv.looks.shape c.loop-step.head.link goes inv.says.link c.read_page-in-loop-step.new.bytes c.in_ok-behind.ensures.reads
          (begins_below (pairs_said c.read_page-in-loop-step.new.bytes) c.args.key
          (λ some lt. false≢true (c.if-is_past.ensures.1 ((λ none. omega (arith, some, none, length-said c.read_page-in-loop-step.new.bytes)), lt))));
      few = omega (arith, c.loop-step-test.true, c.index_page_count-count.ensures.count);
      place = λ told.
          let buf = c.in_ok-behind.ensures.bytes told ∙ ap (λ (s : State). page_bytes s.bytes c.loop-step.head.link) (still.state told) in
          let some : count_said c.read_page-in-loop-step.new.bytes ≢ 0 = λ e. place_some view.state.bytes c.args.root c.args.table c.args.key c.loop-step._step c.loop-step.page c.loop-step.head.link (inv.place told) more (sym (ap count_said buf) ∙ e) in
          let le : first_key (page_pairs view.state.bytes c.loop-step.head.link) ≤ c.args.key =
          subst (λ (b : List ℕ). first_key (pairs_said b) ≤ c.args.key) buf (elim (cases_lt c.args.key (first_key (pairs_said c.read_page-in-loop-step.new.bytes))) [ inl lt ↦ absurd (false≢true (c.if-is_past.ensures.1 (some, lt))) | inr le ↦ le ]) in
          place_step view.state.bytes c.args.root c.args.table c.args.key c.loop-step._step c.loop-step.page c.loop-step.head.link c.in_ok-behind.behind.link (inv.place told) more le
          (c.in_ok-behind.ensures.head.link ∙ ap link_said buf);
    }

pub returns-clause-looks : goal.returns-clause-looks
returns-clause-looks g c =
    c.loop-step.invariant.looks

pub returns-clause-walks : goal.returns-clause-walks
returns-clause-walks g c =
    let view = g.S.EawStore.view c.args.pages.now.store in
    let mid = g.S.EawStore.view c.loop-step.pages.store in
    let inv = c.loop-step.invariant in
    let still = inv.looks.still refl in
    along_out g.S.EawStore.tells (g.S.EawStore.calls c.args.pages.now.store) (g.S.EawStore.calls c.loop-step.pages.store) c.args.root c.args.key c.loop-step._step c.loop-step.page c.loop-step.bytes view mid inv.on
    KeyPage (index_pages_of view.shape) (Stays c.args.key c.loop-step.bytes) inv.few

pub returns-clause-cause : goal.returns-clause-cause
returns-clause-cause g c =
    let view = g.S.EawStore.view c.args.pages.now.store in
    let mid = g.S.EawStore.view c.loop-step.pages.store in
    let inv = c.loop-step.invariant in
    let still = inv.looks.still refl in
    let alive : IsAlive view = sym still.dead ∙ inv.alive in (
      alive,
      λ told.
          let goes : ends_at c.args.key c.loop-step.bytes ≡ false = sym c.if-ends_at-2.ensures in
          place_out view.state.bytes c.args.root c.args.table c.args.key c.loop-step._step c.loop-step.page c.loop-step.head.link (inv.place told) (λ e. ends_linked c.args.key c.loop-step.bytes goes (sym inv.says.link ∙ e))
          (omega (arith, (c.requires.may.sound told alive).0.pages, index_pages_are view.shape view.state.bytes (g.met.S.EawStore.long c.args.pages.now.store told), c.index_page_count-count.ensures.count, c.index_page_count-count.ensures.some, c.loop-step-test.false)),
    )
