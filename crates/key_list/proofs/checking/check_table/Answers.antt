use Rattle.std.proofs.Common.{◌≡◌, ◌+◌, ◌-◌, ◌++◌, ℕ, suc, false, Option, Ok, Err, Result, IsTrue, refl, sym, ◌∙◌, ap, subst, arith}
use Rattle.eaw_face.specs.State.{State}
use Rattle.eaw_face.specs.Causes.{IsAlive}
use Rattle.record_slots.specs.Places.{next_slot, next_page, page_bytes}
use Rattle.record_slots.specs.Super.{SaysSuper}
use Rattle.page_store.specs.Shown.{pages_of}
use Rattle.page_store.specs.declared.index_fault.CheckFault.{CheckFault}
use Rattle.index_pages.specs.Page.{pairs_said, link_said}
use Rattle.index_pages.proofs.Looking.{looks_none, looks_next}
use Rattle.index_pages.specs.Slots.{IsVerdict}
use Rattle.page_store.specs.Records.{rows_of}
use Rattle.index_pages.proofs.Gathered.{RowsLeft}
use Rattle.key_list.specs.Chain.{pairs_check, chain_pairs, pairs_of_chain}
use Rattle.key_list.proofs.Gathering.{rows_on, rows_end}
use Rattle.key_list.specs.Checked.{low_of}
use Rattle.key_list.proofs.Testing.{ChainLeft, chain_none, head_fails, pairs_fail, link_fails, link_ends, link_on, table_err}
use Rattle.page_store.specs.Looks.{is_failed, is_check_failed}
use Rattle.page_store.specs.declared.fault.PageFault.{PageFault}
use Rattle.index_pages.proofs.Tests.{check_looks}
use Rattle.std.proofs.Common.{◌<◌, ◌≤◌, List, None}
use Rattle.std.specs.Prelude.{nat_eq}
use Rattle.array_shape.specs.declared.shape.Shape.{Shape}
use Rattle.page_store.specs.Index.{index_pages_of}
use Rattle.page_store.specs.Tested.{Plan, at_end, holding, in_turn}
use Rattle.index_pages.specs.Plans.{Tries}
use Rattle.index_pages.proofs.Trying.{SoFar, so_first, so_holds, so_bad, so_passes, so_then, so_fails, so_page, so_page_err}
use Rattle.key_list.specs.Chain.{behind, IsChainHead}
use Rattle.key_list.specs.Tried.{pairs_plan, chain_plan_from, chain_plan}
use Rattle.key_list.proofs.Trials.{linked, link_none, link_some}
use Rattle.std.proofs.lemmas.Result.{err_from_is_err_and}
use Rattle.key_list.proofs.checking.check_table.Goals as goal

pub returns-in_default-clause-cause : goal.returns-in_default-clause-cause
returns-in_default-clause-cause g c =
    let T = g.S.EawStore.tells in
    let V = g.S.EawStore.view in
    let E = g.S.EawStore.opens in
    let view = V c.args.pages.now.store in
    let b = view.state.bytes in
    let inv = c.loop-step.invariant in
    let still = inv.looks.still refl in
    let alive : IsAlive view = sym still.dead ∙ inv.alive in
    let n = c.args.front.now.next_page - suc c.loop-step._step in
    let left = λ (told : IsTrue g.S.EawStore.tells) (says : SaysSuper (page_bytes b 0) c.args.front.now). subst (λ (m : ℕ). ChainLeft b c.args.root c.args.table c.loop-step.page (low_of c.loop-step.last) m)
    (let e : c.args.front.now.next_page - c.loop-step._step ≡ suc (c.args.front.now.next_page - suc c.loop-step._step) = omega (arith, c.loop-step-test.true) in e) (inv.left told says) in
    let buf = λ (told : IsTrue g.S.EawStore.tells). c.in_ok-fetch_page.ensures.bytes told ∙ ap (λ (s : State). page_bytes s.bytes c.loop-step.page) (still.state told) in
    (λ told says. head_fails b c.fetch_page.new.bytes c.args.root c.args.table c.loop-step.page (low_of c.loop-step.last) n (buf told) (left told says) c.in_default.ensures.other)

pub returns-in_err-last-clause-cause : goal.returns-in_err-last-clause-cause
returns-in_err-last-clause-cause g c =
    let exit = err_from_is_err_and c.from_residual-in_err-last.result c.from_residual-in_err-last.ensures.1 in
    rw (exit.1, exit.2) (
    let T = g.S.EawStore.tells in
    let V = g.S.EawStore.view in
    let E = g.S.EawStore.opens in
    let view = V c.args.pages.now.store in
    let b = view.state.bytes in
    let inv = c.loop-step.invariant in
    let still = inv.looks.still refl in
    let alive : IsAlive view = sym still.dead ∙ inv.alive in
    let n = c.args.front.now.next_page - suc c.loop-step._step in
    let left = λ (told : IsTrue g.S.EawStore.tells) (says : SaysSuper (page_bytes b 0) c.args.front.now). subst (λ (m : ℕ). ChainLeft b c.args.root c.args.table c.loop-step.page (low_of c.loop-step.last) m)
    (let e : c.args.front.now.next_page - c.loop-step._step ≡ suc (c.args.front.now.next_page - suc c.loop-step._step) = omega (arith, c.loop-step-test.true) in e) (inv.left told says) in
    let buf = λ (told : IsTrue g.S.EawStore.tells). c.in_ok-fetch_page.ensures.bytes told ∙ ap (λ (s : State). page_bytes s.bytes c.loop-step.page) (still.state told) in
    let looks2 = looks_next T E false (pages_of view c.args.pages.now) (pages_of (V c.loop-step.pages.store) c.loop-step.pages) (pages_of (V c.fetch_page.new.pages.store) c.fetch_page.new.pages) inv.looks c.in_ok-fetch_page.ensures.looks in
    let same2 = λ (told : IsTrue g.S.EawStore.tells). (looks2.still refl).state told in
    let slots = λ (told : IsTrue g.S.EawStore.tells) (says : SaysSuper (page_bytes b 0) c.args.front.now). says.next_slot ∙ ap (λ (s : State). next_slot s.bytes) (sym (same2 told)) in
    λ told says. table_err b c.args.root c.args.table c.in_err-last.field-0.0 (λ bad e.
    (let r : Result (Option ℕ) CheckFault = Err c.in_err-last.field-0.0 in
    pairs_fail b c.fetch_page.new.bytes c.args.root c.args.table c.loop-step.page (low_of c.loop-step.last) n (buf told) (left told says) c.in-Some.ensures.head c.in_err-last.field-0.0 bad e
    (subst (λ (s : State). IsVerdict (pairs_check s.bytes c.args.table c.loop-step.page (low_of c.loop-step.last) (pairs_said c.fetch_page.new.bytes)) r) (same2 told) (c.in_err-last.ensures.cause told (slots told says))))))

pub returns-then-head-eq0-clause-cause : goal.returns-then-head-eq0-clause-cause
returns-then-head-eq0-clause-cause g c =
    let T = g.S.EawStore.tells in
    let V = g.S.EawStore.view in
    let E = g.S.EawStore.opens in
    let view = V c.args.pages.now.store in
    let b = view.state.bytes in
    let inv = c.loop-step.invariant in
    let still = inv.looks.still refl in
    let alive : IsAlive view = sym still.dead ∙ inv.alive in
    let n = c.args.front.now.next_page - suc c.loop-step._step in
    let left = λ (told : IsTrue g.S.EawStore.tells) (says : SaysSuper (page_bytes b 0) c.args.front.now). subst (λ (m : ℕ). ChainLeft b c.args.root c.args.table c.loop-step.page (low_of c.loop-step.last) m)
    (let e : c.args.front.now.next_page - c.loop-step._step ≡ suc (c.args.front.now.next_page - suc c.loop-step._step) = omega (arith, c.loop-step-test.true) in e) (inv.left told says) in
    let buf = λ (told : IsTrue g.S.EawStore.tells). c.in_ok-fetch_page.ensures.bytes told ∙ ap (λ (s : State). page_bytes s.bytes c.loop-step.page) (still.state told) in
    let looks2 = looks_next T E false (pages_of view c.args.pages.now) (pages_of (V c.loop-step.pages.store) c.loop-step.pages) (pages_of (V c.fetch_page.new.pages.store) c.fetch_page.new.pages) inv.looks c.in_ok-fetch_page.ensures.looks in
    let same2 = λ (told : IsTrue g.S.EawStore.tells). (looks2.still refl).state told in
    let slots = λ (told : IsTrue g.S.EawStore.tells) (says : SaysSuper (page_bytes b 0) c.args.front.now). says.next_slot ∙ ap (λ (s : State). next_slot s.bytes) (sym (same2 told)) in
    let well = λ (told : IsTrue g.S.EawStore.tells) (says : SaysSuper (page_bytes b 0) c.args.front.now).
    (let r : Result (Option ℕ) CheckFault = Ok c.in_ok-last.last in
    subst (λ (s : State). IsVerdict (pairs_check s.bytes c.args.table c.loop-step.page (low_of c.loop-step.last) (pairs_said c.fetch_page.new.bytes)) r) (same2 told) (c.in_ok-last.ensures.cause told (slots told says))) in
    (λ told says. link_ends b c.fetch_page.new.bytes c.args.root c.args.table c.loop-step.page (low_of c.loop-step.last) n (buf told) (left told says) c.in-Some.ensures.head (well told says) (sym c.in-Some.ensures.says.link ∙ c.if-head-eq0.true))

pub returns-then-head-lt2-clause-cause : goal.returns-then-head-lt2-clause-cause
returns-then-head-lt2-clause-cause g c =
    let T = g.S.EawStore.tells in
    let V = g.S.EawStore.view in
    let E = g.S.EawStore.opens in
    let view = V c.args.pages.now.store in
    let b = view.state.bytes in
    let inv = c.loop-step.invariant in
    let still = inv.looks.still refl in
    let alive : IsAlive view = sym still.dead ∙ inv.alive in
    let n = c.args.front.now.next_page - suc c.loop-step._step in
    let left = λ (told : IsTrue g.S.EawStore.tells) (says : SaysSuper (page_bytes b 0) c.args.front.now). subst (λ (m : ℕ). ChainLeft b c.args.root c.args.table c.loop-step.page (low_of c.loop-step.last) m)
    (let e : c.args.front.now.next_page - c.loop-step._step ≡ suc (c.args.front.now.next_page - suc c.loop-step._step) = omega (arith, c.loop-step-test.true) in e) (inv.left told says) in
    let buf = λ (told : IsTrue g.S.EawStore.tells). c.in_ok-fetch_page.ensures.bytes told ∙ ap (λ (s : State). page_bytes s.bytes c.loop-step.page) (still.state told) in
    let looks2 = looks_next T E false (pages_of view c.args.pages.now) (pages_of (V c.loop-step.pages.store) c.loop-step.pages) (pages_of (V c.fetch_page.new.pages.store) c.fetch_page.new.pages) inv.looks c.in_ok-fetch_page.ensures.looks in
    let same2 = λ (told : IsTrue g.S.EawStore.tells). (looks2.still refl).state told in
    let slots = λ (told : IsTrue g.S.EawStore.tells) (says : SaysSuper (page_bytes b 0) c.args.front.now). says.next_slot ∙ ap (λ (s : State). next_slot s.bytes) (sym (same2 told)) in
    let well = λ (told : IsTrue g.S.EawStore.tells) (says : SaysSuper (page_bytes b 0) c.args.front.now).
    (let r : Result (Option ℕ) CheckFault = Ok c.in_ok-last.last in
    subst (λ (s : State). IsVerdict (pairs_check s.bytes c.args.table c.loop-step.page (low_of c.loop-step.last) (pairs_said c.fetch_page.new.bytes)) r) (same2 told) (c.in_ok-last.ensures.cause told (slots told says))) in
    (λ told says. link_fails b c.fetch_page.new.bytes c.args.root c.args.table c.loop-step.page (low_of c.loop-step.last) n (buf told) (left told says) c.in-Some.ensures.head (well told says)
    (λ e. c.if-head-eq0.false (c.in-Some.ensures.says.link ∙ e)) (λ to. omega (arith, to.0, c.if-head-lt2.true, c.in-Some.ensures.says.link)))

pub returns-then-head-front-clause-cause : goal.returns-then-head-front-clause-cause
returns-then-head-front-clause-cause g c =
    let T = g.S.EawStore.tells in
    let V = g.S.EawStore.view in
    let E = g.S.EawStore.opens in
    let view = V c.args.pages.now.store in
    let b = view.state.bytes in
    let inv = c.loop-step.invariant in
    let still = inv.looks.still refl in
    let alive : IsAlive view = sym still.dead ∙ inv.alive in
    let n = c.args.front.now.next_page - suc c.loop-step._step in
    let left = λ (told : IsTrue g.S.EawStore.tells) (says : SaysSuper (page_bytes b 0) c.args.front.now). subst (λ (m : ℕ). ChainLeft b c.args.root c.args.table c.loop-step.page (low_of c.loop-step.last) m)
    (let e : c.args.front.now.next_page - c.loop-step._step ≡ suc (c.args.front.now.next_page - suc c.loop-step._step) = omega (arith, c.loop-step-test.true) in e) (inv.left told says) in
    let buf = λ (told : IsTrue g.S.EawStore.tells). c.in_ok-fetch_page.ensures.bytes told ∙ ap (λ (s : State). page_bytes s.bytes c.loop-step.page) (still.state told) in
    let looks2 = looks_next T E false (pages_of view c.args.pages.now) (pages_of (V c.loop-step.pages.store) c.loop-step.pages) (pages_of (V c.fetch_page.new.pages.store) c.fetch_page.new.pages) inv.looks c.in_ok-fetch_page.ensures.looks in
    let same2 = λ (told : IsTrue g.S.EawStore.tells). (looks2.still refl).state told in
    let slots = λ (told : IsTrue g.S.EawStore.tells) (says : SaysSuper (page_bytes b 0) c.args.front.now). says.next_slot ∙ ap (λ (s : State). next_slot s.bytes) (sym (same2 told)) in
    let well = λ (told : IsTrue g.S.EawStore.tells) (says : SaysSuper (page_bytes b 0) c.args.front.now).
    (let r : Result (Option ℕ) CheckFault = Ok c.in_ok-last.last in
    subst (λ (s : State). IsVerdict (pairs_check s.bytes c.args.table c.loop-step.page (low_of c.loop-step.last) (pairs_said c.fetch_page.new.bytes)) r) (same2 told) (c.in_ok-last.ensures.cause told (slots told says))) in
    (λ told says. link_fails b c.fetch_page.new.bytes c.args.root c.args.table c.loop-step.page (low_of c.loop-step.last) n (buf told) (left told says) c.in-Some.ensures.head (well told says)
    (λ e. c.if-head-eq0.false (c.in-Some.ensures.says.link ∙ e)) (λ to. omega (arith, to.1, c.if-head-front.true, c.in-Some.ensures.says.link, says.next_page)))

pub loop-step-preserved : goal.loop-step-preserved
loop-step-preserved g c =
    let T = g.S.EawStore.tells in
    let V = g.S.EawStore.view in
    let E = g.S.EawStore.opens in
    let view = V c.args.pages.now.store in
    let b = view.state.bytes in
    let inv = c.loop-step.invariant in
    let still = inv.looks.still refl in
    let alive : IsAlive view = sym still.dead ∙ inv.alive in
    let n = c.args.front.now.next_page - suc c.loop-step._step in
    let left = λ (told : IsTrue g.S.EawStore.tells) (says : SaysSuper (page_bytes b 0) c.args.front.now). subst (λ (m : ℕ). ChainLeft b c.args.root c.args.table c.loop-step.page (low_of c.loop-step.last) m)
    (let e : c.args.front.now.next_page - c.loop-step._step ≡ suc (c.args.front.now.next_page - suc c.loop-step._step) = omega (arith, c.loop-step-test.true) in e) (inv.left told says) in
    let buf = λ (told : IsTrue g.S.EawStore.tells). c.in_ok-fetch_page.ensures.bytes told ∙ ap (λ (s : State). page_bytes s.bytes c.loop-step.page) (still.state told) in
    let looks2 = looks_next T E false (pages_of view c.args.pages.now) (pages_of (V c.loop-step.pages.store) c.loop-step.pages) (pages_of (V c.fetch_page.new.pages.store) c.fetch_page.new.pages) inv.looks c.in_ok-fetch_page.ensures.looks in
    let same2 = λ (told : IsTrue g.S.EawStore.tells). (looks2.still refl).state told in
    let slots = λ (told : IsTrue g.S.EawStore.tells) (says : SaysSuper (page_bytes b 0) c.args.front.now). says.next_slot ∙ ap (λ (s : State). next_slot s.bytes) (sym (same2 told)) in
    let well = λ (told : IsTrue g.S.EawStore.tells) (says : SaysSuper (page_bytes b 0) c.args.front.now).
    (let r : Result (Option ℕ) CheckFault = Ok c.in_ok-last.last in
    subst (λ (s : State). IsVerdict (pairs_check s.bytes c.args.table c.loop-step.page (low_of c.loop-step.last) (pairs_said c.fetch_page.new.bytes)) r) (same2 told) (c.in_ok-last.ensures.cause told (slots told says))) in
    let looks3 = looks_next T E false (pages_of view c.args.pages.now) (pages_of (V c.fetch_page.new.pages.store) c.fetch_page.new.pages) (pages_of (V c.check_pairs.new.pages.store) c.check_pairs.new.pages) looks2 c.in_ok-last.ensures.looks in
    record {
      inside = omega (arith, c.if-head-front.false, c.requires.front.pages);
      looks = looks3;
      alive = (looks3.still refl).dead ∙ alive;
      low = c.in_ok-last.ensures.low;
      rows = λ told says.
          let on : suc c.loop-step._step ≡ c.loop-step._step + 1 = omega arith in
          subst (λ (x : ℕ). RowsLeft b c.args.rows.now (pairs_of_chain b c.args.root) c.check_pairs.new.rows (chain_pairs (c.args.front.now.next_page - (c.loop-step._step + 1)) b x)) (sym c.in-Some.ensures.says.link)
          (subst (λ (m : ℕ). RowsLeft b c.args.rows.now (pairs_of_chain b c.args.root) c.check_pairs.new.rows (chain_pairs (c.args.front.now.next_page - m) b (link_said c.fetch_page.new.bytes))) on
          (rows_on b c.fetch_page.new.bytes c.args.rows.now (pairs_of_chain b c.args.root) c.loop-step.rows c.check_pairs.new.rows c.loop-step.page n (buf told)
          (subst (λ (m : ℕ). RowsLeft b c.args.rows.now (pairs_of_chain b c.args.root) c.loop-step.rows (chain_pairs m b c.loop-step.page))
          (let e : c.args.front.now.next_page - c.loop-step._step ≡ suc (c.args.front.now.next_page - suc c.loop-step._step) = omega (arith, c.loop-step-test.true) in e) (inv.rows told says))
          (c.in_ok-last.ensures.rows told ∙ (λ i. c.loop-step.rows ++ rows_of (same2 told i).bytes (pairs_said c.fetch_page.new.bytes))) (λ e. c.if-head-eq0.false (c.in-Some.ensures.says.link ∙ e))));
      left = λ told says.
          let next = link_on b c.fetch_page.new.bytes c.args.root c.args.table c.loop-step.page (low_of c.loop-step.last) n (buf told) (left told says) c.in-Some.ensures.head (well told says) (λ e. c.if-head-eq0.false (c.in-Some.ensures.says.link ∙ e)) c.in_ok-last.last c.in_ok-last.ensures.behind
          (omega (arith, c.if-head-lt2.false, c.in-Some.ensures.says.link), omega (arith, c.if-head-front.false, c.in-Some.ensures.says.link, says.next_page)) in
          subst (λ (x : ℕ). ChainLeft b c.args.root c.args.table x (low_of c.in_ok-last.last) (c.args.front.now.next_page - (c.loop-step._step + 1))) (sym c.in-Some.ensures.says.link)
          (subst (λ (m : ℕ). ChainLeft b c.args.root c.args.table (link_said c.fetch_page.new.bytes) (low_of c.in_ok-last.last) (c.args.front.now.next_page - m)) (let e : suc c.loop-step._step ≡ c.loop-step._step + 1 = omega arith in e) next);
      tests =
          subst (λ (x : ℕ). SoFar g.S.EawStore.tells (g.S.EawStore.calls c.args.pages.now.store) (g.S.EawStore.calls c.check_pairs.new.pages.store) (chain_plan_from (g.S.EawStore.view c.args.pages.now.store).shape c.args.front.now c.args.table (c.args.front.now.next_page - (c.loop-step._step + 1)) x (low_of c.in_ok-last.last)) (chain_plan (g.S.EawStore.view c.args.pages.now.store).shape c.args.front.now c.args.root c.args.table) (g.S.EawStore.view c.args.pages.now.store) (g.S.EawStore.view c.check_pairs.new.pages.store)) (sym c.in-Some.ensures.says.link)
          (subst (λ (x : ℕ). SoFar g.S.EawStore.tells (g.S.EawStore.calls c.args.pages.now.store) (g.S.EawStore.calls c.check_pairs.new.pages.store) (chain_plan_from (g.S.EawStore.view c.args.pages.now.store).shape c.args.front.now c.args.table (c.args.front.now.next_page - (c.loop-step._step + 1)) (link_said c.fetch_page.new.bytes) x) (chain_plan (g.S.EawStore.view c.args.pages.now.store).shape c.args.front.now c.args.root c.args.table) (g.S.EawStore.view c.args.pages.now.store) (g.S.EawStore.view c.check_pairs.new.pages.store)) (sym c.in_ok-last.ensures.behind)
          (so_holds _ _ _ (subst (λ (p : Plan). SoFar g.S.EawStore.tells (g.S.EawStore.calls c.args.pages.now.store) (g.S.EawStore.calls c.check_pairs.new.pages.store) p (chain_plan (g.S.EawStore.view c.args.pages.now.store).shape c.args.front.now c.args.root c.args.table) (g.S.EawStore.view c.args.pages.now.store) (g.S.EawStore.view c.check_pairs.new.pages.store)) (link_some (g.S.EawStore.view c.args.pages.now.store).shape c.args.front.now c.args.table (c.args.front.now.next_page - (c.loop-step._step + 1)) c.loop-step.page (low_of c.loop-step.last) c.fetch_page.new.bytes (λ (e : link_said c.fetch_page.new.bytes ≡ 0). c.if-head-eq0.false (c.in-Some.ensures.says.link ∙ e))) (let r : Result (Option ℕ) CheckFault = Ok c.in_ok-last.last in so_then ((looks_next g.S.EawStore.tells g.S.EawStore.opens false (pages_of (g.S.EawStore.view c.args.pages.now.store) c.args.pages.now) (pages_of (g.S.EawStore.view c.loop-step.pages.store) c.loop-step.pages) (pages_of (g.S.EawStore.view c.fetch_page.new.pages.store) c.fetch_page.new.pages) c.loop-step.invariant.looks c.in_ok-fetch_page.ensures.looks).still refl) (looks_next g.S.EawStore.tells g.S.EawStore.opens false (pages_of (g.S.EawStore.view c.args.pages.now.store) c.args.pages.now) (pages_of (g.S.EawStore.view c.loop-step.pages.store) c.loop-step.pages) (pages_of (g.S.EawStore.view c.fetch_page.new.pages.store) c.fetch_page.new.pages) c.loop-step.invariant.looks c.in_ok-fetch_page.ensures.looks).shape (pairs_plan (index_pages_of (g.S.EawStore.view c.args.pages.now.store).shape) c.args.front.now.next_slot c.args.table c.loop-step.page (low_of c.loop-step.last) None (pairs_said c.fetch_page.new.bytes)) (linked (g.S.EawStore.view c.args.pages.now.store).shape c.args.front.now c.args.table (c.args.front.now.next_page - (c.loop-step._step + 1)) c.loop-step.page (low_of c.loop-step.last) c.fetch_page.new.bytes) c.in_ok-last.last (so_holds _ _ _ (so_page (c.loop-step.invariant.looks.still refl) c.loop-step.invariant.looks.shape c.loop-step.page (λ said. holding (IsChainHead (low_of c.loop-step.last) said) c.loop-step.page (in_turn (pairs_plan (index_pages_of (g.S.EawStore.view c.args.pages.now.store).shape) c.args.front.now.next_slot c.args.table c.loop-step.page (low_of c.loop-step.last) None (pairs_said said)) (linked (g.S.EawStore.view c.args.pages.now.store).shape c.args.front.now c.args.table (c.args.front.now.next_page - (c.loop-step._step + 1)) c.loop-step.page (low_of c.loop-step.last) said))) c.fetch_page.new.bytes (subst (λ (m : ℕ). SoFar g.S.EawStore.tells (g.S.EawStore.calls c.args.pages.now.store) (g.S.EawStore.calls c.loop-step.pages.store) (chain_plan_from (g.S.EawStore.view c.args.pages.now.store).shape c.args.front.now c.args.table m c.loop-step.page (low_of c.loop-step.last)) (chain_plan (g.S.EawStore.view c.args.pages.now.store).shape c.args.front.now c.args.root c.args.table) (g.S.EawStore.view c.args.pages.now.store) (g.S.EawStore.view c.loop-step.pages.store)) (let e : c.args.front.now.next_page - c.loop-step._step ≡ suc (c.args.front.now.next_page - (c.loop-step._step + 1)) = omega (arith, c.loop-step-test.true) in e) c.loop-step.invariant.tests) c.in_ok-fetch_page.ensures.reads) c.in-Some.ensures.head) (subst (λ (s : Shape). Tries g.S.EawStore.tells (g.S.EawStore.calls c.fetch_page.new.pages.store) (g.S.EawStore.calls c.check_pairs.new.pages.store) (pairs_plan (index_pages_of s) c.args.front.now.next_slot c.args.table c.loop-step.page (low_of c.loop-step.last) None (pairs_said c.fetch_page.new.bytes)) (g.S.EawStore.view c.fetch_page.new.pages.store) (g.S.EawStore.view c.check_pairs.new.pages.store) r) (looks_next g.S.EawStore.tells g.S.EawStore.opens false (pages_of (g.S.EawStore.view c.args.pages.now.store) c.args.pages.now) (pages_of (g.S.EawStore.view c.loop-step.pages.store) c.loop-step.pages) (pages_of (g.S.EawStore.view c.fetch_page.new.pages.store) c.fetch_page.new.pages) c.loop-step.invariant.looks c.in_ok-fetch_page.ensures.looks).shape c.in_ok-last.ensures.tests))) (omega (arith, c.if-head-lt2.false, c.in-Some.ensures.says.link), omega (arith, c.if-head-front.false, c.in-Some.ensures.says.link))));
    }

pub returns-clause-cause : goal.returns-clause-cause
returns-clause-cause g c =
    let T = g.S.EawStore.tells in
    let V = g.S.EawStore.view in
    let E = g.S.EawStore.opens in
    let view = V c.args.pages.now.store in
    let b = view.state.bytes in
    let inv = c.loop-step.invariant in
    let still = inv.looks.still refl in
    let alive : IsAlive view = sym still.dead ∙ inv.alive in
    (λ told says. chain_none b c.args.root c.args.table c.loop-step.page (low_of c.loop-step.last) (c.args.front.now.next_page - c.loop-step._step) (omega (arith, c.loop-step-test.false)) (inv.left told says))

pub loop-step-init : goal.loop-step-init
unfolding pairs_of_chain
loop-step-init g c =
    let view = g.S.EawStore.view c.args.pages.now.store in
    record {
      inside = c.requires.root;
      looks = looks_none g.S.EawStore.tells (g.S.EawStore.opens view.shape) (pages_of view c.args.pages.now);
      alive = c.requires.alive;
      low = omega arith;
      rows = λ told says. subst (λ (m : ℕ). RowsLeft view.state.bytes c.args.rows.now (pairs_of_chain view.state.bytes c.args.root) c.args.rows.now (chain_pairs m view.state.bytes c.args.root)) (let e : next_page view.state.bytes ≡ c.args.front.now.next_page - 0 = omega (arith, says.next_page) in e) refl;
      left = λ told says. subst (λ (m : ℕ). ChainLeft view.state.bytes c.args.root c.args.table c.args.root 0 m) (let e : next_page view.state.bytes ≡ c.args.front.now.next_page - 0 = omega (arith, says.next_page) in e)
          (λ verdict rest. rest);
      tests = subst (λ (m : ℕ). SoFar g.S.EawStore.tells (g.S.EawStore.calls c.args.pages.now.store) (g.S.EawStore.calls c.args.pages.now.store) (chain_plan_from (g.S.EawStore.view c.args.pages.now.store).shape c.args.front.now c.args.table m c.args.root 0) (chain_plan (g.S.EawStore.view c.args.pages.now.store).shape c.args.front.now c.args.root c.args.table) (g.S.EawStore.view c.args.pages.now.store) (g.S.EawStore.view c.args.pages.now.store)) (let e : c.args.front.now.next_page ≡ c.args.front.now.next_page - 0 = omega arith in e) (so_first (chain_plan (g.S.EawStore.view c.args.pages.now.store).shape c.args.front.now c.args.root c.args.table));
    }

pub returns-in_default-clause-looks : goal.returns-in_default-clause-looks
returns-in_default-clause-looks g c = looks_next g.S.EawStore.tells g.S.EawStore.opens false (pages_of (g.S.EawStore.view c.args.pages.now.store) c.args.pages.now) (pages_of (g.S.EawStore.view c.loop-step.pages.store) c.loop-step.pages) (pages_of (g.S.EawStore.view c.fetch_page.new.pages.store) c.fetch_page.new.pages) c.loop-step.invariant.looks c.in_ok-fetch_page.ensures.looks

pub returns-in_default-clause-dead : goal.returns-in_default-clause-dead
returns-in_default-clause-dead g c = λ is. cc

pub returns-then-head-eq0-clause-looks : goal.returns-then-head-eq0-clause-looks
returns-then-head-eq0-clause-looks g c = looks_next g.S.EawStore.tells g.S.EawStore.opens false (pages_of (g.S.EawStore.view c.args.pages.now.store) c.args.pages.now) (pages_of (g.S.EawStore.view c.fetch_page.new.pages.store) c.fetch_page.new.pages) (pages_of (g.S.EawStore.view c.check_pairs.new.pages.store) c.check_pairs.new.pages) (looks_next g.S.EawStore.tells g.S.EawStore.opens false (pages_of (g.S.EawStore.view c.args.pages.now.store) c.args.pages.now) (pages_of (g.S.EawStore.view c.loop-step.pages.store) c.loop-step.pages) (pages_of (g.S.EawStore.view c.fetch_page.new.pages.store) c.fetch_page.new.pages) c.loop-step.invariant.looks c.in_ok-fetch_page.ensures.looks) c.in_ok-last.ensures.looks

pub returns-then-head-eq0-clause-dead : goal.returns-then-head-eq0-clause-dead
returns-then-head-eq0-clause-dead g c = λ is. cc

pub returns-then-head-lt2-clause-looks : goal.returns-then-head-lt2-clause-looks
returns-then-head-lt2-clause-looks g c = looks_next g.S.EawStore.tells g.S.EawStore.opens false (pages_of (g.S.EawStore.view c.args.pages.now.store) c.args.pages.now) (pages_of (g.S.EawStore.view c.fetch_page.new.pages.store) c.fetch_page.new.pages) (pages_of (g.S.EawStore.view c.check_pairs.new.pages.store) c.check_pairs.new.pages) (looks_next g.S.EawStore.tells g.S.EawStore.opens false (pages_of (g.S.EawStore.view c.args.pages.now.store) c.args.pages.now) (pages_of (g.S.EawStore.view c.loop-step.pages.store) c.loop-step.pages) (pages_of (g.S.EawStore.view c.fetch_page.new.pages.store) c.fetch_page.new.pages) c.loop-step.invariant.looks c.in_ok-fetch_page.ensures.looks) c.in_ok-last.ensures.looks

pub returns-then-head-lt2-clause-dead : goal.returns-then-head-lt2-clause-dead
returns-then-head-lt2-clause-dead g c = λ is. cc

pub returns-then-head-front-clause-looks : goal.returns-then-head-front-clause-looks
returns-then-head-front-clause-looks g c = looks_next g.S.EawStore.tells g.S.EawStore.opens false (pages_of (g.S.EawStore.view c.args.pages.now.store) c.args.pages.now) (pages_of (g.S.EawStore.view c.fetch_page.new.pages.store) c.fetch_page.new.pages) (pages_of (g.S.EawStore.view c.check_pairs.new.pages.store) c.check_pairs.new.pages) (looks_next g.S.EawStore.tells g.S.EawStore.opens false (pages_of (g.S.EawStore.view c.args.pages.now.store) c.args.pages.now) (pages_of (g.S.EawStore.view c.loop-step.pages.store) c.loop-step.pages) (pages_of (g.S.EawStore.view c.fetch_page.new.pages.store) c.fetch_page.new.pages) c.loop-step.invariant.looks c.in_ok-fetch_page.ensures.looks) c.in_ok-last.ensures.looks

pub returns-then-head-front-clause-dead : goal.returns-then-head-front-clause-dead
returns-then-head-front-clause-dead g c = λ is. cc

pub returns-clause-looks : goal.returns-clause-looks
returns-clause-looks g c =
    looks_next g.S.EawStore.tells g.S.EawStore.opens false (pages_of (g.S.EawStore.view c.args.pages.now.store) c.args.pages.now) (pages_of (g.S.EawStore.view c.loop-step.pages.store) c.loop-step.pages)
    (pages_of (g.S.EawStore.view c.fetch_page-2.new.pages.store) c.fetch_page-2.new.pages) c.loop-step.invariant.looks c.in_ok-fetch_page-2.ensures.looks

pub returns-clause-dead : goal.returns-clause-dead
returns-clause-dead g c = λ is. cc

pub returns-then-head-eq0-clause-rows : goal.returns-then-head-eq0-clause-rows
returns-then-head-eq0-clause-rows g c =
    let T = g.S.EawStore.tells in
    let V = g.S.EawStore.view in
    let E = g.S.EawStore.opens in
    let view = V c.args.pages.now.store in
    let b = view.state.bytes in
    let inv = c.loop-step.invariant in
    let still = inv.looks.still refl in
    let n = c.args.front.now.next_page - suc c.loop-step._step in
    let buf = λ (told : IsTrue g.S.EawStore.tells). c.in_ok-fetch_page.ensures.bytes told ∙ ap (λ (s : State). page_bytes s.bytes c.loop-step.page) (still.state told) in
    let looks2 = looks_next T E false (pages_of view c.args.pages.now) (pages_of (V c.loop-step.pages.store) c.loop-step.pages) (pages_of (V c.fetch_page.new.pages.store) c.fetch_page.new.pages) inv.looks c.in_ok-fetch_page.ensures.looks in
    let same2 = λ (told : IsTrue g.S.EawStore.tells). (looks2.still refl).state told in
    λ told says. rows_end b c.fetch_page.new.bytes c.args.rows.now (pairs_of_chain b c.args.root) c.loop-step.rows c.check_pairs.new.rows c.loop-step.page n (buf told)
    (subst (λ (m : ℕ). RowsLeft b c.args.rows.now (pairs_of_chain b c.args.root) c.loop-step.rows (chain_pairs m b c.loop-step.page))
    (let e : c.args.front.now.next_page - c.loop-step._step ≡ suc (c.args.front.now.next_page - suc c.loop-step._step) = omega (arith, c.loop-step-test.true) in e) (inv.rows told says))
    (c.in_ok-last.ensures.rows told ∙ (λ i. c.loop-step.rows ++ rows_of (same2 told i).bytes (pairs_said c.fetch_page.new.bytes))) (sym c.in-Some.ensures.says.link ∙ c.if-head-eq0.true)

pub returns-in_err-fetch_page-clause-looks : goal.returns-in_err-fetch_page-clause-looks
returns-in_err-fetch_page-clause-looks g c =
    let exit = err_from_is_err_and c.from_residual.result c.from_residual.ensures.1 in
    rw (exit.1) (
    let r : Result (Unit {0}) PageFault = Err c.in_err-fetch_page.field-0.0 in
    check_looks (Unit {0}) g.S.EawStore.tells (g.S.EawStore.opens (g.S.EawStore.view c.args.pages.now.store).shape) (pages_of (g.S.EawStore.view c.args.pages.now.store) c.args.pages.now) (pages_of (g.S.EawStore.view c.fetch_page.new.pages.store) c.fetch_page.new.pages) c.in_err-fetch_page.field-0.0 exit.0 exit.2
    (looks_next g.S.EawStore.tells g.S.EawStore.opens (is_failed r) (pages_of (g.S.EawStore.view c.args.pages.now.store) c.args.pages.now) (pages_of (g.S.EawStore.view c.loop-step.pages.store) c.loop-step.pages) (pages_of (g.S.EawStore.view c.fetch_page.new.pages.store) c.fetch_page.new.pages) c.loop-step.invariant.looks c.in_err-fetch_page.ensures.looks))

pub returns-in_err-last-clause-looks : goal.returns-in_err-last-clause-looks
returns-in_err-last-clause-looks g c =
    let exit = err_from_is_err_and c.from_residual-in_err-last.result c.from_residual-in_err-last.ensures.1 in
    rw (exit.1, exit.2) (
    let r : Result (Unit {0}) CheckFault = Err c.in_err-last.field-0.0 in
    looks_next g.S.EawStore.tells g.S.EawStore.opens (is_check_failed r) (pages_of (g.S.EawStore.view c.args.pages.now.store) c.args.pages.now) (pages_of (g.S.EawStore.view c.fetch_page.new.pages.store) c.fetch_page.new.pages) (pages_of (g.S.EawStore.view c.check_pairs.new.pages.store) c.check_pairs.new.pages)
    (looks_next g.S.EawStore.tells g.S.EawStore.opens false (pages_of (g.S.EawStore.view c.args.pages.now.store) c.args.pages.now) (pages_of (g.S.EawStore.view c.loop-step.pages.store) c.loop-step.pages) (pages_of (g.S.EawStore.view c.fetch_page.new.pages.store) c.fetch_page.new.pages) c.loop-step.invariant.looks c.in_ok-fetch_page.ensures.looks) c.in_err-last.ensures.looks)

pub returns-in_err-fetch_page-clause-tests : goal.returns-in_err-fetch_page-clause-tests
returns-in_err-fetch_page-clause-tests g c =
    let exit = err_from_is_err_and c.from_residual.result c.from_residual.ensures.1 in
    rw (exit.1) (
    so_page_err (c.loop-step.invariant.looks.still refl) c.loop-step.invariant.looks.shape (Unit {0}) c.loop-step.page (λ said. holding (IsChainHead (low_of c.loop-step.last) said) c.loop-step.page (in_turn (pairs_plan (index_pages_of (g.S.EawStore.view c.args.pages.now.store).shape) c.args.front.now.next_slot c.args.table c.loop-step.page (low_of c.loop-step.last) None (pairs_said said)) (linked (g.S.EawStore.view c.args.pages.now.store).shape c.args.front.now c.args.table (c.args.front.now.next_page - (c.loop-step._step + 1)) c.loop-step.page (low_of c.loop-step.last) said))) c.fetch_page.new.bytes (page_bytes (g.S.EawStore.view c.loop-step.pages.store).state.bytes c.loop-step.page) c.in_err-fetch_page.field-0.0 exit.0 exit.2 (subst (λ (m : ℕ). SoFar g.S.EawStore.tells (g.S.EawStore.calls c.args.pages.now.store) (g.S.EawStore.calls c.loop-step.pages.store) (chain_plan_from (g.S.EawStore.view c.args.pages.now.store).shape c.args.front.now c.args.table m c.loop-step.page (low_of c.loop-step.last)) (chain_plan (g.S.EawStore.view c.args.pages.now.store).shape c.args.front.now c.args.root c.args.table) (g.S.EawStore.view c.args.pages.now.store) (g.S.EawStore.view c.loop-step.pages.store)) (let e : c.args.front.now.next_page - c.loop-step._step ≡ suc (c.args.front.now.next_page - (c.loop-step._step + 1)) = omega (arith, c.loop-step-test.true) in e) c.loop-step.invariant.tests) c.loop-step.invariant.alive c.in_err-fetch_page.ensures.cause c.in_err-fetch_page.ensures.reads)

pub returns-in_default-clause-tests : goal.returns-in_default-clause-tests
returns-in_default-clause-tests g c = so_bad _ _ _ (so_page (c.loop-step.invariant.looks.still refl) c.loop-step.invariant.looks.shape c.loop-step.page (λ said. holding (IsChainHead (low_of c.loop-step.last) said) c.loop-step.page (in_turn (pairs_plan (index_pages_of (g.S.EawStore.view c.args.pages.now.store).shape) c.args.front.now.next_slot c.args.table c.loop-step.page (low_of c.loop-step.last) None (pairs_said said)) (linked (g.S.EawStore.view c.args.pages.now.store).shape c.args.front.now c.args.table (c.args.front.now.next_page - (c.loop-step._step + 1)) c.loop-step.page (low_of c.loop-step.last) said))) c.fetch_page.new.bytes (subst (λ (m : ℕ). SoFar g.S.EawStore.tells (g.S.EawStore.calls c.args.pages.now.store) (g.S.EawStore.calls c.loop-step.pages.store) (chain_plan_from (g.S.EawStore.view c.args.pages.now.store).shape c.args.front.now c.args.table m c.loop-step.page (low_of c.loop-step.last)) (chain_plan (g.S.EawStore.view c.args.pages.now.store).shape c.args.front.now c.args.root c.args.table) (g.S.EawStore.view c.args.pages.now.store) (g.S.EawStore.view c.loop-step.pages.store)) (let e : c.args.front.now.next_page - c.loop-step._step ≡ suc (c.args.front.now.next_page - (c.loop-step._step + 1)) = omega (arith, c.loop-step-test.true) in e) c.loop-step.invariant.tests) c.in_ok-fetch_page.ensures.reads) c.in_default.ensures.other

pub returns-in_err-last-clause-tests : goal.returns-in_err-last-clause-tests
returns-in_err-last-clause-tests g c =
    let exit = err_from_is_err_and c.from_residual-in_err-last.result c.from_residual-in_err-last.ensures.1 in
    rw (exit.1, exit.2) (
    let r : Result (Option ℕ) CheckFault = Err c.in_err-last.field-0.0 in
    so_fails ((looks_next g.S.EawStore.tells g.S.EawStore.opens false (pages_of (g.S.EawStore.view c.args.pages.now.store) c.args.pages.now) (pages_of (g.S.EawStore.view c.loop-step.pages.store) c.loop-step.pages) (pages_of (g.S.EawStore.view c.fetch_page.new.pages.store) c.fetch_page.new.pages) c.loop-step.invariant.looks c.in_ok-fetch_page.ensures.looks).still refl) (looks_next g.S.EawStore.tells g.S.EawStore.opens false (pages_of (g.S.EawStore.view c.args.pages.now.store) c.args.pages.now) (pages_of (g.S.EawStore.view c.loop-step.pages.store) c.loop-step.pages) (pages_of (g.S.EawStore.view c.fetch_page.new.pages.store) c.fetch_page.new.pages) c.loop-step.invariant.looks c.in_ok-fetch_page.ensures.looks).shape (pairs_plan (index_pages_of (g.S.EawStore.view c.args.pages.now.store).shape) c.args.front.now.next_slot c.args.table c.loop-step.page (low_of c.loop-step.last) None (pairs_said c.fetch_page.new.bytes)) (linked (g.S.EawStore.view c.args.pages.now.store).shape c.args.front.now c.args.table (c.args.front.now.next_page - (c.loop-step._step + 1)) c.loop-step.page (low_of c.loop-step.last) c.fetch_page.new.bytes) c.in_err-last.field-0.0 (so_holds _ _ _ (so_page (c.loop-step.invariant.looks.still refl) c.loop-step.invariant.looks.shape c.loop-step.page (λ said. holding (IsChainHead (low_of c.loop-step.last) said) c.loop-step.page (in_turn (pairs_plan (index_pages_of (g.S.EawStore.view c.args.pages.now.store).shape) c.args.front.now.next_slot c.args.table c.loop-step.page (low_of c.loop-step.last) None (pairs_said said)) (linked (g.S.EawStore.view c.args.pages.now.store).shape c.args.front.now c.args.table (c.args.front.now.next_page - (c.loop-step._step + 1)) c.loop-step.page (low_of c.loop-step.last) said))) c.fetch_page.new.bytes (subst (λ (m : ℕ). SoFar g.S.EawStore.tells (g.S.EawStore.calls c.args.pages.now.store) (g.S.EawStore.calls c.loop-step.pages.store) (chain_plan_from (g.S.EawStore.view c.args.pages.now.store).shape c.args.front.now c.args.table m c.loop-step.page (low_of c.loop-step.last)) (chain_plan (g.S.EawStore.view c.args.pages.now.store).shape c.args.front.now c.args.root c.args.table) (g.S.EawStore.view c.args.pages.now.store) (g.S.EawStore.view c.loop-step.pages.store)) (let e : c.args.front.now.next_page - c.loop-step._step ≡ suc (c.args.front.now.next_page - (c.loop-step._step + 1)) = omega (arith, c.loop-step-test.true) in e) c.loop-step.invariant.tests) c.in_ok-fetch_page.ensures.reads) c.in-Some.ensures.head) (subst (λ (s : Shape). Tries g.S.EawStore.tells (g.S.EawStore.calls c.fetch_page.new.pages.store) (g.S.EawStore.calls c.check_pairs.new.pages.store) (pairs_plan (index_pages_of s) c.args.front.now.next_slot c.args.table c.loop-step.page (low_of c.loop-step.last) None (pairs_said c.fetch_page.new.bytes)) (g.S.EawStore.view c.fetch_page.new.pages.store) (g.S.EawStore.view c.check_pairs.new.pages.store) r) (looks_next g.S.EawStore.tells g.S.EawStore.opens false (pages_of (g.S.EawStore.view c.args.pages.now.store) c.args.pages.now) (pages_of (g.S.EawStore.view c.loop-step.pages.store) c.loop-step.pages) (pages_of (g.S.EawStore.view c.fetch_page.new.pages.store) c.fetch_page.new.pages) c.loop-step.invariant.looks c.in_ok-fetch_page.ensures.looks).shape c.in_err-last.ensures.tests))

pub returns-then-head-eq0-clause-tests : goal.returns-then-head-eq0-clause-tests
returns-then-head-eq0-clause-tests g c =
    so_passes tt (subst (λ (p : Plan). SoFar g.S.EawStore.tells (g.S.EawStore.calls c.args.pages.now.store) (g.S.EawStore.calls c.check_pairs.new.pages.store) p (chain_plan (g.S.EawStore.view c.args.pages.now.store).shape c.args.front.now c.args.root c.args.table) (g.S.EawStore.view c.args.pages.now.store) (g.S.EawStore.view c.check_pairs.new.pages.store)) (link_none (g.S.EawStore.view c.args.pages.now.store).shape c.args.front.now c.args.table (c.args.front.now.next_page - (c.loop-step._step + 1)) c.loop-step.page (low_of c.loop-step.last) c.fetch_page.new.bytes (sym c.in-Some.ensures.says.link ∙ c.if-head-eq0.true)) (let r : Result (Option ℕ) CheckFault = Ok c.in_ok-last.last in so_then ((looks_next g.S.EawStore.tells g.S.EawStore.opens false (pages_of (g.S.EawStore.view c.args.pages.now.store) c.args.pages.now) (pages_of (g.S.EawStore.view c.loop-step.pages.store) c.loop-step.pages) (pages_of (g.S.EawStore.view c.fetch_page.new.pages.store) c.fetch_page.new.pages) c.loop-step.invariant.looks c.in_ok-fetch_page.ensures.looks).still refl) (looks_next g.S.EawStore.tells g.S.EawStore.opens false (pages_of (g.S.EawStore.view c.args.pages.now.store) c.args.pages.now) (pages_of (g.S.EawStore.view c.loop-step.pages.store) c.loop-step.pages) (pages_of (g.S.EawStore.view c.fetch_page.new.pages.store) c.fetch_page.new.pages) c.loop-step.invariant.looks c.in_ok-fetch_page.ensures.looks).shape (pairs_plan (index_pages_of (g.S.EawStore.view c.args.pages.now.store).shape) c.args.front.now.next_slot c.args.table c.loop-step.page (low_of c.loop-step.last) None (pairs_said c.fetch_page.new.bytes)) (linked (g.S.EawStore.view c.args.pages.now.store).shape c.args.front.now c.args.table (c.args.front.now.next_page - (c.loop-step._step + 1)) c.loop-step.page (low_of c.loop-step.last) c.fetch_page.new.bytes) c.in_ok-last.last (so_holds _ _ _ (so_page (c.loop-step.invariant.looks.still refl) c.loop-step.invariant.looks.shape c.loop-step.page (λ said. holding (IsChainHead (low_of c.loop-step.last) said) c.loop-step.page (in_turn (pairs_plan (index_pages_of (g.S.EawStore.view c.args.pages.now.store).shape) c.args.front.now.next_slot c.args.table c.loop-step.page (low_of c.loop-step.last) None (pairs_said said)) (linked (g.S.EawStore.view c.args.pages.now.store).shape c.args.front.now c.args.table (c.args.front.now.next_page - (c.loop-step._step + 1)) c.loop-step.page (low_of c.loop-step.last) said))) c.fetch_page.new.bytes (subst (λ (m : ℕ). SoFar g.S.EawStore.tells (g.S.EawStore.calls c.args.pages.now.store) (g.S.EawStore.calls c.loop-step.pages.store) (chain_plan_from (g.S.EawStore.view c.args.pages.now.store).shape c.args.front.now c.args.table m c.loop-step.page (low_of c.loop-step.last)) (chain_plan (g.S.EawStore.view c.args.pages.now.store).shape c.args.front.now c.args.root c.args.table) (g.S.EawStore.view c.args.pages.now.store) (g.S.EawStore.view c.loop-step.pages.store)) (let e : c.args.front.now.next_page - c.loop-step._step ≡ suc (c.args.front.now.next_page - (c.loop-step._step + 1)) = omega (arith, c.loop-step-test.true) in e) c.loop-step.invariant.tests) c.in_ok-fetch_page.ensures.reads) c.in-Some.ensures.head) (subst (λ (s : Shape). Tries g.S.EawStore.tells (g.S.EawStore.calls c.fetch_page.new.pages.store) (g.S.EawStore.calls c.check_pairs.new.pages.store) (pairs_plan (index_pages_of s) c.args.front.now.next_slot c.args.table c.loop-step.page (low_of c.loop-step.last) None (pairs_said c.fetch_page.new.bytes)) (g.S.EawStore.view c.fetch_page.new.pages.store) (g.S.EawStore.view c.check_pairs.new.pages.store) r) (looks_next g.S.EawStore.tells g.S.EawStore.opens false (pages_of (g.S.EawStore.view c.args.pages.now.store) c.args.pages.now) (pages_of (g.S.EawStore.view c.loop-step.pages.store) c.loop-step.pages) (pages_of (g.S.EawStore.view c.fetch_page.new.pages.store) c.fetch_page.new.pages) c.loop-step.invariant.looks c.in_ok-fetch_page.ensures.looks).shape c.in_ok-last.ensures.tests)))

pub returns-then-head-lt2-clause-tests : goal.returns-then-head-lt2-clause-tests
returns-then-head-lt2-clause-tests g c = so_bad _ _ _ (subst (λ (p : Plan). SoFar g.S.EawStore.tells (g.S.EawStore.calls c.args.pages.now.store) (g.S.EawStore.calls c.check_pairs.new.pages.store) p (chain_plan (g.S.EawStore.view c.args.pages.now.store).shape c.args.front.now c.args.root c.args.table) (g.S.EawStore.view c.args.pages.now.store) (g.S.EawStore.view c.check_pairs.new.pages.store)) (link_some (g.S.EawStore.view c.args.pages.now.store).shape c.args.front.now c.args.table (c.args.front.now.next_page - (c.loop-step._step + 1)) c.loop-step.page (low_of c.loop-step.last) c.fetch_page.new.bytes (λ (e : link_said c.fetch_page.new.bytes ≡ 0). c.if-head-eq0.false (c.in-Some.ensures.says.link ∙ e))) (let r : Result (Option ℕ) CheckFault = Ok c.in_ok-last.last in so_then ((looks_next g.S.EawStore.tells g.S.EawStore.opens false (pages_of (g.S.EawStore.view c.args.pages.now.store) c.args.pages.now) (pages_of (g.S.EawStore.view c.loop-step.pages.store) c.loop-step.pages) (pages_of (g.S.EawStore.view c.fetch_page.new.pages.store) c.fetch_page.new.pages) c.loop-step.invariant.looks c.in_ok-fetch_page.ensures.looks).still refl) (looks_next g.S.EawStore.tells g.S.EawStore.opens false (pages_of (g.S.EawStore.view c.args.pages.now.store) c.args.pages.now) (pages_of (g.S.EawStore.view c.loop-step.pages.store) c.loop-step.pages) (pages_of (g.S.EawStore.view c.fetch_page.new.pages.store) c.fetch_page.new.pages) c.loop-step.invariant.looks c.in_ok-fetch_page.ensures.looks).shape (pairs_plan (index_pages_of (g.S.EawStore.view c.args.pages.now.store).shape) c.args.front.now.next_slot c.args.table c.loop-step.page (low_of c.loop-step.last) None (pairs_said c.fetch_page.new.bytes)) (linked (g.S.EawStore.view c.args.pages.now.store).shape c.args.front.now c.args.table (c.args.front.now.next_page - (c.loop-step._step + 1)) c.loop-step.page (low_of c.loop-step.last) c.fetch_page.new.bytes) c.in_ok-last.last (so_holds _ _ _ (so_page (c.loop-step.invariant.looks.still refl) c.loop-step.invariant.looks.shape c.loop-step.page (λ said. holding (IsChainHead (low_of c.loop-step.last) said) c.loop-step.page (in_turn (pairs_plan (index_pages_of (g.S.EawStore.view c.args.pages.now.store).shape) c.args.front.now.next_slot c.args.table c.loop-step.page (low_of c.loop-step.last) None (pairs_said said)) (linked (g.S.EawStore.view c.args.pages.now.store).shape c.args.front.now c.args.table (c.args.front.now.next_page - (c.loop-step._step + 1)) c.loop-step.page (low_of c.loop-step.last) said))) c.fetch_page.new.bytes (subst (λ (m : ℕ). SoFar g.S.EawStore.tells (g.S.EawStore.calls c.args.pages.now.store) (g.S.EawStore.calls c.loop-step.pages.store) (chain_plan_from (g.S.EawStore.view c.args.pages.now.store).shape c.args.front.now c.args.table m c.loop-step.page (low_of c.loop-step.last)) (chain_plan (g.S.EawStore.view c.args.pages.now.store).shape c.args.front.now c.args.root c.args.table) (g.S.EawStore.view c.args.pages.now.store) (g.S.EawStore.view c.loop-step.pages.store)) (let e : c.args.front.now.next_page - c.loop-step._step ≡ suc (c.args.front.now.next_page - (c.loop-step._step + 1)) = omega (arith, c.loop-step-test.true) in e) c.loop-step.invariant.tests) c.in_ok-fetch_page.ensures.reads) c.in-Some.ensures.head) (subst (λ (s : Shape). Tries g.S.EawStore.tells (g.S.EawStore.calls c.fetch_page.new.pages.store) (g.S.EawStore.calls c.check_pairs.new.pages.store) (pairs_plan (index_pages_of s) c.args.front.now.next_slot c.args.table c.loop-step.page (low_of c.loop-step.last) None (pairs_said c.fetch_page.new.bytes)) (g.S.EawStore.view c.fetch_page.new.pages.store) (g.S.EawStore.view c.check_pairs.new.pages.store) r) (looks_next g.S.EawStore.tells g.S.EawStore.opens false (pages_of (g.S.EawStore.view c.args.pages.now.store) c.args.pages.now) (pages_of (g.S.EawStore.view c.loop-step.pages.store) c.loop-step.pages) (pages_of (g.S.EawStore.view c.fetch_page.new.pages.store) c.fetch_page.new.pages) c.loop-step.invariant.looks c.in_ok-fetch_page.ensures.looks).shape c.in_ok-last.ensures.tests))) (λ to. omega (arith, to.0, c.if-head-lt2.true, c.in-Some.ensures.says.link))

pub returns-then-head-front-clause-tests : goal.returns-then-head-front-clause-tests
returns-then-head-front-clause-tests g c = so_bad _ _ _ (subst (λ (p : Plan). SoFar g.S.EawStore.tells (g.S.EawStore.calls c.args.pages.now.store) (g.S.EawStore.calls c.check_pairs.new.pages.store) p (chain_plan (g.S.EawStore.view c.args.pages.now.store).shape c.args.front.now c.args.root c.args.table) (g.S.EawStore.view c.args.pages.now.store) (g.S.EawStore.view c.check_pairs.new.pages.store)) (link_some (g.S.EawStore.view c.args.pages.now.store).shape c.args.front.now c.args.table (c.args.front.now.next_page - (c.loop-step._step + 1)) c.loop-step.page (low_of c.loop-step.last) c.fetch_page.new.bytes (λ (e : link_said c.fetch_page.new.bytes ≡ 0). c.if-head-eq0.false (c.in-Some.ensures.says.link ∙ e))) (let r : Result (Option ℕ) CheckFault = Ok c.in_ok-last.last in so_then ((looks_next g.S.EawStore.tells g.S.EawStore.opens false (pages_of (g.S.EawStore.view c.args.pages.now.store) c.args.pages.now) (pages_of (g.S.EawStore.view c.loop-step.pages.store) c.loop-step.pages) (pages_of (g.S.EawStore.view c.fetch_page.new.pages.store) c.fetch_page.new.pages) c.loop-step.invariant.looks c.in_ok-fetch_page.ensures.looks).still refl) (looks_next g.S.EawStore.tells g.S.EawStore.opens false (pages_of (g.S.EawStore.view c.args.pages.now.store) c.args.pages.now) (pages_of (g.S.EawStore.view c.loop-step.pages.store) c.loop-step.pages) (pages_of (g.S.EawStore.view c.fetch_page.new.pages.store) c.fetch_page.new.pages) c.loop-step.invariant.looks c.in_ok-fetch_page.ensures.looks).shape (pairs_plan (index_pages_of (g.S.EawStore.view c.args.pages.now.store).shape) c.args.front.now.next_slot c.args.table c.loop-step.page (low_of c.loop-step.last) None (pairs_said c.fetch_page.new.bytes)) (linked (g.S.EawStore.view c.args.pages.now.store).shape c.args.front.now c.args.table (c.args.front.now.next_page - (c.loop-step._step + 1)) c.loop-step.page (low_of c.loop-step.last) c.fetch_page.new.bytes) c.in_ok-last.last (so_holds _ _ _ (so_page (c.loop-step.invariant.looks.still refl) c.loop-step.invariant.looks.shape c.loop-step.page (λ said. holding (IsChainHead (low_of c.loop-step.last) said) c.loop-step.page (in_turn (pairs_plan (index_pages_of (g.S.EawStore.view c.args.pages.now.store).shape) c.args.front.now.next_slot c.args.table c.loop-step.page (low_of c.loop-step.last) None (pairs_said said)) (linked (g.S.EawStore.view c.args.pages.now.store).shape c.args.front.now c.args.table (c.args.front.now.next_page - (c.loop-step._step + 1)) c.loop-step.page (low_of c.loop-step.last) said))) c.fetch_page.new.bytes (subst (λ (m : ℕ). SoFar g.S.EawStore.tells (g.S.EawStore.calls c.args.pages.now.store) (g.S.EawStore.calls c.loop-step.pages.store) (chain_plan_from (g.S.EawStore.view c.args.pages.now.store).shape c.args.front.now c.args.table m c.loop-step.page (low_of c.loop-step.last)) (chain_plan (g.S.EawStore.view c.args.pages.now.store).shape c.args.front.now c.args.root c.args.table) (g.S.EawStore.view c.args.pages.now.store) (g.S.EawStore.view c.loop-step.pages.store)) (let e : c.args.front.now.next_page - c.loop-step._step ≡ suc (c.args.front.now.next_page - (c.loop-step._step + 1)) = omega (arith, c.loop-step-test.true) in e) c.loop-step.invariant.tests) c.in_ok-fetch_page.ensures.reads) c.in-Some.ensures.head) (subst (λ (s : Shape). Tries g.S.EawStore.tells (g.S.EawStore.calls c.fetch_page.new.pages.store) (g.S.EawStore.calls c.check_pairs.new.pages.store) (pairs_plan (index_pages_of s) c.args.front.now.next_slot c.args.table c.loop-step.page (low_of c.loop-step.last) None (pairs_said c.fetch_page.new.bytes)) (g.S.EawStore.view c.fetch_page.new.pages.store) (g.S.EawStore.view c.check_pairs.new.pages.store) r) (looks_next g.S.EawStore.tells g.S.EawStore.opens false (pages_of (g.S.EawStore.view c.args.pages.now.store) c.args.pages.now) (pages_of (g.S.EawStore.view c.loop-step.pages.store) c.loop-step.pages) (pages_of (g.S.EawStore.view c.fetch_page.new.pages.store) c.fetch_page.new.pages) c.loop-step.invariant.looks c.in_ok-fetch_page.ensures.looks).shape c.in_ok-last.ensures.tests))) (λ to. omega (arith, to.1, c.if-head-front.true, c.in-Some.ensures.says.link))

pub returns-in_err-fetch_page-2-clause-looks : goal.returns-in_err-fetch_page-2-clause-looks
returns-in_err-fetch_page-2-clause-looks g c =
    let exit = err_from_is_err_and c.from_residual-in_err-fetch_page-2.result c.from_residual-in_err-fetch_page-2.ensures.1 in
    rw (exit.1) (
    let r : Result (Unit {0}) PageFault = Err c.in_err-fetch_page-2.field-0.0 in
    check_looks (Unit {0}) g.S.EawStore.tells (g.S.EawStore.opens (g.S.EawStore.view c.args.pages.now.store).shape) (pages_of (g.S.EawStore.view c.args.pages.now.store) c.args.pages.now) (pages_of (g.S.EawStore.view c.fetch_page-2.new.pages.store) c.fetch_page-2.new.pages)
    c.in_err-fetch_page-2.field-0.0 exit.0 exit.2
    (looks_next g.S.EawStore.tells g.S.EawStore.opens (is_failed r) (pages_of (g.S.EawStore.view c.args.pages.now.store) c.args.pages.now) (pages_of (g.S.EawStore.view c.loop-step.pages.store) c.loop-step.pages)
    (pages_of (g.S.EawStore.view c.fetch_page-2.new.pages.store) c.fetch_page-2.new.pages) c.loop-step.invariant.looks c.in_err-fetch_page-2.ensures.looks))

pub returns-in_err-fetch_page-2-clause-tests : goal.returns-in_err-fetch_page-2-clause-tests
returns-in_err-fetch_page-2-clause-tests g c =
    let exit = err_from_is_err_and c.from_residual-in_err-fetch_page-2.result c.from_residual-in_err-fetch_page-2.ensures.1 in
    rw (exit.1) (
    so_page_err (c.loop-step.invariant.looks.still refl) c.loop-step.invariant.looks.shape (Unit {0}) c.loop-step.page (λ said. holding ⊥ c.loop-step.page at_end) c.fetch_page-2.new.bytes
    (page_bytes (g.S.EawStore.view c.loop-step.pages.store).state.bytes c.loop-step.page) c.in_err-fetch_page-2.field-0.0 exit.0 exit.2
    (subst (λ (m : ℕ). SoFar g.S.EawStore.tells (g.S.EawStore.calls c.args.pages.now.store) (g.S.EawStore.calls c.loop-step.pages.store)
    (chain_plan_from (g.S.EawStore.view c.args.pages.now.store).shape c.args.front.now c.args.table m c.loop-step.page (low_of c.loop-step.last)) (chain_plan (g.S.EawStore.view c.args.pages.now.store).shape c.args.front.now c.args.root c.args.table)
    (g.S.EawStore.view c.args.pages.now.store) (g.S.EawStore.view c.loop-step.pages.store)) (let e : c.args.front.now.next_page - c.loop-step._step ≡ 0 = omega (arith, c.loop-step-test.false) in e) c.loop-step.invariant.tests)
    c.loop-step.invariant.alive c.in_err-fetch_page-2.ensures.cause c.in_err-fetch_page-2.ensures.reads)

pub returns-clause-tests : goal.returns-clause-tests
returns-clause-tests g c =
    so_bad ⊥ c.loop-step.page at_end
    (so_page (c.loop-step.invariant.looks.still refl) c.loop-step.invariant.looks.shape c.loop-step.page (λ said. holding ⊥ c.loop-step.page at_end) c.fetch_page-2.new.bytes
    (subst (λ (m : ℕ). SoFar g.S.EawStore.tells (g.S.EawStore.calls c.args.pages.now.store) (g.S.EawStore.calls c.loop-step.pages.store)
    (chain_plan_from (g.S.EawStore.view c.args.pages.now.store).shape c.args.front.now c.args.table m c.loop-step.page (low_of c.loop-step.last)) (chain_plan (g.S.EawStore.view c.args.pages.now.store).shape c.args.front.now c.args.root c.args.table)
    (g.S.EawStore.view c.args.pages.now.store) (g.S.EawStore.view c.loop-step.pages.store)) (let e : c.args.front.now.next_page - c.loop-step._step ≡ 0 = omega (arith, c.loop-step-test.false) in e) c.loop-step.invariant.tests)
    c.in_ok-fetch_page-2.ensures.reads) (λ never. never)
