use Rattle.std.proofs.Common.{◌-◌, ◌<◌, ℕ, Option, Result, Ok, Err, refl, sym, subst, arith}
use Rattle.record_slots.specs.Places.{free_page_of}
use Rattle.record_slots.specs.declared.free.Free.{Free}
use Rattle.array_shape.specs.Places.{page_count}
use Rattle.page_store.specs.declared.fault.PageFault.{PageFault}
use Rattle.index_pages.specs.Slots.{HasRank}
use Rattle.index_pages.proofs.Members.{first_member}
use Rattle.page_store.specs.Shown.{pages_of}
use Rattle.index_pages.proofs.Looking.{looks_none}
use Rattle.record_slots.specs.Places.{page_bytes}
use Rattle.index_pages.specs.declared.taking.Claim.{Claim}
use Rattle.index_pages.proofs.Working.{peek_err, peek_bad, peek_ok, read_costs_one}
use Rattle.std.proofs.lemmas.Result.{err_from_is_err_and}
use Rattle.index_pages.proofs.taking.take_page.Goals as goal

pub returns-then-front-le2-clause-cause : goal.returns-then-front-le2-clause-cause
returns-then-front-le2-clause-cause g c =
    let b = (g.S.EawStore.view c.args.pages.now.store).state.bytes in
    let front = c.args.front.now in
    (c.requires.alive, λ told. let h = first_member (free_page_of b) (λ (p : ℕ). p) 2 front.next_page front.free_pages front.free_page 0 c.if-front-eq0.false (c.requires.sound told) in omega (arith, h.0.0, c.if-front-le2.true))

pub returns-then-front-clause-cause : goal.returns-then-front-clause-cause
returns-then-front-clause-cause g c =
    let b = (g.S.EawStore.view c.args.pages.now.store).state.bytes in
    let front = c.args.front.now in
    (c.requires.alive, λ told. let h = first_member (free_page_of b) (λ (p : ℕ). p) 2 front.next_page front.free_pages front.free_page 0 c.if-front-eq0.false (c.requires.sound told) in omega (arith, h.0.1, c.if-front.true))

pub returns-in_default-clause-cause : goal.returns-in_default-clause-cause
returns-in_default-clause-cause g c =
    let b = (g.S.EawStore.view c.args.pages.now.store).state.bytes in
    let front = c.args.front.now in (
      c.requires.alive,
      λ told.
          let h = first_member (free_page_of b) (λ (p : ℕ). p) 2 front.next_page front.free_pages front.free_page 0 c.if-front-eq0.false (c.requires.sound told) in
          c.in_default.ensures.none (subst (λ (o : Option Free). HasRank front.free_pages o) (sym (c.in_ok-said.ensures.said told)) h.1),
    )

pub returns-then-front-eq0-clause-looks : goal.returns-then-front-eq0-clause-looks
returns-then-front-eq0-clause-looks g c = looks_none g.S.EawStore.tells (g.S.EawStore.opens (g.S.EawStore.view c.args.pages.now.store).shape) (pages_of (g.S.EawStore.view c.args.pages.now.store) c.args.pages.now)

pub returns-then-front-le2-clause-looks : goal.returns-then-front-le2-clause-looks
returns-then-front-le2-clause-looks g c = looks_none g.S.EawStore.tells (g.S.EawStore.opens (g.S.EawStore.view c.args.pages.now.store).shape) (pages_of (g.S.EawStore.view c.args.pages.now.store) c.args.pages.now)

pub returns-then-front-clause-looks : goal.returns-then-front-clause-looks
returns-then-front-clause-looks g c = looks_none g.S.EawStore.tells (g.S.EawStore.opens (g.S.EawStore.view c.args.pages.now.store).shape) (pages_of (g.S.EawStore.view c.args.pages.now.store) c.args.pages.now)

pub returns-in_err-said-clause-peeks : goal.returns-in_err-said-clause-peeks
returns-in_err-said-clause-peeks g c =
    let exit = err_from_is_err_and c.from_residual.result c.from_residual.ensures.1 in
    rw (exit.1, exit.2) (
    let V = g.S.EawStore.view in
    let page = c.args.front.now.free_page - 1 in
    let at = c.args.pages.now.store in
    let r : Result (Option Free) PageFault = Err c.in_err-said.field-0.0 in
    peek_err g.S.EawStore.tells V g.S.EawStore.calls at page 0 512 (V at) (V c.fetch_free_page.new.pages.store) (Option Free) Claim c.in_err-said.field-0.0 c.in_err-said.ensures.cause
    (read_costs_one g.S.EawStore.tells (g.S.EawStore.calls at) (g.S.EawStore.calls c.fetch_free_page.new.pages.store) (V at) (V c.fetch_free_page.new.pages.store) page c.in_err-said.ensures.reads.0 (page_bytes (V at).state.bytes page) r c.in_err-said.ensures.cause c.in_err-said.ensures.reads.1))

pub returns-in_default-clause-peeks : goal.returns-in_default-clause-peeks
returns-in_default-clause-peeks g c =
    let V = g.S.EawStore.view in
    let page = c.args.front.now.free_page - 1 in
    let at = c.args.pages.now.store in
    let r : Result (Option Free) PageFault = Ok c.in_ok-said.said in
    let there : c.args.front.now.free_page - 1 < page_count (V at).shape = omega (arith, c.requires.front.pages, c.if-front-le2.false, c.if-front.false) in
    peek_bad g.S.EawStore.tells V g.S.EawStore.calls at page 0 512 (V at) (V c.fetch_free_page.new.pages.store) (Option Free) Claim c.in_ok-said.said
    (read_costs_one g.S.EawStore.tells (g.S.EawStore.calls at) (g.S.EawStore.calls c.fetch_free_page.new.pages.store) (V at) (V c.fetch_free_page.new.pages.store) page c.in_ok-said.ensures.reads.0 (page_bytes (V at).state.bytes page) r c.in_ok-said.ensures.cause c.in_ok-said.ensures.reads.1)
    page refl there

pub returns-clause-peeks : goal.returns-clause-peeks
returns-clause-peeks g c =
    let V = g.S.EawStore.view in
    let page = c.args.front.now.free_page - 1 in
    let at = c.args.pages.now.store in
    let r : Result (Option Free) PageFault = Ok c.in_ok-said.said in
    peek_ok g.S.EawStore.tells V g.S.EawStore.calls at page 0 512 (V at) (V c.fetch_free_page.new.pages.store) (Option Free) Claim c.in_ok-said.said
    (read_costs_one g.S.EawStore.tells (g.S.EawStore.calls at) (g.S.EawStore.calls c.fetch_free_page.new.pages.store) (V at) (V c.fetch_free_page.new.pages.store) page c.in_ok-said.ensures.reads.0 (page_bytes (V at).state.bytes page) r c.in_ok-said.ensures.cause c.in_ok-said.ensures.reads.1)
    _
