use Rattle.std.proofs.Common.{◌≡◌, ◌≢◌, ◌<◌, ℕ, inl, List, length, Result, Ok, Err, refl, sym, ◌∙◌, ap, subst, arith}
use Rattle.array_shape.specs.declared.shape.Shape.{Shape}
use Rattle.array_shape.specs.Places.{page_count}
use Rattle.eaw_face.specs.State.{State}
use Rattle.page_store.specs.Index.{index_pages_of}
use Rattle.page_store.specs.Looks.{is_failed}
use Rattle.page_store.specs.Shown.{pages_of}
use Rattle.page_store.specs.Works.{Step, IsMet}
use Rattle.page_store.specs.declared.fault.PageFault.{PageFault}
use Rattle.record_slots.specs.Places.{page_bytes, IsSuper}
use Rattle.record_slots.specs.declared.super_page.Super.{Super}
use Rattle.index_pages.specs.Page.{count_said, link_said, pairs_said, link_of, page_pairs}
use Rattle.index_pages.proofs.Causing.{look_cause, still_same}
use Rattle.index_pages.proofs.Looking.{looks_next}
use Rattle.index_pages.specs.Fetched.{IsFront}
use Rattle.index_pages.specs.Written.{AreSmall}
use Rattle.page_store.specs.Pairs.{Pair}
use Rattle.record_slots.specs.Super.{SaysSuper}
use Rattle.key_list.specs.Chain.{page_of_key}
use Rattle.key_list.specs.Finds.{Finds}
use Rattle.key_list.specs.declared.look.KeyPage.{KeyPage}
use Rattle.key_list.specs.declared.place.Located.{Located}
use Rattle.key_list.proofs.Finding.{front_fails, known_finds, walk_finds, walk_fails, front_met, read_met}
use Rattle.std.proofs.lemmas.Result.{err_from_is_err_and}
use Rattle.key_list.proofs.place.locate_known.Goals as goal

pub returns-in_err-front-clause-finds : goal.returns-in_err-front-clause-finds
returns-in_err-front-clause-finds g c =
    let exit = err_from_is_err_and c.from_residual.result c.from_residual.ensures.1 in
    rw (exit.1, exit.2) (
    let view = g.S.EawStore.view c.args.pages.now.store in
    front_fails g.S.EawStore.tells g.S.EawStore.view g.S.EawStore.calls c.args.root c.args.key 0 Super Located (λ (at : Located) (steps : List Step). IsMet 0 steps) (IsSuper 0 view.state.bytes) c.args.pages.now.store (g.S.EawStore.calls c.fetch_super.new.pages.store) view (g.S.EawStore.view c.fetch_super.new.pages.store)
    c.in_err-front.ensures.reads.0 (page_bytes view.state.bytes 0) c.in_err-front.field-0.0 (omega (arith, c.requires.place.inside)) c.in_err-front.ensures.reads.1 c.in_err-front.ensures.cause)

pub returns-clause-finds : goal.returns-clause-finds
returns-clause-finds g c =
    let view = g.S.EawStore.view c.args.pages.now.store in
    known_finds g.S.EawStore.tells g.S.EawStore.view g.S.EawStore.calls c.args.root c.args.key 0 Located c.with_front.result (λ (at : Located) (steps : List Step). IsMet 0 steps) c.args.pages.now.store (g.S.EawStore.calls c.fetch_super.new.pages.store) view (g.S.EawStore.view c.fetch_super.new.pages.store) c.in_ok-front.ensures.reads.0 c.in_ok-front.ensures.reads.1 (inl refl)

pub returns-clause-located : goal.returns-clause-located
returns-clause-located g c =
    let view = g.S.EawStore.view c.args.pages.now.store in
    record {
      front_is = subst (λ (f : Super). IsFront view.shape f) (sym c.with_front.ensures.front) c.in_ok-front.ensures.front;
      some = omega (arith, c.with_front.ensures.page, c.requires.place.some);
      inside = omega (arith, c.with_front.ensures.page, c.requires.place.inside);
      most = omega (arith, ap (λ (ps : List Pair). length ps) c.with_front.ensures.pairs, c.requires.place.room);
      small = subst (λ (ps : List Pair). AreSmall ps) (sym c.with_front.ensures.pairs) c.requires.place.small;
    }

pub returns-clause-said : goal.returns-clause-said
returns-clause-said g c = λ told.
    let view = g.S.EawStore.view c.args.pages.now.store in
    let fits = c.requires.fits told c.in_ok-front.ensures.cause in
    let page = c.with_front.ensures.page in
    record {
      front_says = subst (λ (f : Super). SaysSuper (page_bytes view.state.bytes 0) f) (sym c.with_front.ensures.front) (c.in_ok-front.ensures.says told);
      page_is = page ∙ fits.page_is;
      link_is = c.with_front.ensures.link ∙ fits.link_is ∙ ap (λ (x : ℕ). link_of view.state.bytes x) (sym page);
      pairs_are = c.with_front.ensures.pairs ∙ fits.pairs_are ∙ ap (λ (x : ℕ). page_pairs view.state.bytes x) (sym page);
    }

pub returns-clause-room : goal.returns-clause-room
returns-clause-room g c =
    omega (arith, ap (λ (ps : List Pair). length ps) c.with_front.ensures.pairs, c.requires.place.room)
