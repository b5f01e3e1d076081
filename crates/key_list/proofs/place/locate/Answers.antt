use Rattle.std.proofs.Common.{◌≡◌, ◌≢◌, ◌<◌, ℕ, Bool, true, false, List, length, Result, Ok, Err, refl, sym, ◌∙◌, ap, subst, arith}
use Rattle.array_shape.specs.declared.shape.Shape.{Shape}
use Rattle.array_shape.specs.Places.{page_count}
use Rattle.eaw_face.specs.State.{State}
use Rattle.page_store.specs.Index.{index_pages_of}
use Rattle.page_store.specs.Looks.{is_failed}
use Rattle.page_store.specs.Shown.{pages_of}
use Rattle.page_store.specs.Works.{Step, IsMet}
use Rattle.page_store.specs.declared.fault.PageFault.{PageFault}
use Rattle.record_slots.specs.Places.{page_bytes, IsSuper}
use Rattle.record_slots.specs.declared.super_page.Super.{Super}
use Rattle.index_pages.specs.Page.{count_said, link_said, pairs_said, link_of, page_pairs}
use Rattle.index_pages.proofs.Causing.{look_cause, still_same}
use Rattle.index_pages.proofs.Looking.{looks_next}
use Rattle.index_pages.specs.Fetched.{IsFront}
use Rattle.index_pages.specs.Written.{AreSmall}
use Rattle.page_store.specs.Follows.{Walks}
use Rattle.page_store.specs.Pairs.{Pair}
use Rattle.record_slots.specs.Super.{SaysSuper}
use Rattle.key_list.specs.Along.{along, Stays, WasRead}
use Rattle.key_list.specs.Chain.{page_of_key}
use Rattle.key_list.specs.Finds.{Finds}
use Rattle.key_list.specs.declared.look.KeyPage.{KeyPage}
use Rattle.key_list.specs.declared.place.Located.{Located}
use Rattle.key_list.proofs.Walking.{length-said}
use Rattle.key_list.proofs.Finding.{front_fails, known_finds, walk_finds, walk_fails, front_met, read_met}
use Rattle.std.proofs.lemmas.Result.{err_from_is_err_and}
use Rattle.key_list.proofs.place.locate.Goals as goal

pub returns-in_err-front-clause-finds : goal.returns-in_err-front-clause-finds
returns-in_err-front-clause-finds g c =
    let exit = err_from_is_err_and c.from_residual.result c.from_residual.ensures.1 in
    rw (exit.1, exit.2) (
    let view = g.S.EawStore.view c.args.pages.now.store in
    front_fails g.S.EawStore.tells g.S.EawStore.view g.S.EawStore.calls c.args.root c.args.key (index_pages_of view.shape) Super Located (λ (at : Located) (steps : List Step). IsMet 0 steps × IsMet at.page steps) (IsSuper 0 view.state.bytes) c.args.pages.now.store (g.S.EawStore.calls c.fetch_super.new.pages.store) view (g.S.EawStore.view c.fetch_super.new.pages.store)
    c.in_err-front.ensures.reads.0 (page_bytes view.state.bytes 0) c.in_err-front.field-0.0 (omega (arith, c.requires.may.inside)) c.in_err-front.ensures.reads.1 c.in_err-front.ensures.cause)

pub returns-in_err-at-clause-finds : goal.returns-in_err-at-clause-finds
returns-in_err-at-clause-finds g c =
    let exit = err_from_is_err_and c.from_residual-in_err-at.result c.from_residual-in_err-at.ensures.1 in
    rw (exit.1, exit.2) (
    let view = g.S.EawStore.view c.args.pages.now.store in
    let mid = g.S.EawStore.view c.fetch_super.new.pages.store in
    let still = c.in_ok-front.ensures.looks.still refl in
    let r : Result KeyPage PageFault = Err c.in_err-at.field-0.0 in
    walk_fails g.S.EawStore.tells g.S.EawStore.view g.S.EawStore.calls c.args.root c.args.key (index_pages_of view.shape) KeyPage Located (Stays c.args.key c.page_for.new.bytes) (λ (at : Located) (steps : List Step). IsMet 0 steps × IsMet at.page steps) c.args.pages.now.store c.fetch_super.new.pages.store (g.S.EawStore.calls c.page_for.new.pages.store) view mid (g.S.EawStore.view c.page_for.new.pages.store)
    c.in_ok-front.ensures.reads.0 c.in_ok-front.ensures.looks.shape c.in_ok-front.ensures.reads.1 c.in_err-at.field-0.0
    (subst (λ (n : ℕ). Walks g.S.EawStore.tells (g.S.EawStore.calls c.fetch_super.new.pages.store) (g.S.EawStore.calls c.page_for.new.pages.store) (along c.args.root c.args.key) n (Stays c.args.key c.page_for.new.bytes) mid (g.S.EawStore.view c.page_for.new.pages.store) r) (ap index_pages_of c.in_ok-front.ensures.looks.shape) c.in_err-at.ensures.walks))

pub returns-clause-finds : goal.returns-clause-finds
returns-clause-finds g c =
    let view = g.S.EawStore.view c.args.pages.now.store in
    let mid = g.S.EawStore.view c.fetch_super.new.pages.store in
    let still = c.in_ok-front.ensures.looks.still refl in
    let r : Result KeyPage PageFault = Ok c.in_ok-at.at in
    let page : c.with_front.result.page ≡ c.in_ok-at.at.page = c.with_front.ensures.page ∙ c.leaf_of.ensures.page in
    walk_finds g.S.EawStore.tells g.S.EawStore.view g.S.EawStore.calls c.args.root c.args.key (index_pages_of view.shape) KeyPage Located (Stays c.args.key c.page_for.new.bytes) (λ (at : Located) (steps : List Step). IsMet 0 steps × IsMet at.page steps) c.args.pages.now.store c.fetch_super.new.pages.store (g.S.EawStore.calls c.page_for.new.pages.store) view mid (g.S.EawStore.view c.page_for.new.pages.store)
    c.in_ok-front.ensures.reads.0 c.in_ok-front.ensures.looks.shape c.in_ok-front.ensures.reads.1 c.in_ok-at.at c.with_front.result
    (subst (λ (n : ℕ). Walks g.S.EawStore.tells (g.S.EawStore.calls c.fetch_super.new.pages.store) (g.S.EawStore.calls c.page_for.new.pages.store) (along c.args.root c.args.key) n (Stays c.args.key c.page_for.new.bytes) mid (g.S.EawStore.view c.page_for.new.pages.store) r) (ap index_pages_of c.in_ok-front.ensures.looks.shape) c.in_ok-at.ensures.walks)
    (λ rs ends. (front_met rs, read_met c.with_front.result.page rs (subst (λ (x : ℕ). WasRead x rs) (sym page) ends.met)))

pub returns-clause-looks : goal.returns-clause-looks
returns-clause-looks g c =
    let view = g.S.EawStore.view c.args.pages.now.store in
    looks_next g.S.EawStore.tells g.S.EawStore.opens false (pages_of view c.args.pages.now) (pages_of (g.S.EawStore.view c.fetch_super.new.pages.store) c.fetch_super.new.pages) (pages_of (g.S.EawStore.view c.page_for.new.pages.store) c.page_for.new.pages) c.in_ok-front.ensures.looks c.in_ok-at.ensures.looks

pub returns-in_err-at-clause-looks : goal.returns-in_err-at-clause-looks
returns-in_err-at-clause-looks g c =
    let exit = err_from_is_err_and c.from_residual-in_err-at.result c.from_residual-in_err-at.ensures.1 in
    rw (exit.1, exit.2) (
    let view = g.S.EawStore.view c.args.pages.now.store in
    let r : Result KeyPage PageFault = Err c.in_err-at.field-0.0 in
    looks_next g.S.EawStore.tells g.S.EawStore.opens (is_failed r) (pages_of view c.args.pages.now) (pages_of (g.S.EawStore.view c.fetch_super.new.pages.store) c.fetch_super.new.pages) (pages_of (g.S.EawStore.view c.page_for.new.pages.store) c.page_for.new.pages) c.in_ok-front.ensures.looks c.in_err-at.ensures.looks)

pub returns-clause-located : goal.returns-clause-located
returns-clause-located g c =
    let view = g.S.EawStore.view c.args.pages.now.store in
    let page : c.with_front.result.page ≡ c.in_ok-at.at.page = c.with_front.ensures.page ∙ c.leaf_of.ensures.page in
    let pairs : c.with_front.result.pairs.items ≡ pairs_said c.page_for.new.bytes = c.with_front.ensures.pairs ∙ c.leaf_of.ensures.pairs in
    record {
      front_is = subst (λ (f : Super). IsFront view.shape f) (sym c.with_front.ensures.front) c.in_ok-front.ensures.front;
      some = omega (arith, page, c.in_ok-at.ensures.some);
      inside = omega (arith, page, c.in_ok-at.ensures.inside, (ap index_pages_of c.in_ok-front.ensures.looks.shape));
      most = omega (arith, ap (λ (ps : List Pair). length ps) pairs, length-said c.page_for.new.bytes, c.in_ok-at.ensures.head.leaf.most);
      small = subst (λ (ps : List Pair). AreSmall ps) (sym c.with_front.ensures.pairs) c.leaf_of.ensures.small;
    }

pub returns-clause-said : goal.returns-clause-said
returns-clause-said g c = λ told.
    let view = g.S.EawStore.view c.args.pages.now.store in
    let mid = g.S.EawStore.view c.fetch_super.new.pages.store in
    let still = c.in_ok-front.ensures.looks.still refl in
    let page : c.with_front.result.page ≡ c.in_ok-at.at.page = c.with_front.ensures.page ∙ c.leaf_of.ensures.page in
    let bytes : c.page_for.new.bytes ≡ page_bytes view.state.bytes c.with_front.result.page =
    c.in_ok-at.ensures.bytes told ∙ ap (λ (s : State). page_bytes s.bytes c.in_ok-at.at.page) (still.state told) ∙ ap (λ (x : ℕ). page_bytes view.state.bytes x) (sym page) in
    record {
      front_says = subst (λ (f : Super). SaysSuper (page_bytes view.state.bytes 0) f) (sym c.with_front.ensures.front) (c.in_ok-front.ensures.says told);
      page_is = page ∙ c.in_ok-at.ensures.page told ∙ ap (λ (s : State). page_of_key s.bytes c.args.root c.args.key) (still.state told);
      link_is = c.with_front.ensures.link ∙ c.leaf_of.ensures.link ∙ c.in_ok-at.ensures.head.link ∙ ap link_said bytes;
      pairs_are = c.with_front.ensures.pairs ∙ c.leaf_of.ensures.pairs ∙ ap pairs_said bytes;
    }
