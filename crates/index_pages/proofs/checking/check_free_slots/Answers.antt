use Rattle.std.proofs.Common.{◌≡◌, ◌+◌, ◌-◌, ◌/◌, ℕ, false, Option, Some, refl, sym, ◌∙◌, ap, subst, arith, rules, Result, Err}
use Rattle.eaw_face.specs.State.{State}
use Rattle.record_slots.specs.Free.{next_of}
use Rattle.record_slots.specs.Places.{slot_page, free_slot_of}
use Rattle.record_slots.specs.declared.free.Free.{Free}
use Rattle.page_store.specs.Shown.{pages_of}
use Rattle.index_pages.specs.Slots.{Names, HasRank, list_check}
use Rattle.index_pages.proofs.Looking.{looks_next, looks_none}
use Rattle.index_pages.proofs.Sizes.{slot_page_is}
use Rattle.index_pages.proofs.Members.{names_fail, rank_fails, rank_on, rank_is}
use Rattle.index_pages.proofs.Tests.{check_looks}
use Rattle.page_store.specs.Looks.{is_failed}
use Rattle.page_store.specs.declared.fault.PageFault.{PageFault}
use Rattle.std.proofs.Common.{suc, ◌*◌, ◌/◌, ◌%◌, [], ◌∷◌}
use Rattle.page_store.specs.Index.{index_pages_of}
use Rattle.page_store.specs.Tested.{HasReadBytes}
use Rattle.page_store.specs.declared.index_fault.CheckFault.{CheckFault}
use Rattle.page_store.specs.declared.index_fault.CheckFault.TheVariants.{Damaged}
use Rattle.record_slots.specs.Places.{slot_of}
use Rattle.record_slots.specs.Free.{free_said}
use Rattle.index_pages.specs.Plans.{Tries, list_plan, free_slot_plan, free_slots_plan, one_excerpt}
use Rattle.index_pages.proofs.Trying.{SoFar, so_first, so_holds, so_bad, so_passes, so_read, so_bytes_err, so_member, so_listed, so_ranked}
use Rattle.std.proofs.lemmas.Result.{err_from_is_err_and}
use Rattle.index_pages.proofs.checking.check_free_slots.Goals as goal

pub returns-then-named-eq0-clause-cause : goal.returns-then-named-eq0-clause-cause
returns-then-named-eq0-clause-cause g c = λ told says.
    let view = g.S.EawStore.view c.args.pages.now.store in
    let b = view.state.bytes in
    let front = c.args.front.now in
    let inv = c.loop-done.invariant in
    inv.left told says (Some c.loop-done.page) (names_fail (free_slot_of b) (slot_page b) 0 front.next_slot (front.free_slots - c.loop-done.done) c.loop-done.named c.loop-done.page (λ e. omega (arith, e, c.loop-done-test.true)) (λ names. omega (arith, names.0, c.if-named-eq0.true)))

pub returns-then-named-front-clause-cause : goal.returns-then-named-front-clause-cause
returns-then-named-front-clause-cause g c = λ told says.
    let view = g.S.EawStore.view c.args.pages.now.store in
    let b = view.state.bytes in
    let front = c.args.front.now in
    let inv = c.loop-done.invariant in
    inv.left told says (Some c.loop-done.page) (names_fail (free_slot_of b) (slot_page b) 0 front.next_slot (front.free_slots - c.loop-done.done) c.loop-done.named c.loop-done.page (λ e. omega (arith, e, c.loop-done-test.true)) (λ names. omega (arith, names.1, c.if-named-front.true)))

pub returns-in_default-clause-cause : goal.returns-in_default-clause-cause
returns-in_default-clause-cause g c = λ told says.
    let view = g.S.EawStore.view c.args.pages.now.store in
    let b = view.state.bytes in
    let front = c.args.front.now in
    let inv = c.loop-done.invariant in
    let said : c.in_ok-said.said ≡ free_slot_of b (c.loop-done.named - 1) = c.in_ok-said.ensures.said told ∙ ap (λ (s : State). free_slot_of s.bytes (c.loop-done.named - 1)) ((inv.looks.still refl).state told) in
    let names : Names 0 front.next_slot c.loop-done.named = (omega (arith, c.if-named-eq0.false), c.if-named-front.false) in
    let bad : ¬ HasRank (front.free_slots - c.loop-done.done) (free_slot_of b (c.loop-done.named - 1)) = subst (λ (o : Option Free). ¬ HasRank (front.free_slots - c.loop-done.done) o) said c.in_default.ensures.none in
    let at = slot_page_is view.shape b (g.met.S.EawStore.long c.args.pages.now.store told) c.index_page_count-count.result (c.loop-done.named - 1) c.index_page_count-count.ensures.all in
    inv.left told says (Some (c.index_page_count-count.result + (c.loop-done.named - 1) / 8))
    (subst (λ (p : ℕ). list_check (free_slot_of b) (slot_page b) 0 front.next_slot (front.free_slots - c.loop-done.done) c.loop-done.named c.loop-done.page (Some p)) at
    (rank_fails (free_slot_of b) (slot_page b) 0 front.next_slot (front.free_slots - c.loop-done.done) c.loop-done.named c.loop-done.page (λ e. omega (arith, e, c.loop-done-test.true)) names bad))

pub loop-done-preserved : goal.loop-done-preserved
loop-done-preserved g c =
    let view = g.S.EawStore.view c.args.pages.now.store in
    let b = view.state.bytes in
    let front = c.args.front.now in
    let inv = c.loop-done.invariant in
    record {
      looks = looks_next g.S.EawStore.tells g.S.EawStore.opens false (pages_of view c.args.pages.now) (pages_of (g.S.EawStore.view c.loop-done.pages.store) c.loop-done.pages)
          (pages_of (g.S.EawStore.view c.fetch_free_slot.new.pages.store) c.fetch_free_slot.new.pages) inv.looks c.in_ok-said.ensures.looks;
      alive = (c.in_ok-said.ensures.looks.still refl).dead ∙ inv.alive;
      left = λ told says verdict rest.
          let said : c.in_ok-said.said ≡ free_slot_of b (c.loop-done.named - 1) = c.in_ok-said.ensures.said told ∙ ap (λ (s : State). free_slot_of s.bytes (c.loop-done.named - 1)) ((inv.looks.still refl).state told) in
          let names : Names 0 front.next_slot c.loop-done.named = (omega (arith, c.if-named-eq0.false), c.if-named-front.false) in
          let found : free_slot_of b (c.loop-done.named - 1) ≡ Some c.in-Some.free = sym said ∙ c.in-Some.ensures.some.0 in
          let rank = rank_is (front.free_slots - c.loop-done.done) (free_slot_of b (c.loop-done.named - 1)) c.in-Some.free found c.in-Some.ensures.some.1 in
          let next : c.in-Some.free.next ≡ next_of (free_slot_of b (c.loop-done.named - 1)) = ap next_of (sym found) in
          let at = slot_page_is view.shape b (g.met.S.EawStore.long c.args.pages.now.store told) c.index_page_count-count.result (c.loop-done.named - 1) c.index_page_count-count.ensures.all in
          inv.left told says verdict (rank_on (free_slot_of b) (slot_page b) 0 front.next_slot (front.free_slots - c.loop-done.done) (front.free_slots - (c.loop-done.done + 1)) c.loop-done.named c.loop-done.page (omega (arith, c.loop-done-test.true)) names rank verdict
          (subst (λ (x : ℕ × ℕ). list_check (free_slot_of b) (slot_page b) 0 front.next_slot (front.free_slots - (c.loop-done.done + 1)) x.0 x.1 verdict) (λ i. (next i, sym at i)) rest));
      tests =
          so_ranked (free_slot_plan (index_pages_of (g.S.EawStore.view c.args.pages.now.store).shape)) (λ slot. index_pages_of (g.S.EawStore.view c.args.pages.now.store).shape + slot / 8) 0 c.args.front.now.next_slot (c.args.front.now.free_slots - c.loop-done.done) (c.args.front.now.free_slots - (c.loop-done.done + 1)) c.loop-done.named (free_said 0xF0 2 c.in_ok-said.ensures.reads.0) c.in-Some.free c.in-Some.free.next (c.index_page_count-count.result + (c.loop-done.named - 1) / 8) (let e : (c.args.front.now.free_slots - c.loop-done.done) ≡ suc (c.args.front.now.free_slots - (c.loop-done.done + 1)) = omega (arith, c.loop-done-test.true) in e) (so_read (c.loop-done.invariant.looks.still refl) c.loop-done.invariant.looks.shape (index_pages_of (g.S.EawStore.view c.args.pages.now.store).shape + (c.loop-done.named - 1) / 8) ((c.loop-done.named - 1) % 8 * 64) 64 _ c.in_ok-said.ensures.reads.0 (so_holds _ _ _ (so_member (free_slot_plan (index_pages_of (g.S.EawStore.view c.args.pages.now.store).shape)) (λ slot. index_pages_of (g.S.EawStore.view c.args.pages.now.store).shape + slot / 8) 0 c.args.front.now.next_slot (c.args.front.now.free_slots - c.loop-done.done) (c.args.front.now.free_slots - (c.loop-done.done + 1)) c.loop-done.named c.loop-done.page (let e : (c.args.front.now.free_slots - c.loop-done.done) ≡ suc (c.args.front.now.free_slots - (c.loop-done.done + 1)) = omega (arith, c.loop-done-test.true) in e) c.loop-done.invariant.tests) (omega (arith, c.if-named-eq0.false), c.if-named-front.false)) (subst (λ (h : ℕ). HasReadBytes g.S.EawStore.tells false (g.S.EawStore.calls c.loop-done.pages.store) (g.S.EawStore.calls c.fetch_free_slot.new.pages.store) (g.S.EawStore.view c.loop-done.pages.store) (g.S.EawStore.view c.fetch_free_slot.new.pages.store) (record { page = h + (c.loop-done.named - 1) / 8; at = ((c.loop-done.named - 1) % 8 * 64); len = 64; said = c.in_ok-said.ensures.reads.0 } ∷ [])) (ap index_pages_of c.loop-done.invariant.looks.shape) c.in_ok-said.ensures.reads.1))
          (sym c.in_ok-said.ensures.reads.2 ∙ c.in-Some.ensures.some.0) c.in-Some.ensures.some.1 refl (ap (λ (n : ℕ). n + (c.loop-done.named - 1) / 8) c.index_page_count-count.ensures.count);
    }

pub loop-done-init : goal.loop-done-init
loop-done-init g c = record {
  looks = looks_none g.S.EawStore.tells (g.S.EawStore.opens (g.S.EawStore.view c.args.pages.now.store).shape) (pages_of (g.S.EawStore.view c.args.pages.now.store) c.args.pages.now);
  alive = c.requires.alive;
  left = search rules;
  tests = subst (λ (n : ℕ). SoFar g.S.EawStore.tells (g.S.EawStore.calls c.args.pages.now.store) (g.S.EawStore.calls c.args.pages.now.store) (list_plan (free_slot_plan (index_pages_of (g.S.EawStore.view c.args.pages.now.store).shape)) (λ slot. index_pages_of (g.S.EawStore.view c.args.pages.now.store).shape + slot / 8) 0 c.args.front.now.next_slot n c.args.front.now.free_slot 0) (free_slots_plan (index_pages_of (g.S.EawStore.view c.args.pages.now.store).shape) c.args.front.now) (g.S.EawStore.view c.args.pages.now.store) (g.S.EawStore.view c.args.pages.now.store)) (let e : c.args.front.now.free_slots ≡ c.args.front.now.free_slots - 0 = omega arith in e) (so_first (free_slots_plan (index_pages_of (g.S.EawStore.view c.args.pages.now.store).shape) c.args.front.now));
}

pub returns-in_default-clause-looks : goal.returns-in_default-clause-looks
returns-in_default-clause-looks g c =
    looks_next g.S.EawStore.tells g.S.EawStore.opens false (pages_of (g.S.EawStore.view c.args.pages.now.store) c.args.pages.now) (pages_of (g.S.EawStore.view c.loop-done.pages.store) c.loop-done.pages) (pages_of (g.S.EawStore.view c.fetch_free_slot.new.pages.store) c.fetch_free_slot.new.pages) c.loop-done.invariant.looks c.in_ok-said.ensures.looks

pub returns-in_err-said-clause-looks : goal.returns-in_err-said-clause-looks
returns-in_err-said-clause-looks g c =
    let exit = err_from_is_err_and c.from_residual.result c.from_residual.ensures.1 in
    rw (exit.1) (
    let r : Result (Option Free) PageFault = Err c.in_err-said.field-0.0 in
    check_looks (Option Free) g.S.EawStore.tells (g.S.EawStore.opens (g.S.EawStore.view c.args.pages.now.store).shape) (pages_of (g.S.EawStore.view c.args.pages.now.store) c.args.pages.now) (pages_of (g.S.EawStore.view c.fetch_free_slot.new.pages.store) c.fetch_free_slot.new.pages) c.in_err-said.field-0.0 exit.0 exit.2
    (looks_next g.S.EawStore.tells g.S.EawStore.opens (is_failed r) (pages_of (g.S.EawStore.view c.args.pages.now.store) c.args.pages.now) (pages_of (g.S.EawStore.view c.loop-done.pages.store) c.loop-done.pages) (pages_of (g.S.EawStore.view c.fetch_free_slot.new.pages.store) c.fetch_free_slot.new.pages) c.loop-done.invariant.looks c.in_err-said.ensures.looks))

pub returns-then-named-eq0-clause-tests : goal.returns-then-named-eq0-clause-tests
returns-then-named-eq0-clause-tests g c = so_bad _ _ _ (so_member (free_slot_plan (index_pages_of (g.S.EawStore.view c.args.pages.now.store).shape)) (λ slot. index_pages_of (g.S.EawStore.view c.args.pages.now.store).shape + slot / 8) 0 c.args.front.now.next_slot (c.args.front.now.free_slots - c.loop-done.done) (c.args.front.now.free_slots - (c.loop-done.done + 1)) c.loop-done.named c.loop-done.page (let e : (c.args.front.now.free_slots - c.loop-done.done) ≡ suc (c.args.front.now.free_slots - (c.loop-done.done + 1)) = omega (arith, c.loop-done-test.true) in e) c.loop-done.invariant.tests) (λ names. omega (arith, names.0, c.if-named-eq0.true))

pub returns-then-named-front-clause-tests : goal.returns-then-named-front-clause-tests
returns-then-named-front-clause-tests g c = so_bad _ _ _ (so_member (free_slot_plan (index_pages_of (g.S.EawStore.view c.args.pages.now.store).shape)) (λ slot. index_pages_of (g.S.EawStore.view c.args.pages.now.store).shape + slot / 8) 0 c.args.front.now.next_slot (c.args.front.now.free_slots - c.loop-done.done) (c.args.front.now.free_slots - (c.loop-done.done + 1)) c.loop-done.named c.loop-done.page (let e : (c.args.front.now.free_slots - c.loop-done.done) ≡ suc (c.args.front.now.free_slots - (c.loop-done.done + 1)) = omega (arith, c.loop-done-test.true) in e) c.loop-done.invariant.tests) (λ names. omega (arith, names.1, c.if-named-front.true))

pub returns-in_err-said-clause-tests : goal.returns-in_err-said-clause-tests
returns-in_err-said-clause-tests g c =
    let exit = err_from_is_err_and c.from_residual.result c.from_residual.ensures.1 in
    rw (exit.1) (so_bytes_err (c.loop-done.invariant.looks.still refl) c.loop-done.invariant.looks.shape (Option Free) (index_pages_of (g.S.EawStore.view c.args.pages.now.store).shape + (c.loop-done.named - 1) / 8) ((c.loop-done.named - 1) % 8 * 64) 64 _ c.in_err-said.ensures.reads.0 (slot_of (g.S.EawStore.view c.loop-done.pages.store).state.bytes (c.loop-done.named - 1)) c.in_err-said.field-0.0 exit.0 exit.2 (so_holds _ _ _ (so_member (free_slot_plan (index_pages_of (g.S.EawStore.view c.args.pages.now.store).shape)) (λ slot. index_pages_of (g.S.EawStore.view c.args.pages.now.store).shape + slot / 8) 0 c.args.front.now.next_slot (c.args.front.now.free_slots - c.loop-done.done) (c.args.front.now.free_slots - (c.loop-done.done + 1)) c.loop-done.named c.loop-done.page (let e : (c.args.front.now.free_slots - c.loop-done.done) ≡ suc (c.args.front.now.free_slots - (c.loop-done.done + 1)) = omega (arith, c.loop-done-test.true) in e) c.loop-done.invariant.tests) (omega (arith, c.if-named-eq0.false), c.if-named-front.false)) c.loop-done.invariant.alive c.in_err-said.ensures.cause (subst (λ (h : ℕ). (let r : Result (Option Free) PageFault = Err c.in_err-said.field-0.0 in HasReadBytes g.S.EawStore.tells (is_failed r) (g.S.EawStore.calls c.loop-done.pages.store) (g.S.EawStore.calls c.fetch_free_slot.new.pages.store) (g.S.EawStore.view c.loop-done.pages.store) (g.S.EawStore.view c.fetch_free_slot.new.pages.store) (one_excerpt (h + (c.loop-done.named - 1) / 8) ((c.loop-done.named - 1) % 8 * 64) 64 c.in_err-said.ensures.reads.0 (slot_of (g.S.EawStore.view c.loop-done.pages.store).state.bytes (c.loop-done.named - 1)) r))) (ap index_pages_of c.loop-done.invariant.looks.shape) c.in_err-said.ensures.reads.1))

pub returns-in_default-clause-tests : goal.returns-in_default-clause-tests
returns-in_default-clause-tests g c =
    subst (λ (n : ℕ). (let r : Result (Unit {0}) CheckFault = Err (Damaged (n + (c.loop-done.named - 1) / 8)) in Tries g.S.EawStore.tells (g.S.EawStore.calls c.args.pages.now.store) (g.S.EawStore.calls c.fetch_free_slot.new.pages.store) (free_slots_plan (index_pages_of (g.S.EawStore.view c.args.pages.now.store).shape) c.args.front.now) (g.S.EawStore.view c.args.pages.now.store) (g.S.EawStore.view c.fetch_free_slot.new.pages.store) r)) (sym c.index_page_count-count.ensures.count)
    (so_bad _ _ _ (so_read (c.loop-done.invariant.looks.still refl) c.loop-done.invariant.looks.shape (index_pages_of (g.S.EawStore.view c.args.pages.now.store).shape + (c.loop-done.named - 1) / 8) ((c.loop-done.named - 1) % 8 * 64) 64 _ c.in_ok-said.ensures.reads.0 (so_holds _ _ _ (so_member (free_slot_plan (index_pages_of (g.S.EawStore.view c.args.pages.now.store).shape)) (λ slot. index_pages_of (g.S.EawStore.view c.args.pages.now.store).shape + slot / 8) 0 c.args.front.now.next_slot (c.args.front.now.free_slots - c.loop-done.done) (c.args.front.now.free_slots - (c.loop-done.done + 1)) c.loop-done.named c.loop-done.page (let e : (c.args.front.now.free_slots - c.loop-done.done) ≡ suc (c.args.front.now.free_slots - (c.loop-done.done + 1)) = omega (arith, c.loop-done-test.true) in e) c.loop-done.invariant.tests) (omega (arith, c.if-named-eq0.false), c.if-named-front.false)) (subst (λ (h : ℕ). HasReadBytes g.S.EawStore.tells false (g.S.EawStore.calls c.loop-done.pages.store) (g.S.EawStore.calls c.fetch_free_slot.new.pages.store) (g.S.EawStore.view c.loop-done.pages.store) (g.S.EawStore.view c.fetch_free_slot.new.pages.store) (record { page = h + (c.loop-done.named - 1) / 8; at = ((c.loop-done.named - 1) % 8 * 64); len = 64; said = c.in_ok-said.ensures.reads.0 } ∷ [])) (ap index_pages_of c.loop-done.invariant.looks.shape) c.in_ok-said.ensures.reads.1)) (λ ranked. c.in_default.ensures.none (subst (λ (o : Option Free). HasRank (c.args.front.now.free_slots - c.loop-done.done) o) (sym c.in_ok-said.ensures.reads.2) (subst (λ (k : ℕ). HasRank k (free_said 0xF0 2 c.in_ok-said.ensures.reads.0)) (sym (let e : (c.args.front.now.free_slots - c.loop-done.done) ≡ suc (c.args.front.now.free_slots - (c.loop-done.done + 1)) = omega (arith, c.loop-done-test.true) in e)) ranked))))

pub returns-then-named-ne0-clause-tests : goal.returns-then-named-ne0-clause-tests
returns-then-named-ne0-clause-tests g c = so_bad _ _ _ (so_listed (free_slot_plan (index_pages_of (g.S.EawStore.view c.args.pages.now.store).shape)) (λ slot. index_pages_of (g.S.EawStore.view c.args.pages.now.store).shape + slot / 8) 0 c.args.front.now.next_slot (c.args.front.now.free_slots - c.loop-done.done) c.loop-done.named c.loop-done.page (omega (arith, c.loop-done-test.false)) c.loop-done.invariant.tests) c.if-named-ne0.true

pub returns-clause-tests : goal.returns-clause-tests
returns-clause-tests g c = so_passes tt (so_holds _ _ _ (so_listed (free_slot_plan (index_pages_of (g.S.EawStore.view c.args.pages.now.store).shape)) (λ slot. index_pages_of (g.S.EawStore.view c.args.pages.now.store).shape + slot / 8) 0 c.args.front.now.next_slot (c.args.front.now.free_slots - c.loop-done.done) c.loop-done.named c.loop-done.page (omega (arith, c.loop-done-test.false)) c.loop-done.invariant.tests) c.if-named-ne0.false)
