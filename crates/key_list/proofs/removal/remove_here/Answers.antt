use Rattle.std.proofs.Common.{◌*◌, ◌^◌, ◌<◌, ℕ, IsTrue, sym, ◌∙◌, ap, arith, ◌≡◌, true, false, List, [], ◌∷◌, inl, inr, refl, subst, None, Some, Result, Ok, Err, Bool}
use Rattle.page_store.specs.Shown.{pages_of}
use Rattle.key_list.proofs.Taking.{pair_stays, slot_missing, slot_refused, pair_gone, action_refused}
use Rattle.std.proofs.lemmas.Bool.{false≢true}
use Rattle.array_shape.specs.Places.{page_count}
use Rattle.eaw_face.specs.StoreView.{log_len}
use Rattle.page_store.specs.Index.{index_pages_of}
use Rattle.page_store.specs.Runs.{acting_of}
use Rattle.page_store.specs.Works.{blamed, removal_actions}
use Rattle.page_store.specs.declared.fault.PageFault.{PageFault}
use Rattle.index_pages.specs.Giving.{removing_pages, removing_parts}
use Rattle.key_list.specs.Finds.{limits_here}
use Rattle.key_list.specs.Index.{chain_removal}
use Rattle.index_pages.proofs.Working.{act_blames}
use Rattle.key_list.proofs.Spending.{acted, removing_by, none_done, peek_none, act_ends}
use Rattle.key_list.proofs.Taking.{made_none, made_removing}
use Rattle.std.proofs.lemmas.Result.{err_from_is_err_and}
use Rattle.key_list.proofs.removal.remove_here.Goals as goal

pub returns-then-keeps_last-clause-removes : goal.returns-then-keeps_last-clause-removes
returns-then-keeps_last-clause-removes g c =
    let T = g.S.EawStore.tells in
    let V = g.S.EawStore.view in
    let E = g.S.EawStore.opens in
    let t = c.args.change.tid in
    let root = c.args.change.root in
    let table = c.args.change.table in
    let key = c.args.change.key in
    let v0 = pages_of (V c.args.pages.now.store) c.args.pages.now in
    let at = c.args.at in
    let small : c.args.change.key < 2 ^ 64 = omega arith in
    let long = λ (told : IsTrue g.S.EawStore.tells). g.met.S.EawStore.long c.args.pages.now.store told in
    pair_stays T E t root table key v0 small c.requires.may.sound c.requires.may.named c.requires.lists c.requires.absent long c.requires.may.alive at.front at.page at.link at.pairs.items c.requires.located c.requires.said (sym c.keeps_last.ensures ∙ c.if-keeps_last.true)

pub returns-in_default-clause-removes : goal.returns-in_default-clause-removes
returns-in_default-clause-removes g c =
    let T = g.S.EawStore.tells in
    let V = g.S.EawStore.view in
    let E = g.S.EawStore.opens in
    let t = c.args.change.tid in
    let root = c.args.change.root in
    let table = c.args.change.table in
    let key = c.args.change.key in
    let v0 = pages_of (V c.args.pages.now.store) c.args.pages.now in
    let at = c.args.at in
    let small : c.args.change.key < 2 ^ 64 = omega arith in
    let long = λ (told : IsTrue g.S.EawStore.tells). g.met.S.EawStore.long c.args.pages.now.store told in
    slot_missing T E t root table key v0 small c.requires.may.sound c.requires.may.named c.requires.lists c.requires.absent long c.requires.may.alive at.front at.page at.link at.pairs.items c.requires.located c.requires.said at.page (8 * c.index_page_count-slots.result) (ap (λ (n : ℕ). 8 * n) c.index_page_count-slots.ensures.count) c.in_default.ensures.none

pub returns-in_default-give_slot-clause-removes : goal.returns-in_default-give_slot-clause-removes
returns-in_default-give_slot-clause-removes g c =
    let T = g.S.EawStore.tells in
    let V = g.S.EawStore.view in
    let E = g.S.EawStore.opens in
    let t = c.args.change.tid in
    let root = c.args.change.root in
    let table = c.args.change.table in
    let key = c.args.change.key in
    let v0 = pages_of (V c.args.pages.now.store) c.args.pages.now in
    let at = c.args.at in
    let small : c.args.change.key < 2 ^ 64 = omega arith in
    let long = λ (told : IsTrue g.S.EawStore.tells). g.met.S.EawStore.long c.args.pages.now.store told in
    slot_refused T E t root table key v0 small c.requires.may.sound c.requires.may.named c.requires.lists c.requires.absent long c.requires.may.alive at.front at.page at.link at.pairs.items c.requires.located c.requires.said 0 c.in-Some.slot c.in-Some.ensures.some.1 c.in_default-give_slot.ensures.none

pub returns-clause-removes : goal.returns-clause-removes
returns-clause-removes g c =
    let T = g.S.EawStore.tells in
    let V = g.S.EawStore.view in
    let E = g.S.EawStore.opens in
    let t = c.args.change.tid in
    let root = c.args.change.root in
    let table = c.args.change.table in
    let key = c.args.change.key in
    let v0 = pages_of (V c.args.pages.now.store) c.args.pages.now in
    let at = c.args.at in
    let small : c.args.change.key < 2 ^ 64 = omega arith in
    let long = λ (told : IsTrue g.S.EawStore.tells). g.met.S.EawStore.long c.args.pages.now.store told in
    let v1 = pages_of (V c.remove_pair.new.pages.store) c.remove_pair.new.pages in
    let released = c.in-Some-give_slot.released in
    let gives = c.in-Some-give_slot.ensures.gives in
    pair_gone T E t root table key v0 small c.requires.may.sound c.requires.may.named c.requires.lists c.requires.absent long c.requires.may.alive at.front at.page at.link at.pairs.items c.requires.located c.requires.said c.in-Some.slot released.number c.in-Some.ensures.some.1 released.free released.front gives.0 gives.1 (sym c.keeps_last.ensures ∙ c.if-keeps_last.false) v1 c.in_ok-remove_pair.ensures.acts

pub returns-in_err-remove_pair-clause-removes : goal.returns-in_err-remove_pair-clause-removes
returns-in_err-remove_pair-clause-removes g c =
    let exit = err_from_is_err_and c.from_residual.result c.from_residual.ensures.1 in
    rw (exit.1, exit.2) (
    let T = g.S.EawStore.tells in
    let V = g.S.EawStore.view in
    let E = g.S.EawStore.opens in
    let t = c.args.change.tid in
    let root = c.args.change.root in
    let table = c.args.change.table in
    let key = c.args.change.key in
    let v0 = pages_of (V c.args.pages.now.store) c.args.pages.now in
    let at = c.args.at in
    let small : c.args.change.key < 2 ^ 64 = omega arith in
    let long = λ (told : IsTrue g.S.EawStore.tells). g.met.S.EawStore.long c.args.pages.now.store told in
    let v1 = pages_of (V c.remove_pair.new.pages.store) c.remove_pair.new.pages in
    let released = c.in-Some-give_slot.released in
    let gives = c.in-Some-give_slot.ensures.gives in
    action_refused T E t root table key v0 small c.requires.may.sound c.requires.may.named c.requires.lists c.requires.absent long c.requires.may.alive at.front at.page at.link at.pairs.items c.requires.located c.requires.said c.in-Some.slot released.number c.in-Some.ensures.some.1 released.free released.front gives.0 gives.1 (sym c.keeps_last.ensures ∙ c.if-keeps_last.false) v1 c.in_err-remove_pair.field-0.0 c.in_err-remove_pair.ensures.acts)

pub returns-then-keeps_last-clause-works : goal.returns-then-keeps_last-clause-works
returns-then-keeps_last-clause-works g c =
    let V = g.S.EawStore.view in
    let v0 = pages_of (V c.args.pages.now.store) c.args.pages.now in
    let at = c.args.at in
    let due = removal_actions (chain_removal v0.store.state.bytes c.args.change.root c.args.change.key) in
    let small : c.args.change.key < 2 ^ 64 = omega arith in
    let long = λ (told : IsTrue g.S.EawStore.tells). g.met.S.EawStore.long c.args.pages.now.store told in
    none_done g.S.EawStore.tells V g.S.EawStore.calls (Unit {0}) c.args.change.tid limits_here due None (0 ∷ at.page ∷ []) [] true v0.store tt (λ told. sym (made_none g.S.EawStore.tells g.S.EawStore.opens c.args.change.tid c.args.change.root c.args.change.table c.args.change.key v0 small c.requires.may.sound c.requires.may.named c.requires.lists c.requires.absent long c.requires.may.alive at.front at.page at.link at.pairs.items c.requires.located c.requires.said (sym c.keeps_last.ensures ∙ c.if-keeps_last.true) told)) (λ told is. refl)

pub returns-in_default-clause-works : goal.returns-in_default-clause-works
returns-in_default-clause-works g c =
    let V = g.S.EawStore.view in
    let v0 = pages_of (V c.args.pages.now.store) c.args.pages.now in
    let at = c.args.at in
    let due = removal_actions (chain_removal v0.store.state.bytes c.args.change.root c.args.change.key) in
    none_done g.S.EawStore.tells V g.S.EawStore.calls (Unit {0}) c.args.change.tid limits_here due (Some at.page) (0 ∷ at.page ∷ []) due false v0.store (omega (arith, c.requires.located.inside), inr (inl refl)) (λ told. refl) (λ told is. absurd (false≢true is))

pub returns-in_default-give_slot-clause-works : goal.returns-in_default-give_slot-clause-works
returns-in_default-give_slot-clause-works g c =
    let V = g.S.EawStore.view in
    let v0 = pages_of (V c.args.pages.now.store) c.args.pages.now in
    let at = c.args.at in
    let due = removal_actions (chain_removal v0.store.state.bytes c.args.change.root c.args.change.key) in
    none_done g.S.EawStore.tells V g.S.EawStore.calls (Unit {0}) c.args.change.tid limits_here due (Some 0) (0 ∷ at.page ∷ []) due false v0.store (omega (arith, c.requires.located.inside), inl refl) (λ told. refl) (λ told is. absurd (false≢true is))

pub returns-clause-works : goal.returns-clause-works
returns-clause-works g c =
    let V = g.S.EawStore.view in
    let v0 = pages_of (V c.args.pages.now.store) c.args.pages.now in
    let at = c.args.at in
    let due = removal_actions (chain_removal v0.store.state.bytes c.args.change.root c.args.change.key) in
    let small : c.args.change.key < 2 ^ 64 = omega arith in
    let long = λ (told : IsTrue g.S.EawStore.tells). g.met.S.EawStore.long c.args.pages.now.store told in
    let half = index_pages_of v0.store.shape in
    let mark = log_len v0.store c.args.change.tid in
    let v1 = V c.remove_pair.new.pages.store in
    let released = c.in-Some-give_slot.released in
    let gives = c.in-Some-give_slot.ensures.gives in
    let made = made_removing g.S.EawStore.tells g.S.EawStore.opens c.args.change.tid c.args.change.root c.args.change.table c.args.change.key v0 small c.requires.may.sound c.requires.may.named c.requires.lists c.requires.absent long c.requires.may.alive at.front at.page at.link at.pairs.items c.requires.located c.requires.said c.in-Some.slot released.number c.in-Some.ensures.some.1 released.free released.front gives.0 gives.1 (sym c.keeps_last.ensures ∙ c.if-keeps_last.false) in
    let r : Result (Unit {0}) PageFault = Ok tt in
    act_ends g.S.EawStore.tells V g.S.EawStore.calls (Unit {0}) c.args.change.tid limits_here due (None) (Unit {0}) tt c.args.pages.now (acted (removing_pages half released.number at.page) 0) (acting_of c.args.change.tid mark (removing_parts half released.front released.number released.free at.page at.link at.pairs.items c.args.change.key))
    v0.store v0.store v1 (peek_none g.S.EawStore.tells V g.S.EawStore.calls v0.store) r c.in_ok-remove_pair.ensures.runs (removing_by c.args.change.tid mark half released.front released.number released.free at.page at.link at.pairs.items c.args.change.key) (0 ∷ at.page ∷ []) [] (omega arith) (omega arith) refl made (λ told is. refl)

pub returns-in_err-remove_pair-clause-works : goal.returns-in_err-remove_pair-clause-works
returns-in_err-remove_pair-clause-works g c =
    let exit = err_from_is_err_and c.from_residual.result c.from_residual.ensures.1 in
    rw (exit.1, exit.2) (
    let V = g.S.EawStore.view in
    let v0 = pages_of (V c.args.pages.now.store) c.args.pages.now in
    let at = c.args.at in
    let due = removal_actions (chain_removal v0.store.state.bytes c.args.change.root c.args.change.key) in
    let small : c.args.change.key < 2 ^ 64 = omega arith in
    let long = λ (told : IsTrue g.S.EawStore.tells). g.met.S.EawStore.long c.args.pages.now.store told in
    let half = index_pages_of v0.store.shape in
    let mark = log_len v0.store c.args.change.tid in
    let v1 = V c.remove_pair.new.pages.store in
    let released = c.in-Some-give_slot.released in
    let gives = c.in-Some-give_slot.ensures.gives in
    let made = made_removing g.S.EawStore.tells g.S.EawStore.opens c.args.change.tid c.args.change.root c.args.change.table c.args.change.key v0 small c.requires.may.sound c.requires.may.named c.requires.lists c.requires.absent long c.requires.may.alive at.front at.page at.link at.pairs.items c.requires.located c.requires.said c.in-Some.slot released.number c.in-Some.ensures.some.1 released.free released.front gives.0 gives.1 (sym c.keeps_last.ensures ∙ c.if-keeps_last.false) in
    let r : Result (Unit {0}) PageFault = Err c.in_err-remove_pair.field-0.0 in
    let s : Result Bool PageFault = Err c.in_err-remove_pair.field-0.0 in
    act_ends g.S.EawStore.tells V g.S.EawStore.calls (Unit {0}) c.args.change.tid limits_here due (blamed s) (Unit {0}) tt c.args.pages.now (acted (removing_pages half released.number at.page) 0) (acting_of c.args.change.tid mark (removing_parts half released.front released.number released.free at.page at.link at.pairs.items c.args.change.key))
    v0.store v0.store v1 (peek_none g.S.EawStore.tells V g.S.EawStore.calls v0.store) r c.in_err-remove_pair.ensures.runs (removing_by c.args.change.tid mark half released.front released.number released.free at.page at.link at.pairs.items c.args.change.key) (0 ∷ at.page ∷ []) [] (omega arith) (omega arith) (act_blames Bool v0.store c.args.change.tid (removing_pages half released.number at.page) c.in_err-remove_pair.field-0.0 c.in_err-remove_pair.ensures.acts.cause) made (λ told is. refl))
