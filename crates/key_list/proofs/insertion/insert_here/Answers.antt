use Rattle.index_pages.proofs.Filled.{told_left}
use Rattle.std.proofs.Common.{◌^◌, ◌<◌, ℕ, Option, Result, Err, IsTrue, refl, sym, ◌∙◌, ap, subst, arith, ◌≡◌, true, List, [], ◌∷◌, None, Ok}
use Rattle.array_shape.specs.declared.shape.Shape.{Shape}
use Rattle.page_store.specs.Index.{slots_of, index_pages_of}
use Rattle.page_store.specs.Inserts.{Inserts}
use Rattle.page_store.specs.Shown.{pages_of}
use Rattle.page_store.specs.declared.index_fault.IndexFault.{IndexFault}
use Rattle.index_pages.specs.Adding.{adding_pages}
use Rattle.index_pages.specs.declared.taking.Claim.{Claim}
use Rattle.index_pages.proofs.Claims.{free_slots_pass}
use Rattle.index_pages.proofs.Faulting.{look_of_index, act_of_index, dead_fault, dead_act, not_done}
use Rattle.key_list.specs.Index.{chain_within}
use Rattle.index_pages.proofs.Even.{halves, halves_few}
use Rattle.key_list.proofs.Others.{whole_of}
use Rattle.key_list.proofs.Whole.{slot_err, add_done, add_err}
use Rattle.eaw_face.specs.StoreView.{log_len}
use Rattle.page_store.specs.Runs.{acting_of}
use Rattle.page_store.specs.Works.{blamed_index}
use Rattle.page_store.specs.declared.fault.PageFault.{PageFault}
use Rattle.index_pages.specs.Adding.{adding_parts}
use Rattle.index_pages.proofs.Working.{act_blames, blamed_same}
use Rattle.key_list.specs.Finds.{limits_here}
use Rattle.key_list.specs.Index.{chain_actions}
use Rattle.key_list.proofs.Spending.{acted, adding_by, peek_fails, act_ends}
use Rattle.key_list.proofs.Whole.{made_here}
use Rattle.std.proofs.lemmas.Result.{err_from_is_err_and}
use Rattle.key_list.proofs.insertion.insert_here.Goals as goal

pub take_slot-requires : goal.take_slot-requires
take_slot-requires g c =
    record {
      alive = c.requires.may.alive;
      front = c.requires.place.located.front_is;
      left = c.requires.place.slot;
      sound = λ told. free_slots_pass (g.S.EawStore.view c.args.pages.now.store).state.bytes c.args.at.front (whole_of (g.S.EawStore.view c.args.pages.now.store).state.bytes (c.requires.may.sound told)).slots (c.requires.place.said told).front_says;
    }

pub returns-in_err-taken-clause-inserts : goal.returns-in_err-taken-clause-inserts
returns-in_err-taken-clause-inserts g c =
    let exit = err_from_is_err_and c.from_residual.result c.from_residual.ensures.1 in
    rw (exit.1) (
    let T = g.S.EawStore.tells in
    let V = g.S.EawStore.view in
    let E = g.S.EawStore.opens in
    let t = c.args.change.tid in
    let root = c.args.change.root in
    let table = c.args.change.table in
    let key = c.args.change.key in
    let v0 = pages_of (V c.args.pages.now.store) c.args.pages.now in
    let at = c.args.at in
    let small : c.args.change.key < 2 ^ 64 = omega arith in
    let long = λ (told : IsTrue g.S.EawStore.tells). g.met.S.EawStore.long c.args.pages.now.store told in
    let v1 = pages_of (V c.take_slot.new.pages.store) c.take_slot.new.pages in
    subst (λ (f : IndexFault). (let r : Result ℕ IndexFault = Err f in Inserts T (E v0.store.shape) (chain_within c.args.at.front.next_page) t root table key v0 v1 r)) (sym exit.2)
    (slot_err T E t root table key v0 (index_pages_of v0.store.shape) refl (halves v0.store.shape) (halves_few v0.store.shape) small c.requires.may.one_of c.requires.may.sound c.requires.may.named c.requires.place.absent long c.requires.may.alive at.front at.page at.link at.pairs.items c.requires.place.located c.requires.place.said c.requires.place.slot c.requires.room Claim v1 c.in_err-taken.field-0.0 (c.in_err-taken.ensures.looks, c.in_err-taken.ensures.cause)))

pub returns-in_err-taken-clause-dead : goal.returns-in_err-taken-clause-dead
returns-in_err-taken-clause-dead g c =
    let exit = err_from_is_err_and c.from_residual.result c.from_residual.ensures.1 in
    rw (exit.1) (
    λ told. c.in_err-taken.ensures.dead (ap Err (dead_fault c.in_err-taken.field-0.0 exit.0 (look_of_index Claim g.S.EawStore.tells (g.S.EawStore.view c.args.pages.now.store) c.in_err-taken.field-0.0 c.in_err-taken.ensures.cause) exit.2 told)))

pub add_pair-requires : goal.add_pair-requires
add_pair-requires g c =
    let looks = c.in_ok-taken.ensures.looks in
    record {
      tid = subst (λ (sh : Shape). c.args.change.tid < sh.numbers) (sym looks.shape) c.requires.may.number;
      closed = λ running. ap (λ (f : ℕ → Option ℕ). f c.args.change.tid) looks.tops ∙ c.requires.may.closed;
      table = c.requires.may.one_of;
      inside = subst (λ (sh : Shape). c.args.at.page < index_pages_of sh) (sym looks.shape) c.requires.place.located.inside;
      room = c.requires.room;
      slot = subst (λ (sh : Shape). c.in_ok-taken.taken.number < slots_of sh) (sym looks.shape) c.in_ok-taken.ensures.inside;
    }

pub returns-clause-inserts : goal.returns-clause-inserts
returns-clause-inserts g c =
    let T = g.S.EawStore.tells in
    let V = g.S.EawStore.view in
    let E = g.S.EawStore.opens in
    let t = c.args.change.tid in
    let root = c.args.change.root in
    let table = c.args.change.table in
    let key = c.args.change.key in
    let v0 = pages_of (V c.args.pages.now.store) c.args.pages.now in
    let at = c.args.at in
    let small : c.args.change.key < 2 ^ 64 = omega arith in
    let long = λ (told : IsTrue g.S.EawStore.tells). g.met.S.EawStore.long c.args.pages.now.store told in
    let v1 = pages_of (V c.take_slot.new.pages.store) c.take_slot.new.pages in
    let taken = c.in_ok-taken.taken in
    let v2 = pages_of (V c.add_pair.new.pages.store) c.add_pair.new.pages in
    add_done T E t root table key v0 (index_pages_of v0.store.shape) refl (halves v0.store.shape) (halves_few v0.store.shape) small c.requires.may.one_of c.requires.may.sound c.requires.may.named c.requires.place.absent long c.requires.may.alive at.front at.page at.link at.pairs.items c.requires.place.located c.requires.place.said c.requires.place.slot c.requires.room v1 c.in_ok-taken.ensures.looks taken.front taken.number c.in_ok-taken.ensures.takes c.in_ok-taken.ensures.inside v2 c.in_ok-add_pair.ensures.acts

pub returns-clause-dead : goal.returns-clause-dead
returns-clause-dead g c =
    λ told. not_done _ told

pub returns-in_err-add_pair-clause-inserts : goal.returns-in_err-add_pair-clause-inserts
returns-in_err-add_pair-clause-inserts g c =
    let exit = err_from_is_err_and c.from_residual-in_err-add_pair.result c.from_residual-in_err-add_pair.ensures.1 in
    rw (exit.1) (
    let T = g.S.EawStore.tells in
    let V = g.S.EawStore.view in
    let E = g.S.EawStore.opens in
    let t = c.args.change.tid in
    let root = c.args.change.root in
    let table = c.args.change.table in
    let key = c.args.change.key in
    let v0 = pages_of (V c.args.pages.now.store) c.args.pages.now in
    let at = c.args.at in
    let small : c.args.change.key < 2 ^ 64 = omega arith in
    let long = λ (told : IsTrue g.S.EawStore.tells). g.met.S.EawStore.long c.args.pages.now.store told in
    let v1 = pages_of (V c.take_slot.new.pages.store) c.take_slot.new.pages in
    let taken = c.in_ok-taken.taken in
    let v2 = pages_of (V c.add_pair.new.pages.store) c.add_pair.new.pages in
    subst (λ (f : IndexFault). (let r : Result ℕ IndexFault = Err f in Inserts T (E v0.store.shape) (chain_within c.args.at.front.next_page) t root table key v0 v2 r)) (sym exit.2)
    (add_err T E t root table key v0 (index_pages_of v0.store.shape) refl (halves v0.store.shape) (halves_few v0.store.shape) small c.requires.may.one_of c.requires.may.sound c.requires.may.named c.requires.place.absent long c.requires.may.alive at.front at.page at.link at.pairs.items c.requires.place.located c.requires.place.said c.requires.place.slot c.requires.room v1 c.in_ok-taken.ensures.looks taken.front taken.number c.in_ok-taken.ensures.takes c.in_ok-taken.ensures.inside v2 c.in_err-add_pair.field-0.0 c.in_err-add_pair.ensures.acts))

pub returns-in_err-add_pair-clause-dead : goal.returns-in_err-add_pair-clause-dead
returns-in_err-add_pair-clause-dead g c =
    let exit = err_from_is_err_and c.from_residual-in_err-add_pair.result c.from_residual-in_err-add_pair.ensures.1 in
    rw (exit.1) (
    let V = g.S.EawStore.view in
    let v1 = pages_of (V c.take_slot.new.pages.store) c.take_slot.new.pages in
    let ps = adding_pages (index_pages_of v1.store.shape) c.in_ok-taken.taken.number c.args.at.page in
    λ told. dead_act v1.store c.args.change.tid ps c.in_err-add_pair.field-0.0 ((c.in_ok-taken.ensures.looks.still refl).dead ∙ c.requires.may.alive)
    (dead_fault c.in_err-add_pair.field-0.0 exit.0 (act_of_index v1.store c.args.change.tid ps c.in_err-add_pair.field-0.0 c.in_err-add_pair.ensures.acts.cause) exit.2 told) c.in_err-add_pair.ensures.acts.cause)

pub returns-in_err-taken-clause-works : goal.returns-in_err-taken-clause-works
returns-in_err-taken-clause-works g c =
    let exit = err_from_is_err_and c.from_residual.result c.from_residual.ensures.1 in
    rw (exit.1) (
    let V = g.S.EawStore.view in
    let v0 = pages_of (V c.args.pages.now.store) c.args.pages.now in
    let at = c.args.at in
    let due = chain_actions v0.store.state.bytes c.args.change.root c.args.change.key in
    let s : Result ℕ IndexFault = Err exit.0 in
    peek_fails g.S.EawStore.tells V g.S.EawStore.calls (IsTrue g.S.EawStore.tells) c.args.change.tid limits_here due (blamed_index s) Claim v0.store (V c.take_slot.new.pages.store) c.in_err-taken.field-0.0 (omega arith)
    (ap (λ (f : IndexFault). (let r : Result ℕ IndexFault = Err f in blamed_index r)) exit.2 ∙ blamed_same ℕ Claim c.in_err-taken.field-0.0) c.in_err-taken.ensures.peeks)

pub returns-clause-works : goal.returns-clause-works
returns-clause-works g c =
    let V = g.S.EawStore.view in
    let v0 = pages_of (V c.args.pages.now.store) c.args.pages.now in
    let at = c.args.at in
    let due = chain_actions v0.store.state.bytes c.args.change.root c.args.change.key in
    let v1 = pages_of (V c.take_slot.new.pages.store) c.take_slot.new.pages in
    let v2 = pages_of (V c.add_pair.new.pages.store) c.add_pair.new.pages in
    let taken = c.in_ok-taken.taken in
    let small : c.args.change.key < 2 ^ 64 = omega arith in
    let long = λ (told : IsTrue g.S.EawStore.tells). g.met.S.EawStore.long c.args.pages.now.store told in
    let made = made_here g.S.EawStore.tells g.S.EawStore.opens c.args.change.tid c.args.change.root c.args.change.table c.args.change.key v0 (index_pages_of v0.store.shape) refl (halves v0.store.shape) (halves_few v0.store.shape) small c.requires.may.one_of c.requires.may.sound c.requires.may.named c.requires.place.absent long c.requires.may.alive at.front at.page at.link at.pairs.items c.requires.place.located c.requires.place.said c.requires.place.slot c.requires.room v1 c.in_ok-taken.ensures.looks taken.front taken.number c.in_ok-taken.ensures.takes c.in_ok-taken.ensures.inside in
    let half = index_pages_of v1.store.shape in
    let mark = log_len v1.store c.args.change.tid in
    let r : Result (Unit {0}) PageFault = Ok tt in
    act_ends g.S.EawStore.tells V g.S.EawStore.calls (IsTrue g.S.EawStore.tells) c.args.change.tid limits_here due (None) Claim taken c.args.pages.now (acted (adding_pages half taken.number at.page) 0) (acting_of c.args.change.tid mark (adding_parts half taken.front taken.number at.page at.link at.pairs.items c.args.change.table c.args.change.key))
    v0.store v1.store v2.store c.in_ok-taken.ensures.peeks r c.in_ok-add_pair.ensures.runs (adding_by c.args.change.tid mark half taken.front taken.number at.page at.link at.pairs.items c.args.change.table c.args.change.key) (0 ∷ []) [] (omega arith) (omega arith) refl made (λ told is. refl)

pub returns-in_err-add_pair-clause-works : goal.returns-in_err-add_pair-clause-works
returns-in_err-add_pair-clause-works g c =
    let exit = err_from_is_err_and c.from_residual-in_err-add_pair.result c.from_residual-in_err-add_pair.ensures.1 in
    rw (exit.1) (
    let V = g.S.EawStore.view in
    let v0 = pages_of (V c.args.pages.now.store) c.args.pages.now in
    let at = c.args.at in
    let due = chain_actions v0.store.state.bytes c.args.change.root c.args.change.key in
    let v1 = pages_of (V c.take_slot.new.pages.store) c.take_slot.new.pages in
    let v2 = pages_of (V c.add_pair.new.pages.store) c.add_pair.new.pages in
    let taken = c.in_ok-taken.taken in
    let small : c.args.change.key < 2 ^ 64 = omega arith in
    let long = λ (told : IsTrue g.S.EawStore.tells). g.met.S.EawStore.long c.args.pages.now.store told in
    let made = made_here g.S.EawStore.tells g.S.EawStore.opens c.args.change.tid c.args.change.root c.args.change.table c.args.change.key v0 (index_pages_of v0.store.shape) refl (halves v0.store.shape) (halves_few v0.store.shape) small c.requires.may.one_of c.requires.may.sound c.requires.may.named c.requires.place.absent long c.requires.may.alive at.front at.page at.link at.pairs.items c.requires.place.located c.requires.place.said c.requires.place.slot c.requires.room v1 c.in_ok-taken.ensures.looks taken.front taken.number c.in_ok-taken.ensures.takes c.in_ok-taken.ensures.inside in
    let half = index_pages_of v1.store.shape in
    let mark = log_len v1.store c.args.change.tid in
    let r : Result (Unit {0}) PageFault = Err c.in_err-add_pair.field-0.0 in
    let s : Result ℕ IndexFault = Err exit.0 in
    let blames : blamed_index s ≡ None = ap (λ (f : IndexFault). (let e : Result ℕ IndexFault = Err f in blamed_index e)) exit.2 ∙ blamed_same ℕ Claim c.in_err-add_pair.field-0.0
    ∙ act_blames Claim v1.store c.args.change.tid (adding_pages half taken.number at.page) c.in_err-add_pair.field-0.0 c.in_err-add_pair.ensures.acts.cause in
    act_ends g.S.EawStore.tells V g.S.EawStore.calls (IsTrue g.S.EawStore.tells) c.args.change.tid limits_here due (blamed_index s) Claim taken c.args.pages.now (acted (adding_pages half taken.number at.page) 0) (acting_of c.args.change.tid mark (adding_parts half taken.front taken.number at.page at.link at.pairs.items c.args.change.table c.args.change.key))
    v0.store v1.store v2.store c.in_ok-taken.ensures.peeks r c.in_err-add_pair.ensures.runs (adding_by c.args.change.tid mark half taken.front taken.number at.page at.link at.pairs.items c.args.change.table c.args.change.key) (0 ∷ []) [] (omega arith) (omega arith) blames made (λ told is. refl))

pub returns-in_err-taken-clause-left : goal.returns-in_err-taken-clause-left
returns-in_err-taken-clause-left g c =
    let exit = err_from_is_err_and c.from_residual.result c.from_residual.ensures.1 in
    rw (exit.1) (told_left c.in_err-taken.field-0.0 exit.0 exit.2)

pub returns-in_err-add_pair-clause-left : goal.returns-in_err-add_pair-clause-left
returns-in_err-add_pair-clause-left g c =
    let exit = err_from_is_err_and c.from_residual-in_err-add_pair.result c.from_residual-in_err-add_pair.ensures.1 in
    rw (exit.1) (told_left c.in_err-add_pair.field-0.0 exit.0 exit.2)
