use Rattle.index_pages.proofs.Filled.{told_left}
use Rattle.std.proofs.Common.{◌^◌, ◌<◌, ◌≤◌, ℕ, Option, Result, Err, IsTrue, refl, sym, ◌∙◌, ap, subst, arith, ◌≡◌, true, List, [], ◌∷◌, None, Ok, false}
use Rattle.std.proofs.lemmas.Bool.{false≢true}
use Rattle.array_shape.specs.declared.shape.Shape.{Shape}
use Rattle.page_store.specs.Index.{index_pages_of}
use Rattle.page_store.specs.Inserts.{Inserts}
use Rattle.page_store.specs.Shown.{pages_of}
use Rattle.page_store.specs.declared.index_fault.IndexFault.{IndexFault}
use Rattle.index_pages.specs.declared.taking.Claim.{Claim}
use Rattle.index_pages.proofs.Claims.{free_pages_pass}
use Rattle.index_pages.proofs.Faulting.{look_of_index, act_of_index, dead_fault, dead_act, not_full}
use Rattle.key_list.specs.Index.{chain}
use Rattle.key_list.specs.Located.{IsLocated, cutting_pages}
use Rattle.key_list.proofs.Others.{whole_of}
use Rattle.key_list.proofs.Whole.{pages_full, page_err, cut_err, going3, living3, sound3, named3, absent3, located3, room3, slot3, said3, cut_then}
use Rattle.eaw_face.specs.StoreView.{log_len}
use Rattle.record_slots.specs.Places.{page_due}
use Rattle.page_store.specs.Runs.{acting_of}
use Rattle.page_store.specs.Works.{blamed_index, is_done}
use Rattle.page_store.specs.declared.fault.PageFault.{PageFault}
use Rattle.index_pages.specs.Page.{page_pairs}
use Rattle.index_pages.proofs.Working.{act_blames, blamed_same}
use Rattle.key_list.specs.Finds.{limits_here, limits_cut}
use Rattle.key_list.specs.Index.{chain_actions}
use Rattle.index_pages.specs.Actions.{adding, half_for}
use Rattle.key_list.specs.Located.{cutting_parts}
use Rattle.key_list.proofs.Spending.{acted, cutting_by, none_done, peek_fails, act_ends, act_then}
use Rattle.key_list.proofs.Whole.{made_first, made_cut}
use Rattle.std.proofs.lemmas.Result.{err_from_is_err_and}
use Rattle.key_list.proofs.insertion.insert_cut.Goals as goal

pub has_page-requires : goal.has_page-requires
has_page-requires g c =
    subst (λ (k : ℕ). c.args.at.front.next_page ≤ k) (sym c.index_page_count-count.ensures.count) c.requires.place.located.front_is.pages

pub returns-then-not-has_page-clause-inserts : goal.returns-then-not-has_page-clause-inserts
returns-then-not-has_page-clause-inserts g c =
    let T = g.S.EawStore.tells in
    let V = g.S.EawStore.view in
    let E = g.S.EawStore.opens in
    let t = c.args.change.tid in
    let root = c.args.change.root in
    let table = c.args.change.table in
    let key = c.args.change.key in
    let v0 = pages_of (V c.args.pages.now.store) c.args.pages.now in
    let n = c.index_page_count-count.ensures in
    let at = c.args.at in
    let small : c.args.change.key < 2 ^ 64 = omega arith in
    let long = λ (told : IsTrue g.S.EawStore.tells). g.met.S.EawStore.long c.args.pages.now.store told in
    pages_full T E t root table key v0 c.index_page_count-count.result n.count n.all n.most small c.requires.may.one_of c.requires.may.sound c.requires.may.named c.requires.place.absent long c.requires.may.alive at.front at.page at.link at.pairs.items c.requires.place.located c.requires.place.said c.requires.place.slot c.requires.full (λ has. false≢true (c.if-not-has_page.ensures.1 has))

pub returns-then-not-has_page-clause-dead : goal.returns-then-not-has_page-clause-dead
returns-then-not-has_page-clause-dead g c =
    λ told. not_full _ told

pub take_page-requires : goal.take_page-requires
take_page-requires g c =
    record {
      alive = c.requires.may.alive;
      front = c.requires.place.located.front_is;
      left = λ none. subst (λ (k : ℕ). c.args.at.front.next_page < k) c.index_page_count-count.ensures.count (c.if-not-has_page.ensures.0 refl none);
      sound = λ told. free_pages_pass (g.S.EawStore.view c.args.pages.now.store).state.bytes c.args.at.front (whole_of (g.S.EawStore.view c.args.pages.now.store).state.bytes (c.requires.may.sound told)).pages (c.requires.place.said told).front_says;
    }

pub returns-in_err-taken-clause-inserts : goal.returns-in_err-taken-clause-inserts
returns-in_err-taken-clause-inserts g c =
    let exit = err_from_is_err_and c.from_residual.result c.from_residual.ensures.1 in
    rw (exit.1) (
    let T = g.S.EawStore.tells in
    let V = g.S.EawStore.view in
    let E = g.S.EawStore.opens in
    let t = c.args.change.tid in
    let root = c.args.change.root in
    let table = c.args.change.table in
    let key = c.args.change.key in
    let v0 = pages_of (V c.args.pages.now.store) c.args.pages.now in
    let n = c.index_page_count-count.ensures in
    let at = c.args.at in
    let small : c.args.change.key < 2 ^ 64 = omega arith in
    let long = λ (told : IsTrue g.S.EawStore.tells). g.met.S.EawStore.long c.args.pages.now.store told in
    let v1 = pages_of (V c.take_page.new.pages.store) c.take_page.new.pages in
    subst (λ (f : IndexFault). (let r : Result ℕ IndexFault = Err f in Inserts T (E v0.store.shape) chain t root table key v0 v1 r)) (sym exit.2)
    (page_err T E t root table key v0 c.index_page_count-count.result n.count n.all n.most small c.requires.may.one_of c.requires.may.sound c.requires.may.named c.requires.place.absent long c.requires.may.alive at.front at.page at.link at.pairs.items c.requires.place.located c.requires.place.said c.requires.place.slot c.requires.full Claim v1 c.in_err-taken.field-0.0 (c.in_err-taken.ensures.looks, c.in_err-taken.ensures.cause)))

pub returns-in_err-taken-clause-dead : goal.returns-in_err-taken-clause-dead
returns-in_err-taken-clause-dead g c =
    let exit = err_from_is_err_and c.from_residual.result c.from_residual.ensures.1 in
    rw (exit.1) (
    λ told. c.in_err-taken.ensures.dead (ap Err (dead_fault c.in_err-taken.field-0.0 exit.0 (look_of_index Claim g.S.EawStore.tells (g.S.EawStore.view c.args.pages.now.store) c.in_err-taken.field-0.0 c.in_err-taken.ensures.cause) exit.2 told)))

pub cut_page-requires : goal.cut_page-requires
cut_page-requires g c =
    let looks = c.in_ok-taken.ensures.looks in
    record {
      tid = subst (λ (sh : Shape). c.args.change.tid < sh.numbers) (sym looks.shape) c.requires.may.number;
      closed = λ running. ap (λ (f : ℕ → Option ℕ). f c.args.change.tid) looks.tops ∙ c.requires.may.closed;
      located = subst (λ (sh : Shape). IsLocated sh c.args.at.front c.args.at.page c.args.at.link c.args.at.pairs.items) (sym looks.shape) c.requires.place.located;
      full = c.requires.full;
      next = subst (λ (sh : Shape). c.in_ok-taken.taken.number < index_pages_of sh) (sym looks.shape) c.in_ok-taken.ensures.inside.1;
    }

pub returns-in_err-cut_page-clause-inserts : goal.returns-in_err-cut_page-clause-inserts
returns-in_err-cut_page-clause-inserts g c =
    let exit = err_from_is_err_and c.from_residual-in_err-cut_page.result c.from_residual-in_err-cut_page.ensures.1 in
    rw (exit.1) (
    let T = g.S.EawStore.tells in
    let V = g.S.EawStore.view in
    let E = g.S.EawStore.opens in
    let t = c.args.change.tid in
    let root = c.args.change.root in
    let table = c.args.change.table in
    let key = c.args.change.key in
    let v0 = pages_of (V c.args.pages.now.store) c.args.pages.now in
    let n = c.index_page_count-count.ensures in
    let at = c.args.at in
    let small : c.args.change.key < 2 ^ 64 = omega arith in
    let long = λ (told : IsTrue g.S.EawStore.tells). g.met.S.EawStore.long c.args.pages.now.store told in
    let v1 = pages_of (V c.take_page.new.pages.store) c.take_page.new.pages in
    let taken = c.in_ok-taken.taken in
    let v2 = pages_of (V c.cut_page.new.pages.store) c.cut_page.new.pages in
    subst (λ (f : IndexFault). (let r : Result ℕ IndexFault = Err f in Inserts T (E v0.store.shape) chain t root table key v0 v2 r)) (sym exit.2)
    (cut_err T E t root table key v0 c.index_page_count-count.result n.count n.all n.most small c.requires.may.one_of c.requires.may.sound c.requires.may.named c.requires.place.absent long c.requires.may.alive at.front at.page at.link at.pairs.items c.requires.place.located c.requires.place.said c.requires.place.slot c.requires.full (c.if-not-has_page.ensures.0 refl) v1 c.in_ok-taken.ensures.looks taken.front taken.number c.in_ok-taken.ensures.takes c.in_ok-taken.ensures.inside c.in_ok-taken.ensures.front c.in_ok-taken.ensures.slots v2 c.in_err-cut_page.field-0.0 c.in_err-cut_page.ensures.acts))

pub returns-in_err-cut_page-clause-dead : goal.returns-in_err-cut_page-clause-dead
returns-in_err-cut_page-clause-dead g c =
    let exit = err_from_is_err_and c.from_residual-in_err-cut_page.result c.from_residual-in_err-cut_page.ensures.1 in
    rw (exit.1) (
    let V = g.S.EawStore.view in
    let v1 = pages_of (V c.take_page.new.pages.store) c.take_page.new.pages in
    let ps = cutting_pages c.in_ok-taken.taken.number c.args.at.page in
    λ told. dead_act v1.store c.args.change.tid ps c.in_err-cut_page.field-0.0 ((c.in_ok-taken.ensures.looks.still refl).dead ∙ c.requires.may.alive)
    (dead_fault c.in_err-cut_page.field-0.0 exit.0 (act_of_index v1.store c.args.change.tid ps c.in_err-cut_page.field-0.0 c.in_err-cut_page.ensures.acts.cause) exit.2 told) c.in_err-cut_page.ensures.acts.cause)

pub insert_here-requires : goal.insert_here-requires
insert_here-requires g c =
    let T = g.S.EawStore.tells in
    let V = g.S.EawStore.view in
    let E = g.S.EawStore.opens in
    let t = c.args.change.tid in
    let root = c.args.change.root in
    let table = c.args.change.table in
    let key = c.args.change.key in
    let v0 = pages_of (V c.args.pages.now.store) c.args.pages.now in
    let n = c.index_page_count-count.ensures in
    let at = c.args.at in
    let small : c.args.change.key < 2 ^ 64 = omega arith in
    let long = λ (told : IsTrue g.S.EawStore.tells). g.met.S.EawStore.long c.args.pages.now.store told in
    let v1 = pages_of (V c.take_page.new.pages.store) c.take_page.new.pages in
    let taken = c.in_ok-taken.taken in
    let v2 = pages_of (V c.cut_page.new.pages.store) c.cut_page.new.pages in
    let half = c.half_of-half in
    record {
      may = record {
        number = subst (λ (sh : Shape). c.args.change.tid < sh.numbers) (sym (going3 T E t root table key v0 c.index_page_count-count.result n.count n.all n.most small c.requires.may.one_of c.requires.may.sound c.requires.may.named c.requires.place.absent long c.requires.may.alive at.front at.page at.link at.pairs.items c.requires.place.located c.requires.place.said c.requires.place.slot c.requires.full (c.if-not-has_page.ensures.0 refl) v1 c.in_ok-taken.ensures.looks taken.front taken.number c.in_ok-taken.ensures.takes c.in_ok-taken.ensures.inside c.in_ok-taken.ensures.front c.in_ok-taken.ensures.slots v2 c.in_ok-cut_page.ensures.acts).shape) c.requires.may.number;
        one_of = c.requires.may.one_of;
        closed = ap (λ (f : ℕ → Option ℕ). f c.args.change.tid) (going3 T E t root table key v0 c.index_page_count-count.result n.count n.all n.most small c.requires.may.one_of c.requires.may.sound c.requires.may.named c.requires.place.absent long c.requires.may.alive at.front at.page at.link at.pairs.items c.requires.place.located c.requires.place.said c.requires.place.slot c.requires.full (c.if-not-has_page.ensures.0 refl) v1 c.in_ok-taken.ensures.looks taken.front taken.number c.in_ok-taken.ensures.takes c.in_ok-taken.ensures.inside c.in_ok-taken.ensures.front c.in_ok-taken.ensures.slots v2 c.in_ok-cut_page.ensures.acts).logs.tops ∙ c.requires.may.closed;
        alive = living3 T E t root table key v0 c.index_page_count-count.result n.count n.all n.most small c.requires.may.one_of c.requires.may.sound c.requires.may.named c.requires.place.absent long c.requires.may.alive at.front at.page at.link at.pairs.items c.requires.place.located c.requires.place.said c.requires.place.slot c.requires.full (c.if-not-has_page.ensures.0 refl) v1 c.in_ok-taken.ensures.looks taken.front taken.number c.in_ok-taken.ensures.takes c.in_ok-taken.ensures.inside c.in_ok-taken.ensures.front c.in_ok-taken.ensures.slots v2 c.in_ok-cut_page.ensures.acts;
        sound = sound3 T E t root table key v0 c.index_page_count-count.result n.count n.all n.most small c.requires.may.one_of c.requires.may.sound c.requires.may.named c.requires.place.absent long c.requires.may.alive at.front at.page at.link at.pairs.items c.requires.place.located c.requires.place.said c.requires.place.slot c.requires.full (c.if-not-has_page.ensures.0 refl) v1 c.in_ok-taken.ensures.looks taken.front taken.number c.in_ok-taken.ensures.takes c.in_ok-taken.ensures.inside c.in_ok-taken.ensures.front c.in_ok-taken.ensures.slots v2 c.in_ok-cut_page.ensures.acts;
        named = named3 T E t root table key v0 c.index_page_count-count.result n.count n.all n.most small c.requires.may.one_of c.requires.may.sound c.requires.may.named c.requires.place.absent long c.requires.may.alive at.front at.page at.link at.pairs.items c.requires.place.located c.requires.place.said c.requires.place.slot c.requires.full (c.if-not-has_page.ensures.0 refl) v1 c.in_ok-taken.ensures.looks taken.front taken.number c.in_ok-taken.ensures.takes c.in_ok-taken.ensures.inside c.in_ok-taken.ensures.front c.in_ok-taken.ensures.slots v2 c.in_ok-cut_page.ensures.acts;
      };
      place = record {
        located = located3 T E t root table key v0 c.index_page_count-count.result n.count n.all n.most small c.requires.may.one_of c.requires.may.sound c.requires.may.named c.requires.place.absent long c.requires.may.alive at.front at.page at.link at.pairs.items c.requires.place.located c.requires.place.said c.requires.place.slot c.requires.full (c.if-not-has_page.ensures.0 refl) v1 c.in_ok-taken.ensures.looks taken.front taken.number c.in_ok-taken.ensures.takes c.in_ok-taken.ensures.inside c.in_ok-taken.ensures.front c.in_ok-taken.ensures.slots v2 c.in_ok-cut_page.ensures.acts half.result.front half.result.page half.result.link half.result.pairs.items half.ensures.front half.ensures.page half.ensures.link half.ensures.pairs;
        said = said3 T E t root table key v0 c.index_page_count-count.result n.count n.all n.most small c.requires.may.one_of c.requires.may.sound c.requires.may.named c.requires.place.absent long c.requires.may.alive at.front at.page at.link at.pairs.items c.requires.place.located c.requires.place.said c.requires.place.slot c.requires.full (c.if-not-has_page.ensures.0 refl) v1 c.in_ok-taken.ensures.looks taken.front taken.number c.in_ok-taken.ensures.takes c.in_ok-taken.ensures.inside c.in_ok-taken.ensures.front c.in_ok-taken.ensures.slots v2 c.in_ok-cut_page.ensures.acts half.result.front half.result.page half.result.link half.result.pairs.items half.ensures.front half.ensures.page half.ensures.link half.ensures.pairs;
        absent = absent3 T E t root table key v0 c.index_page_count-count.result n.count n.all n.most small c.requires.may.one_of c.requires.may.sound c.requires.may.named c.requires.place.absent long c.requires.may.alive at.front at.page at.link at.pairs.items c.requires.place.located c.requires.place.said c.requires.place.slot c.requires.full (c.if-not-has_page.ensures.0 refl) v1 c.in_ok-taken.ensures.looks taken.front taken.number c.in_ok-taken.ensures.takes c.in_ok-taken.ensures.inside c.in_ok-taken.ensures.front c.in_ok-taken.ensures.slots v2 c.in_ok-cut_page.ensures.acts;
        slot = slot3 T E t root table key v0 c.index_page_count-count.result n.count n.all n.most small c.requires.may.one_of c.requires.may.sound c.requires.may.named c.requires.place.absent long c.requires.may.alive at.front at.page at.link at.pairs.items c.requires.place.located c.requires.place.said c.requires.place.slot c.requires.full (c.if-not-has_page.ensures.0 refl) v1 c.in_ok-taken.ensures.looks taken.front taken.number c.in_ok-taken.ensures.takes c.in_ok-taken.ensures.inside c.in_ok-taken.ensures.front c.in_ok-taken.ensures.slots v2 c.in_ok-cut_page.ensures.acts half.result.front half.result.page half.result.link half.result.pairs.items half.ensures.front half.ensures.page half.ensures.link half.ensures.pairs;
      };
      room = room3 T E t root table key v0 c.index_page_count-count.result n.count n.all n.most small c.requires.may.one_of c.requires.may.sound c.requires.may.named c.requires.place.absent long c.requires.may.alive at.front at.page at.link at.pairs.items c.requires.place.located c.requires.place.said c.requires.place.slot c.requires.full (c.if-not-has_page.ensures.0 refl) v1 c.in_ok-taken.ensures.looks taken.front taken.number c.in_ok-taken.ensures.takes c.in_ok-taken.ensures.inside c.in_ok-taken.ensures.front c.in_ok-taken.ensures.slots v2 c.in_ok-cut_page.ensures.acts half.result.front half.result.page half.result.link half.result.pairs.items half.ensures.front half.ensures.page half.ensures.link half.ensures.pairs;
    }

pub returns-clause-inserts : goal.returns-clause-inserts
returns-clause-inserts g c =
    let T = g.S.EawStore.tells in
    let V = g.S.EawStore.view in
    let E = g.S.EawStore.opens in
    let t = c.args.change.tid in
    let root = c.args.change.root in
    let table = c.args.change.table in
    let key = c.args.change.key in
    let v0 = pages_of (V c.args.pages.now.store) c.args.pages.now in
    let n = c.index_page_count-count.ensures in
    let at = c.args.at in
    let small : c.args.change.key < 2 ^ 64 = omega arith in
    let long = λ (told : IsTrue g.S.EawStore.tells). g.met.S.EawStore.long c.args.pages.now.store told in
    let v1 = pages_of (V c.take_page.new.pages.store) c.take_page.new.pages in
    let taken = c.in_ok-taken.taken in
    let v2 = pages_of (V c.cut_page.new.pages.store) c.cut_page.new.pages in
    let half = c.half_of-half in
    let v3 = pages_of (V c.insert_here.new.pages.store) c.insert_here.new.pages in
    cut_then T E t root table key v0 c.index_page_count-count.result n.count n.all n.most small c.requires.may.one_of c.requires.may.sound c.requires.may.named c.requires.place.absent long c.requires.may.alive at.front at.page at.link at.pairs.items c.requires.place.located c.requires.place.said c.requires.place.slot c.requires.full (c.if-not-has_page.ensures.0 refl) v1 c.in_ok-taken.ensures.looks taken.front taken.number c.in_ok-taken.ensures.takes c.in_ok-taken.ensures.inside c.in_ok-taken.ensures.front c.in_ok-taken.ensures.slots v2 c.in_ok-cut_page.ensures.acts half.result.front half.result.page half.result.link half.result.pairs.items half.ensures.front half.ensures.page half.ensures.link half.ensures.pairs v3 c.insert_here.result c.insert_here.ensures.inserts

pub returns-clause-dead : goal.returns-clause-dead
returns-clause-dead g c =
    λ told. absurd (c.insert_here.ensures.dead told)

pub returns-then-not-has_page-clause-works : goal.returns-then-not-has_page-clause-works
returns-then-not-has_page-clause-works g c =
    let V = g.S.EawStore.view in
    let v0 = pages_of (V c.args.pages.now.store) c.args.pages.now in
    let at = c.args.at in
    let due = chain_actions v0.store.state.bytes c.args.change.root c.args.change.key in
    none_done g.S.EawStore.tells V g.S.EawStore.calls (IsTrue g.S.EawStore.tells) c.args.change.tid limits_cut due None (0 ∷ []) due false v0.store tt (λ told. refl) (λ told is. absurd (false≢true is))

pub returns-in_err-taken-clause-works : goal.returns-in_err-taken-clause-works
returns-in_err-taken-clause-works g c =
    let exit = err_from_is_err_and c.from_residual.result c.from_residual.ensures.1 in
    rw (exit.1) (
    let V = g.S.EawStore.view in
    let v0 = pages_of (V c.args.pages.now.store) c.args.pages.now in
    let at = c.args.at in
    let due = chain_actions v0.store.state.bytes c.args.change.root c.args.change.key in
    let s : Result ℕ IndexFault = Err exit.0 in
    peek_fails g.S.EawStore.tells V g.S.EawStore.calls (IsTrue g.S.EawStore.tells) c.args.change.tid limits_cut due (blamed_index s) Claim v0.store (V c.take_page.new.pages.store) c.in_err-taken.field-0.0 (omega arith)
    (ap (λ (f : IndexFault). (let r : Result ℕ IndexFault = Err f in blamed_index r)) exit.2 ∙ blamed_same ℕ Claim c.in_err-taken.field-0.0) c.in_err-taken.ensures.peeks)

pub returns-in_err-cut_page-clause-works : goal.returns-in_err-cut_page-clause-works
returns-in_err-cut_page-clause-works g c =
    let exit = err_from_is_err_and c.from_residual-in_err-cut_page.result c.from_residual-in_err-cut_page.ensures.1 in
    rw (exit.1) (
    let V = g.S.EawStore.view in
    let v0 = pages_of (V c.args.pages.now.store) c.args.pages.now in
    let at = c.args.at in
    let due = chain_actions v0.store.state.bytes c.args.change.root c.args.change.key in
    let v1 = pages_of (V c.take_page.new.pages.store) c.take_page.new.pages in
    let v2 = pages_of (V c.cut_page.new.pages.store) c.cut_page.new.pages in
    let n = c.index_page_count-count.ensures in
    let taken = c.in_ok-taken.taken in
    let small : c.args.change.key < 2 ^ 64 = omega arith in
    let long = λ (told : IsTrue g.S.EawStore.tells). g.met.S.EawStore.long c.args.pages.now.store told in
    let mark = log_len v1.store c.args.change.tid in
    let r : Result (Unit {0}) PageFault = Err c.in_err-cut_page.field-0.0 in
    let s : Result ℕ IndexFault = Err exit.0 in
    let blames : blamed_index s ≡ None = ap (λ (f : IndexFault). (let e : Result ℕ IndexFault = Err f in blamed_index e)) exit.2 ∙ blamed_same ℕ Claim c.in_err-cut_page.field-0.0
    ∙ act_blames Claim v1.store c.args.change.tid (cutting_pages taken.number at.page) c.in_err-cut_page.field-0.0 c.in_err-cut_page.ensures.acts.cause in
    act_ends g.S.EawStore.tells V g.S.EawStore.calls (IsTrue g.S.EawStore.tells) c.args.change.tid limits_cut due (blamed_index s) Claim taken c.args.pages.now (acted (cutting_pages taken.number at.page) 1) (acting_of c.args.change.tid mark (cutting_parts taken.front taken.number at.page at.link at.pairs.items))
    v0.store v1.store v2.store c.in_ok-taken.ensures.peeks r c.in_err-cut_page.ensures.runs (cutting_by c.args.change.tid mark taken.front taken.number at.page at.link at.pairs.items) (0 ∷ [])
    (adding v0.store.state.bytes (half_for (page_pairs v0.store.state.bytes at.page) at.page (page_due v0.store.state.bytes 0) c.args.change.key) ∷ []) (omega arith) (omega arith) blames
    (made_first g.S.EawStore.tells g.S.EawStore.opens c.args.change.tid c.args.change.root c.args.change.table c.args.change.key v0 c.index_page_count-count.result n.count n.all n.most small c.requires.may.one_of c.requires.may.sound c.requires.may.named c.requires.place.absent long c.requires.may.alive at.front at.page at.link at.pairs.items c.requires.place.located c.requires.place.said c.requires.place.slot c.requires.full (c.if-not-has_page.ensures.0 refl) v1 c.in_ok-taken.ensures.looks taken.front taken.number c.in_ok-taken.ensures.takes c.in_ok-taken.ensures.inside c.in_ok-taken.ensures.front c.in_ok-taken.ensures.slots) (λ told is. absurd (false≢true is)))

pub returns-clause-works : goal.returns-clause-works
returns-clause-works g c =
    let V = g.S.EawStore.view in
    let v0 = pages_of (V c.args.pages.now.store) c.args.pages.now in
    let at = c.args.at in
    let due = chain_actions v0.store.state.bytes c.args.change.root c.args.change.key in
    let v1 = pages_of (V c.take_page.new.pages.store) c.take_page.new.pages in
    let v2 = pages_of (V c.cut_page.new.pages.store) c.cut_page.new.pages in
    let n = c.index_page_count-count.ensures in
    let taken = c.in_ok-taken.taken in
    let small : c.args.change.key < 2 ^ 64 = omega arith in
    let long = λ (told : IsTrue g.S.EawStore.tells). g.met.S.EawStore.long c.args.pages.now.store told in
    let mark = log_len v1.store c.args.change.tid in
    let r : Result (Unit {0}) PageFault = Ok tt in
    act_then g.S.EawStore.tells V g.S.EawStore.calls (IsTrue g.S.EawStore.tells) c.args.change.tid limits_cut due (blamed_index c.insert_here.result) Claim taken c.args.pages.now (acted (cutting_pages taken.number at.page) 1) (acting_of c.args.change.tid mark (cutting_parts taken.front taken.number at.page at.link at.pairs.items))
    v0.store v1.store v2.store c.in_ok-taken.ensures.peeks r c.in_ok-cut_page.ensures.runs (cutting_by c.args.change.tid mark taken.front taken.number at.page at.link at.pairs.items) (V c.insert_here.new.pages.store) (is_done c.insert_here.result) limits_here
    (chain_actions v2.store.state.bytes c.args.change.root c.args.change.key) refl (c.in_ok-cut_page.ensures.acts.shape ∙ c.in_ok-taken.ensures.looks.shape) refl refl (omega arith) (omega arith) (omega arith)
    (made_cut g.S.EawStore.tells g.S.EawStore.opens c.args.change.tid c.args.change.root c.args.change.table c.args.change.key v0 c.index_page_count-count.result n.count n.all n.most small c.requires.may.one_of c.requires.may.sound c.requires.may.named c.requires.place.absent long c.requires.may.alive at.front at.page at.link at.pairs.items c.requires.place.located c.requires.place.said c.requires.place.slot c.requires.full (c.if-not-has_page.ensures.0 refl) v1 c.in_ok-taken.ensures.looks taken.front taken.number c.in_ok-taken.ensures.takes c.in_ok-taken.ensures.inside c.in_ok-taken.ensures.front c.in_ok-taken.ensures.slots v2 c.in_ok-cut_page.ensures.acts) c.insert_here.ensures.works

pub returns-in_err-taken-clause-left : goal.returns-in_err-taken-clause-left
returns-in_err-taken-clause-left g c =
    let exit = err_from_is_err_and c.from_residual.result c.from_residual.ensures.1 in
    rw (exit.1) (told_left c.in_err-taken.field-0.0 exit.0 exit.2)

pub returns-in_err-cut_page-clause-left : goal.returns-in_err-cut_page-clause-left
returns-in_err-cut_page-clause-left g c =
    let exit = err_from_is_err_and c.from_residual-in_err-cut_page.result c.from_residual-in_err-cut_page.ensures.1 in
    rw (exit.1) (told_left c.in_err-cut_page.field-0.0 exit.0 exit.2)

pub returns-clause-left : goal.returns-clause-left
returns-clause-left g c = c.insert_here.ensures.left
