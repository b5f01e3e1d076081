use Rattle.index_pages.proofs.Filled.{told_left}
use Rattle.std.proofs.Common.{◌≡◌, ◌+◌, ◌-◌, ◌^◌, ◌<◌, ◌≤◌, ℕ, [], ◌∷◌, Option, Result, Ok, Err, length, false, IsTrue, refl, sym, ◌∙◌, ap, subst, arith}
use Rattle.std.proofs.lemmas.Bool.{false≢true}
use Rattle.array_shape.specs.declared.shape.Shape.{Shape}
use Rattle.eaw_face.specs.State.{State}
use Rattle.record_slots.specs.Places.{next_page}
use Rattle.eaw_face.specs.StoreView.{log_len}
use Rattle.page_store.specs.Index.{Action, slots_of, index_pages_of}
use Rattle.page_store.specs.Inserts.{Inserts}
use Rattle.page_store.specs.Runs.{acting_of}
use Rattle.page_store.specs.Shown.{pages_of}
use Rattle.page_store.specs.Works.{WorksFrom, is_done, blamed_index}
use Rattle.page_store.specs.declared.fault.PageFault.{PageFault}
use Rattle.page_store.specs.declared.index_fault.IndexFault.{IndexFault}
use Rattle.page_store.specs.declared.index_fault.IndexFault.TheVariants as index
use Rattle.index_pages.specs.Adding.{TakesPage, TakesSlot, adding_pages, adding_parts}
use Rattle.page_store.specs.Faults.{as_index}
use Rattle.index_pages.specs.Page.{page_pairs}
use Rattle.index_pages.proofs.Parting.{page_there}
use Rattle.index_pages.specs.Fetched.{IsFront}
use Rattle.index_pages.specs.declared.taking.Claim.{Claim}
use Rattle.index_pages.proofs.Looking.{looks_next}
use Rattle.btree_pages.specs.declared.node.Node.{Node}
use Rattle.btree_pages.specs.Downward.{below}
use Rattle.btree_pages.specs.Index.{tree_below, actions_below}
use Rattle.index_pages.specs.Actions.{half_for}
use Rattle.btree_pages.specs.Steps.{known_from, limits_below}
use Rattle.btree_pages.specs.Writes.{IsRead, cutting_pages, cutting_parts}
use Rattle.btree_pages.proofs.Stepping.{stepped_first, stepped_child, stepped_room, stepped_cut, works_stop, works_peek_err, works_act, works_read_err}
use Rattle.index_pages.proofs.Working.{act_blames, adding_in, blamed_same}
use Rattle.btree_pages.proofs.Acted.{cutting_in, half_among}
use Rattle.btree_pages.proofs.Below.{stands_first, sound_now, named_now, reached_now, living, look_err, then_err, living1, sound1, says1, stands_down, pages_full, cut_err, stands_cut, add_done, add_err, half_read, half_leads, rest_down, rest_due, rest_cut, rest_last}
use Rattle.btree_pages.specs.Trees.{whole_of}
use Rattle.index_pages.proofs.Claims.{free_pages_pass, free_slots_pass}
use Rattle.index_pages.proofs.Faulting.{look_of_index, act_of_index, dead_fault, not_full, not_done, dead_act, room_for, full_with, not_zero, two_some}
use Rattle.std.proofs.lemmas.Result.{err_from_is_err_and}
use Rattle.btree_pages.proofs.insertion.insert_below.Goals as goal

pub loop-node-preserved-then-len-lt-PAIRS_MAX : goal.loop-node-preserved-then-len-lt-PAIRS_MAX
loop-node-preserved-then-len-lt-PAIRS_MAX g c =
    let T = g.S.EawStore.tells in
    let V = g.S.EawStore.view in
    let E = g.S.EawStore.opens in
    let t = c.args.change.tid in
    let root = c.args.change.root in
    let key = c.args.change.key in
    let v0 = pages_of (V c.args.pages.now.store) c.args.pages.now in
    let n = c.index_page_count-count.ensures in
    let node = c.args.node in
    let small : c.args.change.key < 2 ^ 64 = omega arith in
    let long = λ (told : IsTrue g.S.EawStore.tells). g.met.S.EawStore.long c.args.pages.now.store told in
    let limit = λ (told : IsTrue g.S.EawStore.tells). (let e : c.args.front.next_page + c.args.node.level ≤ next_page (g.S.EawStore.view c.args.pages.now.store).state.bytes + 9 = omega (arith, (c.requires.may.says told).next_page, c.requires.read.level_most) in e) in
    let v1 = pages_of (V c.loop-node.pages.store) c.loop-node.pages in
    let at = c.loop-node.node in
    let v2 = pages_of (V c.fetch_child.new.pages.store) c.fetch_child.new.pages in
    let child = c.in_ok-child.child in
    let room : length c.in_ok-child.child.pairs.items < 30 = room_for c.in_ok-child.child.pairs.items c.len.result c.len.ensures.value c.if-len-lt-PAIRS_MAX.true in
    let s1 = stepped_child T V g.S.EawStore.calls t key node.page node.level node.pairs.items (actions_below node.level v0.store.state.bytes node.page node.page 0 key) c.args.pages.now.store c.loop-node.pages.store c.fetch_child.new.pages.store
    at.page at.level at.pairs.items (actions_below at.level v1.store.state.bytes at.page at.page 0 key) c.loop-node.invariant.stepped child c.in_ok-child.ensures.reads c.in_ok-child.ensures.looks.shape (not_zero _ c.loop-node-test.true) c.in_ok-child.ensures.child c.in_ok-child.ensures.level in
    record {
      stands = stands_down T E t root key v0 node.page node.level (c.args.front.next_page + node.level) c.index_page_count-count.result n.count n.all n.most n.some small c.requires.may.act.one_of c.requires.may.act.sound c.requires.may.act.named c.requires.may.absent long c.requires.may.act.alive limit v1 c.loop-node.front at.page at.level at.pairs.items c.loop-node.invariant.stands v2 c.in_ok-child.ensures.looks child.page child.level child.pairs.items c.in_ok-child.ensures.child c.in_ok-child.ensures.level c.in_ok-child.ensures.read c.in_ok-child.ensures.some c.in_ok-child.ensures.pairs room;
      stepped = stepped_room T V g.S.EawStore.calls t key node.page node.level node.pairs.items (actions_below node.level v0.store.state.bytes node.page node.page 0 key) c.args.pages.now.store c.fetch_child.new.pages.store child.page child.level child.pairs.items (actions_below at.level v1.store.state.bytes at.page at.page 0 key)
          (actions_below child.level v2.store.state.bytes child.page child.page 0 key) (rest_down T E t root key v0 node.page node.level (c.args.front.next_page + node.level) c.index_page_count-count.result n.count n.all n.most n.some small c.requires.may.act.one_of c.requires.may.act.sound c.requires.may.act.named c.requires.may.absent long c.requires.may.act.alive limit v1 c.loop-node.front at.page at.level at.pairs.items c.loop-node.invariant.stands v2 c.in_ok-child.ensures.looks child.page child.level child.pairs.items c.in_ok-child.ensures.child c.in_ok-child.ensures.level c.in_ok-child.ensures.read c.in_ok-child.ensures.some c.in_ok-child.ensures.pairs room) s1;
    }

pub returns-then-not-are_pages_left-clause-inserts : goal.returns-then-not-are_pages_left-clause-inserts
returns-then-not-are_pages_left-clause-inserts g c =
    let T = g.S.EawStore.tells in
    let V = g.S.EawStore.view in
    let E = g.S.EawStore.opens in
    let t = c.args.change.tid in
    let root = c.args.change.root in
    let key = c.args.change.key in
    let v0 = pages_of (V c.args.pages.now.store) c.args.pages.now in
    let n = c.index_page_count-count.ensures in
    let node = c.args.node in
    let small : c.args.change.key < 2 ^ 64 = omega arith in
    let long = λ (told : IsTrue g.S.EawStore.tells). g.met.S.EawStore.long c.args.pages.now.store told in
    let limit = λ (told : IsTrue g.S.EawStore.tells). (let e : c.args.front.next_page + c.args.node.level ≤ next_page (g.S.EawStore.view c.args.pages.now.store).state.bytes + 9 = omega (arith, (c.requires.may.says told).next_page, c.requires.read.level_most) in e) in
    let v1 = pages_of (V c.loop-node.pages.store) c.loop-node.pages in
    let at = c.loop-node.node in
    let v2 = pages_of (V c.fetch_child.new.pages.store) c.fetch_child.new.pages in
    let child = c.in_ok-child.child in
    let full : length c.in_ok-child.child.pairs.items ≡ 30 = full_with c.in_ok-child.child.pairs.items c.len.result c.len.ensures.value c.if-len-lt-PAIRS_MAX.false c.in_ok-child.ensures.read.most in
    pages_full T E t root key v0 node.page node.level (c.args.front.next_page + node.level) c.index_page_count-count.result n.count n.all n.most n.some small c.requires.may.act.one_of c.requires.may.act.sound c.requires.may.act.named c.requires.may.absent long c.requires.may.act.alive limit v1 c.loop-node.front at.page at.level at.pairs.items c.loop-node.invariant.stands v2 c.in_ok-child.ensures.looks child.page child.level child.pairs.items c.in_ok-child.ensures.child c.in_ok-child.ensures.level c.in_ok-child.ensures.read c.in_ok-child.ensures.some c.in_ok-child.ensures.pairs full (λ le. false≢true (c.if-not-are_pages_left.ensures.1 le))

pub returns-then-not-are_pages_left-clause-dead : goal.returns-then-not-are_pages_left-clause-dead
returns-then-not-are_pages_left-clause-dead g c =
    λ told. not_full _ told

pub returns-in_err-taken-clause-inserts : goal.returns-in_err-taken-clause-inserts
returns-in_err-taken-clause-inserts g c =
    let exit = err_from_is_err_and c.from_residual-in_err-taken.result c.from_residual-in_err-taken.ensures.1 in
    rw (exit.1) (
    let T = g.S.EawStore.tells in
    let V = g.S.EawStore.view in
    let E = g.S.EawStore.opens in
    let t = c.args.change.tid in
    let root = c.args.change.root in
    let key = c.args.change.key in
    let v0 = pages_of (V c.args.pages.now.store) c.args.pages.now in
    let n = c.index_page_count-count.ensures in
    let node = c.args.node in
    let small : c.args.change.key < 2 ^ 64 = omega arith in
    let long = λ (told : IsTrue g.S.EawStore.tells). g.met.S.EawStore.long c.args.pages.now.store told in
    let limit = λ (told : IsTrue g.S.EawStore.tells). (let e : c.args.front.next_page + c.args.node.level ≤ next_page (g.S.EawStore.view c.args.pages.now.store).state.bytes + 9 = omega (arith, (c.requires.may.says told).next_page, c.requires.read.level_most) in e) in
    let v1 = pages_of (V c.loop-node.pages.store) c.loop-node.pages in
    let at = c.loop-node.node in
    let v2 = pages_of (V c.fetch_child.new.pages.store) c.fetch_child.new.pages in
    let child = c.in_ok-child.child in
    let v3 = pages_of (V c.take_page.new.pages.store) c.take_page.new.pages in
    subst (λ (f : IndexFault). (let r : Result ℕ IndexFault = Err f in Inserts T (E v0.store.shape) (tree_below node.page node.level (c.args.front.next_page + node.level)) t root.page root.table key v0 v3 r)) (sym exit.2)
    (then_err T E t root key v0 node.page node.level (c.args.front.next_page + node.level) c.index_page_count-count.result n.count n.all n.most n.some small c.requires.may.act.one_of c.requires.may.act.sound c.requires.may.act.named c.requires.may.absent long c.requires.may.act.alive limit v1 c.loop-node.front at.page at.level at.pairs.items c.loop-node.invariant.stands v2 c.in_ok-child.ensures.looks Claim v3 c.in_err-taken.field-0.0 (c.in_err-taken.ensures.looks, c.in_err-taken.ensures.cause)))

pub returns-in_err-taken-clause-dead : goal.returns-in_err-taken-clause-dead
returns-in_err-taken-clause-dead g c =
    let exit = err_from_is_err_and c.from_residual-in_err-taken.result c.from_residual-in_err-taken.ensures.1 in
    rw (exit.1) (
    λ told. c.in_err-taken.ensures.dead (ap Err (dead_fault c.in_err-taken.field-0.0 exit.0 (look_of_index Claim g.S.EawStore.tells (g.S.EawStore.view c.fetch_child.new.pages.store) c.in_err-taken.field-0.0 c.in_err-taken.ensures.cause) exit.2 told)))

pub returns-in_err-cut_page-clause-inserts : goal.returns-in_err-cut_page-clause-inserts
returns-in_err-cut_page-clause-inserts g c =
    let exit = err_from_is_err_and c.from_residual-in_err-cut_page.result c.from_residual-in_err-cut_page.ensures.1 in
    rw (exit.1) (
    let T = g.S.EawStore.tells in
    let V = g.S.EawStore.view in
    let E = g.S.EawStore.opens in
    let t = c.args.change.tid in
    let root = c.args.change.root in
    let key = c.args.change.key in
    let v0 = pages_of (V c.args.pages.now.store) c.args.pages.now in
    let n = c.index_page_count-count.ensures in
    let node = c.args.node in
    let small : c.args.change.key < 2 ^ 64 = omega arith in
    let long = λ (told : IsTrue g.S.EawStore.tells). g.met.S.EawStore.long c.args.pages.now.store told in
    let limit = λ (told : IsTrue g.S.EawStore.tells). (let e : c.args.front.next_page + c.args.node.level ≤ next_page (g.S.EawStore.view c.args.pages.now.store).state.bytes + 9 = omega (arith, (c.requires.may.says told).next_page, c.requires.read.level_most) in e) in
    let v1 = pages_of (V c.loop-node.pages.store) c.loop-node.pages in
    let at = c.loop-node.node in
    let v2 = pages_of (V c.fetch_child.new.pages.store) c.fetch_child.new.pages in
    let child = c.in_ok-child.child in
    let full : length c.in_ok-child.child.pairs.items ≡ 30 = full_with c.in_ok-child.child.pairs.items c.len.result c.len.ensures.value c.if-len-lt-PAIRS_MAX.false c.in_ok-child.ensures.read.most in
    let v3 = pages_of (V c.take_page.new.pages.store) c.take_page.new.pages in
    let taken = c.in_ok-taken.taken in
    let shape2 = c.in_ok-child.ensures.looks.shape ∙ c.loop-node.invariant.stands.going.shape in
    let looks3 = looks_next T E false v1 v2 v3 c.in_ok-child.ensures.looks c.in_ok-taken.ensures.looks in
    let takes = λ (told : IsTrue g.S.EawStore.tells). subst (λ (st : State). TakesPage st.bytes c.loop-node.front c.in_ok-taken.taken.number c.in_ok-taken.taken.front) (sym ((c.in_ok-taken.ensures.looks.still refl).state told)) (c.in_ok-taken.ensures.takes told) in
    let inside = subst (λ (sh : Shape). c.in_ok-taken.taken.number < index_pages_of sh) shape2 c.in_ok-taken.ensures.inside.1 in
    let after_is = subst (λ (sh : Shape). IsFront sh c.in_ok-taken.taken.front) shape2 c.in_ok-taken.ensures.front in
    let v4 = pages_of (V c.cut_page.new.pages.store) c.cut_page.new.pages in
    subst (λ (f : IndexFault). (let r : Result ℕ IndexFault = Err f in Inserts T (E v0.store.shape) (tree_below node.page node.level (c.args.front.next_page + node.level)) t root.page root.table key v0 v4 r)) (sym exit.2)
    (cut_err T E t root key v0 node.page node.level (c.args.front.next_page + node.level) c.index_page_count-count.result n.count n.all n.most n.some small c.requires.may.act.one_of c.requires.may.act.sound c.requires.may.act.named c.requires.may.absent long c.requires.may.act.alive limit v1 c.loop-node.front at.page at.level at.pairs.items c.loop-node.invariant.stands v3 looks3 child.page child.level child.pairs.items c.in_ok-child.ensures.child c.in_ok-child.ensures.level c.in_ok-child.ensures.read c.in_ok-child.ensures.some c.in_ok-child.ensures.pairs full (c.if-not-are_pages_left.ensures.0 refl) taken.number taken.front takes (two_some taken.number c.in_ok-taken.ensures.inside.0) inside after_is c.in_ok-taken.ensures.slots.0 c.in_ok-taken.ensures.slots.1 v4 c.in_err-cut_page.field-0.0 c.in_err-cut_page.ensures.acts))

pub loop-node-preserved : goal.loop-node-preserved
loop-node-preserved g c =
    let T = g.S.EawStore.tells in
    let V = g.S.EawStore.view in
    let E = g.S.EawStore.opens in
    let t = c.args.change.tid in
    let root = c.args.change.root in
    let key = c.args.change.key in
    let v0 = pages_of (V c.args.pages.now.store) c.args.pages.now in
    let n = c.index_page_count-count.ensures in
    let node = c.args.node in
    let small : c.args.change.key < 2 ^ 64 = omega arith in
    let long = λ (told : IsTrue g.S.EawStore.tells). g.met.S.EawStore.long c.args.pages.now.store told in
    let limit = λ (told : IsTrue g.S.EawStore.tells). (let e : c.args.front.next_page + c.args.node.level ≤ next_page (g.S.EawStore.view c.args.pages.now.store).state.bytes + 9 = omega (arith, (c.requires.may.says told).next_page, c.requires.read.level_most) in e) in
    let v1 = pages_of (V c.loop-node.pages.store) c.loop-node.pages in
    let at = c.loop-node.node in
    let v2 = pages_of (V c.fetch_child.new.pages.store) c.fetch_child.new.pages in
    let child = c.in_ok-child.child in
    let full : length c.in_ok-child.child.pairs.items ≡ 30 = full_with c.in_ok-child.child.pairs.items c.len.result c.len.ensures.value c.if-len-lt-PAIRS_MAX.false c.in_ok-child.ensures.read.most in
    let v3 = pages_of (V c.take_page.new.pages.store) c.take_page.new.pages in
    let taken = c.in_ok-taken.taken in
    let shape2 = c.in_ok-child.ensures.looks.shape ∙ c.loop-node.invariant.stands.going.shape in
    let looks3 = looks_next T E false v1 v2 v3 c.in_ok-child.ensures.looks c.in_ok-taken.ensures.looks in
    let takes = λ (told : IsTrue g.S.EawStore.tells). subst (λ (st : State). TakesPage st.bytes c.loop-node.front c.in_ok-taken.taken.number c.in_ok-taken.taken.front) (sym ((c.in_ok-taken.ensures.looks.still refl).state told)) (c.in_ok-taken.ensures.takes told) in
    let inside = subst (λ (sh : Shape). c.in_ok-taken.taken.number < index_pages_of sh) shape2 c.in_ok-taken.ensures.inside.1 in
    let after_is = subst (λ (sh : Shape). IsFront sh c.in_ok-taken.taken.front) shape2 c.in_ok-taken.ensures.front in
    let v4 = pages_of (V c.cut_page.new.pages.store) c.cut_page.new.pages in
    let half = c.half_of-node in
    let s1 = stepped_child T V g.S.EawStore.calls t key node.page node.level node.pairs.items (actions_below node.level v0.store.state.bytes node.page node.page 0 key) c.args.pages.now.store c.loop-node.pages.store c.fetch_child.new.pages.store
    at.page at.level at.pairs.items (actions_below at.level v1.store.state.bytes at.page at.page 0 key) c.loop-node.invariant.stepped child c.in_ok-child.ensures.reads c.in_ok-child.ensures.looks.shape (not_zero _ c.loop-node-test.true) c.in_ok-child.ensures.child c.in_ok-child.ensures.level in
    let child_is = subst (λ (sh : Shape). IsRead sh c.in_ok-child.child.page c.in_ok-child.child.level c.in_ok-child.child.pairs.items) c.loop-node.invariant.stands.going.shape c.in_ok-child.ensures.read in
    let half_in = half_read v0.store.shape child.level child.pairs.items child.page taken.number key half.result.page half.result.pairs.items full child_is.small
    child_is.some child_is.inside (two_some taken.number c.in_ok-taken.ensures.inside.0) inside half.ensures.page half.ensures.pairs in
    record {
      stands = stands_cut T E t root key v0 node.page node.level (c.args.front.next_page + node.level) c.index_page_count-count.result n.count n.all n.most n.some small c.requires.may.act.one_of c.requires.may.act.sound c.requires.may.act.named c.requires.may.absent long c.requires.may.act.alive limit v1 c.loop-node.front at.page at.level at.pairs.items c.loop-node.invariant.stands v3 looks3 child.page child.level child.pairs.items c.in_ok-child.ensures.child c.in_ok-child.ensures.level c.in_ok-child.ensures.read c.in_ok-child.ensures.some c.in_ok-child.ensures.pairs full (c.if-not-are_pages_left.ensures.0 refl) taken.number taken.front takes (two_some taken.number c.in_ok-taken.ensures.inside.0) inside after_is c.in_ok-taken.ensures.slots.0 c.in_ok-taken.ensures.slots.1 v4 c.in_ok-cut_page.ensures.acts half.result.page half.result.pairs.items half.ensures.page half.ensures.pairs half.result.level half.ensures.level;
      stepped = stepped_cut T V g.S.EawStore.calls t key node.page node.level node.pairs.items (actions_below node.level v0.store.state.bytes node.page node.page 0 key) c.args.pages.now.store c.fetch_child.new.pages.store c.take_page.new.pages.store c.cut_page.new.pages.store c.take_page.new.pages child.page child.level child.pairs.items
          (actions_below at.level v1.store.state.bytes at.page at.page 0 key) s1 Claim taken c.in_ok-taken.ensures.peeks (record { pages = cutting_pages child.page taken.number at.page; takes = 1 })
          (acting_of t (log_len v3.store t) (cutting_parts taken.front child.page child.level child.pairs.items key taken.number at.page at.pairs.items))
          (log_len v3.store t, cutting_parts taken.front child.page child.level child.pairs.items key taken.number at.page at.pairs.items, refl, cutting_in taken.front child.page child.level child.pairs.items key taken.number at.page at.pairs.items)
          c.in_ok-cut_page.ensures.runs (c.in_ok-cut_page.ensures.acts.shape ∙ c.in_ok-taken.ensures.looks.shape ∙ shape2) refl half.result.page half.result.level half.result.pairs.items
          (actions_below half.result.level v4.store.state.bytes half.result.page half.result.page 0 key) (page_there v0.store.shape half.result.page half_in.inside) (half_among child.page taken.number at.page key half.result.page child.pairs.items half.ensures.page) half.ensures.level
          (λ told inner. half_leads T E t root key v0 node.page node.level (c.args.front.next_page + node.level) c.index_page_count-count.result n.count n.all n.most n.some small c.requires.may.act.one_of c.requires.may.act.sound c.requires.may.act.named c.requires.may.absent long c.requires.may.act.alive limit v1 c.loop-node.front at.page at.level at.pairs.items c.loop-node.invariant.stands v3 looks3 child.page child.level child.pairs.items c.in_ok-child.ensures.child c.in_ok-child.ensures.level c.in_ok-child.ensures.read c.in_ok-child.ensures.some c.in_ok-child.ensures.pairs full half.result.pairs.items half.ensures.pairs told)
          (λ told. rest_cut T E t root key v0 node.page node.level (c.args.front.next_page + node.level) c.index_page_count-count.result n.count n.all n.most n.some small c.requires.may.act.one_of c.requires.may.act.sound c.requires.may.act.named c.requires.may.absent long c.requires.may.act.alive limit v1 c.loop-node.front at.page at.level at.pairs.items c.loop-node.invariant.stands v3 looks3 child.page child.level child.pairs.items c.in_ok-child.ensures.child c.in_ok-child.ensures.level c.in_ok-child.ensures.read c.in_ok-child.ensures.some c.in_ok-child.ensures.pairs full (c.if-not-are_pages_left.ensures.0 refl) taken.number taken.front takes (two_some taken.number c.in_ok-taken.ensures.inside.0) inside after_is c.in_ok-taken.ensures.slots.0 c.in_ok-taken.ensures.slots.1 v4 c.in_ok-cut_page.ensures.acts half.result.page half.result.pairs.items half.ensures.page half.ensures.pairs told ∙ ap (λ (m : ℕ). (let a : Action = record { pages = cutting_pages child.page taken.number at.page; takes = 1 } in a) ∷ actions_below m v4.store.state.bytes half.result.page half.result.page 0 key) (sym half.ensures.level));
    }

pub loop-node-init : goal.loop-node-init
loop-node-init g c =
    let T = g.S.EawStore.tells in
    let V = g.S.EawStore.view in
    let E = g.S.EawStore.opens in
    let t = c.args.change.tid in
    let root = c.args.change.root in
    let key = c.args.change.key in
    let v0 = pages_of (V c.args.pages.now.store) c.args.pages.now in
    let n = c.index_page_count-count.ensures in
    let node = c.args.node in
    let small : c.args.change.key < 2 ^ 64 = omega arith in
    let long = λ (told : IsTrue g.S.EawStore.tells). g.met.S.EawStore.long c.args.pages.now.store told in
    let limit = λ (told : IsTrue g.S.EawStore.tells). (let e : c.args.front.next_page + c.args.node.level ≤ next_page (g.S.EawStore.view c.args.pages.now.store).state.bytes + 9 = omega (arith, (c.requires.may.says told).next_page, c.requires.read.level_most) in e) in
    record {
      stands = stands_first T E t root key v0 node.page node.level (c.args.front.next_page + node.level) c.index_page_count-count.result n.count n.all n.most n.some small c.requires.may.act.one_of c.requires.may.act.sound c.requires.may.act.named c.requires.may.absent long c.requires.may.act.alive limit c.args.front node.pairs.items c.requires.may.front_is c.requires.may.slot c.requires.read c.requires.some c.requires.room c.requires.may.says c.requires.reached refl;
      stepped = stepped_first T V g.S.EawStore.calls t key node.page node.level node.pairs.items (actions_below node.level v0.store.state.bytes node.page node.page 0 key) c.args.pages.now.store (page_there v0.store.shape node.page c.requires.read.inside);
    }

pub fetch_child-requires : goal.fetch_child-requires
fetch_child-requires g c =
    let T = g.S.EawStore.tells in
    let V = g.S.EawStore.view in
    let E = g.S.EawStore.opens in
    let t = c.args.change.tid in
    let root = c.args.change.root in
    let key = c.args.change.key in
    let v0 = pages_of (V c.args.pages.now.store) c.args.pages.now in
    let n = c.index_page_count-count.ensures in
    let node = c.args.node in
    let small : c.args.change.key < 2 ^ 64 = omega arith in
    let long = λ (told : IsTrue g.S.EawStore.tells). g.met.S.EawStore.long c.args.pages.now.store told in
    let limit = λ (told : IsTrue g.S.EawStore.tells). (let e : c.args.front.next_page + c.args.node.level ≤ next_page (g.S.EawStore.view c.args.pages.now.store).state.bytes + 9 = omega (arith, (c.requires.may.says told).next_page, c.requires.read.level_most) in e) in
    let v1 = pages_of (V c.loop-node.pages.store) c.loop-node.pages in
    let at = c.loop-node.node in
    record {
      alive = living T E t root key v0 node.page node.level (c.args.front.next_page + node.level) c.index_page_count-count.result n.count n.all n.most n.some small c.requires.may.act.one_of c.requires.may.act.sound c.requires.may.act.named c.requires.may.absent long c.requires.may.act.alive limit v1 c.loop-node.front at.page at.level at.pairs.items c.loop-node.invariant.stands;
      sound = sound_now T E t root key v0 node.page node.level (c.args.front.next_page + node.level) c.index_page_count-count.result n.count n.all n.most n.some small c.requires.may.act.one_of c.requires.may.act.sound c.requires.may.act.named c.requires.may.absent long c.requires.may.act.alive limit v1 c.loop-node.front at.page at.level at.pairs.items c.loop-node.invariant.stands;
      named = named_now T E t root key v0 node.page node.level (c.args.front.next_page + node.level) c.index_page_count-count.result n.count n.all n.most n.some small c.requires.may.act.one_of c.requires.may.act.sound c.requires.may.act.named c.requires.may.absent long c.requires.may.act.alive limit v1 c.loop-node.front at.page at.level at.pairs.items c.loop-node.invariant.stands;
      reached = reached_now T E t root key v0 node.page node.level (c.args.front.next_page + node.level) c.index_page_count-count.result n.count n.all n.most n.some small c.requires.may.act.one_of c.requires.may.act.sound c.requires.may.act.named c.requires.may.absent long c.requires.may.act.alive limit v1 c.loop-node.front at.page at.level at.pairs.items c.loop-node.invariant.stands;
      inner = not_zero _ c.loop-node-test.true;
      some = c.loop-node.invariant.stands.some (not_zero _ c.loop-node-test.true);
    }

pub returns-in_err-child : goal.returns-in_err-child
returns-in_err-child g c =
    let exit = err_from_is_err_and c.from_residual.result c.from_residual.ensures.1 in
    rw (exit.1) (
    let T = g.S.EawStore.tells in
    let V = g.S.EawStore.view in
    let E = g.S.EawStore.opens in
    let t = c.args.change.tid in
    let root = c.args.change.root in
    let key = c.args.change.key in
    let v0 = pages_of (V c.args.pages.now.store) c.args.pages.now in
    let n = c.index_page_count-count.ensures in
    let node = c.args.node in
    let small : c.args.change.key < 2 ^ 64 = omega arith in
    let long = λ (told : IsTrue g.S.EawStore.tells). g.met.S.EawStore.long c.args.pages.now.store told in
    let limit = λ (told : IsTrue g.S.EawStore.tells). (let e : c.args.front.next_page + c.args.node.level ≤ next_page (g.S.EawStore.view c.args.pages.now.store).state.bytes + 9 = omega (arith, (c.requires.may.says told).next_page, c.requires.read.level_most) in e) in
    let v1 = pages_of (V c.loop-node.pages.store) c.loop-node.pages in
    let at = c.loop-node.node in
    let v2 = pages_of (V c.fetch_child.new.pages.store) c.fetch_child.new.pages in
    record {
      inserts = subst (λ (f : IndexFault). (let r : Result ℕ IndexFault = Err f in Inserts T (E v0.store.shape) (tree_below node.page node.level (c.args.front.next_page + node.level)) t root.page root.table key v0 v2 r)) (sym exit.2)
          (look_err T E t root key v0 node.page node.level (c.args.front.next_page + node.level) c.index_page_count-count.result n.count n.all n.most n.some small c.requires.may.act.one_of c.requires.may.act.sound c.requires.may.act.named c.requires.may.absent long c.requires.may.act.alive limit v1 c.loop-node.front at.page at.level at.pairs.items c.loop-node.invariant.stands Node v2 c.in_err-child.field-0.0 (c.in_err-child.ensures.looks, c.in_err-child.ensures.cause));
      works = subst (λ (f : IndexFault). (let r : Result ℕ IndexFault = Err f in WorksFrom (known_from node.level node.page) (IsTrue T) T (is_done r) V g.S.EawStore.calls t (below key node.level node.pairs.items) (limits_below node.level) (actions_below node.level v0.store.state.bytes node.page node.page 0 key) (blamed_index r) v0.store v2.store)) (sym exit.2)
          (works_read_err T V g.S.EawStore.calls t key node.page node.level node.pairs.items (actions_below node.level v0.store.state.bytes node.page node.page 0 key) c.args.pages.now.store c.loop-node.pages.store c.fetch_child.new.pages.store at.page at.level at.pairs.items (actions_below at.level v1.store.state.bytes at.page at.page 0 key) c.loop-node.invariant.stepped c.in_err-child.field-0.0 c.in_err-child.ensures.reads (not_zero _ c.loop-node-test.true));
      left = told_left c.in_err-child.field-0.0 exit.0 exit.2;
      dead = λ told. c.in_err-child.ensures.dead (ap Err (dead_fault c.in_err-child.field-0.0 exit.0 (look_of_index Node T v1.store c.in_err-child.field-0.0 c.in_err-child.ensures.cause) exit.2 told));
    })

pub are_pages_left-requires : goal.are_pages_left-requires
are_pages_left-requires g c =
    subst (λ (k : ℕ). c.loop-node.front.next_page ≤ k) (sym c.index_page_count-count.ensures.count) c.loop-node.invariant.stands.front_is.pages

pub take_page-requires : goal.take_page-requires
take_page-requires g c =
    let T = g.S.EawStore.tells in
    let V = g.S.EawStore.view in
    let E = g.S.EawStore.opens in
    let t = c.args.change.tid in
    let root = c.args.change.root in
    let key = c.args.change.key in
    let v0 = pages_of (V c.args.pages.now.store) c.args.pages.now in
    let n = c.index_page_count-count.ensures in
    let node = c.args.node in
    let small : c.args.change.key < 2 ^ 64 = omega arith in
    let long = λ (told : IsTrue g.S.EawStore.tells). g.met.S.EawStore.long c.args.pages.now.store told in
    let limit = λ (told : IsTrue g.S.EawStore.tells). (let e : c.args.front.next_page + c.args.node.level ≤ next_page (g.S.EawStore.view c.args.pages.now.store).state.bytes + 9 = omega (arith, (c.requires.may.says told).next_page, c.requires.read.level_most) in e) in
    let v1 = pages_of (V c.loop-node.pages.store) c.loop-node.pages in
    let at = c.loop-node.node in
    let v2 = pages_of (V c.fetch_child.new.pages.store) c.fetch_child.new.pages in
    let child = c.in_ok-child.child in
    let shape2 = c.in_ok-child.ensures.looks.shape ∙ c.loop-node.invariant.stands.going.shape in
    let left : 1 ≤ c.loop-node.front.free_pages + (c.index_page_count-count.result - c.loop-node.front.next_page) = c.if-not-are_pages_left.ensures.0 refl in
    record {
      alive = living1 T E t root key v0 node.page node.level (c.args.front.next_page + node.level) c.index_page_count-count.result n.count n.all n.most n.some small c.requires.may.act.one_of c.requires.may.act.sound c.requires.may.act.named c.requires.may.absent long c.requires.may.act.alive limit v1 c.loop-node.front at.page at.level at.pairs.items c.loop-node.invariant.stands v2 c.in_ok-child.ensures.looks;
      front = subst (λ (sh : Shape). IsFront sh c.loop-node.front) (sym shape2) c.loop-node.invariant.stands.front_is;
      left = λ none. subst (λ (sh : Shape). c.loop-node.front.next_page < index_pages_of sh) (sym shape2) (omega (arith, left, none, n.count));
      sound = λ told. free_pages_pass v2.store.state.bytes c.loop-node.front (whole_of v2.store.state.bytes (sound1 T E t root key v0 node.page node.level (c.args.front.next_page + node.level) c.index_page_count-count.result n.count n.all n.most n.some small c.requires.may.act.one_of c.requires.may.act.sound c.requires.may.act.named c.requires.may.absent long c.requires.may.act.alive limit v1 c.loop-node.front at.page at.level at.pairs.items c.loop-node.invariant.stands v2 c.in_ok-child.ensures.looks told)).pages (says1 T E t root key v0 node.page node.level (c.args.front.next_page + node.level) c.index_page_count-count.result n.count n.all n.most n.some small c.requires.may.act.one_of c.requires.may.act.sound c.requires.may.act.named c.requires.may.absent long c.requires.may.act.alive limit v1 c.loop-node.front at.page at.level at.pairs.items c.loop-node.invariant.stands v2 c.in_ok-child.ensures.looks told);
    }

pub cut_page-requires : goal.cut_page-requires
cut_page-requires g c =
    let T = g.S.EawStore.tells in
    let V = g.S.EawStore.view in
    let E = g.S.EawStore.opens in
    let t = c.args.change.tid in
    let root = c.args.change.root in
    let key = c.args.change.key in
    let v0 = pages_of (V c.args.pages.now.store) c.args.pages.now in
    let n = c.index_page_count-count.ensures in
    let node = c.args.node in
    let small : c.args.change.key < 2 ^ 64 = omega arith in
    let long = λ (told : IsTrue g.S.EawStore.tells). g.met.S.EawStore.long c.args.pages.now.store told in
    let limit = λ (told : IsTrue g.S.EawStore.tells). (let e : c.args.front.next_page + c.args.node.level ≤ next_page (g.S.EawStore.view c.args.pages.now.store).state.bytes + 9 = omega (arith, (c.requires.may.says told).next_page, c.requires.read.level_most) in e) in
    let v1 = pages_of (V c.loop-node.pages.store) c.loop-node.pages in
    let at = c.loop-node.node in
    let v2 = pages_of (V c.fetch_child.new.pages.store) c.fetch_child.new.pages in
    let child = c.in_ok-child.child in
    let shape2 = c.in_ok-child.ensures.looks.shape ∙ c.loop-node.invariant.stands.going.shape in
    let shape3 = c.in_ok-taken.ensures.looks.shape ∙ shape2 in
    record {
      tid = subst (λ (sh : Shape). c.args.change.tid < sh.numbers) (sym shape3) c.requires.may.act.number;
      closed = λ running. ap (λ (f : ℕ → Option ℕ). f c.args.change.tid) (c.in_ok-taken.ensures.looks.tops ∙ c.in_ok-child.ensures.looks.tops ∙ c.loop-node.invariant.stands.going.logs.tops) ∙ c.requires.may.act.closed;
      node = subst (λ (sh : Shape). IsRead sh c.in_ok-child.child.page c.in_ok-child.child.level c.in_ok-child.child.pairs.items) (sym (c.in_ok-taken.ensures.looks.shape ∙ c.in_ok-child.ensures.looks.shape)) c.in_ok-child.ensures.read;
      parent = subst (λ (sh : Shape). IsRead sh c.loop-node.node.page c.loop-node.node.level c.loop-node.node.pairs.items) (sym shape3) c.loop-node.invariant.stands.read;
      below = c.in_ok-child.ensures.level;
      full = full_with c.in_ok-child.child.pairs.items c.len.result c.len.ensures.value c.if-len-lt-PAIRS_MAX.false c.in_ok-child.ensures.read.most;
      room = c.loop-node.invariant.stands.room;
      taken = subst (λ (sh : Shape). c.in_ok-taken.taken.number < index_pages_of sh) (sym c.in_ok-taken.ensures.looks.shape) c.in_ok-taken.ensures.inside.1;
    }

pub returns-in_err-cut_page-clause-dead : goal.returns-in_err-cut_page-clause-dead
returns-in_err-cut_page-clause-dead g c =
    let exit = err_from_is_err_and c.from_residual-in_err-cut_page.result c.from_residual-in_err-cut_page.ensures.1 in
    rw (exit.1) (
    let T = g.S.EawStore.tells in
    let V = g.S.EawStore.view in
    let E = g.S.EawStore.opens in
    let t = c.args.change.tid in
    let root = c.args.change.root in
    let key = c.args.change.key in
    let v0 = pages_of (V c.args.pages.now.store) c.args.pages.now in
    let n = c.index_page_count-count.ensures in
    let node = c.args.node in
    let small : c.args.change.key < 2 ^ 64 = omega arith in
    let long = λ (told : IsTrue g.S.EawStore.tells). g.met.S.EawStore.long c.args.pages.now.store told in
    let limit = λ (told : IsTrue g.S.EawStore.tells). (let e : c.args.front.next_page + c.args.node.level ≤ next_page (g.S.EawStore.view c.args.pages.now.store).state.bytes + 9 = omega (arith, (c.requires.may.says told).next_page, c.requires.read.level_most) in e) in
    let v1 = pages_of (V c.loop-node.pages.store) c.loop-node.pages in
    let at = c.loop-node.node in
    let v2 = pages_of (V c.fetch_child.new.pages.store) c.fetch_child.new.pages in
    let child = c.in_ok-child.child in
    let v3 = pages_of (V c.take_page.new.pages.store) c.take_page.new.pages in
    let ps = cutting_pages c.in_ok-child.child.page c.in_ok-taken.taken.number at.page in
    λ told. dead_act v3.store t ps c.in_err-cut_page.field-0.0 ((c.in_ok-taken.ensures.looks.still refl).dead ∙ living1 T E t root key v0 node.page node.level (c.args.front.next_page + node.level) c.index_page_count-count.result n.count n.all n.most n.some small c.requires.may.act.one_of c.requires.may.act.sound c.requires.may.act.named c.requires.may.absent long c.requires.may.act.alive limit v1 c.loop-node.front at.page at.level at.pairs.items c.loop-node.invariant.stands v2 c.in_ok-child.ensures.looks)
    (dead_fault c.in_err-cut_page.field-0.0 exit.0 (act_of_index v3.store t ps c.in_err-cut_page.field-0.0 c.in_err-cut_page.ensures.acts.cause) exit.2 told) c.in_err-cut_page.ensures.acts.cause)

pub half_of-node-requires : goal.half_of-node-requires
half_of-node-requires g c =
    full_with c.in_ok-child.child.pairs.items c.len.result c.len.ensures.value c.if-len-lt-PAIRS_MAX.false c.in_ok-child.ensures.read.most

pub take_slot-requires : goal.take_slot-requires
take_slot-requires g c =
    let T = g.S.EawStore.tells in
    let V = g.S.EawStore.view in
    let E = g.S.EawStore.opens in
    let t = c.args.change.tid in
    let root = c.args.change.root in
    let key = c.args.change.key in
    let v0 = pages_of (V c.args.pages.now.store) c.args.pages.now in
    let n = c.index_page_count-count.ensures in
    let node = c.args.node in
    let small : c.args.change.key < 2 ^ 64 = omega arith in
    let long = λ (told : IsTrue g.S.EawStore.tells). g.met.S.EawStore.long c.args.pages.now.store told in
    let limit = λ (told : IsTrue g.S.EawStore.tells). (let e : c.args.front.next_page + c.args.node.level ≤ next_page (g.S.EawStore.view c.args.pages.now.store).state.bytes + 9 = omega (arith, (c.requires.may.says told).next_page, c.requires.read.level_most) in e) in
    let v1 = pages_of (V c.loop-node.pages.store) c.loop-node.pages in
    let at = c.loop-node.node in
    let shape1 = c.loop-node.invariant.stands.going.shape in
    record {
      alive = living T E t root key v0 node.page node.level (c.args.front.next_page + node.level) c.index_page_count-count.result n.count n.all n.most n.some small c.requires.may.act.one_of c.requires.may.act.sound c.requires.may.act.named c.requires.may.absent long c.requires.may.act.alive limit v1 c.loop-node.front at.page at.level at.pairs.items c.loop-node.invariant.stands;
      front = subst (λ (sh : Shape). IsFront sh c.loop-node.front) (sym shape1) c.loop-node.invariant.stands.front_is;
      left = λ none. subst (λ (sh : Shape). c.loop-node.front.next_slot < slots_of sh) (sym shape1) (c.loop-node.invariant.stands.slot none);
      sound = λ told. free_slots_pass v1.store.state.bytes c.loop-node.front (whole_of v1.store.state.bytes (sound_now T E t root key v0 node.page node.level (c.args.front.next_page + node.level) c.index_page_count-count.result n.count n.all n.most n.some small c.requires.may.act.one_of c.requires.may.act.sound c.requires.may.act.named c.requires.may.absent long c.requires.may.act.alive limit v1 c.loop-node.front at.page at.level at.pairs.items c.loop-node.invariant.stands told)).slots (c.loop-node.invariant.stands.says told);
    }

pub returns-in_err-slot-clause-inserts : goal.returns-in_err-slot-clause-inserts
returns-in_err-slot-clause-inserts g c =
    let exit = err_from_is_err_and c.from_residual-in_err-slot.result c.from_residual-in_err-slot.ensures.1 in
    rw (exit.1) (
    let T = g.S.EawStore.tells in
    let V = g.S.EawStore.view in
    let E = g.S.EawStore.opens in
    let t = c.args.change.tid in
    let root = c.args.change.root in
    let key = c.args.change.key in
    let v0 = pages_of (V c.args.pages.now.store) c.args.pages.now in
    let n = c.index_page_count-count.ensures in
    let node = c.args.node in
    let small : c.args.change.key < 2 ^ 64 = omega arith in
    let long = λ (told : IsTrue g.S.EawStore.tells). g.met.S.EawStore.long c.args.pages.now.store told in
    let limit = λ (told : IsTrue g.S.EawStore.tells). (let e : c.args.front.next_page + c.args.node.level ≤ next_page (g.S.EawStore.view c.args.pages.now.store).state.bytes + 9 = omega (arith, (c.requires.may.says told).next_page, c.requires.read.level_most) in e) in
    let v1 = pages_of (V c.loop-node.pages.store) c.loop-node.pages in
    let at = c.loop-node.node in
    let v2 = pages_of (V c.take_slot.new.pages.store) c.take_slot.new.pages in
    subst (λ (f : IndexFault). (let r : Result ℕ IndexFault = Err f in Inserts T (E v0.store.shape) (tree_below node.page node.level (c.args.front.next_page + node.level)) t root.page root.table key v0 v2 r)) (sym exit.2)
    (look_err T E t root key v0 node.page node.level (c.args.front.next_page + node.level) c.index_page_count-count.result n.count n.all n.most n.some small c.requires.may.act.one_of c.requires.may.act.sound c.requires.may.act.named c.requires.may.absent long c.requires.may.act.alive limit v1 c.loop-node.front at.page at.level at.pairs.items c.loop-node.invariant.stands Claim v2 c.in_err-slot.field-0.0 (c.in_err-slot.ensures.looks, c.in_err-slot.ensures.cause)))

pub returns-in_err-slot-clause-dead : goal.returns-in_err-slot-clause-dead
returns-in_err-slot-clause-dead g c =
    let exit = err_from_is_err_and c.from_residual-in_err-slot.result c.from_residual-in_err-slot.ensures.1 in
    rw (exit.1) (
    λ told. c.in_err-slot.ensures.dead (ap Err (dead_fault c.in_err-slot.field-0.0 exit.0 (look_of_index Claim g.S.EawStore.tells (g.S.EawStore.view c.loop-node.pages.store) c.in_err-slot.field-0.0 c.in_err-slot.ensures.cause) exit.2 told)))

pub add_pair-requires : goal.add_pair-requires
add_pair-requires g c =
    let shape2 = c.in_ok-slot.ensures.looks.shape ∙ c.loop-node.invariant.stands.going.shape in
    record {
      tid = subst (λ (sh : Shape). c.args.change.tid < sh.numbers) (sym shape2) c.requires.may.act.number;
      table = c.requires.may.act.one_of;
      closed = λ running. ap (λ (f : ℕ → Option ℕ). f c.args.change.tid) (c.in_ok-slot.ensures.looks.tops ∙ c.loop-node.invariant.stands.going.logs.tops) ∙ c.requires.may.act.closed;
      inside = subst (λ (sh : Shape). c.loop-node.node.page < index_pages_of sh) (sym shape2) c.loop-node.invariant.stands.read.inside;
      room = c.loop-node.invariant.stands.room;
      slot = subst (λ (sh : Shape). c.in_ok-slot.slot.number < slots_of sh) (sym c.in_ok-slot.ensures.looks.shape) c.in_ok-slot.ensures.inside;
    }

pub returns-clause-inserts : goal.returns-clause-inserts
returns-clause-inserts g c =
    let T = g.S.EawStore.tells in
    let V = g.S.EawStore.view in
    let E = g.S.EawStore.opens in
    let t = c.args.change.tid in
    let root = c.args.change.root in
    let key = c.args.change.key in
    let v0 = pages_of (V c.args.pages.now.store) c.args.pages.now in
    let n = c.index_page_count-count.ensures in
    let node = c.args.node in
    let small : c.args.change.key < 2 ^ 64 = omega arith in
    let long = λ (told : IsTrue g.S.EawStore.tells). g.met.S.EawStore.long c.args.pages.now.store told in
    let limit = λ (told : IsTrue g.S.EawStore.tells). (let e : c.args.front.next_page + c.args.node.level ≤ next_page (g.S.EawStore.view c.args.pages.now.store).state.bytes + 9 = omega (arith, (c.requires.may.says told).next_page, c.requires.read.level_most) in e) in
    let v1 = pages_of (V c.loop-node.pages.store) c.loop-node.pages in
    let at = c.loop-node.node in
    let v2 = pages_of (V c.take_slot.new.pages.store) c.take_slot.new.pages in
    let slot = c.in_ok-slot.slot in
    let bottom : c.loop-node.node.level ≡ 0 = omega (arith, c.loop-node-test.false) in
    let takes = λ (told : IsTrue g.S.EawStore.tells). subst (λ (st : State). TakesSlot st.bytes c.loop-node.front c.in_ok-slot.slot.number c.in_ok-slot.slot.front) (sym ((c.in_ok-slot.ensures.looks.still refl).state told)) (c.in_ok-slot.ensures.takes told) in
    let inside = subst (λ (sh : Shape). c.in_ok-slot.slot.number < slots_of sh) c.loop-node.invariant.stands.going.shape c.in_ok-slot.ensures.inside in
    let v3 = pages_of (V c.add_pair.new.pages.store) c.add_pair.new.pages in
    add_done T E t root key v0 node.page node.level (c.args.front.next_page + node.level) c.index_page_count-count.result n.count n.all n.most n.some small c.requires.may.act.one_of c.requires.may.act.sound c.requires.may.act.named c.requires.may.absent long c.requires.may.act.alive limit v1 c.loop-node.front at.page at.level at.pairs.items c.loop-node.invariant.stands v2 c.in_ok-slot.ensures.looks bottom slot.number slot.front takes inside v3 c.in_ok-add_pair.ensures.acts

pub returns-clause-dead : goal.returns-clause-dead
returns-clause-dead g c =
    λ told. not_done _ told

pub returns-in_err-add_pair-clause-inserts : goal.returns-in_err-add_pair-clause-inserts
returns-in_err-add_pair-clause-inserts g c =
    let exit = err_from_is_err_and c.from_residual-in_err-add_pair.result c.from_residual-in_err-add_pair.ensures.1 in
    rw (exit.1) (
    let T = g.S.EawStore.tells in
    let V = g.S.EawStore.view in
    let E = g.S.EawStore.opens in
    let t = c.args.change.tid in
    let root = c.args.change.root in
    let key = c.args.change.key in
    let v0 = pages_of (V c.args.pages.now.store) c.args.pages.now in
    let n = c.index_page_count-count.ensures in
    let node = c.args.node in
    let small : c.args.change.key < 2 ^ 64 = omega arith in
    let long = λ (told : IsTrue g.S.EawStore.tells). g.met.S.EawStore.long c.args.pages.now.store told in
    let limit = λ (told : IsTrue g.S.EawStore.tells). (let e : c.args.front.next_page + c.args.node.level ≤ next_page (g.S.EawStore.view c.args.pages.now.store).state.bytes + 9 = omega (arith, (c.requires.may.says told).next_page, c.requires.read.level_most) in e) in
    let v1 = pages_of (V c.loop-node.pages.store) c.loop-node.pages in
    let at = c.loop-node.node in
    let v2 = pages_of (V c.take_slot.new.pages.store) c.take_slot.new.pages in
    let slot = c.in_ok-slot.slot in
    let bottom : c.loop-node.node.level ≡ 0 = omega (arith, c.loop-node-test.false) in
    let takes = λ (told : IsTrue g.S.EawStore.tells). subst (λ (st : State). TakesSlot st.bytes c.loop-node.front c.in_ok-slot.slot.number c.in_ok-slot.slot.front) (sym ((c.in_ok-slot.ensures.looks.still refl).state told)) (c.in_ok-slot.ensures.takes told) in
    let inside = subst (λ (sh : Shape). c.in_ok-slot.slot.number < slots_of sh) c.loop-node.invariant.stands.going.shape c.in_ok-slot.ensures.inside in
    let v3 = pages_of (V c.add_pair.new.pages.store) c.add_pair.new.pages in
    subst (λ (f : IndexFault). (let r : Result ℕ IndexFault = Err f in Inserts T (E v0.store.shape) (tree_below node.page node.level (c.args.front.next_page + node.level)) t root.page root.table key v0 v3 r)) (sym exit.2)
    (add_err T E t root key v0 node.page node.level (c.args.front.next_page + node.level) c.index_page_count-count.result n.count n.all n.most n.some small c.requires.may.act.one_of c.requires.may.act.sound c.requires.may.act.named c.requires.may.absent long c.requires.may.act.alive limit v1 c.loop-node.front at.page at.level at.pairs.items c.loop-node.invariant.stands v2 c.in_ok-slot.ensures.looks bottom slot.number slot.front takes inside v3 c.in_err-add_pair.field-0.0 c.in_err-add_pair.ensures.acts))

pub returns-in_err-add_pair-clause-dead : goal.returns-in_err-add_pair-clause-dead
returns-in_err-add_pair-clause-dead g c =
    let exit = err_from_is_err_and c.from_residual-in_err-add_pair.result c.from_residual-in_err-add_pair.ensures.1 in
    rw (exit.1) (
    let T = g.S.EawStore.tells in
    let V = g.S.EawStore.view in
    let E = g.S.EawStore.opens in
    let t = c.args.change.tid in
    let root = c.args.change.root in
    let key = c.args.change.key in
    let v0 = pages_of (V c.args.pages.now.store) c.args.pages.now in
    let n = c.index_page_count-count.ensures in
    let node = c.args.node in
    let small : c.args.change.key < 2 ^ 64 = omega arith in
    let long = λ (told : IsTrue g.S.EawStore.tells). g.met.S.EawStore.long c.args.pages.now.store told in
    let limit = λ (told : IsTrue g.S.EawStore.tells). (let e : c.args.front.next_page + c.args.node.level ≤ next_page (g.S.EawStore.view c.args.pages.now.store).state.bytes + 9 = omega (arith, (c.requires.may.says told).next_page, c.requires.read.level_most) in e) in
    let v1 = pages_of (V c.loop-node.pages.store) c.loop-node.pages in
    let at = c.loop-node.node in
    let v2 = pages_of (V c.take_slot.new.pages.store) c.take_slot.new.pages in
    let ps = adding_pages (index_pages_of v2.store.shape) c.in_ok-slot.slot.number at.page in
    λ told. dead_act v2.store t ps c.in_err-add_pair.field-0.0 ((c.in_ok-slot.ensures.looks.still refl).dead ∙ living T E t root key v0 node.page node.level (c.args.front.next_page + node.level) c.index_page_count-count.result n.count n.all n.most n.some small c.requires.may.act.one_of c.requires.may.act.sound c.requires.may.act.named c.requires.may.absent long c.requires.may.act.alive limit v1 c.loop-node.front at.page at.level at.pairs.items c.loop-node.invariant.stands)
    (dead_fault c.in_err-add_pair.field-0.0 exit.0 (act_of_index v2.store t ps c.in_err-add_pair.field-0.0 c.in_err-add_pair.ensures.acts.cause) exit.2 told) c.in_err-add_pair.ensures.acts.cause)

pub returns-then-not-are_pages_left-clause-works : goal.returns-then-not-are_pages_left-clause-works
returns-then-not-are_pages_left-clause-works g c =
    let T = g.S.EawStore.tells in
    let V = g.S.EawStore.view in
    let E = g.S.EawStore.opens in
    let t = c.args.change.tid in
    let root = c.args.change.root in
    let key = c.args.change.key in
    let v0 = pages_of (V c.args.pages.now.store) c.args.pages.now in
    let n = c.index_page_count-count.ensures in
    let node = c.args.node in
    let small : c.args.change.key < 2 ^ 64 = omega arith in
    let long = λ (told : IsTrue g.S.EawStore.tells). g.met.S.EawStore.long c.args.pages.now.store told in
    let limit = λ (told : IsTrue g.S.EawStore.tells). (let e : c.args.front.next_page + c.args.node.level ≤ next_page (g.S.EawStore.view c.args.pages.now.store).state.bytes + 9 = omega (arith, (c.requires.may.says told).next_page, c.requires.read.level_most) in e) in
    let v1 = pages_of (V c.loop-node.pages.store) c.loop-node.pages in
    let at = c.loop-node.node in
    let v2 = pages_of (V c.fetch_child.new.pages.store) c.fetch_child.new.pages in
    let child = c.in_ok-child.child in
    let s1 = stepped_child T V g.S.EawStore.calls t key node.page node.level node.pairs.items (actions_below node.level v0.store.state.bytes node.page node.page 0 key) c.args.pages.now.store c.loop-node.pages.store c.fetch_child.new.pages.store
    at.page at.level at.pairs.items (actions_below at.level v1.store.state.bytes at.page at.page 0 key) c.loop-node.invariant.stepped child c.in_ok-child.ensures.reads c.in_ok-child.ensures.looks.shape (not_zero _ c.loop-node-test.true) c.in_ok-child.ensures.child c.in_ok-child.ensures.level in
    works_stop T V g.S.EawStore.calls t key node.page node.level node.pairs.items (actions_below node.level v0.store.state.bytes node.page node.page 0 key) c.args.pages.now.store 1 c.fetch_child.new.pages.store c.fetch_child.new.pages.store child.page child.level child.pairs.items (actions_below at.level v1.store.state.bytes at.page at.page 0 key) s1 (index.PagesFull (c.index_page_count-count.result - 1)) refl refl

pub returns-in_err-taken-clause-works : goal.returns-in_err-taken-clause-works
returns-in_err-taken-clause-works g c =
    let exit = err_from_is_err_and c.from_residual-in_err-taken.result c.from_residual-in_err-taken.ensures.1 in
    rw (exit.1) (
    let T = g.S.EawStore.tells in
    let V = g.S.EawStore.view in
    let E = g.S.EawStore.opens in
    let t = c.args.change.tid in
    let root = c.args.change.root in
    let key = c.args.change.key in
    let v0 = pages_of (V c.args.pages.now.store) c.args.pages.now in
    let n = c.index_page_count-count.ensures in
    let node = c.args.node in
    let small : c.args.change.key < 2 ^ 64 = omega arith in
    let long = λ (told : IsTrue g.S.EawStore.tells). g.met.S.EawStore.long c.args.pages.now.store told in
    let limit = λ (told : IsTrue g.S.EawStore.tells). (let e : c.args.front.next_page + c.args.node.level ≤ next_page (g.S.EawStore.view c.args.pages.now.store).state.bytes + 9 = omega (arith, (c.requires.may.says told).next_page, c.requires.read.level_most) in e) in
    let v1 = pages_of (V c.loop-node.pages.store) c.loop-node.pages in
    let at = c.loop-node.node in
    let v2 = pages_of (V c.fetch_child.new.pages.store) c.fetch_child.new.pages in
    let child = c.in_ok-child.child in
    let s1 = stepped_child T V g.S.EawStore.calls t key node.page node.level node.pairs.items (actions_below node.level v0.store.state.bytes node.page node.page 0 key) c.args.pages.now.store c.loop-node.pages.store c.fetch_child.new.pages.store
    at.page at.level at.pairs.items (actions_below at.level v1.store.state.bytes at.page at.page 0 key) c.loop-node.invariant.stepped child c.in_ok-child.ensures.reads c.in_ok-child.ensures.looks.shape (not_zero _ c.loop-node-test.true) c.in_ok-child.ensures.child c.in_ok-child.ensures.level in
    let v3 = pages_of (V c.take_page.new.pages.store) c.take_page.new.pages in
    subst (λ (f : IndexFault). (let r : Result ℕ IndexFault = Err f in WorksFrom (known_from node.level node.page) (IsTrue T) T (is_done r) V g.S.EawStore.calls t (below key node.level node.pairs.items) (limits_below node.level) (actions_below node.level v0.store.state.bytes node.page node.page 0 key) (blamed_index r) v0.store v3.store)) (sym exit.2)
    (works_peek_err T V g.S.EawStore.calls t key node.page node.level node.pairs.items (actions_below node.level v0.store.state.bytes node.page node.page 0 key) c.args.pages.now.store 1 c.fetch_child.new.pages.store c.take_page.new.pages.store child.page child.level child.pairs.items (actions_below at.level v1.store.state.bytes at.page at.page 0 key) s1 Claim c.in_err-taken.field-0.0 c.in_err-taken.ensures.peeks))

pub returns-in_err-cut_page-clause-works : goal.returns-in_err-cut_page-clause-works
returns-in_err-cut_page-clause-works g c =
    let exit = err_from_is_err_and c.from_residual-in_err-cut_page.result c.from_residual-in_err-cut_page.ensures.1 in
    rw (exit.1) (
    let T = g.S.EawStore.tells in
    let V = g.S.EawStore.view in
    let E = g.S.EawStore.opens in
    let t = c.args.change.tid in
    let root = c.args.change.root in
    let key = c.args.change.key in
    let v0 = pages_of (V c.args.pages.now.store) c.args.pages.now in
    let n = c.index_page_count-count.ensures in
    let node = c.args.node in
    let small : c.args.change.key < 2 ^ 64 = omega arith in
    let long = λ (told : IsTrue g.S.EawStore.tells). g.met.S.EawStore.long c.args.pages.now.store told in
    let limit = λ (told : IsTrue g.S.EawStore.tells). (let e : c.args.front.next_page + c.args.node.level ≤ next_page (g.S.EawStore.view c.args.pages.now.store).state.bytes + 9 = omega (arith, (c.requires.may.says told).next_page, c.requires.read.level_most) in e) in
    let v1 = pages_of (V c.loop-node.pages.store) c.loop-node.pages in
    let at = c.loop-node.node in
    let v2 = pages_of (V c.fetch_child.new.pages.store) c.fetch_child.new.pages in
    let child = c.in_ok-child.child in
    let s1 = stepped_child T V g.S.EawStore.calls t key node.page node.level node.pairs.items (actions_below node.level v0.store.state.bytes node.page node.page 0 key) c.args.pages.now.store c.loop-node.pages.store c.fetch_child.new.pages.store
    at.page at.level at.pairs.items (actions_below at.level v1.store.state.bytes at.page at.page 0 key) c.loop-node.invariant.stepped child c.in_ok-child.ensures.reads c.in_ok-child.ensures.looks.shape (not_zero _ c.loop-node-test.true) c.in_ok-child.ensures.child c.in_ok-child.ensures.level in
    let full : length c.in_ok-child.child.pairs.items ≡ 30 = full_with c.in_ok-child.child.pairs.items c.len.result c.len.ensures.value c.if-len-lt-PAIRS_MAX.false c.in_ok-child.ensures.read.most in
    let v3 = pages_of (V c.take_page.new.pages.store) c.take_page.new.pages in
    let taken = c.in_ok-taken.taken in
    let shape2 = c.in_ok-child.ensures.looks.shape ∙ c.loop-node.invariant.stands.going.shape in
    let looks3 = looks_next T E false v1 v2 v3 c.in_ok-child.ensures.looks c.in_ok-taken.ensures.looks in
    let takes = λ (told : IsTrue g.S.EawStore.tells). subst (λ (st : State). TakesPage st.bytes c.loop-node.front c.in_ok-taken.taken.number c.in_ok-taken.taken.front) (sym ((c.in_ok-taken.ensures.looks.still refl).state told)) (c.in_ok-taken.ensures.takes told) in
    let inside = subst (λ (sh : Shape). c.in_ok-taken.taken.number < index_pages_of sh) shape2 c.in_ok-taken.ensures.inside.1 in
    let after_is = subst (λ (sh : Shape). IsFront sh c.in_ok-taken.taken.front) shape2 c.in_ok-taken.ensures.front in
    let v4 = pages_of (V c.cut_page.new.pages.store) c.cut_page.new.pages in
    let fault = c.in_err-cut_page.field-0.0 in
    let r : Result (Unit {0}) PageFault = Err c.in_err-cut_page.field-0.0 in
    let q : Result ℕ IndexFault = Err (as_index c.in_err-cut_page.field-0.0) in
    subst (λ (f : IndexFault). (let r : Result ℕ IndexFault = Err f in WorksFrom (known_from node.level node.page) (IsTrue T) T (is_done r) V g.S.EawStore.calls t (below key node.level node.pairs.items) (limits_below node.level) (actions_below node.level v0.store.state.bytes node.page node.page 0 key) (blamed_index r) v0.store v4.store)) (sym exit.2)
    (works_act T V g.S.EawStore.calls t key node.page node.level node.pairs.items (actions_below node.level v0.store.state.bytes node.page node.page 0 key) c.args.pages.now.store 1 c.fetch_child.new.pages.store c.cut_page.new.pages.store child.page child.level child.pairs.items (actions_below at.level v1.store.state.bytes at.page at.page 0 key) s1 Claim c.take_page.new.pages.store c.take_page.new.pages refl taken c.in_ok-taken.ensures.peeks
    (record { pages = cutting_pages child.page taken.number at.page; takes = 1 }) (acting_of t (log_len v3.store t) (cutting_parts taken.front child.page child.level child.pairs.items key taken.number at.page at.pairs.items))
    (log_len v3.store t, cutting_parts taken.front child.page child.level child.pairs.items key taken.number at.page at.pairs.items, refl, cutting_in taken.front child.page child.level child.pairs.items key taken.number at.page at.pairs.items)
    (actions_below child.level v3.store.state.bytes child.page (half_for (page_pairs v3.store.state.bytes child.page) child.page taken.number key) 1 key)
    (rest_due T E t root key v0 node.page node.level (c.args.front.next_page + node.level) c.index_page_count-count.result n.count n.all n.most n.some small c.requires.may.act.one_of c.requires.may.act.sound c.requires.may.act.named c.requires.may.absent long c.requires.may.act.alive limit v1 c.loop-node.front at.page at.level at.pairs.items c.loop-node.invariant.stands v3 looks3 child.page child.level child.pairs.items c.in_ok-child.ensures.child c.in_ok-child.ensures.level c.in_ok-child.ensures.read c.in_ok-child.ensures.some c.in_ok-child.ensures.pairs full (c.if-not-are_pages_left.ensures.0 refl) taken.number taken.front takes (two_some taken.number c.in_ok-taken.ensures.inside.0) inside after_is c.in_ok-taken.ensures.slots.0 c.in_ok-taken.ensures.slots.1) q r refl (blamed_same ℕ (Unit {0}) c.in_err-cut_page.field-0.0 ∙ act_blames (Unit {0}) v3.store t (cutting_pages child.page taken.number at.page) c.in_err-cut_page.field-0.0 c.in_err-cut_page.ensures.acts.cause) (λ told yes. absurd (false≢true yes)) c.in_err-cut_page.ensures.runs))

pub returns-in_err-slot-clause-works : goal.returns-in_err-slot-clause-works
returns-in_err-slot-clause-works g c =
    let exit = err_from_is_err_and c.from_residual-in_err-slot.result c.from_residual-in_err-slot.ensures.1 in
    rw (exit.1) (
    let T = g.S.EawStore.tells in
    let V = g.S.EawStore.view in
    let E = g.S.EawStore.opens in
    let t = c.args.change.tid in
    let root = c.args.change.root in
    let key = c.args.change.key in
    let v0 = pages_of (V c.args.pages.now.store) c.args.pages.now in
    let n = c.index_page_count-count.ensures in
    let node = c.args.node in
    let small : c.args.change.key < 2 ^ 64 = omega arith in
    let long = λ (told : IsTrue g.S.EawStore.tells). g.met.S.EawStore.long c.args.pages.now.store told in
    let limit = λ (told : IsTrue g.S.EawStore.tells). (let e : c.args.front.next_page + c.args.node.level ≤ next_page (g.S.EawStore.view c.args.pages.now.store).state.bytes + 9 = omega (arith, (c.requires.may.says told).next_page, c.requires.read.level_most) in e) in
    let v1 = pages_of (V c.loop-node.pages.store) c.loop-node.pages in
    let at = c.loop-node.node in
    let v2 = pages_of (V c.take_slot.new.pages.store) c.take_slot.new.pages in
    subst (λ (f : IndexFault). (let r : Result ℕ IndexFault = Err f in WorksFrom (known_from node.level node.page) (IsTrue T) T (is_done r) V g.S.EawStore.calls t (below key node.level node.pairs.items) (limits_below node.level) (actions_below node.level v0.store.state.bytes node.page node.page 0 key) (blamed_index r) v0.store v2.store)) (sym exit.2)
    (works_peek_err T V g.S.EawStore.calls t key node.page node.level node.pairs.items (actions_below node.level v0.store.state.bytes node.page node.page 0 key) c.args.pages.now.store 0 c.loop-node.pages.store c.take_slot.new.pages.store at.page at.level at.pairs.items (actions_below at.level v1.store.state.bytes at.page at.page 0 key) c.loop-node.invariant.stepped Claim c.in_err-slot.field-0.0 c.in_err-slot.ensures.peeks))

pub returns-clause-works : goal.returns-clause-works
returns-clause-works g c =
    let T = g.S.EawStore.tells in
    let V = g.S.EawStore.view in
    let E = g.S.EawStore.opens in
    let t = c.args.change.tid in
    let root = c.args.change.root in
    let key = c.args.change.key in
    let v0 = pages_of (V c.args.pages.now.store) c.args.pages.now in
    let n = c.index_page_count-count.ensures in
    let node = c.args.node in
    let small : c.args.change.key < 2 ^ 64 = omega arith in
    let long = λ (told : IsTrue g.S.EawStore.tells). g.met.S.EawStore.long c.args.pages.now.store told in
    let limit = λ (told : IsTrue g.S.EawStore.tells). (let e : c.args.front.next_page + c.args.node.level ≤ next_page (g.S.EawStore.view c.args.pages.now.store).state.bytes + 9 = omega (arith, (c.requires.may.says told).next_page, c.requires.read.level_most) in e) in
    let v1 = pages_of (V c.loop-node.pages.store) c.loop-node.pages in
    let at = c.loop-node.node in
    let v2 = pages_of (V c.take_slot.new.pages.store) c.take_slot.new.pages in
    let slot = c.in_ok-slot.slot in
    let bottom : c.loop-node.node.level ≡ 0 = omega (arith, c.loop-node-test.false) in
    let takes = λ (told : IsTrue g.S.EawStore.tells). subst (λ (st : State). TakesSlot st.bytes c.loop-node.front c.in_ok-slot.slot.number c.in_ok-slot.slot.front) (sym ((c.in_ok-slot.ensures.looks.still refl).state told)) (c.in_ok-slot.ensures.takes told) in
    let inside = subst (λ (sh : Shape). c.in_ok-slot.slot.number < slots_of sh) c.loop-node.invariant.stands.going.shape c.in_ok-slot.ensures.inside in
    let v3 = pages_of (V c.add_pair.new.pages.store) c.add_pair.new.pages in
    let half = index_pages_of v2.store.shape in
    let half_is : c.index_page_count-count.result ≡ index_pages_of (V c.take_slot.new.pages.store).shape = n.count ∙ ap index_pages_of (sym (c.in_ok-slot.ensures.looks.shape ∙ c.loop-node.invariant.stands.going.shape)) in
    let r : Result (Unit {0}) PageFault = Ok tt in
    let q : Result ℕ IndexFault = Ok c.in_ok-slot.slot.number in
    (works_act T V g.S.EawStore.calls t key node.page node.level node.pairs.items (actions_below node.level v0.store.state.bytes node.page node.page 0 key) c.args.pages.now.store 0 c.loop-node.pages.store c.add_pair.new.pages.store at.page at.level at.pairs.items (actions_below at.level v1.store.state.bytes at.page at.page 0 key) c.loop-node.invariant.stepped Claim c.take_slot.new.pages.store c.take_slot.new.pages refl slot c.in_ok-slot.ensures.peeks
    (record { pages = adding_pages half slot.number at.page; takes = 0 }) (acting_of t (log_len v2.store t) (adding_parts half slot.front slot.number at.page 0 at.pairs.items root.table key))
    (log_len v2.store t, adding_parts half slot.front slot.number at.page 0 at.pairs.items root.table key, refl, adding_in half slot.front slot.number at.page 0 at.pairs.items root.table key)
    [] (λ told. rest_last T E t root key v0 node.page node.level (c.args.front.next_page + node.level) c.index_page_count-count.result n.count n.all n.most n.some small c.requires.may.act.one_of c.requires.may.act.sound c.requires.may.act.named c.requires.may.absent long c.requires.may.act.alive limit v1 c.loop-node.front at.page at.level at.pairs.items c.loop-node.invariant.stands v2 c.in_ok-slot.ensures.looks bottom slot.number slot.front takes inside told ∙ ap (λ (h : ℕ). (let a : Action = record { pages = adding_pages h slot.number at.page; takes = 0 } in a) ∷ []) half_is)
    q r refl refl (λ told yes. refl) c.in_ok-add_pair.ensures.runs)

pub returns-in_err-add_pair-clause-works : goal.returns-in_err-add_pair-clause-works
returns-in_err-add_pair-clause-works g c =
    let exit = err_from_is_err_and c.from_residual-in_err-add_pair.result c.from_residual-in_err-add_pair.ensures.1 in
    rw (exit.1) (
    let T = g.S.EawStore.tells in
    let V = g.S.EawStore.view in
    let E = g.S.EawStore.opens in
    let t = c.args.change.tid in
    let root = c.args.change.root in
    let key = c.args.change.key in
    let v0 = pages_of (V c.args.pages.now.store) c.args.pages.now in
    let n = c.index_page_count-count.ensures in
    let node = c.args.node in
    let small : c.args.change.key < 2 ^ 64 = omega arith in
    let long = λ (told : IsTrue g.S.EawStore.tells). g.met.S.EawStore.long c.args.pages.now.store told in
    let limit = λ (told : IsTrue g.S.EawStore.tells). (let e : c.args.front.next_page + c.args.node.level ≤ next_page (g.S.EawStore.view c.args.pages.now.store).state.bytes + 9 = omega (arith, (c.requires.may.says told).next_page, c.requires.read.level_most) in e) in
    let v1 = pages_of (V c.loop-node.pages.store) c.loop-node.pages in
    let at = c.loop-node.node in
    let v2 = pages_of (V c.take_slot.new.pages.store) c.take_slot.new.pages in
    let slot = c.in_ok-slot.slot in
    let bottom : c.loop-node.node.level ≡ 0 = omega (arith, c.loop-node-test.false) in
    let takes = λ (told : IsTrue g.S.EawStore.tells). subst (λ (st : State). TakesSlot st.bytes c.loop-node.front c.in_ok-slot.slot.number c.in_ok-slot.slot.front) (sym ((c.in_ok-slot.ensures.looks.still refl).state told)) (c.in_ok-slot.ensures.takes told) in
    let inside = subst (λ (sh : Shape). c.in_ok-slot.slot.number < slots_of sh) c.loop-node.invariant.stands.going.shape c.in_ok-slot.ensures.inside in
    let v3 = pages_of (V c.add_pair.new.pages.store) c.add_pair.new.pages in
    let half = index_pages_of v2.store.shape in
    let half_is : c.index_page_count-count.result ≡ index_pages_of (V c.take_slot.new.pages.store).shape = n.count ∙ ap index_pages_of (sym (c.in_ok-slot.ensures.looks.shape ∙ c.loop-node.invariant.stands.going.shape)) in
    let r : Result (Unit {0}) PageFault = Err c.in_err-add_pair.field-0.0 in
    let q : Result ℕ IndexFault = Err (as_index c.in_err-add_pair.field-0.0) in
    subst (λ (f : IndexFault). (let r : Result ℕ IndexFault = Err f in WorksFrom (known_from node.level node.page) (IsTrue T) T (is_done r) V g.S.EawStore.calls t (below key node.level node.pairs.items) (limits_below node.level) (actions_below node.level v0.store.state.bytes node.page node.page 0 key) (blamed_index r) v0.store v3.store)) (sym exit.2)
    (works_act T V g.S.EawStore.calls t key node.page node.level node.pairs.items (actions_below node.level v0.store.state.bytes node.page node.page 0 key) c.args.pages.now.store 0 c.loop-node.pages.store c.add_pair.new.pages.store at.page at.level at.pairs.items (actions_below at.level v1.store.state.bytes at.page at.page 0 key) c.loop-node.invariant.stepped Claim c.take_slot.new.pages.store c.take_slot.new.pages refl slot c.in_ok-slot.ensures.peeks
    (record { pages = adding_pages half slot.number at.page; takes = 0 }) (acting_of t (log_len v2.store t) (adding_parts half slot.front slot.number at.page 0 at.pairs.items root.table key))
    (log_len v2.store t, adding_parts half slot.front slot.number at.page 0 at.pairs.items root.table key, refl, adding_in half slot.front slot.number at.page 0 at.pairs.items root.table key)
    [] (λ told. rest_last T E t root key v0 node.page node.level (c.args.front.next_page + node.level) c.index_page_count-count.result n.count n.all n.most n.some small c.requires.may.act.one_of c.requires.may.act.sound c.requires.may.act.named c.requires.may.absent long c.requires.may.act.alive limit v1 c.loop-node.front at.page at.level at.pairs.items c.loop-node.invariant.stands v2 c.in_ok-slot.ensures.looks bottom slot.number slot.front takes inside told ∙ ap (λ (h : ℕ). (let a : Action = record { pages = adding_pages h slot.number at.page; takes = 0 } in a) ∷ []) half_is)
    q r refl (blamed_same ℕ (Unit {0}) c.in_err-add_pair.field-0.0 ∙ act_blames (Unit {0}) v2.store t (adding_pages half slot.number at.page) c.in_err-add_pair.field-0.0 c.in_err-add_pair.ensures.acts.cause) (λ told yes. refl) c.in_err-add_pair.ensures.runs))

pub returns-in_err-taken-clause-left : goal.returns-in_err-taken-clause-left
returns-in_err-taken-clause-left g c =
    let exit = err_from_is_err_and c.from_residual-in_err-taken.result c.from_residual-in_err-taken.ensures.1 in
    rw (exit.1) (told_left c.in_err-taken.field-0.0 exit.0 exit.2)

pub returns-in_err-cut_page-clause-left : goal.returns-in_err-cut_page-clause-left
returns-in_err-cut_page-clause-left g c =
    let exit = err_from_is_err_and c.from_residual-in_err-cut_page.result c.from_residual-in_err-cut_page.ensures.1 in
    rw (exit.1) (told_left c.in_err-cut_page.field-0.0 exit.0 exit.2)

pub returns-in_err-slot-clause-left : goal.returns-in_err-slot-clause-left
returns-in_err-slot-clause-left g c =
    let exit = err_from_is_err_and c.from_residual-in_err-slot.result c.from_residual-in_err-slot.ensures.1 in
    rw (exit.1) (told_left c.in_err-slot.field-0.0 exit.0 exit.2)

pub returns-in_err-add_pair-clause-left : goal.returns-in_err-add_pair-clause-left
returns-in_err-add_pair-clause-left g c =
    let exit = err_from_is_err_and c.from_residual-in_err-add_pair.result c.from_residual-in_err-add_pair.ensures.1 in
    rw (exit.1) (told_left c.in_err-add_pair.field-0.0 exit.0 exit.2)
