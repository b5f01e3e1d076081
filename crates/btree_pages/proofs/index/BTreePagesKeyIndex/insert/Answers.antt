use Rattle.std.proofs.Common.{◌≡◌, ◌^◌, ◌<◌, ◌≤◌, ℕ, Bool, List, [], ◌∷◌, Option, Result, Err, length, false, true, IsTrue, refl, sym, ◌∙◌, ap, subst, arith}
use Rattle.std.specs.Prelude.{IfSome, is_some}
use Rattle.std.proofs.lemmas.Bool.{false≢true}
use Rattle.array_shape.specs.Places.{page_count}
use Rattle.array_shape.specs.declared.shape.Shape.{Shape}
use Rattle.eaw_face.specs.State.{State}
use Rattle.record_slots.specs.Places.{page_bytes, first_slot_page, IsSuper}
use Rattle.record_slots.specs.declared.super_page.Super.{Super}
use Rattle.page_store.specs.Index.{slots_of, index_pages_of}
use Rattle.page_store.specs.Inserts.{Inserts}
use Rattle.page_store.specs.Pairs.{Pair, AreSmall}
use Rattle.page_store.specs.Placed.{IsPlaceIn}
use Rattle.page_store.specs.Shown.{pages_of}
use Rattle.page_store.specs.Works.{WorksFrom, is_done, blamed_index, insertion_limits, unless_full}
use Rattle.page_store.specs.declared.leaf_page.LeafPage.{LeafPage}
use Rattle.page_store.specs.declared.index_fault.IndexFault.{IndexFault}
use Rattle.page_store.specs.declared.index_fault.IndexFault.TheVariants as index
use Rattle.page_store.specs.Faults.{as_index}
use Rattle.index_pages.specs.Fetched.{IsFront}
use Rattle.index_pages.specs.Page.{level_of, page_pairs}
use Rattle.index_pages.proofs.Looking.{looks_next}
use Rattle.index_pages.proofs.Sizes.{index_pages_are}
use Rattle.btree_pages.specs.declared.node.Node.{Node}
use Rattle.btree_pages.specs.Downward.{below, down, tree_finding}
use Rattle.btree_pages.specs.Index.{tree, tree_actions, actions_below, IsOpenLeaf}
use Rattle.btree_pages.specs.Steps.{known_from, limits_above, limits_below}
use Rattle.index_pages.proofs.Filled.{told_left, works_left, not_filled}
use Rattle.btree_pages.proofs.Beginning.{once_of, pair_known, root_known, works_super_err, works_front_err, works_root_err, works_root, works_placed}
use Rattle.btree_pages.proofs.Stepping.{known_two}
use Rattle.btree_pages.specs.Node.{IsNode}
use Rattle.btree_pages.specs.Writes.{IsRead}
use Rattle.index_pages.proofs.Faulting.{test_of_index, dead_fault, dead_test, not_slots, not_damage, room_for, full_with}
use Rattle.btree_pages.proofs.Rooted.{slot_there, super_err, slots_full, root_out, alive_yet, bytes_yet, sound_yet, named_yet, absent_yet, says_yet, root_reached, root_read}
use Rattle.btree_pages.proofs.Whole.{root_err, looked_then, root_then, place_then, place_reached, place_due, room_due}
use Rattle.std.proofs.lemmas.Result.{err_from_is_err_and}
use Rattle.btree_laws.specs.declared.root.Root.{Root}
use Rattle.btree_pages.proofs.index.BTreePagesKeyIndex.insert.Goals as goal

pub returns-in_err-front-clause-inserts : goal.returns-in_err-front-clause-inserts
returns-in_err-front-clause-inserts g c =
    let exit = err_from_is_err_and c.from_residual.result c.from_residual.ensures.1 in
    rw (exit.1) (
    let T = g.S.EawStore.tells in
    let V = g.S.EawStore.view in
    let E = g.S.EawStore.opens in
    let t = c.args.tid in
    let root : Root = record { page = c.args.root; table = c.args.table } in
    let key = c.args.key in
    let v0 = pages_of (V c.args.pages.now.store) c.args.pages.now in
    let n = c.index_page_count-count.ensures in
    let vs = pages_of (V c.fetch_super.new.pages.store) c.fetch_super.new.pages in
    subst (λ (f : IndexFault). (let r : Result ℕ IndexFault = Err f in Inserts T (E v0.store.shape) tree t root.page root.table key v0 vs r)) (sym exit.2) (super_err T E t root key v0 c.requires.sound c.requires.named vs c.in_err-front.field-0.0 c.in_err-front.ensures.looks c.in_err-front.ensures.cause))

pub returns-in_err-front-clause-dead : goal.returns-in_err-front-clause-dead
returns-in_err-front-clause-dead g c =
    let exit = err_from_is_err_and c.from_residual.result c.from_residual.ensures.1 in
    rw (exit.1) (
    λ told. c.in_err-front.ensures.dead (ap Err (dead_fault c.in_err-front.field-0.0 exit.0 (test_of_index Super g.S.EawStore.tells (IsSuper 1 (g.S.EawStore.view c.args.pages.now.store).state.bytes) 0 (g.S.EawStore.view c.args.pages.now.store) c.in_err-front.field-0.0 c.in_err-front.ensures.cause) exit.2 told)))

pub returns-then-not-is_slot_left-clause-inserts : goal.returns-then-not-is_slot_left-clause-inserts
returns-then-not-is_slot_left-clause-inserts g c =
    let T = g.S.EawStore.tells in
    let V = g.S.EawStore.view in
    let E = g.S.EawStore.opens in
    let t = c.args.tid in
    let root : Root = record { page = c.args.root; table = c.args.table } in
    let key = c.args.key in
    let v0 = pages_of (V c.args.pages.now.store) c.args.pages.now in
    let n = c.index_page_count-count.ensures in
    let vs = pages_of (V c.fetch_super.new.pages.store) c.fetch_super.new.pages in
    let front = c.in_ok-front.front in
    slots_full T E t root key v0 c.requires.sound c.requires.named vs c.in_ok-front.ensures.looks c.in_ok-front.ensures.cause c.index_page_count-count.result front n.all c.in_ok-front.ensures.front (λ has. false≢true (c.if-not-is_slot_left.ensures.1 has)) c.in_ok-front.ensures.says

pub returns-then-not-is_slot_left-clause-dead : goal.returns-then-not-is_slot_left-clause-dead
returns-then-not-is_slot_left-clause-dead g c =
    λ told. not_slots _ told

pub returns-then-not-is_index_page-clause-inserts : goal.returns-then-not-is_index_page-clause-inserts
returns-then-not-is_index_page-clause-inserts g c =
    let T = g.S.EawStore.tells in
    let V = g.S.EawStore.view in
    let E = g.S.EawStore.opens in
    let t = c.args.tid in
    let root : Root = record { page = c.args.root; table = c.args.table } in
    let key = c.args.key in
    let v0 = pages_of (V c.args.pages.now.store) c.args.pages.now in
    let n = c.index_page_count-count.ensures in
    let vs = pages_of (V c.fetch_super.new.pages.store) c.fetch_super.new.pages in
    let front = c.in_ok-front.front in
    let long = λ (told : IsTrue g.S.EawStore.tells). g.met.S.EawStore.long c.args.pages.now.store told in
    root_out T E t root key v0 c.requires.sound c.requires.named vs c.in_ok-front.ensures.looks c.in_ok-front.ensures.cause c.index_page_count-count.result n.count (λ told. (let e : first_slot_page (g.S.EawStore.view c.args.pages.now.store).state.bytes ≡ c.index_page_count-count.result = omega (arith, index_pages_are v0.store.shape v0.store.state.bytes (long told), n.count) in e))
    (λ some less. false≢true (c.if-not-is_index_page.ensures.1 (some, less)))

pub returns-then-not-is_index_page-clause-dead : goal.returns-then-not-is_index_page-clause-dead
returns-then-not-is_index_page-clause-dead g c =
    λ told. not_damage _ told

pub fetch_node-requires : goal.fetch_node-requires
fetch_node-requires g c =
    let inside = c.if-not-is_index_page.ensures.0 refl in
    record {
      some = inside.0;
      inside = subst (λ (k : ℕ). c.args.root < k) (c.index_page_count-count.ensures.count ∙ ap index_pages_of (sym c.in_ok-front.ensures.looks.shape)) inside.1;
    }

pub returns-in_err-top-clause-inserts : goal.returns-in_err-top-clause-inserts
returns-in_err-top-clause-inserts g c =
    let exit = err_from_is_err_and c.from_residual-in_err-top.result c.from_residual-in_err-top.ensures.1 in
    rw (exit.1) (
    let T = g.S.EawStore.tells in
    let V = g.S.EawStore.view in
    let E = g.S.EawStore.opens in
    let t = c.args.tid in
    let root : Root = record { page = c.args.root; table = c.args.table } in
    let key = c.args.key in
    let v0 = pages_of (V c.args.pages.now.store) c.args.pages.now in
    let n = c.index_page_count-count.ensures in
    let vs = pages_of (V c.fetch_super.new.pages.store) c.fetch_super.new.pages in
    let front = c.in_ok-front.front in
    let v1 = pages_of (V c.fetch_node.new.pages.store) c.fetch_node.new.pages in
    let small : c.args.key < 2 ^ 64 = omega arith in
    subst (λ (f : IndexFault). (let r : Result ℕ IndexFault = Err f in Inserts T (E v0.store.shape) tree t root.page root.table key v0 v1 r)) (sym exit.2)
    (root_err T E t root key v0 vs c.requires.sound c.requires.named small c.in_ok-front.ensures.looks v1 c.in_err-top.field-0.0 (c.in_err-top.ensures.looks, c.in_err-top.ensures.cause)))

pub returns-in_err-top-clause-dead : goal.returns-in_err-top-clause-dead
returns-in_err-top-clause-dead g c =
    let exit = err_from_is_err_and c.from_residual-in_err-top.result c.from_residual-in_err-top.ensures.1 in
    rw (exit.1) (
    let T = g.S.EawStore.tells in
    let V = g.S.EawStore.view in
    let E = g.S.EawStore.opens in
    let t = c.args.tid in
    let root : Root = record { page = c.args.root; table = c.args.table } in
    let key = c.args.key in
    let v0 = pages_of (V c.args.pages.now.store) c.args.pages.now in
    let n = c.index_page_count-count.ensures in
    let vs = pages_of (V c.fetch_super.new.pages.store) c.fetch_super.new.pages in
    let front = c.in_ok-front.front in
    let at = root.page in
    let good = IsNode (page_bytes vs.store.state.bytes c.args.root) in
    λ told. dead_test Node T good at vs.store c.in_err-top.field-0.0 ((c.in_ok-front.ensures.looks.still refl).dead ∙ c.in_ok-front.ensures.cause)
    (dead_fault c.in_err-top.field-0.0 exit.0 (test_of_index Node T good at vs.store c.in_err-top.field-0.0 c.in_err-top.ensures.cause) exit.2 told) c.in_err-top.ensures.cause)

pub insert_below-requires-then-len-lt-PAIRS_MAX : goal.insert_below-requires-then-len-lt-PAIRS_MAX
insert_below-requires-then-len-lt-PAIRS_MAX g c =
    let T = g.S.EawStore.tells in
    let V = g.S.EawStore.view in
    let E = g.S.EawStore.opens in
    let t = c.args.tid in
    let root : Root = record { page = c.args.root; table = c.args.table } in
    let key = c.args.key in
    let v0 = pages_of (V c.args.pages.now.store) c.args.pages.now in
    let n = c.index_page_count-count.ensures in
    let vs = pages_of (V c.fetch_super.new.pages.store) c.fetch_super.new.pages in
    let front = c.in_ok-front.front in
    let v1 = pages_of (V c.fetch_node.new.pages.store) c.fetch_node.new.pages in
    let small : c.args.key < 2 ^ 64 = omega arith in
    let looks = looks_next T E false v0 vs v1 c.in_ok-front.ensures.looks c.in_ok-top.ensures.looks in
    let still = c.in_ok-front.ensures.looks.still refl in
    let top = c.in_ok-top.top in
    let read = subst (λ (sh : Shape). IsRead sh c.args.root c.in_ok-top.top.level c.in_ok-top.top.pairs.items) c.in_ok-front.ensures.looks.shape c.in_ok-top.ensures.read in
    let level = λ (told : IsTrue g.S.EawStore.tells). c.in_ok-top.ensures.level told ∙ ap (λ (st : State). level_of st.bytes c.args.root) (still.state told) in
    let pairs = λ (told : IsTrue g.S.EawStore.tells). c.in_ok-top.ensures.pairs told ∙ ap (λ (st : State). page_pairs st.bytes c.args.root) (still.state told) in
    let room : length c.in_ok-top.top.pairs.items < 30 = room_for c.in_ok-top.top.pairs.items c.len.result c.len.ensures.value c.if-len-lt-PAIRS_MAX.true in
    record {
      may = record {
        act = record {
          number = subst (λ (sh : Shape). c.args.tid < sh.numbers) (sym looks.shape) c.requires.tid;
          one_of = c.requires.table;
          closed = ap (λ (f : ℕ → Option ℕ). f c.args.tid) (c.in_ok-top.ensures.looks.tops ∙ c.in_ok-front.ensures.looks.tops) ∙ c.requires.closed c.in_ok-front.ensures.cause;
          alive = alive_yet T E t root key v0 c.requires.sound c.requires.named v1 looks c.in_ok-front.ensures.cause;
          sound = sound_yet T E t root key v0 c.requires.sound c.requires.named v1 looks c.in_ok-front.ensures.cause;
          named = named_yet T E t root key v0 c.requires.sound c.requires.named v1 looks c.in_ok-front.ensures.cause;
        };
        absent = absent_yet T E t root key v0 c.requires.sound c.requires.named v1 looks c.in_ok-front.ensures.cause c.requires.absent;
        front_is = subst (λ (sh : Shape). IsFront sh c.in_ok-front.front) (sym looks.shape) c.in_ok-front.ensures.front;
        slot = λ none. subst (λ (sh : Shape). c.in_ok-front.front.next_slot < slots_of sh) (sym looks.shape) ((slot_there v0.store.shape c.index_page_count-count.result front n.all c.in_ok-front.ensures.front (c.if-not-is_slot_left.ensures.0 refl)) none);
        says = says_yet T E t root key v0 c.requires.sound c.requires.named v1 looks c.in_ok-front.ensures.cause front c.in_ok-front.ensures.says;
      };
      read = root_read T E t root key v0 c.requires.sound c.requires.named v1 looks c.in_ok-front.ensures.cause top.page top.level top.pairs.items c.in_ok-top.ensures.page read;
      some = c.in_ok-top.ensures.some;
      room = room;
      reached = root_reached T E t root key v0 c.requires.sound c.requires.named v1 looks c.in_ok-front.ensures.cause top.page top.level top.pairs.items c.in_ok-top.ensures.page level pairs;
    }

pub returns-then-len-lt-PAIRS_MAX-clause-inserts : goal.returns-then-len-lt-PAIRS_MAX-clause-inserts
returns-then-len-lt-PAIRS_MAX-clause-inserts g c =
    let T = g.S.EawStore.tells in
    let V = g.S.EawStore.view in
    let E = g.S.EawStore.opens in
    let t = c.args.tid in
    let root : Root = record { page = c.args.root; table = c.args.table } in
    let key = c.args.key in
    let v0 = pages_of (V c.args.pages.now.store) c.args.pages.now in
    let n = c.index_page_count-count.ensures in
    let vs = pages_of (V c.fetch_super.new.pages.store) c.fetch_super.new.pages in
    let front = c.in_ok-front.front in
    let v1 = pages_of (V c.fetch_node.new.pages.store) c.fetch_node.new.pages in
    let small : c.args.key < 2 ^ 64 = omega arith in
    let looks = looks_next T E false v0 vs v1 c.in_ok-front.ensures.looks c.in_ok-top.ensures.looks in
    let still = c.in_ok-front.ensures.looks.still refl in
    let top = c.in_ok-top.top in
    let read = subst (λ (sh : Shape). IsRead sh c.args.root c.in_ok-top.top.level c.in_ok-top.top.pairs.items) c.in_ok-front.ensures.looks.shape c.in_ok-top.ensures.read in
    let level = λ (told : IsTrue g.S.EawStore.tells). c.in_ok-top.ensures.level told ∙ ap (λ (st : State). level_of st.bytes c.args.root) (still.state told) in
    let pairs = λ (told : IsTrue g.S.EawStore.tells). c.in_ok-top.ensures.pairs told ∙ ap (λ (st : State). page_pairs st.bytes c.args.root) (still.state told) in
    let room : length c.in_ok-top.top.pairs.items < 30 = room_for c.in_ok-top.top.pairs.items c.len.result c.len.ensures.value c.if-len-lt-PAIRS_MAX.true in
    let v2 = pages_of (V c.insert_below-then-len-lt-PAIRS_MAX.new.pages.store) c.insert_below-then-len-lt-PAIRS_MAX.new.pages in
    root_then T E t root key v0 v1 c.requires.sound c.requires.named small looks c.in_ok-front.ensures.cause front top.page top.level top.pairs.items c.in_ok-front.ensures.says c.in_ok-top.ensures.page c.in_ok-top.ensures.read.level_most level pairs room v2 c.insert_below-then-len-lt-PAIRS_MAX.result c.insert_below-then-len-lt-PAIRS_MAX.ensures.inserts

pub returns-then-len-lt-PAIRS_MAX-clause-dead : goal.returns-then-len-lt-PAIRS_MAX-clause-dead
returns-then-len-lt-PAIRS_MAX-clause-dead g c =
    λ told. absurd (c.insert_below-then-len-lt-PAIRS_MAX.ensures.dead told)

pub insert_above-requires : goal.insert_above-requires
insert_above-requires g c =
    let T = g.S.EawStore.tells in
    let V = g.S.EawStore.view in
    let E = g.S.EawStore.opens in
    let t = c.args.tid in
    let root : Root = record { page = c.args.root; table = c.args.table } in
    let key = c.args.key in
    let v0 = pages_of (V c.args.pages.now.store) c.args.pages.now in
    let n = c.index_page_count-count.ensures in
    let vs = pages_of (V c.fetch_super.new.pages.store) c.fetch_super.new.pages in
    let front = c.in_ok-front.front in
    let v1 = pages_of (V c.fetch_node.new.pages.store) c.fetch_node.new.pages in
    let small : c.args.key < 2 ^ 64 = omega arith in
    let looks = looks_next T E false v0 vs v1 c.in_ok-front.ensures.looks c.in_ok-top.ensures.looks in
    let still = c.in_ok-front.ensures.looks.still refl in
    let top = c.in_ok-top.top in
    let read = subst (λ (sh : Shape). IsRead sh c.args.root c.in_ok-top.top.level c.in_ok-top.top.pairs.items) c.in_ok-front.ensures.looks.shape c.in_ok-top.ensures.read in
    let level = λ (told : IsTrue g.S.EawStore.tells). c.in_ok-top.ensures.level told ∙ ap (λ (st : State). level_of st.bytes c.args.root) (still.state told) in
    let pairs = λ (told : IsTrue g.S.EawStore.tells). c.in_ok-top.ensures.pairs told ∙ ap (λ (st : State). page_pairs st.bytes c.args.root) (still.state told) in
    let full : length c.in_ok-top.top.pairs.items ≡ 30 = full_with c.in_ok-top.top.pairs.items c.len.result c.len.ensures.value c.if-len-lt-PAIRS_MAX.false c.in_ok-top.ensures.read.most in
    record {
      may = record {
        act = record {
          number = subst (λ (sh : Shape). c.args.tid < sh.numbers) (sym looks.shape) c.requires.tid;
          one_of = c.requires.table;
          closed = ap (λ (f : ℕ → Option ℕ). f c.args.tid) (c.in_ok-top.ensures.looks.tops ∙ c.in_ok-front.ensures.looks.tops) ∙ c.requires.closed c.in_ok-front.ensures.cause;
          alive = alive_yet T E t root key v0 c.requires.sound c.requires.named v1 looks c.in_ok-front.ensures.cause;
          sound = sound_yet T E t root key v0 c.requires.sound c.requires.named v1 looks c.in_ok-front.ensures.cause;
          named = named_yet T E t root key v0 c.requires.sound c.requires.named v1 looks c.in_ok-front.ensures.cause;
        };
        absent = absent_yet T E t root key v0 c.requires.sound c.requires.named v1 looks c.in_ok-front.ensures.cause c.requires.absent;
        front_is = subst (λ (sh : Shape). IsFront sh c.in_ok-front.front) (sym looks.shape) c.in_ok-front.ensures.front;
        slot = λ none. subst (λ (sh : Shape). c.in_ok-front.front.next_slot < slots_of sh) (sym looks.shape) ((slot_there v0.store.shape c.index_page_count-count.result front n.all c.in_ok-front.ensures.front (c.if-not-is_slot_left.ensures.0 refl)) none);
        says = says_yet T E t root key v0 c.requires.sound c.requires.named v1 looks c.in_ok-front.ensures.cause front c.in_ok-front.ensures.says;
      };
      page = c.in_ok-top.ensures.page;
      read = root_read T E t root key v0 c.requires.sound c.requires.named v1 looks c.in_ok-front.ensures.cause top.page top.level top.pairs.items c.in_ok-top.ensures.page read;
      full = full;
      level = bytes_yet T E t root key v0 c.requires.sound c.requires.named v1 looks c.in_ok-front.ensures.cause (λ (b : List ℕ). c.in_ok-top.top.level ≡ level_of b c.args.root) level;
      pairs = bytes_yet T E t root key v0 c.requires.sound c.requires.named v1 looks c.in_ok-front.ensures.cause (λ (b : List ℕ). c.in_ok-top.top.pairs.items ≡ page_pairs b c.args.root) pairs;
    }

pub returns-clause-inserts : goal.returns-clause-inserts
returns-clause-inserts g c =
    let T = g.S.EawStore.tells in
    let V = g.S.EawStore.view in
    let E = g.S.EawStore.opens in
    let t = c.args.tid in
    let root : Root = record { page = c.args.root; table = c.args.table } in
    let key = c.args.key in
    let v0 = pages_of (V c.args.pages.now.store) c.args.pages.now in
    let n = c.index_page_count-count.ensures in
    let vs = pages_of (V c.fetch_super.new.pages.store) c.fetch_super.new.pages in
    let front = c.in_ok-front.front in
    let v1 = pages_of (V c.fetch_node.new.pages.store) c.fetch_node.new.pages in
    let small : c.args.key < 2 ^ 64 = omega arith in
    let looks = looks_next T E false v0 vs v1 c.in_ok-front.ensures.looks c.in_ok-top.ensures.looks in
    let still = c.in_ok-front.ensures.looks.still refl in
    let top = c.in_ok-top.top in
    let read = subst (λ (sh : Shape). IsRead sh c.args.root c.in_ok-top.top.level c.in_ok-top.top.pairs.items) c.in_ok-front.ensures.looks.shape c.in_ok-top.ensures.read in
    let level = λ (told : IsTrue g.S.EawStore.tells). c.in_ok-top.ensures.level told ∙ ap (λ (st : State). level_of st.bytes c.args.root) (still.state told) in
    let pairs = λ (told : IsTrue g.S.EawStore.tells). c.in_ok-top.ensures.pairs told ∙ ap (λ (st : State). page_pairs st.bytes c.args.root) (still.state told) in
    let v2 = pages_of (V c.insert_above.new.pages.store) c.insert_above.new.pages in
    looked_then T E t root key v0 v1 c.requires.sound c.requires.named small looks c.in_ok-front.ensures.cause v2 c.insert_above.result c.insert_above.ensures.inserts

pub returns-clause-dead : goal.returns-clause-dead
returns-clause-dead g c =
    λ told. absurd (c.insert_above.ensures.dead told)

pub returns-in_err-front-clause-works : goal.returns-in_err-front-clause-works
returns-in_err-front-clause-works g c =
    let exit = err_from_is_err_and c.from_residual.result c.from_residual.ensures.1 in
    rw (exit.1) (
    let T = g.S.EawStore.tells in
    let V = g.S.EawStore.view in
    let E = g.S.EawStore.opens in
    let t = c.args.tid in
    let root : Root = record { page = c.args.root; table = c.args.table } in
    let key = c.args.key in
    let v0 = pages_of (V c.args.pages.now.store) c.args.pages.now in
    let n = c.index_page_count-count.ensures in
    let vs = pages_of (V c.fetch_super.new.pages.store) c.fetch_super.new.pages in
    let some : 0 < page_count (V c.args.pages.now.store).shape = omega (arith, n.some, n.all) in
    works_left _ (told_left c.in_err-front.field-0.0 exit.0 exit.2)
    (subst (λ (f : IndexFault). (let r : Result ℕ IndexFault = Err f in WorksFrom [] (IsTrue T) T (is_done r) V g.S.EawStore.calls t (down root.page key) (insertion_limits (is_some c.args.place) (tree_finding root.page key) v0.store.shape) (tree_actions v0.store.state.bytes root.page key) (blamed_index r) v0.store vs.store)) (sym exit.2)
    (works_super_err T V g.S.EawStore.calls t key root.page (tree_actions v0.store.state.bytes root.page key) c.args.pages.now.store (insertion_limits (is_some c.args.place) (tree_finding root.page key) v0.store.shape) (once_of (is_some c.args.place) root.page key v0.store.shape) Super (IsSuper 1 v0.store.state.bytes) c.fetch_super.new.pages.store c.in_err-front.ensures.reads.0 (page_bytes v0.store.state.bytes 0) c.in_err-front.field-0.0 some c.in_err-front.ensures.cause c.in_err-front.ensures.reads.1)))

pub returns-then-not-is_slot_left-clause-works : goal.returns-then-not-is_slot_left-clause-works
returns-then-not-is_slot_left-clause-works g c =
    let T = g.S.EawStore.tells in
    let V = g.S.EawStore.view in
    let E = g.S.EawStore.opens in
    let t = c.args.tid in
    let root : Root = record { page = c.args.root; table = c.args.table } in
    let key = c.args.key in
    let v0 = pages_of (V c.args.pages.now.store) c.args.pages.now in
    let n = c.index_page_count-count.ensures in
    let vs = pages_of (V c.fetch_super.new.pages.store) c.fetch_super.new.pages in
    let some : 0 < page_count (V c.args.pages.now.store).shape = omega (arith, n.some, n.all) in
    works_front_err T V g.S.EawStore.calls t key root.page (tree_actions v0.store.state.bytes root.page key) c.args.pages.now.store (unless_full true (insertion_limits (is_some c.args.place) (tree_finding root.page key) v0.store.shape)) (once_of (is_some c.args.place) root.page key v0.store.shape) c.fetch_super.new.pages.store c.in_ok-front.ensures.reads.0 c.in_ok-front.ensures.looks.shape c.in_ok-front.ensures.reads.1 (index.SlotsFull c.in_ok-front.front.next_slot) tt

pub returns-then-not-is_index_page-clause-works : goal.returns-then-not-is_index_page-clause-works
returns-then-not-is_index_page-clause-works g c =
    let T = g.S.EawStore.tells in
    let V = g.S.EawStore.view in
    let E = g.S.EawStore.opens in
    let t = c.args.tid in
    let root : Root = record { page = c.args.root; table = c.args.table } in
    let key = c.args.key in
    let v0 = pages_of (V c.args.pages.now.store) c.args.pages.now in
    let n = c.index_page_count-count.ensures in
    let vs = pages_of (V c.fetch_super.new.pages.store) c.fetch_super.new.pages in
    let some : 0 < page_count (V c.args.pages.now.store).shape = omega (arith, n.some, n.all) in
    let r : Result ℕ IndexFault = Err (index.Damaged 0) in
    subst (λ (b : Bool). WorksFrom [] (IsTrue T) T (is_done r) V g.S.EawStore.calls t (down root.page key) (insertion_limits b (tree_finding root.page key) v0.store.shape) (tree_actions v0.store.state.bytes root.page key) (blamed_index r) v0.store vs.store) (sym (ap (λ (o : Option LeafPage). is_some o) c.in_default.is))
    (works_front_err T V g.S.EawStore.calls t key root.page (tree_actions v0.store.state.bytes root.page key) c.args.pages.now.store (insertion_limits false (tree_finding root.page key) v0.store.shape) (omega arith) c.fetch_super.new.pages.store c.in_ok-front.ensures.reads.0 c.in_ok-front.ensures.looks.shape c.in_ok-front.ensures.reads.1 (index.Damaged 0) (some, refl))

pub returns-in_err-top-clause-works : goal.returns-in_err-top-clause-works
returns-in_err-top-clause-works g c =
    let exit = err_from_is_err_and c.from_residual-in_err-top.result c.from_residual-in_err-top.ensures.1 in
    rw (exit.1) (
    let T = g.S.EawStore.tells in
    let V = g.S.EawStore.view in
    let E = g.S.EawStore.opens in
    let t = c.args.tid in
    let root : Root = record { page = c.args.root; table = c.args.table } in
    let key = c.args.key in
    let v0 = pages_of (V c.args.pages.now.store) c.args.pages.now in
    let n = c.index_page_count-count.ensures in
    let vs = pages_of (V c.fetch_super.new.pages.store) c.fetch_super.new.pages in
    let some : 0 < page_count (V c.args.pages.now.store).shape = omega (arith, n.some, n.all) in
    let v1 = pages_of (V c.fetch_node.new.pages.store) c.fetch_node.new.pages in
    let there : c.args.root < page_count (V c.args.pages.now.store).shape = omega (arith, (c.if-not-is_index_page.ensures.0 refl).1, n.all) in
    works_left _ (told_left c.in_err-top.field-0.0 exit.0 exit.2)
    (subst (λ (f : IndexFault). (let r : Result ℕ IndexFault = Err f in WorksFrom [] (IsTrue T) T (is_done r) V g.S.EawStore.calls t (down root.page key) (insertion_limits (is_some c.args.place) (tree_finding root.page key) v0.store.shape) (tree_actions v0.store.state.bytes root.page key) (blamed_index r) v0.store v1.store)) (sym exit.2)
    (let r : Result ℕ IndexFault = Err (as_index c.in_err-top.field-0.0) in
    subst (λ (b : Bool). WorksFrom [] (IsTrue T) T (is_done r) V g.S.EawStore.calls t (down root.page key) (insertion_limits b (tree_finding root.page key) v0.store.shape) (tree_actions v0.store.state.bytes root.page key) (blamed_index r) v0.store v1.store) (sym (ap (λ (o : Option LeafPage). is_some o) c.in_default.is))
    (works_root_err T V g.S.EawStore.calls t key root.page (tree_actions v0.store.state.bytes root.page key) c.args.pages.now.store (insertion_limits false (tree_finding root.page key) v0.store.shape) (omega arith) c.fetch_super.new.pages.store c.in_ok-front.ensures.reads.0 c.in_ok-front.ensures.looks.shape there c.in_ok-front.ensures.reads.1 (omega arith) Node (IsNode (page_bytes vs.store.state.bytes root.page)) c.fetch_node.new.pages.store c.in_err-top.ensures.reads.0 (page_bytes vs.store.state.bytes root.page) c.in_err-top.field-0.0 c.in_err-top.ensures.cause c.in_err-top.ensures.reads.1))))

pub returns-then-len-lt-PAIRS_MAX-clause-works : goal.returns-then-len-lt-PAIRS_MAX-clause-works
returns-then-len-lt-PAIRS_MAX-clause-works g c =
    let T = g.S.EawStore.tells in
    let V = g.S.EawStore.view in
    let E = g.S.EawStore.opens in
    let t = c.args.tid in
    let root : Root = record { page = c.args.root; table = c.args.table } in
    let key = c.args.key in
    let v0 = pages_of (V c.args.pages.now.store) c.args.pages.now in
    let n = c.index_page_count-count.ensures in
    let vs = pages_of (V c.fetch_super.new.pages.store) c.fetch_super.new.pages in
    let some : 0 < page_count (V c.args.pages.now.store).shape = omega (arith, n.some, n.all) in
    let v1 = pages_of (V c.fetch_node.new.pages.store) c.fetch_node.new.pages in
    let there : c.args.root < page_count (V c.args.pages.now.store).shape = omega (arith, (c.if-not-is_index_page.ensures.0 refl).1, n.all) in
    let top = c.in_ok-top.top in
    let looks = looks_next T E false v0 vs v1 c.in_ok-front.ensures.looks c.in_ok-top.ensures.looks in
    let still = c.in_ok-front.ensures.looks.still refl in
    let level = λ (told : IsTrue g.S.EawStore.tells). c.in_ok-top.ensures.level told ∙ ap (λ (st : State). level_of st.bytes c.args.root) (still.state told) in
    let pairs = λ (told : IsTrue g.S.EawStore.tells). c.in_ok-top.ensures.pairs told ∙ ap (λ (st : State). page_pairs st.bytes c.args.root) (still.state told) in
    let small : c.args.key < 2 ^ 64 = omega arith in
    let room : length c.in_ok-top.top.pairs.items < 30 = room_for c.in_ok-top.top.pairs.items c.len.result c.len.ensures.value c.if-len-lt-PAIRS_MAX.true in
    let v2 = pages_of (V c.insert_below-then-len-lt-PAIRS_MAX.new.pages.store) c.insert_below-then-len-lt-PAIRS_MAX.new.pages in
    let low : c.in_ok-top.top.level ≤ 7 = c.in_ok-top.ensures.read.level_most in
    works_left _ (c.insert_below-then-len-lt-PAIRS_MAX.ensures.left)
    (subst (λ (b : Bool). WorksFrom [] (IsTrue T) T (is_done c.insert_below-then-len-lt-PAIRS_MAX.result) V g.S.EawStore.calls t (down root.page key) (insertion_limits b (tree_finding root.page key) v0.store.shape) (tree_actions v0.store.state.bytes root.page key) (blamed_index c.insert_below-then-len-lt-PAIRS_MAX.result) v0.store v2.store) (sym (ap (λ (o : Option LeafPage). is_some o) c.in_default.is))
    (works_root T V g.S.EawStore.calls t key root.page (tree_actions v0.store.state.bytes root.page key) c.args.pages.now.store (insertion_limits false (tree_finding root.page key) v0.store.shape) (omega arith) c.fetch_super.new.pages.store c.fetch_node.new.pages.store c.in_ok-front.ensures.reads.0 c.in_ok-top.ensures.reads.0 c.in_ok-front.ensures.looks.shape c.in_ok-top.ensures.looks.shape there c.in_ok-front.ensures.reads.1 c.in_ok-top.ensures.reads.1 top.level top.pairs.items c.in_ok-top.ensures.reads.2.level c.in_ok-top.ensures.reads.2.pairs (limits_below top.level) refl (omega (arith, low)) (omega (arith, low)) (omega (arith, low)) (known_from top.level top.page)
    (λ p known. root_known (known_two top.level top.page p known) c.in_ok-top.ensures.page) (actions_below top.level v1.store.state.bytes top.page top.page 0 key)
    (room_due T E t root key v0 v1 c.requires.sound c.requires.named small looks c.in_ok-front.ensures.cause top.page top.level top.pairs.items c.in_ok-top.ensures.page level pairs room) c.insert_below-then-len-lt-PAIRS_MAX.new.pages.store c.insert_below-then-len-lt-PAIRS_MAX.result c.insert_below-then-len-lt-PAIRS_MAX.ensures.works))

pub returns-clause-works : goal.returns-clause-works
returns-clause-works g c =
    let T = g.S.EawStore.tells in
    let V = g.S.EawStore.view in
    let E = g.S.EawStore.opens in
    let t = c.args.tid in
    let root : Root = record { page = c.args.root; table = c.args.table } in
    let key = c.args.key in
    let v0 = pages_of (V c.args.pages.now.store) c.args.pages.now in
    let n = c.index_page_count-count.ensures in
    let vs = pages_of (V c.fetch_super.new.pages.store) c.fetch_super.new.pages in
    let some : 0 < page_count (V c.args.pages.now.store).shape = omega (arith, n.some, n.all) in
    let v1 = pages_of (V c.fetch_node.new.pages.store) c.fetch_node.new.pages in
    let there : c.args.root < page_count (V c.args.pages.now.store).shape = omega (arith, (c.if-not-is_index_page.ensures.0 refl).1, n.all) in
    let top = c.in_ok-top.top in
    let looks = looks_next T E false v0 vs v1 c.in_ok-front.ensures.looks c.in_ok-top.ensures.looks in
    let still = c.in_ok-front.ensures.looks.still refl in
    let level = λ (told : IsTrue g.S.EawStore.tells). c.in_ok-top.ensures.level told ∙ ap (λ (st : State). level_of st.bytes c.args.root) (still.state told) in
    let pairs = λ (told : IsTrue g.S.EawStore.tells). c.in_ok-top.ensures.pairs told ∙ ap (λ (st : State). page_pairs st.bytes c.args.root) (still.state told) in
    let small : c.args.key < 2 ^ 64 = omega arith in
    let v2 = pages_of (V c.insert_above.new.pages.store) c.insert_above.new.pages in
    let low : c.in_ok-top.top.level ≤ 7 = c.in_ok-top.ensures.read.level_most in
    works_left _ (c.insert_above.ensures.left)
    (subst (λ (b : Bool). WorksFrom [] (IsTrue T) T (is_done c.insert_above.result) V g.S.EawStore.calls t (down root.page key) (insertion_limits b (tree_finding root.page key) v0.store.shape) (tree_actions v0.store.state.bytes root.page key) (blamed_index c.insert_above.result) v0.store v2.store) (sym (ap (λ (o : Option LeafPage). is_some o) c.in_default.is))
    (works_root T V g.S.EawStore.calls t key root.page (tree_actions v0.store.state.bytes root.page key) c.args.pages.now.store (insertion_limits false (tree_finding root.page key) v0.store.shape) (omega arith) c.fetch_super.new.pages.store c.fetch_node.new.pages.store c.in_ok-front.ensures.reads.0 c.in_ok-top.ensures.reads.0 c.in_ok-front.ensures.looks.shape c.in_ok-top.ensures.looks.shape there c.in_ok-front.ensures.reads.1 c.in_ok-top.ensures.reads.1 top.level top.pairs.items c.in_ok-top.ensures.reads.2.level c.in_ok-top.ensures.reads.2.pairs (limits_above top.level) refl (omega (arith, low)) (omega (arith, low)) (omega (arith, low)) (0 ∷ root.page ∷ [])
    (λ p known. pair_known p root.page known) (tree_actions v1.store.state.bytes root.page key)
    (λ told. ap (λ (st : State). tree_actions st.bytes root.page key) ((looks.still refl).state told)) c.insert_above.new.pages.store c.insert_above.result c.insert_above.ensures.works))

pub insert_below-requires : goal.insert_below-requires
insert_below-requires g c =
    let T = g.S.EawStore.tells in
    let V = g.S.EawStore.view in
    let E = g.S.EawStore.opens in
    let t = c.args.tid in
    let root : Root = record { page = c.args.root; table = c.args.table } in
    let key = c.args.key in
    let v0 = pages_of (V c.args.pages.now.store) c.args.pages.now in
    let n = c.index_page_count-count.ensures in
    let vs = pages_of (V c.fetch_super.new.pages.store) c.fetch_super.new.pages in
    let some : 0 < page_count (V c.args.pages.now.store).shape = omega (arith, n.some, n.all) in
    let looks = c.in_ok-front.ensures.looks in
    let leaf = c.in-Some.leaf in
    let node = c.node_of.result in
    let made = c.node_of.ensures in
    let place : IsPlaceIn (V c.args.pages.now.store).shape c.in-Some.leaf.page c.in-Some.leaf.pairs.items = subst (λ (o : Option LeafPage). IfSome o (λ l. IsPlaceIn (V c.args.pages.now.store).shape l.page l.pairs.items)) c.in-Some.is c.requires.place in
    let opens = λ (told : IsTrue g.S.EawStore.tells). subst (λ (p : ℕ). IsOpenLeaf (V c.args.pages.now.store).state.bytes c.args.root c.args.key p c.node_of.result.pairs.items) (sym c.node_of.ensures.page)
    (subst (λ (ps : List Pair). IsOpenLeaf (V c.args.pages.now.store).state.bytes c.args.root c.args.key c.in-Some.leaf.page ps) (sym c.node_of.ensures.pairs)
    (subst (λ (o : Option LeafPage). IfSome o (λ l. IsOpenLeaf (V c.args.pages.now.store).state.bytes c.args.root c.args.key l.page l.pairs.items)) c.in-Some.is (c.requires.fits told c.in_ok-front.ensures.cause))) in
    let read : IsRead (V c.args.pages.now.store).shape c.node_of.result.page c.node_of.result.level c.node_of.result.pairs.items =
    record {
      some = subst (λ (p : ℕ). 1 ≤ p) (sym c.node_of.ensures.page) place.some;
      inside = subst (λ (p : ℕ). p < index_pages_of (V c.args.pages.now.store).shape) (sym c.node_of.ensures.page) place.inside;
      level_most = omega (arith, c.node_of.ensures.level);
      most = omega (arith, place.room, ap (λ (ps : List Pair). length ps) c.node_of.ensures.pairs);
      small = subst (λ (ps : List Pair). AreSmall ps) (sym c.node_of.ensures.pairs) place.small;
    } in
    let small : c.args.key < 2 ^ 64 = omega arith in
    record {
      may = record {
        act = record {
          number = subst (λ (sh : Shape). c.args.tid < sh.numbers) (sym looks.shape) c.requires.tid;
          one_of = c.requires.table;
          closed = ap (λ (f : ℕ → Option ℕ). f c.args.tid) c.in_ok-front.ensures.looks.tops ∙ c.requires.closed c.in_ok-front.ensures.cause;
          alive = alive_yet T E t root key v0 c.requires.sound c.requires.named vs looks c.in_ok-front.ensures.cause;
          sound = sound_yet T E t root key v0 c.requires.sound c.requires.named vs looks c.in_ok-front.ensures.cause;
          named = named_yet T E t root key v0 c.requires.sound c.requires.named vs looks c.in_ok-front.ensures.cause;
        };
        absent = absent_yet T E t root key v0 c.requires.sound c.requires.named vs looks c.in_ok-front.ensures.cause c.requires.absent;
        front_is = subst (λ (sh : Shape). IsFront sh c.in_ok-front.front) (sym looks.shape) c.in_ok-front.ensures.front;
        slot = λ none. subst (λ (sh : Shape). c.in_ok-front.front.next_slot < slots_of sh) (sym looks.shape) ((slot_there v0.store.shape c.index_page_count-count.result c.in_ok-front.front n.all c.in_ok-front.ensures.front (c.if-not-is_slot_left.ensures.0 refl)) none);
        says = says_yet T E t root key v0 c.requires.sound c.requires.named vs looks c.in_ok-front.ensures.cause c.in_ok-front.front c.in_ok-front.ensures.says;
      };
      read = subst (λ (sh : Shape). IsRead sh c.node_of.result.page c.node_of.result.level c.node_of.result.pairs.items) (sym looks.shape) read;
      some = λ inner. absurd (inner made.level);
      room = subst (λ (ps : List Pair). length ps < 30) (sym made.pairs) place.room;
      reached = place_reached T E t root key v0 vs c.requires.sound c.requires.named small looks c.in_ok-front.ensures.cause node.page node.level node.pairs.items made.level opens;
    }

pub returns-in-Some-clause-inserts : goal.returns-in-Some-clause-inserts
returns-in-Some-clause-inserts g c =
    let T = g.S.EawStore.tells in
    let V = g.S.EawStore.view in
    let E = g.S.EawStore.opens in
    let t = c.args.tid in
    let root : Root = record { page = c.args.root; table = c.args.table } in
    let key = c.args.key in
    let v0 = pages_of (V c.args.pages.now.store) c.args.pages.now in
    let n = c.index_page_count-count.ensures in
    let vs = pages_of (V c.fetch_super.new.pages.store) c.fetch_super.new.pages in
    let some : 0 < page_count (V c.args.pages.now.store).shape = omega (arith, n.some, n.all) in
    let node = c.node_of.result in
    let made = c.node_of.ensures in
    let opens = λ (told : IsTrue g.S.EawStore.tells). subst (λ (p : ℕ). IsOpenLeaf (V c.args.pages.now.store).state.bytes c.args.root c.args.key p c.node_of.result.pairs.items) (sym c.node_of.ensures.page)
    (subst (λ (ps : List Pair). IsOpenLeaf (V c.args.pages.now.store).state.bytes c.args.root c.args.key c.in-Some.leaf.page ps) (sym c.node_of.ensures.pairs)
    (subst (λ (o : Option LeafPage). IfSome o (λ l. IsOpenLeaf (V c.args.pages.now.store).state.bytes c.args.root c.args.key l.page l.pairs.items)) c.in-Some.is (c.requires.fits told c.in_ok-front.ensures.cause))) in
    let small : c.args.key < 2 ^ 64 = omega arith in
    let v2 = pages_of (V c.insert_below.new.pages.store) c.insert_below.new.pages in
    place_then T E t root key v0 vs c.requires.sound c.requires.named small c.in_ok-front.ensures.looks c.in_ok-front.ensures.cause c.in_ok-front.front node.page node.level node.pairs.items made.level c.in_ok-front.ensures.says opens v2 c.insert_below.result c.insert_below.ensures.inserts

pub returns-in-Some-clause-works : goal.returns-in-Some-clause-works
returns-in-Some-clause-works g c =
    let T = g.S.EawStore.tells in
    let V = g.S.EawStore.view in
    let E = g.S.EawStore.opens in
    let t = c.args.tid in
    let root : Root = record { page = c.args.root; table = c.args.table } in
    let key = c.args.key in
    let v0 = pages_of (V c.args.pages.now.store) c.args.pages.now in
    let n = c.index_page_count-count.ensures in
    let vs = pages_of (V c.fetch_super.new.pages.store) c.fetch_super.new.pages in
    let some : 0 < page_count (V c.args.pages.now.store).shape = omega (arith, n.some, n.all) in
    let node = c.node_of.result in
    let made = c.node_of.ensures in
    let opens = λ (told : IsTrue g.S.EawStore.tells). subst (λ (p : ℕ). IsOpenLeaf (V c.args.pages.now.store).state.bytes c.args.root c.args.key p c.node_of.result.pairs.items) (sym c.node_of.ensures.page)
    (subst (λ (ps : List Pair). IsOpenLeaf (V c.args.pages.now.store).state.bytes c.args.root c.args.key c.in-Some.leaf.page ps) (sym c.node_of.ensures.pairs)
    (subst (λ (o : Option LeafPage). IfSome o (λ l. IsOpenLeaf (V c.args.pages.now.store).state.bytes c.args.root c.args.key l.page l.pairs.items)) c.in-Some.is (c.requires.fits told c.in_ok-front.ensures.cause))) in
    let small : c.args.key < 2 ^ 64 = omega arith in
    let v2 = pages_of (V c.insert_below.new.pages.store) c.insert_below.new.pages in
    let works = subst (λ (m : ℕ). WorksFrom (known_from m c.node_of.result.page) (IsTrue g.S.EawStore.tells) g.S.EawStore.tells (is_done c.insert_below.result) g.S.EawStore.view g.S.EawStore.calls c.args.tid (below c.args.key m c.node_of.result.pairs.items) (limits_below m)
    (actions_below m (g.S.EawStore.view c.fetch_super.new.pages.store).state.bytes c.node_of.result.page c.node_of.result.page 0 c.args.key) (blamed_index c.insert_below.result) (g.S.EawStore.view c.fetch_super.new.pages.store) (g.S.EawStore.view c.insert_below.new.pages.store)) c.node_of.ensures.level c.insert_below.ensures.works in
    works_left _ (c.insert_below.ensures.left)
    (subst (λ (b : Bool). WorksFrom [] (IsTrue T) T (is_done c.insert_below.result) V g.S.EawStore.calls t (down root.page key) (insertion_limits b (tree_finding root.page key) v0.store.shape) (tree_actions v0.store.state.bytes root.page key) (blamed_index c.insert_below.result) v0.store v2.store) (sym (ap (λ (o : Option LeafPage). is_some o) c.in-Some.is))
    (works_placed T V g.S.EawStore.calls t key root.page (tree_actions v0.store.state.bytes root.page key) c.args.pages.now.store (insertion_limits true (tree_finding root.page key) v0.store.shape) (omega arith) c.fetch_super.new.pages.store c.in_ok-front.ensures.reads.0 c.in_ok-front.ensures.looks.shape c.in_ok-front.ensures.reads.1 node.page node.pairs.items (omega arith) (omega arith) (actions_below 0 vs.store.state.bytes node.page node.page 0 key)
    (place_due T E t root key v0 vs c.requires.sound c.requires.named small c.in_ok-front.ensures.looks c.in_ok-front.ensures.cause node.page node.pairs.items opens) c.insert_below.new.pages.store c.insert_below.result works))

pub returns-in_err-front-clause-full : goal.returns-in_err-front-clause-full
returns-in_err-front-clause-full g c =
    let exit = err_from_is_err_and c.from_residual.result c.from_residual.ensures.1 in
    rw (exit.1) (λ full. not_filled _ (told_left c.in_err-front.field-0.0 exit.0 exit.2) full)

pub returns-then-not-is_slot_left-clause-full : goal.returns-then-not-is_slot_left-clause-full
returns-then-not-is_slot_left-clause-full g c = λ full. c.in_ok-front.ensures.looks

pub returns-then-not-is_index_page-clause-full : goal.returns-then-not-is_index_page-clause-full
returns-then-not-is_index_page-clause-full g c = λ full. not_filled _ refl full

pub returns-in_err-top-clause-full : goal.returns-in_err-top-clause-full
returns-in_err-top-clause-full g c =
    let exit = err_from_is_err_and c.from_residual-in_err-top.result c.from_residual-in_err-top.ensures.1 in
    rw (exit.1) (λ full. not_filled _ (told_left c.in_err-top.field-0.0 exit.0 exit.2) full)

pub returns-then-len-lt-PAIRS_MAX-clause-full : goal.returns-then-len-lt-PAIRS_MAX-clause-full
returns-then-len-lt-PAIRS_MAX-clause-full g c = λ full. not_filled _ c.insert_below-then-len-lt-PAIRS_MAX.ensures.left full

pub returns-clause-full : goal.returns-clause-full
returns-clause-full g c = λ full. not_filled _ c.insert_above.ensures.left full

pub returns-in-Some-clause-full : goal.returns-in-Some-clause-full
returns-in-Some-clause-full g c = λ full. not_filled _ c.insert_below.ensures.left full
