use Rattle.index_pages.proofs.Filled.{told_left}
use Rattle.std.proofs.Common.{[], ◌∷◌, ◌+◌, ◌-◌, ◌^◌, ◌<◌, ◌≤◌, ℕ, Option, None, Result, Ok, Err, false, IsTrue, refl, sym, ◌∙◌, ap, subst, arith}
use Rattle.std.proofs.lemmas.Bool.{false≢true}
use Rattle.array_shape.specs.declared.shape.Shape.{Shape}
use Rattle.eaw_face.specs.State.{State}
use Rattle.record_slots.specs.Places.{free_page_of}
use Rattle.eaw_face.specs.StoreView.{log_len}
use Rattle.record_slots.specs.Places.{page_due}
use Rattle.page_store.specs.Index.{slots_of, index_pages_of}
use Rattle.page_store.specs.Inserts.{Inserts}
use Rattle.page_store.specs.Runs.{Runs, acting_of}
use Rattle.page_store.specs.Shown.{pages_of}
use Rattle.page_store.specs.Works.{WorksFrom, is_done, blamed_index}
use Rattle.page_store.specs.declared.fault.PageFault.{PageFault}
use Rattle.page_store.specs.declared.index_fault.IndexFault.{IndexFault}
use Rattle.page_store.specs.declared.index_fault.IndexFault.TheVariants as index
use Rattle.index_pages.specs.Acts.{Acts}
use Rattle.index_pages.specs.Adding.{TakesPage}
use Rattle.index_pages.specs.Fetched.{IsFront}
use Rattle.index_pages.specs.Page.{level_of, page_pairs}
use Rattle.index_pages.specs.Slots.{list_check}
use Rattle.index_pages.specs.declared.taking.Claim.{Claim}
use Rattle.index_pages.proofs.Looking.{looks_none, looks_next}
use Rattle.btree_pages.specs.Downward.{below}
use Rattle.btree_pages.specs.Index.{tree, tree_actions, actions_below}
use Rattle.index_pages.specs.Actions.{half_for}
use Rattle.btree_pages.specs.Steps.{limits_above}
use Rattle.index_pages.proofs.Working.{act_blames, blamed_same}
use Rattle.btree_pages.proofs.Acted.{growing_in, root_half_among}
use Rattle.btree_pages.proofs.Beginning.{works_none, works_first_err, works_second_err, works_grow_err, works_grown}
use Rattle.btree_pages.specs.Writes.{IsRead, growing_pages, growing_parts}
use Rattle.index_pages.proofs.Claims.{free_pages_pass, next_pass}
use Rattle.btree_pages.specs.Trees.{whole_of}
use Rattle.btree_pages.proofs.Below.{half_read}
use Rattle.index_pages.proofs.Faulting.{look_of_index, act_of_index, dead_fault, dead_act, not_full, two_some}
use Rattle.btree_pages.proofs.Rooted.{below_most, read_half, take_err}
use Rattle.btree_pages.proofs.Whole.{root_high, root_full, grow_err, going3, living3, sound3, named3, absent3, says3, reached3, grown_then, takes_two, root_due, root_leads, root_rest}
use Rattle.std.proofs.lemmas.Result.{err_from_is_err_and}
use Rattle.btree_pages.proofs.insertion.insert_above.Goals as goal

pub returns-then-top-eq-LEVEL_MAX-clause-inserts : goal.returns-then-top-eq-LEVEL_MAX-clause-inserts
returns-then-top-eq-LEVEL_MAX-clause-inserts g c =
    let T = g.S.EawStore.tells in
    let V = g.S.EawStore.view in
    let E = g.S.EawStore.opens in
    let t = c.args.change.tid in
    let root = c.args.change.root in
    let key = c.args.change.key in
    let v0 = pages_of (V c.args.pages.now.store) c.args.pages.now in
    let n = c.index_page_count-count.ensures in
    let front = c.args.front in
    let top = c.args.top in
    let small : c.args.change.key < 2 ^ 64 = omega arith in
    let long = λ (told : IsTrue g.S.EawStore.tells). g.met.S.EawStore.long c.args.pages.now.store told in
    let read = subst (λ (p : ℕ). IsRead (g.S.EawStore.view c.args.pages.now.store).shape p c.args.top.level c.args.top.pairs.items) c.requires.page c.requires.read in
    root_high T E t root key v0 c.index_page_count-count.result n.count n.all n.most n.some small c.requires.may.act.sound c.requires.may.act.named c.requires.may.absent long c.requires.may.act.alive front c.requires.may.front_is c.requires.may.slot c.requires.may.says top.level top.pairs.items read c.requires.level c.requires.pairs c.requires.full c.if-top-eq-LEVEL_MAX.true

pub returns-then-top-eq-LEVEL_MAX-clause-dead : goal.returns-then-top-eq-LEVEL_MAX-clause-dead
returns-then-top-eq-LEVEL_MAX-clause-dead g c =
    λ told. not_full _ told

pub are_pages_left-requires : goal.are_pages_left-requires
are_pages_left-requires g c =
    subst (λ (k : ℕ). c.args.front.next_page ≤ k) (sym c.index_page_count-count.ensures.count) c.requires.may.front_is.pages

pub returns-then-not-are_pages_left-clause-inserts : goal.returns-then-not-are_pages_left-clause-inserts
returns-then-not-are_pages_left-clause-inserts g c =
    let T = g.S.EawStore.tells in
    let V = g.S.EawStore.view in
    let E = g.S.EawStore.opens in
    let t = c.args.change.tid in
    let root = c.args.change.root in
    let key = c.args.change.key in
    let v0 = pages_of (V c.args.pages.now.store) c.args.pages.now in
    let n = c.index_page_count-count.ensures in
    let front = c.args.front in
    let top = c.args.top in
    let small : c.args.change.key < 2 ^ 64 = omega arith in
    let long = λ (told : IsTrue g.S.EawStore.tells). g.met.S.EawStore.long c.args.pages.now.store told in
    let read = subst (λ (p : ℕ). IsRead (g.S.EawStore.view c.args.pages.now.store).shape p c.args.top.level c.args.top.pairs.items) c.requires.page c.requires.read in
    root_full T E t root key v0 c.index_page_count-count.result n.count n.all n.most n.some small c.requires.may.act.sound c.requires.may.act.named c.requires.may.absent long c.requires.may.act.alive front c.requires.may.front_is c.requires.may.slot c.requires.may.says top.level top.pairs.items read c.requires.level c.requires.pairs c.requires.full c.if-top-eq-LEVEL_MAX.false (λ le. false≢true (c.if-not-are_pages_left.ensures.1 le))

pub returns-then-not-are_pages_left-clause-dead : goal.returns-then-not-are_pages_left-clause-dead
returns-then-not-are_pages_left-clause-dead g c =
    λ told. not_full _ told

pub take_page-requires : goal.take_page-requires
take_page-requires g c =
    let T = g.S.EawStore.tells in
    let V = g.S.EawStore.view in
    let E = g.S.EawStore.opens in
    let t = c.args.change.tid in
    let root = c.args.change.root in
    let key = c.args.change.key in
    let v0 = pages_of (V c.args.pages.now.store) c.args.pages.now in
    let n = c.index_page_count-count.ensures in
    let front = c.args.front in
    let top = c.args.top in
    let small : c.args.change.key < 2 ^ 64 = omega arith in
    let long = λ (told : IsTrue g.S.EawStore.tells). g.met.S.EawStore.long c.args.pages.now.store told in
    let read = subst (λ (p : ℕ). IsRead (g.S.EawStore.view c.args.pages.now.store).shape p c.args.top.level c.args.top.pairs.items) c.requires.page c.requires.read in
    let two : 2 ≤ c.args.front.free_pages + (c.index_page_count-count.result - c.args.front.next_page) = c.if-not-are_pages_left.ensures.0 refl in
    record {
      alive = c.requires.may.act.alive;
      front = c.requires.may.front_is;
      left = λ none. omega (arith, two, none, n.count);
      sound = λ told. free_pages_pass v0.store.state.bytes c.args.front (whole_of v0.store.state.bytes (c.requires.may.act.sound told)).pages (c.requires.may.says told);
    }

pub returns-in_err-left-clause-inserts : goal.returns-in_err-left-clause-inserts
returns-in_err-left-clause-inserts g c =
    let exit = err_from_is_err_and c.from_residual.result c.from_residual.ensures.1 in
    rw (exit.1) (
    let T = g.S.EawStore.tells in
    let V = g.S.EawStore.view in
    let E = g.S.EawStore.opens in
    let t = c.args.change.tid in
    let root = c.args.change.root in
    let key = c.args.change.key in
    let v0 = pages_of (V c.args.pages.now.store) c.args.pages.now in
    let n = c.index_page_count-count.ensures in
    let front = c.args.front in
    let top = c.args.top in
    let small : c.args.change.key < 2 ^ 64 = omega arith in
    let long = λ (told : IsTrue g.S.EawStore.tells). g.met.S.EawStore.long c.args.pages.now.store told in
    let read = subst (λ (p : ℕ). IsRead (g.S.EawStore.view c.args.pages.now.store).shape p c.args.top.level c.args.top.pairs.items) c.requires.page c.requires.read in
    let v1 = pages_of (V c.take_page.new.pages.store) c.take_page.new.pages in
    subst (λ (f : IndexFault). (let r : Result ℕ IndexFault = Err f in Inserts T (E v0.store.shape) tree t root.page root.table key v0 v1 r)) (sym exit.2)
    (take_err T E t root key v0 c.requires.may.act.sound v0 (looks_none T (E v0.store.shape) v0) v1 c.in_err-left.field-0.0 (c.in_err-left.ensures.looks, c.in_err-left.ensures.cause)))

pub returns-in_err-left-clause-dead : goal.returns-in_err-left-clause-dead
returns-in_err-left-clause-dead g c =
    let exit = err_from_is_err_and c.from_residual.result c.from_residual.ensures.1 in
    rw (exit.1) (
    λ told. c.in_err-left.ensures.dead (ap Err (dead_fault c.in_err-left.field-0.0 exit.0 (look_of_index Claim g.S.EawStore.tells (g.S.EawStore.view c.args.pages.now.store) c.in_err-left.field-0.0 c.in_err-left.ensures.cause) exit.2 told)))

pub take_page-requires-2 : goal.take_page-requires-2
take_page-requires-2 g c =
    let T = g.S.EawStore.tells in
    let V = g.S.EawStore.view in
    let E = g.S.EawStore.opens in
    let t = c.args.change.tid in
    let root = c.args.change.root in
    let key = c.args.change.key in
    let v0 = pages_of (V c.args.pages.now.store) c.args.pages.now in
    let n = c.index_page_count-count.ensures in
    let front = c.args.front in
    let top = c.args.top in
    let small : c.args.change.key < 2 ^ 64 = omega arith in
    let long = λ (told : IsTrue g.S.EawStore.tells). g.met.S.EawStore.long c.args.pages.now.store told in
    let read = subst (λ (p : ℕ). IsRead (g.S.EawStore.view c.args.pages.now.store).shape p c.args.top.level c.args.top.pairs.items) c.requires.page c.requires.read in
    let v1 = pages_of (V c.take_page.new.pages.store) c.take_page.new.pages in
    let left = c.in_ok-left.left in
    let two : 2 ≤ c.args.front.free_pages + (c.index_page_count-count.result - c.args.front.next_page) = c.if-not-are_pages_left.ensures.0 refl in
    let counts = c.in_ok-left.ensures.pages in
    record {
      alive = (c.in_ok-left.ensures.looks.still refl).dead ∙ c.requires.may.act.alive;
      front = subst (λ (sh : Shape). IsFront sh c.in_ok-left.left.front) (sym c.in_ok-left.ensures.looks.shape) c.in_ok-left.ensures.front;
      left = λ none. subst (λ (sh : Shape). c.in_ok-left.left.front.next_page < index_pages_of sh) (sym c.in_ok-left.ensures.looks.shape) (omega (arith, two, none, n.count, counts, c.requires.may.front_is.pages));
      sound = λ told. subst (λ (st : State). list_check (free_page_of st.bytes) (λ page. page) 2 c.in_ok-left.left.front.next_page c.in_ok-left.left.front.free_pages c.in_ok-left.left.front.free_page 0 None) (sym ((c.in_ok-left.ensures.looks.still refl).state told))
          (next_pass v0.store.state.bytes c.args.front c.in_ok-left.left.number c.in_ok-left.left.front (whole_of v0.store.state.bytes (c.requires.may.act.sound told)).pages (c.requires.may.says told) (c.in_ok-left.ensures.takes told));
    }

pub returns-in_err-right-clause-inserts : goal.returns-in_err-right-clause-inserts
returns-in_err-right-clause-inserts g c =
    let exit = err_from_is_err_and c.from_residual-in_err-right.result c.from_residual-in_err-right.ensures.1 in
    rw (exit.1) (
    let T = g.S.EawStore.tells in
    let V = g.S.EawStore.view in
    let E = g.S.EawStore.opens in
    let t = c.args.change.tid in
    let root = c.args.change.root in
    let key = c.args.change.key in
    let v0 = pages_of (V c.args.pages.now.store) c.args.pages.now in
    let n = c.index_page_count-count.ensures in
    let front = c.args.front in
    let top = c.args.top in
    let small : c.args.change.key < 2 ^ 64 = omega arith in
    let long = λ (told : IsTrue g.S.EawStore.tells). g.met.S.EawStore.long c.args.pages.now.store told in
    let read = subst (λ (p : ℕ). IsRead (g.S.EawStore.view c.args.pages.now.store).shape p c.args.top.level c.args.top.pairs.items) c.requires.page c.requires.read in
    let v1 = pages_of (V c.take_page.new.pages.store) c.take_page.new.pages in
    let left = c.in_ok-left.left in
    let v2 = pages_of (V c.take_page-2.new.pages.store) c.take_page-2.new.pages in
    subst (λ (f : IndexFault). (let r : Result ℕ IndexFault = Err f in Inserts T (E v0.store.shape) tree t root.page root.table key v0 v2 r)) (sym exit.2)
    (take_err T E t root key v0 c.requires.may.act.sound v1 c.in_ok-left.ensures.looks v2 c.in_err-right.field-0.0 (c.in_err-right.ensures.looks, c.in_err-right.ensures.cause)))

pub returns-in_err-right-clause-dead : goal.returns-in_err-right-clause-dead
returns-in_err-right-clause-dead g c =
    let exit = err_from_is_err_and c.from_residual-in_err-right.result c.from_residual-in_err-right.ensures.1 in
    rw (exit.1) (
    λ told. c.in_err-right.ensures.dead (ap Err (dead_fault c.in_err-right.field-0.0 exit.0 (look_of_index Claim g.S.EawStore.tells (g.S.EawStore.view c.take_page.new.pages.store) c.in_err-right.field-0.0 c.in_err-right.ensures.cause) exit.2 told)))

pub grow_root-requires : goal.grow_root-requires
grow_root-requires g c =
    let T = g.S.EawStore.tells in
    let V = g.S.EawStore.view in
    let E = g.S.EawStore.opens in
    let t = c.args.change.tid in
    let root = c.args.change.root in
    let key = c.args.change.key in
    let v0 = pages_of (V c.args.pages.now.store) c.args.pages.now in
    let n = c.index_page_count-count.ensures in
    let front = c.args.front in
    let top = c.args.top in
    let small : c.args.change.key < 2 ^ 64 = omega arith in
    let long = λ (told : IsTrue g.S.EawStore.tells). g.met.S.EawStore.long c.args.pages.now.store told in
    let read = subst (λ (p : ℕ). IsRead (g.S.EawStore.view c.args.pages.now.store).shape p c.args.top.level c.args.top.pairs.items) c.requires.page c.requires.read in
    let v1 = pages_of (V c.take_page.new.pages.store) c.take_page.new.pages in
    let left = c.in_ok-left.left in
    let v2 = pages_of (V c.take_page-2.new.pages.store) c.take_page-2.new.pages in
    let right = c.in_ok-right.right in
    let looks = looks_next T E false v0 v1 v2 c.in_ok-left.ensures.looks c.in_ok-right.ensures.looks in
    let one = λ (told : IsTrue g.S.EawStore.tells). subst (λ (st : State). TakesPage st.bytes c.args.front c.in_ok-left.left.number c.in_ok-left.left.front) (sym ((c.in_ok-left.ensures.looks.still refl).state told) ∙ sym ((c.in_ok-right.ensures.looks.still refl).state told)) (c.in_ok-left.ensures.takes told) in
    let other = λ (told : IsTrue g.S.EawStore.tells). subst (λ (st : State). TakesPage st.bytes c.in_ok-left.left.front c.in_ok-right.right.number c.in_ok-right.right.front) (sym ((c.in_ok-right.ensures.looks.still refl).state told)) (c.in_ok-right.ensures.takes told) in
    record {
      tid = subst (λ (sh : Shape). c.args.change.tid < sh.numbers) (sym looks.shape) c.requires.may.act.number;
      closed = λ running. ap (λ (f : ℕ → Option ℕ). f c.args.change.tid) (c.in_ok-right.ensures.looks.tops ∙ c.in_ok-left.ensures.looks.tops) ∙ c.requires.may.act.closed;
      root = subst (λ (sh : Shape). IsRead sh c.args.top.page c.args.top.level c.args.top.pairs.items) (sym looks.shape) c.requires.read;
      level = below_most c.args.top.level c.if-top-eq-LEVEL_MAX.false c.requires.read.level_most;
      full = c.requires.full;
      left = subst (λ (sh : Shape). c.in_ok-left.left.number < index_pages_of sh) (sym looks.shape) c.in_ok-left.ensures.inside.1;
      right = subst (λ (sh : Shape). c.in_ok-right.right.number < index_pages_of sh) (sym c.in_ok-right.ensures.looks.shape) c.in_ok-right.ensures.inside.1;
    }

pub returns-in_err-grow_root-clause-inserts : goal.returns-in_err-grow_root-clause-inserts
returns-in_err-grow_root-clause-inserts g c =
    let exit = err_from_is_err_and c.from_residual-in_err-grow_root.result c.from_residual-in_err-grow_root.ensures.1 in
    rw (exit.1) (
    let T = g.S.EawStore.tells in
    let V = g.S.EawStore.view in
    let E = g.S.EawStore.opens in
    let t = c.args.change.tid in
    let root = c.args.change.root in
    let key = c.args.change.key in
    let v0 = pages_of (V c.args.pages.now.store) c.args.pages.now in
    let n = c.index_page_count-count.ensures in
    let front = c.args.front in
    let top = c.args.top in
    let small : c.args.change.key < 2 ^ 64 = omega arith in
    let long = λ (told : IsTrue g.S.EawStore.tells). g.met.S.EawStore.long c.args.pages.now.store told in
    let read = subst (λ (p : ℕ). IsRead (g.S.EawStore.view c.args.pages.now.store).shape p c.args.top.level c.args.top.pairs.items) c.requires.page c.requires.read in
    let v1 = pages_of (V c.take_page.new.pages.store) c.take_page.new.pages in
    let left = c.in_ok-left.left in
    let v2 = pages_of (V c.take_page-2.new.pages.store) c.take_page-2.new.pages in
    let right = c.in_ok-right.right in
    let looks = looks_next T E false v0 v1 v2 c.in_ok-left.ensures.looks c.in_ok-right.ensures.looks in
    let one = λ (told : IsTrue g.S.EawStore.tells). subst (λ (st : State). TakesPage st.bytes c.args.front c.in_ok-left.left.number c.in_ok-left.left.front) (sym ((c.in_ok-left.ensures.looks.still refl).state told) ∙ sym ((c.in_ok-right.ensures.looks.still refl).state told)) (c.in_ok-left.ensures.takes told) in
    let other = λ (told : IsTrue g.S.EawStore.tells). subst (λ (st : State). TakesPage st.bytes c.in_ok-left.left.front c.in_ok-right.right.number c.in_ok-right.right.front) (sym ((c.in_ok-right.ensures.looks.still refl).state told)) (c.in_ok-right.ensures.takes told) in
    let v3 = pages_of (V c.grow_root.new.pages.store) c.grow_root.new.pages in
    let acts = λ (r : Result (Unit {0}) PageFault) (a : Acts g.S.EawStore.tells (g.S.EawStore.opens (g.S.EawStore.view c.take_page-2.new.pages.store).shape) c.args.change.tid (growing_pages c.in_ok-left.left.number c.in_ok-right.right.number c.args.top.page) (growing_parts c.in_ok-right.right.front c.in_ok-left.left.number c.in_ok-right.right.number c.args.top.page c.args.top.level c.args.top.pairs.items c.args.change.key)
    (pages_of (g.S.EawStore.view c.take_page-2.new.pages.store) c.take_page-2.new.pages) (pages_of (g.S.EawStore.view c.grow_root.new.pages.store) c.grow_root.new.pages) r).
    subst (λ (p : ℕ). Acts g.S.EawStore.tells (g.S.EawStore.opens (g.S.EawStore.view c.take_page-2.new.pages.store).shape) c.args.change.tid (growing_pages c.in_ok-left.left.number c.in_ok-right.right.number p) (growing_parts c.in_ok-right.right.front c.in_ok-left.left.number c.in_ok-right.right.number p c.args.top.level c.args.top.pairs.items c.args.change.key)
    (pages_of (g.S.EawStore.view c.take_page-2.new.pages.store) c.take_page-2.new.pages) (pages_of (g.S.EawStore.view c.grow_root.new.pages.store) c.grow_root.new.pages) r) c.requires.page a in
    subst (λ (f : IndexFault). (let r : Result ℕ IndexFault = Err f in Inserts T (E v0.store.shape) tree t root.page root.table key v0 v3 r)) (sym exit.2)
    (grow_err T E t root key v0 c.index_page_count-count.result n.count n.all n.most n.some small c.requires.may.act.sound c.requires.may.act.named c.requires.may.absent long c.requires.may.act.alive front c.requires.may.front_is c.requires.may.slot c.requires.may.says top.level top.pairs.items read c.requires.level c.requires.pairs c.requires.full c.if-top-eq-LEVEL_MAX.false (c.if-not-are_pages_left.ensures.0 refl) v2 looks left.number right.number left.front right.front one other v3 c.in_err-grow_root.field-0.0 (acts (Err c.in_err-grow_root.field-0.0) c.in_err-grow_root.ensures.acts)))

pub returns-in_err-grow_root-clause-dead : goal.returns-in_err-grow_root-clause-dead
returns-in_err-grow_root-clause-dead g c =
    let exit = err_from_is_err_and c.from_residual-in_err-grow_root.result c.from_residual-in_err-grow_root.ensures.1 in
    rw (exit.1) (
    let T = g.S.EawStore.tells in
    let V = g.S.EawStore.view in
    let E = g.S.EawStore.opens in
    let t = c.args.change.tid in
    let root = c.args.change.root in
    let key = c.args.change.key in
    let v0 = pages_of (V c.args.pages.now.store) c.args.pages.now in
    let n = c.index_page_count-count.ensures in
    let front = c.args.front in
    let top = c.args.top in
    let small : c.args.change.key < 2 ^ 64 = omega arith in
    let long = λ (told : IsTrue g.S.EawStore.tells). g.met.S.EawStore.long c.args.pages.now.store told in
    let read = subst (λ (p : ℕ). IsRead (g.S.EawStore.view c.args.pages.now.store).shape p c.args.top.level c.args.top.pairs.items) c.requires.page c.requires.read in
    let v1 = pages_of (V c.take_page.new.pages.store) c.take_page.new.pages in
    let left = c.in_ok-left.left in
    let v2 = pages_of (V c.take_page-2.new.pages.store) c.take_page-2.new.pages in
    let right = c.in_ok-right.right in
    let looks = looks_next T E false v0 v1 v2 c.in_ok-left.ensures.looks c.in_ok-right.ensures.looks in
    let one = λ (told : IsTrue g.S.EawStore.tells). subst (λ (st : State). TakesPage st.bytes c.args.front c.in_ok-left.left.number c.in_ok-left.left.front) (sym ((c.in_ok-left.ensures.looks.still refl).state told) ∙ sym ((c.in_ok-right.ensures.looks.still refl).state told)) (c.in_ok-left.ensures.takes told) in
    let other = λ (told : IsTrue g.S.EawStore.tells). subst (λ (st : State). TakesPage st.bytes c.in_ok-left.left.front c.in_ok-right.right.number c.in_ok-right.right.front) (sym ((c.in_ok-right.ensures.looks.still refl).state told)) (c.in_ok-right.ensures.takes told) in
    let ps = growing_pages c.in_ok-left.left.number c.in_ok-right.right.number c.args.top.page in
    λ told. dead_act v2.store t ps c.in_err-grow_root.field-0.0 ((looks.still refl).dead ∙ c.requires.may.act.alive)
    (dead_fault c.in_err-grow_root.field-0.0 exit.0 (act_of_index v2.store t ps c.in_err-grow_root.field-0.0 c.in_err-grow_root.ensures.acts.cause) exit.2 told) c.in_err-grow_root.ensures.acts.cause)

pub half_of-half-requires : goal.half_of-half-requires
half_of-half-requires g c =
    c.requires.full

pub insert_below-requires : goal.insert_below-requires
insert_below-requires g c =
    let T = g.S.EawStore.tells in
    let V = g.S.EawStore.view in
    let E = g.S.EawStore.opens in
    let t = c.args.change.tid in
    let root = c.args.change.root in
    let key = c.args.change.key in
    let v0 = pages_of (V c.args.pages.now.store) c.args.pages.now in
    let n = c.index_page_count-count.ensures in
    let front = c.args.front in
    let top = c.args.top in
    let small : c.args.change.key < 2 ^ 64 = omega arith in
    let long = λ (told : IsTrue g.S.EawStore.tells). g.met.S.EawStore.long c.args.pages.now.store told in
    let read = subst (λ (p : ℕ). IsRead (g.S.EawStore.view c.args.pages.now.store).shape p c.args.top.level c.args.top.pairs.items) c.requires.page c.requires.read in
    let v1 = pages_of (V c.take_page.new.pages.store) c.take_page.new.pages in
    let left = c.in_ok-left.left in
    let v2 = pages_of (V c.take_page-2.new.pages.store) c.take_page-2.new.pages in
    let right = c.in_ok-right.right in
    let looks = looks_next T E false v0 v1 v2 c.in_ok-left.ensures.looks c.in_ok-right.ensures.looks in
    let one = λ (told : IsTrue g.S.EawStore.tells). subst (λ (st : State). TakesPage st.bytes c.args.front c.in_ok-left.left.number c.in_ok-left.left.front) (sym ((c.in_ok-left.ensures.looks.still refl).state told) ∙ sym ((c.in_ok-right.ensures.looks.still refl).state told)) (c.in_ok-left.ensures.takes told) in
    let other = λ (told : IsTrue g.S.EawStore.tells). subst (λ (st : State). TakesPage st.bytes c.in_ok-left.left.front c.in_ok-right.right.number c.in_ok-right.right.front) (sym ((c.in_ok-right.ensures.looks.still refl).state told)) (c.in_ok-right.ensures.takes told) in
    let v3 = pages_of (V c.grow_root.new.pages.store) c.grow_root.new.pages in
    let acts = λ (r : Result (Unit {0}) PageFault) (a : Acts g.S.EawStore.tells (g.S.EawStore.opens (g.S.EawStore.view c.take_page-2.new.pages.store).shape) c.args.change.tid (growing_pages c.in_ok-left.left.number c.in_ok-right.right.number c.args.top.page) (growing_parts c.in_ok-right.right.front c.in_ok-left.left.number c.in_ok-right.right.number c.args.top.page c.args.top.level c.args.top.pairs.items c.args.change.key)
    (pages_of (g.S.EawStore.view c.take_page-2.new.pages.store) c.take_page-2.new.pages) (pages_of (g.S.EawStore.view c.grow_root.new.pages.store) c.grow_root.new.pages) r).
    subst (λ (p : ℕ). Acts g.S.EawStore.tells (g.S.EawStore.opens (g.S.EawStore.view c.take_page-2.new.pages.store).shape) c.args.change.tid (growing_pages c.in_ok-left.left.number c.in_ok-right.right.number p) (growing_parts c.in_ok-right.right.front c.in_ok-left.left.number c.in_ok-right.right.number p c.args.top.level c.args.top.pairs.items c.args.change.key)
    (pages_of (g.S.EawStore.view c.take_page-2.new.pages.store) c.take_page-2.new.pages) (pages_of (g.S.EawStore.view c.grow_root.new.pages.store) c.grow_root.new.pages) r) c.requires.page a in
    let half = c.half_of-half in
    let shape3 = c.in_ok-grow_root.ensures.acts.shape ∙ looks.shape in
    let left_in = c.in_ok-left.ensures.inside in
    let right_in = subst (λ (sh : Shape). c.in_ok-right.right.number < index_pages_of sh) c.in_ok-left.ensures.looks.shape c.in_ok-right.ensures.inside.1 in
    let half_is = half_read v0.store.shape top.level top.pairs.items left.number right.number key half.result.page half.result.pairs.items c.requires.full read.small (two_some left.number left_in.0) left_in.1 (two_some right.number c.in_ok-right.ensures.inside.0) right_in half.ensures.page half.ensures.pairs in
    let slots = c.in_ok-left.ensures.slots in
    let slots2 = c.in_ok-right.ensures.slots in
    record {
      may = record {
        act = record {
          number = subst (λ (sh : Shape). c.args.change.tid < sh.numbers) (sym shape3) c.requires.may.act.number;
          one_of = c.requires.may.act.one_of;
          closed = ap (λ (f : ℕ → Option ℕ). f c.args.change.tid) (going3 T E t root key v0 c.index_page_count-count.result n.count n.all n.most n.some small c.requires.may.act.sound c.requires.may.act.named c.requires.may.absent long c.requires.may.act.alive front c.requires.may.front_is c.requires.may.slot c.requires.may.says top.level top.pairs.items read c.requires.level c.requires.pairs c.requires.full c.if-top-eq-LEVEL_MAX.false (c.if-not-are_pages_left.ensures.0 refl) v2 looks left.number right.number left.front right.front one other v3 (acts (Ok tt) c.in_ok-grow_root.ensures.acts)).logs.tops ∙ c.requires.may.act.closed;
          alive = living3 T E t root key v0 c.index_page_count-count.result n.count n.all n.most n.some small c.requires.may.act.sound c.requires.may.act.named c.requires.may.absent long c.requires.may.act.alive front c.requires.may.front_is c.requires.may.slot c.requires.may.says top.level top.pairs.items read c.requires.level c.requires.pairs c.requires.full c.if-top-eq-LEVEL_MAX.false (c.if-not-are_pages_left.ensures.0 refl) v2 looks left.number right.number left.front right.front one other v3 (acts (Ok tt) c.in_ok-grow_root.ensures.acts);
          sound = sound3 T E t root key v0 c.index_page_count-count.result n.count n.all n.most n.some small c.requires.may.act.sound c.requires.may.act.named c.requires.may.absent long c.requires.may.act.alive front c.requires.may.front_is c.requires.may.slot c.requires.may.says top.level top.pairs.items read c.requires.level c.requires.pairs c.requires.full c.if-top-eq-LEVEL_MAX.false (c.if-not-are_pages_left.ensures.0 refl) v2 looks left.number right.number left.front right.front one other v3 (acts (Ok tt) c.in_ok-grow_root.ensures.acts);
          named = named3 T E t root key v0 c.index_page_count-count.result n.count n.all n.most n.some small c.requires.may.act.sound c.requires.may.act.named c.requires.may.absent long c.requires.may.act.alive front c.requires.may.front_is c.requires.may.slot c.requires.may.says top.level top.pairs.items read c.requires.level c.requires.pairs c.requires.full c.if-top-eq-LEVEL_MAX.false (c.if-not-are_pages_left.ensures.0 refl) v2 looks left.number right.number left.front right.front one other v3 (acts (Ok tt) c.in_ok-grow_root.ensures.acts);
        };
        absent = absent3 T E t root key v0 c.index_page_count-count.result n.count n.all n.most n.some small c.requires.may.act.sound c.requires.may.act.named c.requires.may.absent long c.requires.may.act.alive front c.requires.may.front_is c.requires.may.slot c.requires.may.says top.level top.pairs.items read c.requires.level c.requires.pairs c.requires.full c.if-top-eq-LEVEL_MAX.false (c.if-not-are_pages_left.ensures.0 refl) v2 looks left.number right.number left.front right.front one other v3 (acts (Ok tt) c.in_ok-grow_root.ensures.acts);
        front_is = subst (λ (sh : Shape). IsFront sh c.in_ok-right.right.front) (sym (c.in_ok-grow_root.ensures.acts.shape ∙ c.in_ok-right.ensures.looks.shape)) c.in_ok-right.ensures.front;
        slot = λ none. subst (λ (sh : Shape). c.in_ok-right.right.front.next_slot < slots_of sh) (sym shape3)
            (subst (λ (k : ℕ). k < slots_of (g.S.EawStore.view c.args.pages.now.store).shape) (sym (slots2.0 ∙ slots.0)) (c.requires.may.slot (sym (slots2.1 ∙ slots.1) ∙ none)));
        says = says3 T E t root key v0 c.index_page_count-count.result n.count n.all n.most n.some small c.requires.may.act.sound c.requires.may.act.named c.requires.may.absent long c.requires.may.act.alive front c.requires.may.front_is c.requires.may.slot c.requires.may.says top.level top.pairs.items read c.requires.level c.requires.pairs c.requires.full c.if-top-eq-LEVEL_MAX.false (c.if-not-are_pages_left.ensures.0 refl) v2 looks left.number right.number left.front right.front one other v3 (acts (Ok tt) c.in_ok-grow_root.ensures.acts);
      };
      read = subst (λ (sh : Shape). IsRead sh half.result.page half.result.level half.result.pairs.items) (sym shape3) (read_half v0.store.shape top.level root.page half.result.page half.result.level top.pairs.items half.result.pairs.items read half_is half.ensures.level);
      some = λ inner. half_is.many;
      room = half_is.few;
      reached = reached3 T E t root key v0 c.index_page_count-count.result n.count n.all n.most n.some small c.requires.may.act.sound c.requires.may.act.named c.requires.may.absent long c.requires.may.act.alive front c.requires.may.front_is c.requires.may.slot c.requires.may.says top.level top.pairs.items read c.requires.level c.requires.pairs c.requires.full c.if-top-eq-LEVEL_MAX.false (c.if-not-are_pages_left.ensures.0 refl) v2 looks left.number right.number left.front right.front one other v3 (acts (Ok tt) c.in_ok-grow_root.ensures.acts) half.result.page half.result.pairs.items half.ensures.page half.ensures.pairs half.result.level half.ensures.level;
    }

pub returns-clause-inserts : goal.returns-clause-inserts
returns-clause-inserts g c =
    let T = g.S.EawStore.tells in
    let V = g.S.EawStore.view in
    let E = g.S.EawStore.opens in
    let t = c.args.change.tid in
    let root = c.args.change.root in
    let key = c.args.change.key in
    let v0 = pages_of (V c.args.pages.now.store) c.args.pages.now in
    let n = c.index_page_count-count.ensures in
    let front = c.args.front in
    let top = c.args.top in
    let small : c.args.change.key < 2 ^ 64 = omega arith in
    let long = λ (told : IsTrue g.S.EawStore.tells). g.met.S.EawStore.long c.args.pages.now.store told in
    let read = subst (λ (p : ℕ). IsRead (g.S.EawStore.view c.args.pages.now.store).shape p c.args.top.level c.args.top.pairs.items) c.requires.page c.requires.read in
    let v1 = pages_of (V c.take_page.new.pages.store) c.take_page.new.pages in
    let left = c.in_ok-left.left in
    let v2 = pages_of (V c.take_page-2.new.pages.store) c.take_page-2.new.pages in
    let right = c.in_ok-right.right in
    let looks = looks_next T E false v0 v1 v2 c.in_ok-left.ensures.looks c.in_ok-right.ensures.looks in
    let one = λ (told : IsTrue g.S.EawStore.tells). subst (λ (st : State). TakesPage st.bytes c.args.front c.in_ok-left.left.number c.in_ok-left.left.front) (sym ((c.in_ok-left.ensures.looks.still refl).state told) ∙ sym ((c.in_ok-right.ensures.looks.still refl).state told)) (c.in_ok-left.ensures.takes told) in
    let other = λ (told : IsTrue g.S.EawStore.tells). subst (λ (st : State). TakesPage st.bytes c.in_ok-left.left.front c.in_ok-right.right.number c.in_ok-right.right.front) (sym ((c.in_ok-right.ensures.looks.still refl).state told)) (c.in_ok-right.ensures.takes told) in
    let v3 = pages_of (V c.grow_root.new.pages.store) c.grow_root.new.pages in
    let acts = λ (r : Result (Unit {0}) PageFault) (a : Acts g.S.EawStore.tells (g.S.EawStore.opens (g.S.EawStore.view c.take_page-2.new.pages.store).shape) c.args.change.tid (growing_pages c.in_ok-left.left.number c.in_ok-right.right.number c.args.top.page) (growing_parts c.in_ok-right.right.front c.in_ok-left.left.number c.in_ok-right.right.number c.args.top.page c.args.top.level c.args.top.pairs.items c.args.change.key)
    (pages_of (g.S.EawStore.view c.take_page-2.new.pages.store) c.take_page-2.new.pages) (pages_of (g.S.EawStore.view c.grow_root.new.pages.store) c.grow_root.new.pages) r).
    subst (λ (p : ℕ). Acts g.S.EawStore.tells (g.S.EawStore.opens (g.S.EawStore.view c.take_page-2.new.pages.store).shape) c.args.change.tid (growing_pages c.in_ok-left.left.number c.in_ok-right.right.number p) (growing_parts c.in_ok-right.right.front c.in_ok-left.left.number c.in_ok-right.right.number p c.args.top.level c.args.top.pairs.items c.args.change.key)
    (pages_of (g.S.EawStore.view c.take_page-2.new.pages.store) c.take_page-2.new.pages) (pages_of (g.S.EawStore.view c.grow_root.new.pages.store) c.grow_root.new.pages) r) c.requires.page a in
    let half = c.half_of-half in
    let v4 = pages_of (V c.insert_below.new.pages.store) c.insert_below.new.pages in
    grown_then T E t root key v0 c.index_page_count-count.result n.count n.all n.most n.some small c.requires.may.act.sound c.requires.may.act.named c.requires.may.absent long c.requires.may.act.alive front c.requires.may.front_is c.requires.may.slot c.requires.may.says top.level top.pairs.items read c.requires.level c.requires.pairs c.requires.full c.if-top-eq-LEVEL_MAX.false (c.if-not-are_pages_left.ensures.0 refl) v2 looks left.number right.number left.front right.front one other v3 (acts (Ok tt) c.in_ok-grow_root.ensures.acts) half.result.page half.result.pairs.items half.ensures.page half.ensures.pairs half.result.level half.ensures.level v4 c.insert_below.result c.insert_below.ensures.inserts

pub returns-clause-dead : goal.returns-clause-dead
returns-clause-dead g c =
    λ told. absurd (c.insert_below.ensures.dead told)

pub returns-then-top-eq-LEVEL_MAX-clause-works : goal.returns-then-top-eq-LEVEL_MAX-clause-works
returns-then-top-eq-LEVEL_MAX-clause-works g c =
    let T = g.S.EawStore.tells in
    let V = g.S.EawStore.view in
    let E = g.S.EawStore.opens in
    let t = c.args.change.tid in
    let root = c.args.change.root in
    let key = c.args.change.key in
    let v0 = pages_of (V c.args.pages.now.store) c.args.pages.now in
    let n = c.index_page_count-count.ensures in
    let front = c.args.front in
    let top = c.args.top in
    let small : c.args.change.key < 2 ^ 64 = omega arith in
    let long = λ (told : IsTrue g.S.EawStore.tells). g.met.S.EawStore.long c.args.pages.now.store told in
    let read = subst (λ (p : ℕ). IsRead (g.S.EawStore.view c.args.pages.now.store).shape p c.args.top.level c.args.top.pairs.items) c.requires.page c.requires.read in
    works_none T V g.S.EawStore.calls t key root.page top.level top.pairs.items (tree_actions v0.store.state.bytes root.page key) c.args.pages.now.store (index.PagesFull (c.index_page_count-count.result - 1)) refl

pub returns-then-not-are_pages_left-clause-works : goal.returns-then-not-are_pages_left-clause-works
returns-then-not-are_pages_left-clause-works g c =
    let T = g.S.EawStore.tells in
    let V = g.S.EawStore.view in
    let E = g.S.EawStore.opens in
    let t = c.args.change.tid in
    let root = c.args.change.root in
    let key = c.args.change.key in
    let v0 = pages_of (V c.args.pages.now.store) c.args.pages.now in
    let n = c.index_page_count-count.ensures in
    let front = c.args.front in
    let top = c.args.top in
    let small : c.args.change.key < 2 ^ 64 = omega arith in
    let long = λ (told : IsTrue g.S.EawStore.tells). g.met.S.EawStore.long c.args.pages.now.store told in
    let read = subst (λ (p : ℕ). IsRead (g.S.EawStore.view c.args.pages.now.store).shape p c.args.top.level c.args.top.pairs.items) c.requires.page c.requires.read in
    works_none T V g.S.EawStore.calls t key root.page top.level top.pairs.items (tree_actions v0.store.state.bytes root.page key) c.args.pages.now.store (index.PagesFull (c.index_page_count-count.result - 1)) refl

pub returns-in_err-left-clause-works : goal.returns-in_err-left-clause-works
returns-in_err-left-clause-works g c =
    let exit = err_from_is_err_and c.from_residual.result c.from_residual.ensures.1 in
    rw (exit.1) (
    let T = g.S.EawStore.tells in
    let V = g.S.EawStore.view in
    let E = g.S.EawStore.opens in
    let t = c.args.change.tid in
    let root = c.args.change.root in
    let key = c.args.change.key in
    let v0 = pages_of (V c.args.pages.now.store) c.args.pages.now in
    let n = c.index_page_count-count.ensures in
    let front = c.args.front in
    let top = c.args.top in
    let small : c.args.change.key < 2 ^ 64 = omega arith in
    let long = λ (told : IsTrue g.S.EawStore.tells). g.met.S.EawStore.long c.args.pages.now.store told in
    let read = subst (λ (p : ℕ). IsRead (g.S.EawStore.view c.args.pages.now.store).shape p c.args.top.level c.args.top.pairs.items) c.requires.page c.requires.read in
    let v1 = pages_of (V c.take_page.new.pages.store) c.take_page.new.pages in
    subst (λ (f : IndexFault). (let r : Result ℕ IndexFault = Err f in WorksFrom (0 ∷ root.page ∷ []) (IsTrue T) T (is_done r) V g.S.EawStore.calls t (below key top.level top.pairs.items) (limits_above top.level) (tree_actions v0.store.state.bytes root.page key) (blamed_index r) v0.store v1.store)) (sym exit.2)
    (works_first_err T V g.S.EawStore.calls t key root.page top.level top.pairs.items (tree_actions v0.store.state.bytes root.page key) c.args.pages.now.store Claim c.take_page.new.pages.store c.in_err-left.field-0.0 c.in_err-left.ensures.peeks))

pub returns-in_err-right-clause-works : goal.returns-in_err-right-clause-works
returns-in_err-right-clause-works g c =
    let exit = err_from_is_err_and c.from_residual-in_err-right.result c.from_residual-in_err-right.ensures.1 in
    rw (exit.1) (
    let T = g.S.EawStore.tells in
    let V = g.S.EawStore.view in
    let E = g.S.EawStore.opens in
    let t = c.args.change.tid in
    let root = c.args.change.root in
    let key = c.args.change.key in
    let v0 = pages_of (V c.args.pages.now.store) c.args.pages.now in
    let n = c.index_page_count-count.ensures in
    let front = c.args.front in
    let top = c.args.top in
    let small : c.args.change.key < 2 ^ 64 = omega arith in
    let long = λ (told : IsTrue g.S.EawStore.tells). g.met.S.EawStore.long c.args.pages.now.store told in
    let read = subst (λ (p : ℕ). IsRead (g.S.EawStore.view c.args.pages.now.store).shape p c.args.top.level c.args.top.pairs.items) c.requires.page c.requires.read in
    let v1 = pages_of (V c.take_page.new.pages.store) c.take_page.new.pages in
    let left = c.in_ok-left.left in
    let v2 = pages_of (V c.take_page-2.new.pages.store) c.take_page-2.new.pages in
    subst (λ (f : IndexFault). (let r : Result ℕ IndexFault = Err f in WorksFrom (0 ∷ root.page ∷ []) (IsTrue T) T (is_done r) V g.S.EawStore.calls t (below key top.level top.pairs.items) (limits_above top.level) (tree_actions v0.store.state.bytes root.page key) (blamed_index r) v0.store v2.store)) (sym exit.2)
    (works_second_err T V g.S.EawStore.calls t key root.page top.level top.pairs.items (tree_actions v0.store.state.bytes root.page key) c.args.pages.now.store Claim c.take_page.new.pages.store left c.in_ok-left.ensures.peeks c.in_ok-left.ensures.looks.shape (takes_two T E t root key v0 c.index_page_count-count.result n.count n.all n.most n.some small c.requires.may.act.sound c.requires.may.act.named c.requires.may.absent long c.requires.may.act.alive front c.requires.may.front_is c.requires.may.slot c.requires.may.says top.level top.pairs.items read c.requires.level c.requires.pairs c.requires.full c.if-top-eq-LEVEL_MAX.false) c.take_page-2.new.pages.store c.in_err-right.field-0.0 c.in_err-right.ensures.peeks))

pub returns-in_err-grow_root-clause-works : goal.returns-in_err-grow_root-clause-works
returns-in_err-grow_root-clause-works g c =
    let exit = err_from_is_err_and c.from_residual-in_err-grow_root.result c.from_residual-in_err-grow_root.ensures.1 in
    rw (exit.1) (
    let T = g.S.EawStore.tells in
    let V = g.S.EawStore.view in
    let E = g.S.EawStore.opens in
    let t = c.args.change.tid in
    let root = c.args.change.root in
    let key = c.args.change.key in
    let v0 = pages_of (V c.args.pages.now.store) c.args.pages.now in
    let n = c.index_page_count-count.ensures in
    let front = c.args.front in
    let top = c.args.top in
    let small : c.args.change.key < 2 ^ 64 = omega arith in
    let long = λ (told : IsTrue g.S.EawStore.tells). g.met.S.EawStore.long c.args.pages.now.store told in
    let read = subst (λ (p : ℕ). IsRead (g.S.EawStore.view c.args.pages.now.store).shape p c.args.top.level c.args.top.pairs.items) c.requires.page c.requires.read in
    let v1 = pages_of (V c.take_page.new.pages.store) c.take_page.new.pages in
    let left = c.in_ok-left.left in
    let v2 = pages_of (V c.take_page-2.new.pages.store) c.take_page-2.new.pages in
    let right = c.in_ok-right.right in
    let looks = looks_next T E false v0 v1 v2 c.in_ok-left.ensures.looks c.in_ok-right.ensures.looks in
    let one = λ (told : IsTrue g.S.EawStore.tells). subst (λ (st : State). TakesPage st.bytes c.args.front c.in_ok-left.left.number c.in_ok-left.left.front) (sym ((c.in_ok-left.ensures.looks.still refl).state told) ∙ sym ((c.in_ok-right.ensures.looks.still refl).state told)) (c.in_ok-left.ensures.takes told) in
    let other = λ (told : IsTrue g.S.EawStore.tells). subst (λ (st : State). TakesPage st.bytes c.in_ok-left.left.front c.in_ok-right.right.number c.in_ok-right.right.front) (sym ((c.in_ok-right.ensures.looks.still refl).state told)) (c.in_ok-right.ensures.takes told) in
    let v3 = pages_of (V c.grow_root.new.pages.store) c.grow_root.new.pages in
    let acts = λ (r : Result (Unit {0}) PageFault) (a : Acts g.S.EawStore.tells (g.S.EawStore.opens (g.S.EawStore.view c.take_page-2.new.pages.store).shape) c.args.change.tid (growing_pages c.in_ok-left.left.number c.in_ok-right.right.number c.args.top.page) (growing_parts c.in_ok-right.right.front c.in_ok-left.left.number c.in_ok-right.right.number c.args.top.page c.args.top.level c.args.top.pairs.items c.args.change.key)
    (pages_of (g.S.EawStore.view c.take_page-2.new.pages.store) c.take_page-2.new.pages) (pages_of (g.S.EawStore.view c.grow_root.new.pages.store) c.grow_root.new.pages) r).
    subst (λ (p : ℕ). Acts g.S.EawStore.tells (g.S.EawStore.opens (g.S.EawStore.view c.take_page-2.new.pages.store).shape) c.args.change.tid (growing_pages c.in_ok-left.left.number c.in_ok-right.right.number p) (growing_parts c.in_ok-right.right.front c.in_ok-left.left.number c.in_ok-right.right.number p c.args.top.level c.args.top.pairs.items c.args.change.key)
    (pages_of (g.S.EawStore.view c.take_page-2.new.pages.store) c.take_page-2.new.pages) (pages_of (g.S.EawStore.view c.grow_root.new.pages.store) c.grow_root.new.pages) r) c.requires.page a in
    let runs = λ (r : Result (Unit {0}) PageFault) (a : Runs T V g.S.EawStore.calls (acting_of c.args.change.tid (log_len (V c.take_page-2.new.pages.store) c.args.change.tid) (growing_parts c.in_ok-right.right.front c.in_ok-left.left.number c.in_ok-right.right.number c.args.top.page c.args.top.level c.args.top.pairs.items c.args.change.key)) (V c.take_page-2.new.pages.store) (V c.grow_root.new.pages.store) r).
    subst (λ (p : ℕ). Runs T V g.S.EawStore.calls (acting_of c.args.change.tid (log_len (V c.take_page-2.new.pages.store) c.args.change.tid) (growing_parts c.in_ok-right.right.front c.in_ok-left.left.number c.in_ok-right.right.number p c.args.top.level c.args.top.pairs.items c.args.change.key)) (V c.take_page-2.new.pages.store) (V c.grow_root.new.pages.store) r) c.requires.page a in
    subst (λ (f : IndexFault). (let r : Result ℕ IndexFault = Err f in WorksFrom (0 ∷ root.page ∷ []) (IsTrue T) T (is_done r) V g.S.EawStore.calls t (below key top.level top.pairs.items) (limits_above top.level) (tree_actions v0.store.state.bytes root.page key) (blamed_index r) v0.store v3.store)) (sym exit.2)
    (works_grow_err T V g.S.EawStore.calls t key root.page top.level top.pairs.items (tree_actions v0.store.state.bytes root.page key) c.args.pages.now.store Claim c.take_page.new.pages.store left c.in_ok-left.ensures.peeks c.in_ok-left.ensures.looks.shape (takes_two T E t root key v0 c.index_page_count-count.result n.count n.all n.most n.some small c.requires.may.act.sound c.requires.may.act.named c.requires.may.absent long c.requires.may.act.alive front c.requires.may.front_is c.requires.may.slot c.requires.may.says top.level top.pairs.items read c.requires.level c.requires.pairs c.requires.full c.if-top-eq-LEVEL_MAX.false) c.grow_root.new.pages.store c.take_page-2.new.pages right c.in_ok-right.ensures.peeks (record { pages = growing_pages left.number right.number root.page; takes = 2 })
    (acting_of t (log_len v2.store t) (growing_parts right.front left.number right.number root.page top.level top.pairs.items key))
    (log_len v2.store t, growing_parts right.front left.number right.number root.page top.level top.pairs.items key, refl, growing_in right.front left.number right.number root.page top.level top.pairs.items key) refl c.in_err-grow_root.field-0.0 (runs (Err c.in_err-grow_root.field-0.0) c.in_err-grow_root.ensures.runs)
    (blamed_same ℕ (Unit {0}) c.in_err-grow_root.field-0.0 ∙ act_blames (Unit {0}) v2.store t (growing_pages left.number right.number top.page) c.in_err-grow_root.field-0.0 c.in_err-grow_root.ensures.acts.cause)
    (actions_below (level_of v2.store.state.bytes root.page) v2.store.state.bytes root.page (half_for (page_pairs v2.store.state.bytes root.page) (page_due v2.store.state.bytes 0) (page_due v2.store.state.bytes 1) key) 2 key)
    (root_due T E t root key v0 c.index_page_count-count.result n.count n.all n.most n.some small c.requires.may.act.sound c.requires.may.act.named c.requires.may.absent long c.requires.may.act.alive front c.requires.may.front_is c.requires.may.slot c.requires.may.says top.level top.pairs.items read c.requires.level c.requires.pairs c.requires.full c.if-top-eq-LEVEL_MAX.false (c.if-not-are_pages_left.ensures.0 refl) v2 looks left.number right.number left.front right.front one other)))

pub returns-clause-works : goal.returns-clause-works
returns-clause-works g c =
    let T = g.S.EawStore.tells in
    let V = g.S.EawStore.view in
    let E = g.S.EawStore.opens in
    let t = c.args.change.tid in
    let root = c.args.change.root in
    let key = c.args.change.key in
    let v0 = pages_of (V c.args.pages.now.store) c.args.pages.now in
    let n = c.index_page_count-count.ensures in
    let front = c.args.front in
    let top = c.args.top in
    let small : c.args.change.key < 2 ^ 64 = omega arith in
    let long = λ (told : IsTrue g.S.EawStore.tells). g.met.S.EawStore.long c.args.pages.now.store told in
    let read = subst (λ (p : ℕ). IsRead (g.S.EawStore.view c.args.pages.now.store).shape p c.args.top.level c.args.top.pairs.items) c.requires.page c.requires.read in
    let v1 = pages_of (V c.take_page.new.pages.store) c.take_page.new.pages in
    let left = c.in_ok-left.left in
    let v2 = pages_of (V c.take_page-2.new.pages.store) c.take_page-2.new.pages in
    let right = c.in_ok-right.right in
    let looks = looks_next T E false v0 v1 v2 c.in_ok-left.ensures.looks c.in_ok-right.ensures.looks in
    let one = λ (told : IsTrue g.S.EawStore.tells). subst (λ (st : State). TakesPage st.bytes c.args.front c.in_ok-left.left.number c.in_ok-left.left.front) (sym ((c.in_ok-left.ensures.looks.still refl).state told) ∙ sym ((c.in_ok-right.ensures.looks.still refl).state told)) (c.in_ok-left.ensures.takes told) in
    let other = λ (told : IsTrue g.S.EawStore.tells). subst (λ (st : State). TakesPage st.bytes c.in_ok-left.left.front c.in_ok-right.right.number c.in_ok-right.right.front) (sym ((c.in_ok-right.ensures.looks.still refl).state told)) (c.in_ok-right.ensures.takes told) in
    let v3 = pages_of (V c.grow_root.new.pages.store) c.grow_root.new.pages in
    let acts = λ (r : Result (Unit {0}) PageFault) (a : Acts g.S.EawStore.tells (g.S.EawStore.opens (g.S.EawStore.view c.take_page-2.new.pages.store).shape) c.args.change.tid (growing_pages c.in_ok-left.left.number c.in_ok-right.right.number c.args.top.page) (growing_parts c.in_ok-right.right.front c.in_ok-left.left.number c.in_ok-right.right.number c.args.top.page c.args.top.level c.args.top.pairs.items c.args.change.key)
    (pages_of (g.S.EawStore.view c.take_page-2.new.pages.store) c.take_page-2.new.pages) (pages_of (g.S.EawStore.view c.grow_root.new.pages.store) c.grow_root.new.pages) r).
    subst (λ (p : ℕ). Acts g.S.EawStore.tells (g.S.EawStore.opens (g.S.EawStore.view c.take_page-2.new.pages.store).shape) c.args.change.tid (growing_pages c.in_ok-left.left.number c.in_ok-right.right.number p) (growing_parts c.in_ok-right.right.front c.in_ok-left.left.number c.in_ok-right.right.number p c.args.top.level c.args.top.pairs.items c.args.change.key)
    (pages_of (g.S.EawStore.view c.take_page-2.new.pages.store) c.take_page-2.new.pages) (pages_of (g.S.EawStore.view c.grow_root.new.pages.store) c.grow_root.new.pages) r) c.requires.page a in
    let half = c.half_of-half in
    let v4 = pages_of (V c.insert_below.new.pages.store) c.insert_below.new.pages in
    let runs = λ (r : Result (Unit {0}) PageFault) (a : Runs T V g.S.EawStore.calls (acting_of c.args.change.tid (log_len (V c.take_page-2.new.pages.store) c.args.change.tid) (growing_parts c.in_ok-right.right.front c.in_ok-left.left.number c.in_ok-right.right.number c.args.top.page c.args.top.level c.args.top.pairs.items c.args.change.key)) (V c.take_page-2.new.pages.store) (V c.grow_root.new.pages.store) r).
    subst (λ (p : ℕ). Runs T V g.S.EawStore.calls (acting_of c.args.change.tid (log_len (V c.take_page-2.new.pages.store) c.args.change.tid) (growing_parts c.in_ok-right.right.front c.in_ok-left.left.number c.in_ok-right.right.number p c.args.top.level c.args.top.pairs.items c.args.change.key)) (V c.take_page-2.new.pages.store) (V c.grow_root.new.pages.store) r) c.requires.page a in
    works_grown T V g.S.EawStore.calls t key root.page top.level top.pairs.items (tree_actions v0.store.state.bytes root.page key) c.args.pages.now.store Claim c.take_page.new.pages.store left c.in_ok-left.ensures.peeks c.in_ok-left.ensures.looks.shape (takes_two T E t root key v0 c.index_page_count-count.result n.count n.all n.most n.some small c.requires.may.act.sound c.requires.may.act.named c.requires.may.absent long c.requires.may.act.alive front c.requires.may.front_is c.requires.may.slot c.requires.may.says top.level top.pairs.items read c.requires.level c.requires.pairs c.requires.full c.if-top-eq-LEVEL_MAX.false) c.grow_root.new.pages.store c.take_page-2.new.pages right c.in_ok-right.ensures.peeks (record { pages = growing_pages left.number right.number root.page; takes = 2 })
    (acting_of t (log_len v2.store t) (growing_parts right.front left.number right.number root.page top.level top.pairs.items key))
    (log_len v2.store t, growing_parts right.front left.number right.number root.page top.level top.pairs.items key, refl, growing_in right.front left.number right.number root.page top.level top.pairs.items key) refl (runs (Ok tt) c.in_ok-grow_root.ensures.runs) (c.in_ok-grow_root.ensures.acts.shape ∙ looks.shape) half.result.page half.result.level half.result.pairs.items
    (actions_below half.result.level v3.store.state.bytes half.result.page half.result.page 0 key) half.ensures.level
    (root_leads T E t root key v0 c.index_page_count-count.result n.count n.all n.most n.some small c.requires.may.act.sound c.requires.may.act.named c.requires.may.absent long c.requires.may.act.alive front c.requires.may.front_is c.requires.may.slot c.requires.may.says top.level top.pairs.items read c.requires.level c.requires.pairs c.requires.full c.if-top-eq-LEVEL_MAX.false (c.if-not-are_pages_left.ensures.0 refl) v2 looks left.number right.number left.front right.front one other v3 (acts (Ok tt) c.in_ok-grow_root.ensures.acts) half.result.page half.result.pairs.items half.ensures.page half.ensures.pairs) (root_half_among left.number right.number root.page key half.result.page top.pairs.items half.ensures.page)
    (root_rest T E t root key v0 c.index_page_count-count.result n.count n.all n.most n.some small c.requires.may.act.sound c.requires.may.act.named c.requires.may.absent long c.requires.may.act.alive front c.requires.may.front_is c.requires.may.slot c.requires.may.says top.level top.pairs.items read c.requires.level c.requires.pairs c.requires.full c.if-top-eq-LEVEL_MAX.false (c.if-not-are_pages_left.ensures.0 refl) v2 looks left.number right.number left.front right.front one other v3 (acts (Ok tt) c.in_ok-grow_root.ensures.acts) half.result.page half.result.pairs.items half.ensures.page half.ensures.pairs half.result.level half.ensures.level) c.insert_below.new.pages.store c.insert_below.result c.insert_below.ensures.works

pub returns-in_err-left-clause-left : goal.returns-in_err-left-clause-left
returns-in_err-left-clause-left g c =
    let exit = err_from_is_err_and c.from_residual.result c.from_residual.ensures.1 in
    rw (exit.1) (told_left c.in_err-left.field-0.0 exit.0 exit.2)

pub returns-in_err-right-clause-left : goal.returns-in_err-right-clause-left
returns-in_err-right-clause-left g c =
    let exit = err_from_is_err_and c.from_residual-in_err-right.result c.from_residual-in_err-right.ensures.1 in
    rw (exit.1) (told_left c.in_err-right.field-0.0 exit.0 exit.2)

pub returns-in_err-grow_root-clause-left : goal.returns-in_err-grow_root-clause-left
returns-in_err-grow_root-clause-left g c =
    let exit = err_from_is_err_and c.from_residual-in_err-grow_root.result c.from_residual-in_err-grow_root.ensures.1 in
    rw (exit.1) (told_left c.in_err-grow_root.field-0.0 exit.0 exit.2)

pub returns-clause-left : goal.returns-clause-left
returns-clause-left g c = c.insert_below.ensures.left
