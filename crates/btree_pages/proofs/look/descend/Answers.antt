use Rattle.std.proofs.Common.{◌≤◌}
use Rattle.btree_pages.proofs.Nexting.{no_error, not_damaged_page}
use Rattle.std.specs.Prelude.{◌||◌, nat_le, IfSome}
use Rattle.std.proofs.Common.{◌≡◌, ◌≢◌, ◌+◌, ◌-◌, ◌<◌, ℕ, false, List, Option, refl, sym, ◌∙◌, ap, subst, arith}
use Rattle.std.proofs.lemmas.Bool.{false≢true}
use Rattle.std.specs.Option.{option_or}
use Rattle.eaw_face.specs.State.{State}
use Rattle.eaw_face.specs.Causes.{IsAlive}
use Rattle.page_store.specs.Shown.{pages_of}
use Rattle.record_slots.specs.Places.{page_bytes}
use Rattle.index_pages.specs.Page.{level_said, level_of, count_said, pairs_said, page_pairs}
use Rattle.btree_pages.specs.Crowded.{is_crowded, is_full}
use Rattle.btree_pages.proofs.Crowds.{crowd_step, crowd_end, leaf_here, few_pairs, neither}
use Rattle.index_pages.proofs.Looking.{looks_none, looks_next}
use Rattle.index_pages.proofs.Sizes.{index_pages_are}
use Rattle.btree_laws.specs.Descent.{child_for}
use Rattle.btree_pages.specs.Leaf.{behind_in, bound_in, AtLeaf}
use Rattle.btree_pages.specs.Start.{IsStart, entry_of, key_of, start_behind}
use Rattle.btree_pages.specs.declared.look.Start.{Start}
use Rattle.btree_pages.proofs.Starting.{Lasts, entry_behind, entry_or, inside_behind, key_behind, key_or, lasts_first, lasts_later, lasts_next, less_entry, some_or, start_down, start_root, starts_behind}
use Rattle.page_store.specs.Pairs.{Pair}
use Rattle.record_slots.specs.Places.{next_page}
use Rattle.btree_pages.specs.Node.{IsNode}
use Rattle.index_pages.specs.declared.page.Head.{Head}
use Rattle.btree_pages.specs.declared.look.Leaf.{Leaf}
use Rattle.index_pages.proofs.Causing.{look_cause}
use Rattle.btree_pages.proofs.Descending.{Down, down_step, down_node, down_last}
use Rattle.btree_pages.specs.Trees.{whole_of, table_sound}
use Rattle.index_pages.proofs.Courses.{on_first, on_step, on_end, on_bad, on_err, on_out}
use Rattle.btree_pages.specs.Downward.{down, Descended}
use Rattle.btree_pages.proofs.Turning.{inner_leads, leaf_said}
use Rattle.std.proofs.lemmas.Result.{err_from_is_err_and}
use Rattle.btree_pages.proofs.look.descend.Goals as goal

pub loop-step-init : goal.loop-step-init
loop-step-init g c = record {
  inside = c.requires.may.inside;
  looks = looks_none g.S.EawStore.tells (g.S.EawStore.opens (g.S.EawStore.view c.args.pages.now.store).shape) (pages_of (g.S.EawStore.view c.args.pages.now.store) c.args.pages.now);
  alive = λ some. absurd (omega arith);
  dead = λ dead. refl;
  lasts = tt;
  on = (on_first g.S.EawStore.tells (g.S.EawStore.calls c.args.pages.now.store) (down c.args.start.page c.args.start.key) c.args.start.page c.args.start.page (g.S.EawStore.view c.args.pages.now.store) refl, refl);
  few = omega arith;
  crowd = λ told alive all. ap (λ (p : ℕ). is_crowded (g.S.EawStore.view c.args.pages.now.store).state.bytes p c.args.start.key) (sym (start_root c.args.root (g.S.EawStore.view c.args.pages.now.store).state.bytes c.args.start (c.requires.may.begins told alive) all));
  down = λ told alive.
      let r = start_down c.args.root (g.S.EawStore.view c.args.pages.now.store).state.bytes c.args.start (table_sound (g.S.EawStore.view c.args.pages.now.store).state.bytes c.args.root (c.requires.may.sound told alive) (c.requires.may.named told alive)) (omega arith) (c.requires.may.begins told alive) in
      (r.0, r.1, omega (arith, r.2), r.3, r.4);
  begins = λ told alive. tt;
}

pub returns-in_err-head-clause-cause : goal.returns-in_err-head-clause-cause
returns-in_err-head-clause-cause g c =
    let exit = err_from_is_err_and c.from_residual.result c.from_residual.ensures.1 in
    rw (exit.1, exit.2) (
    let view = g.S.EawStore.view c.args.pages.now.store in
    let mid = g.S.EawStore.view c.loop-step.pages.store in
    let still = c.loop-step.invariant.looks.still refl in
    look_cause Head Leaf g.S.EawStore.tells view mid (IsNode (page_bytes mid.state.bytes c.loop-step.page)) c.loop-step.page c.in_err-head.field-0.0 still
    (λ told alive. subst (λ (s : State). IsNode (page_bytes s.bytes c.loop-step.page)) (sym (still.state told))
    (let d = c.loop-step.invariant.down told alive in down_node c.args.root view.state.bytes c.args.start.key d.0 c.loop-step.page d.1 d.4))
    c.in_err-head.ensures.cause)

pub returns-then-head-eq0-clause-leaf : goal.returns-then-head-eq0-clause-leaf
returns-then-head-eq0-clause-leaf g c = λ told.
    let view = g.S.EawStore.view c.args.pages.now.store in
    let still = c.loop-step.invariant.looks.still refl in
    let alive : IsAlive view = sym still.dead ∙ c.in_ok-head.ensures.cause in
    let buf = c.in_ok-head.ensures.bytes told ∙ ap (λ (s : State). page_bytes s.bytes c.loop-step.page) (still.state told) in
    let level : level_of view.state.bytes c.loop-step.page ≡ 0 = sym (ap level_said buf) ∙ sym c.in_ok-head.ensures.head.level ∙ c.if-head-eq0.true in
    let d = c.loop-step.invariant.down told alive in
    (d.1, subst (λ (b : List ℕ). AtLeaf c.args.root view.state.bytes c.args.start.key d.1 b) (sym buf) (down_last c.args.root view.state.bytes c.args.start.key d.0 c.loop-step.page d.1 d.4 level), d.3)

pub returns-then-not-are_inside-clause-cause : goal.returns-then-not-are_inside-clause-cause
returns-then-not-are_inside-clause-cause g c =
    let view = g.S.EawStore.view c.args.pages.now.store in
    let still = c.loop-step.invariant.looks.still refl in
    let alive : IsAlive view = sym still.dead ∙ c.in_ok-head.ensures.cause in (
      alive,
      λ told.
          let bytes = view.state.bytes in
          let buf = c.in_ok-head.ensures.bytes told ∙ ap (λ (s : State). page_bytes s.bytes c.loop-step.page) (still.state told) in
          let inner : level_of bytes c.loop-step.page ≢ 0 = λ e. c.if-head-eq0.false (c.in_ok-head.ensures.head.level ∙ ap level_said buf ∙ e) in
          let child : c.child_in-child.result.0 ≡ child_for (page_pairs bytes c.loop-step.page) c.args.start.key = c.child_in-child.ensures.child ∙ ap (λ (b : List ℕ). child_for (pairs_said b) c.args.start.key) buf in
          let entry : c.child_in-child.result.1 ≡ behind_in (page_pairs bytes c.loop-step.page) c.args.start.key = c.child_in-child.ensures.behind ∙ ap (λ (b : List ℕ). behind_in (pairs_said b) c.args.start.key) buf in
          let d = c.loop-step.invariant.down told alive in
          let next = down_step c.args.root bytes c.args.start.key d.0 c.loop-step.page d.1 d.4 inner in
          let given : next_page bytes ≤ c.index_page_count-count.result = omega (arith, (whole_of bytes (c.requires.may.sound told alive)).front.pages, index_pages_are view.shape bytes (g.met.S.EawStore.long c.args.pages.now.store told), c.index_page_count-count.ensures.count) in
          let less : c.child_in-child.result.0 < c.index_page_count-count.result = omega (arith, next.inside, child, given) in
          false≢true (c.if-not-are_inside.ensures.1 (less, less_entry (next_page bytes) c.index_page_count-count.result c.child_in-child.result.1 given (inside_behind c.args.root bytes c.args.start.key d.0 c.loop-step.page 0 d.1 d.4 inner c.child_in-child.result.1 entry))),
    )

pub loop-step-preserved : goal.loop-step-preserved
loop-step-preserved g c =
    let view = g.S.EawStore.view c.args.pages.now.store in
    let still = c.loop-step.invariant.looks.still refl in
    let looks = looks_next g.S.EawStore.tells g.S.EawStore.opens false (pages_of view c.args.pages.now) (pages_of (g.S.EawStore.view c.loop-step.pages.store) c.loop-step.pages)
    (pages_of (g.S.EawStore.view c.read_node.new.pages.store) c.read_node.new.pages) c.loop-step.invariant.looks c.in_ok-head.ensures.looks in
    let alive : IsAlive view = sym still.dead ∙ c.in_ok-head.ensures.cause in
    let alive' : IsAlive (g.S.EawStore.view c.read_node.new.pages.store) = (looks.still refl).dead ∙ alive in
    let inside = c.if-not-are_inside.ensures.0 refl in
    let many : ℕ = c.args.start.most - 1 - c.loop-step.step in
    let which : c.or-behind.result ≡ option_or (start_behind many c.child_in-child.result.1) c.loop-step.behind = c.or-behind.ensures ∙ ap (λ (o : Option Start). option_or o c.loop-step.behind) c.at_entry.ensures in
    record {
      inside = omega (arith, inside.0, c.index_page_count-count.ensures.count);
      looks = looks;
      alive = λ some. alive';
      dead = λ dead. absurd (false≢true (sym alive' ∙ dead));
      lasts = subst (λ (o : Option Start). IfSome o (Lasts view.shape c.args.start (c.loop-step.step + 1))) (sym which)
          (some_or (Lasts view.shape c.args.start (c.loop-step.step + 1)) (start_behind (c.args.start.most - 1 - c.loop-step.step) c.child_in-child.result.1) c.loop-step.behind
          (lasts_first view.shape c.args.start c.loop-step.step (c.args.start.most - 1 - c.loop-step.step) c.child_in-child.result.1 c.index_page_count-count.result (omega (arith, c.index_page_count-count.ensures.count)) inside.1 c.child_in-child.ensures.above (omega (arith, c.loop-step-test.true)))
          (lasts_next view.shape c.args.start c.loop-step.step c.loop-step.behind c.loop-step.invariant.lasts));
      on = (
        on_step g.S.EawStore.tells (g.S.EawStore.calls c.args.pages.now.store) (g.S.EawStore.calls c.loop-step.pages.store) (g.S.EawStore.calls c.read_node.new.pages.store)
            (down c.args.start.page c.args.start.key) c.loop-step.step c.loop-step.page c.loop-step.last view (g.S.EawStore.view c.loop-step.pages.store) (g.S.EawStore.view c.read_node.new.pages.store)
            (c.loop-step.invariant.looks.still refl) c.loop-step.invariant.looks.shape c.loop-step.invariant.on.0
            c.read_node.new.bytes c.child_in-child.result.0 c.in_ok-head.ensures.reads
            (inner_leads c.args.start.page c.args.start.key c.loop-step.page c.read_node.new.bytes c.in_ok-head.head.level c.child_in-child.result.0 c.in_ok-head.ensures.head.level c.if-head-eq0.false c.child_in-child.ensures.child),
        ap entry_of which ∙ entry_or (start_behind (c.args.start.most - 1 - c.loop-step.step) c.child_in-child.result.1) c.loop-step.behind
            ∙ ap (λ (o : Option Pair). option_or o (entry_of c.loop-step.behind)) (entry_behind (c.args.start.most - 1 - c.loop-step.step) c.child_in-child.result.1 ∙ c.child_in-child.ensures.behind)
            ∙ ap (λ (o : Option Pair). option_or (behind_in (pairs_said c.read_node.new.bytes) c.args.start.key) o) c.loop-step.invariant.on.1,
      );
      few = omega (arith, c.loop-step-test.true);
      crowd = λ told living all.
          let bytes = view.state.bytes in
          let buf = c.in_ok-head.ensures.bytes told ∙ ap (λ (s : State). page_bytes s.bytes c.loop-step.page) (still.state told) in
          let inner : level_of bytes c.loop-step.page ≢ 0 = λ e. c.if-head-eq0.false (c.in_ok-head.ensures.head.level ∙ ap level_said buf ∙ e) in
          let child : c.child_in-child.result.0 ≡ child_for (page_pairs bytes c.loop-step.page) c.args.start.key = c.child_in-child.ensures.child ∙ ap (λ (b : List ℕ). child_for (pairs_said b) c.args.start.key) buf in
          let full : c.or_full-full.result ≡ (c.loop-step.full || is_full bytes c.loop-step.page) = c.or_full-full.ensures ∙ ap (λ (n : ℕ). c.loop-step.full || nat_le 30 n) (c.in_ok-head.ensures.head.count ∙ ap count_said buf) in
          let d = c.loop-step.invariant.down told living in
          crowd_step c.args.root bytes c.args.start.key d.0 c.loop-step.page d.1 d.4 c.loop-step.full (c.loop-step.invariant.crowd told living all) inner c.or_full-full.result full c.child_in-child.result.0 child;
      down = λ told living.
          let bytes = view.state.bytes in
          let buf = c.in_ok-head.ensures.bytes told ∙ ap (λ (s : State). page_bytes s.bytes c.loop-step.page) (still.state told) in
          let inner : level_of bytes c.loop-step.page ≢ 0 = λ e. c.if-head-eq0.false (c.in_ok-head.ensures.head.level ∙ ap level_said buf ∙ e) in
          let child : c.child_in-child.result.0 ≡ child_for (page_pairs bytes c.loop-step.page) c.args.start.key = c.child_in-child.ensures.child ∙ ap (λ (b : List ℕ). child_for (pairs_said b) c.args.start.key) buf in
          let entry : c.child_in-child.result.1 ≡ behind_in (page_pairs bytes c.loop-step.page) c.args.start.key = c.child_in-child.ensures.behind ∙ ap (λ (b : List ℕ). behind_in (pairs_said b) c.args.start.key) buf in
          let d = c.loop-step.invariant.down told living in
          let next = down_step c.args.root bytes c.args.start.key d.0 c.loop-step.page d.1 d.4 inner in (
            d.0 + 1,
            option_or (bound_in (page_pairs bytes c.loop-step.page) c.args.start.key) d.1,
            omega (arith, d.2),
            λ all.
                ap (λ (o : Option ℕ). option_or (bound_in (page_pairs bytes c.loop-step.page) c.args.start.key) o) (d.3 all)
                ∙ ap (λ (o : Option ℕ). option_or o (key_of c.loop-step.behind)) (sym (key_behind (c.args.start.most - 1 - c.loop-step.step) (page_pairs bytes c.loop-step.page) c.args.start.key c.child_in-child.result.1 entry))
                ∙ sym (ap key_of which ∙ key_or (start_behind (c.args.start.most - 1 - c.loop-step.step) c.child_in-child.result.1) c.loop-step.behind),
            subst (λ (p : ℕ). Down c.args.root bytes c.args.start.key (d.0 + 1) p (option_or (bound_in (page_pairs bytes c.loop-step.page) c.args.start.key) d.1)) (sym child) next,
          );
      begins = λ told living.
          let bytes = view.state.bytes in
          let buf = c.in_ok-head.ensures.bytes told ∙ ap (λ (s : State). page_bytes s.bytes c.loop-step.page) (still.state told) in
          let inner : level_of bytes c.loop-step.page ≢ 0 = λ e. c.if-head-eq0.false (c.in_ok-head.ensures.head.level ∙ ap level_said buf ∙ e) in
          let entry : c.child_in-child.result.1 ≡ behind_in (page_pairs bytes c.loop-step.page) c.args.start.key = c.child_in-child.ensures.behind ∙ ap (λ (b : List ℕ). behind_in (pairs_said b) c.args.start.key) buf in
          let d = c.loop-step.invariant.down told living in
          subst (λ (o : Option Start). IfSome o (IsStart c.args.root bytes)) (sym which)
          (some_or (IsStart c.args.root bytes) (start_behind (c.args.start.most - 1 - c.loop-step.step) c.child_in-child.result.1) c.loop-step.behind
          (starts_behind c.args.root bytes c.args.start.key d.0 c.loop-step.page (c.args.start.most - 1 - c.loop-step.step) d.1 d.4 inner c.child_in-child.result.1 entry (omega (arith, d.2, c.loop-step-test.true)))
          (c.loop-step.invariant.begins told living));
    }

pub returns-in_err-head-clause-looks : goal.returns-in_err-head-clause-looks
returns-in_err-head-clause-looks g c =
    let exit = err_from_is_err_and c.from_residual.result c.from_residual.ensures.1 in
    rw (exit.1, exit.2) (looks_next g.S.EawStore.tells g.S.EawStore.opens _ (pages_of (g.S.EawStore.view c.args.pages.now.store) c.args.pages.now) (pages_of (g.S.EawStore.view c.loop-step.pages.store) c.loop-step.pages) (pages_of (g.S.EawStore.view c.read_node.new.pages.store) c.read_node.new.pages) c.loop-step.invariant.looks c.in_err-head.ensures.looks)

pub returns-then-head-eq0-clause-looks : goal.returns-then-head-eq0-clause-looks
returns-then-head-eq0-clause-looks g c = looks_next g.S.EawStore.tells g.S.EawStore.opens _ (pages_of (g.S.EawStore.view c.args.pages.now.store) c.args.pages.now) (pages_of (g.S.EawStore.view c.loop-step.pages.store) c.loop-step.pages) (pages_of (g.S.EawStore.view c.read_node.new.pages.store) c.read_node.new.pages) c.loop-step.invariant.looks c.in_ok-head.ensures.looks

pub returns-then-head-eq0-clause-cause : goal.returns-then-head-eq0-clause-cause
returns-then-head-eq0-clause-cause g c = sym (c.loop-step.invariant.looks.still refl).dead ∙ c.in_ok-head.ensures.cause

pub returns-then-head-eq0-clause-count : goal.returns-then-head-eq0-clause-count
returns-then-head-eq0-clause-count g c = c.in_ok-head.ensures.head.count

pub returns-then-head-eq0-clause-most : goal.returns-then-head-eq0-clause-most
returns-then-head-eq0-clause-most g c = subst (λ (n : ℕ). n ≤ 30) (sym c.in_ok-head.ensures.head.count) c.in_ok-head.ensures.head.node.most

pub returns-then-head-eq0-clause-dead : goal.returns-then-head-eq0-clause-dead
returns-then-head-eq0-clause-dead g c = λ told. no_error _ _ told

pub child_in-child-requires-clause-count : goal.child_in-child-requires-clause-count
child_in-child-requires-clause-count g c = c.in_ok-head.ensures.head.count

pub child_in-child-requires-clause-most : goal.child_in-child-requires-clause-most
child_in-child-requires-clause-most g c = subst (λ (n : ℕ). n ≤ 30) (sym c.in_ok-head.ensures.head.count) c.in_ok-head.ensures.head.node.most

pub returns-then-not-are_inside-clause-looks : goal.returns-then-not-are_inside-clause-looks
returns-then-not-are_inside-clause-looks g c = looks_next g.S.EawStore.tells g.S.EawStore.opens _ (pages_of (g.S.EawStore.view c.args.pages.now.store) c.args.pages.now) (pages_of (g.S.EawStore.view c.loop-step.pages.store) c.loop-step.pages) (pages_of (g.S.EawStore.view c.read_node.new.pages.store) c.read_node.new.pages) c.loop-step.invariant.looks c.in_ok-head.ensures.looks

pub returns-then-not-are_inside-clause-dead : goal.returns-then-not-are_inside-clause-dead
returns-then-not-are_inside-clause-dead g c = λ told. not_damaged_page _ told

pub returns-clause-looks : goal.returns-clause-looks
returns-clause-looks g c = c.loop-step.invariant.looks

pub returns-clause-dead : goal.returns-clause-dead
returns-clause-dead g c = λ told. not_damaged_page _ told

pub returns-then-head-eq0-clause-behind : goal.returns-then-head-eq0-clause-behind
returns-then-head-eq0-clause-behind g c = lasts_later (g.S.EawStore.view c.args.pages.now.store).shape c.args.start c.loop-step.step c.loop-step.behind (omega (arith, c.loop-step-test.true)) c.loop-step.invariant.lasts

pub returns-then-head-eq0-clause-begins : goal.returns-then-head-eq0-clause-begins
returns-then-head-eq0-clause-begins g c = λ told. c.loop-step.invariant.begins told (sym (c.loop-step.invariant.looks.still refl).dead ∙ c.in_ok-head.ensures.cause)

pub returns-in_err-head-clause-walks : goal.returns-in_err-head-clause-walks
returns-in_err-head-clause-walks g c =
    let exit = err_from_is_err_and c.from_residual.result c.from_residual.ensures.1 in
    rw (exit.1, exit.2) (
    let view = g.S.EawStore.view c.args.pages.now.store in
    let mid = g.S.EawStore.view c.loop-step.pages.store in
    on_err g.S.EawStore.tells (g.S.EawStore.calls c.args.pages.now.store) (g.S.EawStore.calls c.loop-step.pages.store) (g.S.EawStore.calls c.read_node.new.pages.store)
    (down c.args.start.page c.args.start.key) c.loop-step.step c.loop-step.page c.loop-step.last view (g.S.EawStore.view c.loop-step.pages.store) (g.S.EawStore.view c.read_node.new.pages.store)
    (c.loop-step.invariant.looks.still refl) c.loop-step.invariant.looks.shape c.loop-step.invariant.on.0 c.args.start.most (Descended c.args.start.key c.read_node.new.bytes)
    Head (IsNode (page_bytes mid.state.bytes c.loop-step.page)) c.read_node.new.bytes (page_bytes mid.state.bytes c.loop-step.page) c.in_err-head.field-0.0
    (omega (arith, c.loop-step-test.true)) c.in_err-head.ensures.reads c.in_err-head.ensures.cause)

pub returns-then-head-eq0-clause-walks : goal.returns-then-head-eq0-clause-walks
returns-then-head-eq0-clause-walks g c =
    let view = g.S.EawStore.view c.args.pages.now.store in
    on_end g.S.EawStore.tells (g.S.EawStore.calls c.args.pages.now.store) (g.S.EawStore.calls c.loop-step.pages.store) (g.S.EawStore.calls c.read_node.new.pages.store)
    (down c.args.start.page c.args.start.key) c.loop-step.step c.loop-step.page c.loop-step.last view (g.S.EawStore.view c.loop-step.pages.store) (g.S.EawStore.view c.read_node.new.pages.store)
    (c.loop-step.invariant.looks.still refl) c.loop-step.invariant.looks.shape c.loop-step.invariant.on.0 c.args.start.most (Descended c.args.start.key c.read_node.new.bytes)
    c.read_node.new.bytes _ (omega (arith, c.loop-step-test.true)) c.in_ok-head.ensures.reads
    (refl, refl, leaf_said c.read_node.new.bytes c.in_ok-head.head.level c.in_ok-head.ensures.head.level c.if-head-eq0.true, c.loop-step.invariant.on.1)

pub returns-then-not-are_inside-clause-walks : goal.returns-then-not-are_inside-clause-walks
returns-then-not-are_inside-clause-walks g c =
    let view = g.S.EawStore.view c.args.pages.now.store in
    on_bad g.S.EawStore.tells (g.S.EawStore.calls c.args.pages.now.store) (g.S.EawStore.calls c.loop-step.pages.store) (g.S.EawStore.calls c.read_node.new.pages.store)
    (down c.args.start.page c.args.start.key) c.loop-step.step c.loop-step.page c.loop-step.last view (g.S.EawStore.view c.loop-step.pages.store) (g.S.EawStore.view c.read_node.new.pages.store)
    (c.loop-step.invariant.looks.still refl) c.loop-step.invariant.looks.shape c.loop-step.invariant.on.0 c.args.start.most (Descended c.args.start.key c.read_node.new.bytes)
    c.read_node.new.bytes (omega (arith, c.loop-step-test.true)) c.in_ok-head.ensures.reads

pub returns-clause-walks : goal.returns-clause-walks
returns-clause-walks g c =
    let view = g.S.EawStore.view c.args.pages.now.store in
    on_out g.S.EawStore.tells (g.S.EawStore.calls c.args.pages.now.store) (g.S.EawStore.calls c.loop-step.pages.store) (down c.args.start.page c.args.start.key)
    c.loop-step.step c.loop-step.page c.loop-step.last view (g.S.EawStore.view c.loop-step.pages.store) c.args.start.most (Descended c.args.start.key c.loop-step.bytes)
    c.loop-step.invariant.on.0 (omega (arith, c.loop-step-test.false)) c.loop-step.invariant.few

pub returns-then-head-eq0-clause-page : goal.returns-then-head-eq0-clause-page
returns-then-head-eq0-clause-page g c = λ told.
    let view = g.S.EawStore.view c.args.pages.now.store in
    let still = c.loop-step.invariant.looks.still refl in
    let alive : IsAlive view = sym still.dead ∙ c.in_ok-head.ensures.cause in
    let buf = c.in_ok-head.ensures.bytes told ∙ ap (λ (s : State). page_bytes s.bytes c.loop-step.page) (still.state told) in
    let level : level_of view.state.bytes c.loop-step.page ≡ 0 = sym (ap level_said buf) ∙ sym c.in_ok-head.ensures.head.level ∙ c.if-head-eq0.true in
    let d = c.loop-step.invariant.down told alive in
    leaf_here c.args.root view.state.bytes c.args.start.key d.0 c.loop-step.page d.1 d.4 level

pub returns-then-head-eq0-clause-full : goal.returns-then-head-eq0-clause-full
returns-then-head-eq0-clause-full g c = λ told all.
    let view = g.S.EawStore.view c.args.pages.now.store in
    let still = c.loop-step.invariant.looks.still refl in
    let alive : IsAlive view = sym still.dead ∙ c.in_ok-head.ensures.cause in
    let bytes = view.state.bytes in
    let buf = c.in_ok-head.ensures.bytes told ∙ ap (λ (s : State). page_bytes s.bytes c.loop-step.page) (still.state told) in
    let level : level_of view.state.bytes c.loop-step.page ≡ 0 = sym (ap level_said buf) ∙ sym c.in_ok-head.ensures.head.level ∙ c.if-head-eq0.true in
    let full : c.or_full-full.result ≡ (c.loop-step.full || is_full bytes c.loop-step.page) = c.or_full-full.ensures ∙ ap (λ (n : ℕ). c.loop-step.full || nat_le 30 n) (c.in_ok-head.ensures.head.count ∙ ap count_said buf) in
    let d = c.loop-step.invariant.down told alive in
    crowd_end c.args.root bytes c.args.start.key d.0 c.loop-step.page d.1 d.4 c.loop-step.full (c.loop-step.invariant.crowd told alive all) level c.or_full-full.result full

pub returns-then-head-eq0-clause-room : goal.returns-then-head-eq0-clause-room
returns-then-head-eq0-clause-room g c = λ is. few_pairs c.in_ok-head.head.count (neither c.loop-step.full (nat_le 30 c.in_ok-head.head.count) (sym c.or_full-full.ensures ∙ is)).1
