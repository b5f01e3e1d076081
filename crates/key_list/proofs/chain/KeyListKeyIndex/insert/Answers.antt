use Rattle.std.proofs.Common.{◌≡◌, ◌*◌, ◌<◌, ℕ, List, Option, Result, Err, None, refl, sym, ◌∙◌, ap, subst, arith, ◌≤◌, true, false, [], ◌∷◌, Ok, inl, inr, length, IsTrue}
use Rattle.std.proofs.lemmas.Bool.{false≢true}
use Rattle.array_shape.specs.declared.shape.Shape.{Shape}
use Rattle.eaw_face.specs.State.{State}
use Rattle.page_store.specs.Index.{IsTable, slots_of}
use Rattle.page_store.specs.Inserts.{Inserts}
use Rattle.page_store.specs.Pairs.{found}
use Rattle.page_store.specs.Shown.{pages_of}
use Rattle.page_store.specs.declared.index_fault.IndexFault.{IndexFault}
use Rattle.index_pages.proofs.Faulting.{look_of_index, dead_fault, not_slots, room_for, full_with}
use Rattle.key_list.specs.Chain.{IsSoundChain, pairs_of_chain}
use Rattle.key_list.specs.Index.{chain}
use Rattle.key_list.specs.Located.{IsLocated, Locates}
use Rattle.key_list.specs.declared.place.Located.{Located}
use Rattle.key_list.proofs.Whole.{look_err, slots_full, alive_yet, yet, looked_cut, looked_here}
use Rattle.std.proofs.lemmas.Bool.{cases_Bool}
use Rattle.std.specs.Prelude.{is_some}
use Rattle.page_store.specs.Index.{index_pages_of}
use Rattle.page_store.specs.Works.{Step, IsMet, IsAmong, blamed_index, insertion_limits, is_done, unless_full}
use Rattle.page_store.specs.declared.fault.PageFault.{PageFault}
use Rattle.index_pages.proofs.Filled.{told_left, works_left, not_filled}
use Rattle.index_pages.proofs.Working.{blamed_same}
use Rattle.key_list.specs.Along.{chain_finding}
use Rattle.key_list.specs.Finds.{limits_here, limits_cut, limits_none, most_read}
use Rattle.key_list.specs.Index.{chain_actions}
use Rattle.key_list.proofs.Finding.{finds_fail, finds_then, front_only}
use Rattle.key_list.proofs.Spending.{limits_one, limits_two, none_done}
use Rattle.std.proofs.lemmas.Result.{err_from_is_err_and}
use Rattle.key_list.proofs.chain.KeyListKeyIndex.insert.Goals as goal

pub returns-in_err-at-clause-inserts : goal.returns-in_err-at-clause-inserts
returns-in_err-at-clause-inserts g c =
    let exit = err_from_is_err_and c.from_residual.result c.from_residual.ensures.1 in
    rw (exit.1) (
    let T = g.S.EawStore.tells in
    let V = g.S.EawStore.view in
    let E = g.S.EawStore.opens in
    let t = c.args.tid in
    let root = c.args.root in
    let table = c.args.table in
    let key = c.args.key in
    let v0 = pages_of (V c.args.pages.now.store) c.args.pages.now in
    let v1 = pages_of (V c.locate_for.new.pages.store) c.locate_for.new.pages in
    subst (λ (f : IndexFault). (let r : Result ℕ IndexFault = Err f in Inserts T (E v0.store.shape) chain t root table key v0 v1 r)) (sym exit.2)
    (look_err T E t root table key v0 c.requires.sound Located v1 c.in_err-at.field-0.0 (c.in_err-at.ensures.looks, c.in_err-at.ensures.cause)))

pub returns-in_err-at-clause-dead : goal.returns-in_err-at-clause-dead
returns-in_err-at-clause-dead g c =
    let exit = err_from_is_err_and c.from_residual.result c.from_residual.ensures.1 in
    rw (exit.1) (
    λ told. c.in_err-at.ensures.dead (ap Err (dead_fault c.in_err-at.field-0.0 exit.0 (look_of_index Located g.S.EawStore.tells (g.S.EawStore.view c.args.pages.now.store) c.in_err-at.field-0.0 c.in_err-at.ensures.cause) exit.2 told)))

pub has_slot-requires : goal.has_slot-requires
has_slot-requires g c =
    let slots_is : 8 * c.index_page_count-slots.result ≡ slots_of (g.S.EawStore.view c.args.pages.now.store).shape = omega (arith, c.index_page_count-slots.ensures.all, ap slots_of c.in_ok-at.ensures.looks.shape) in
    omega (arith, slots_is, c.in_ok-at.ensures.located.front_is.slots)

pub returns-then-not-has_slot-clause-inserts : goal.returns-then-not-has_slot-clause-inserts
returns-then-not-has_slot-clause-inserts g c =
    let T = g.S.EawStore.tells in
    let V = g.S.EawStore.view in
    let E = g.S.EawStore.opens in
    let t = c.args.tid in
    let root = c.args.root in
    let table = c.args.table in
    let key = c.args.key in
    let v0 = pages_of (V c.args.pages.now.store) c.args.pages.now in
    let v1 = pages_of (V c.locate_for.new.pages.store) c.locate_for.new.pages in
    let at = c.in_ok-at.at in
    let looks = c.in_ok-at.ensures.looks in
    let alive = c.in_ok-at.ensures.cause in
    let slots_is : 8 * c.index_page_count-slots.result ≡ slots_of (g.S.EawStore.view c.args.pages.now.store).shape = omega (arith, c.index_page_count-slots.ensures.all, ap slots_of c.in_ok-at.ensures.looks.shape) in
    slots_full T E t root table key v0 v1 c.requires.sound looks alive (8 * c.index_page_count-slots.result) slots_is at.front at.page at.link at.pairs.items c.in_ok-at.ensures.located c.in_ok-at.ensures.said (λ has. false≢true (c.if-not-has_slot.ensures.1 has))

pub returns-then-not-has_slot-clause-dead : goal.returns-then-not-has_slot-clause-dead
returns-then-not-has_slot-clause-dead g c =
    λ told. not_slots _ told

pub insert_here-requires : goal.insert_here-requires
insert_here-requires g c =
    let T = g.S.EawStore.tells in
    let V = g.S.EawStore.view in
    let E = g.S.EawStore.opens in
    let t = c.args.tid in
    let root = c.args.root in
    let table = c.args.table in
    let key = c.args.key in
    let v0 = pages_of (V c.args.pages.now.store) c.args.pages.now in
    let v1 = pages_of (V c.locate_for.new.pages.store) c.locate_for.new.pages in
    let at = c.in_ok-at.at in
    let looks = c.in_ok-at.ensures.looks in
    let alive = c.in_ok-at.ensures.cause in
    let slots_is : 8 * c.index_page_count-slots.result ≡ slots_of (g.S.EawStore.view c.args.pages.now.store).shape = omega (arith, c.index_page_count-slots.ensures.all, ap slots_of c.in_ok-at.ensures.looks.shape) in
    record {
      may = record {
        number = subst (λ (sh : Shape). c.args.tid < sh.numbers) (sym looks.shape) c.requires.tid;
        one_of = c.requires.table;
        closed = ap (λ (f : ℕ → Option ℕ). f c.args.tid) looks.tops ∙ c.requires.closed alive;
        alive = alive_yet T E t root table key v0 v1 c.requires.sound looks alive;
        sound = yet T E t root table key v0 v1 c.requires.sound looks alive IsSoundChain c.requires.sound;
        named = yet T E t root table key v0 v1 c.requires.sound looks alive (λ (b : List ℕ). IsTable b c.args.table c.args.root) c.requires.named;
      };
      place = record {
        located = subst (λ (sh : Shape). IsLocated sh c.in_ok-at.at.front c.in_ok-at.at.page c.in_ok-at.at.link c.in_ok-at.at.pairs.items) (sym looks.shape) c.in_ok-at.ensures.located;
        said = yet T E t root table key v0 v1 c.requires.sound looks alive (λ (b : List ℕ). Locates b c.args.root c.args.key c.in_ok-at.at.front c.in_ok-at.at.page c.in_ok-at.at.link c.in_ok-at.at.pairs.items) (λ told living. c.in_ok-at.ensures.said told);
        absent = yet T E t root table key v0 v1 c.requires.sound looks alive (λ (b : List ℕ). found (pairs_of_chain b c.args.root) c.args.key ≡ None) c.requires.absent;
        slot = λ none. subst (λ (n : ℕ). c.in_ok-at.at.front.next_slot < n) (slots_is ∙ ap slots_of (sym looks.shape)) (c.if-not-has_slot.ensures.0 refl none);
      };
      room = room_for c.in_ok-at.at.pairs.items c.len.result c.len.ensures.value c.if-len-lt-PAIRS_MAX.true;
    }

pub returns-then-len-lt-PAIRS_MAX-clause-inserts : goal.returns-then-len-lt-PAIRS_MAX-clause-inserts
returns-then-len-lt-PAIRS_MAX-clause-inserts g c =
    let T = g.S.EawStore.tells in
    let V = g.S.EawStore.view in
    let E = g.S.EawStore.opens in
    let t = c.args.tid in
    let root = c.args.root in
    let table = c.args.table in
    let key = c.args.key in
    let v0 = pages_of (V c.args.pages.now.store) c.args.pages.now in
    let v1 = pages_of (V c.locate_for.new.pages.store) c.locate_for.new.pages in
    let at = c.in_ok-at.at in
    let looks = c.in_ok-at.ensures.looks in
    let alive = c.in_ok-at.ensures.cause in
    let v2 = pages_of (V c.insert_here.new.pages.store) c.insert_here.new.pages in
    looked_here T E t root table key v0 v1 c.requires.sound looks alive at.front.next_page (λ told. (c.in_ok-at.ensures.said told).front_says.next_page) v2 c.insert_here.result c.insert_here.ensures.inserts

pub returns-then-len-lt-PAIRS_MAX-clause-dead : goal.returns-then-len-lt-PAIRS_MAX-clause-dead
returns-then-len-lt-PAIRS_MAX-clause-dead g c =
    λ told. absurd (c.insert_here.ensures.dead told)

pub insert_cut-requires : goal.insert_cut-requires
insert_cut-requires g c =
    let T = g.S.EawStore.tells in
    let V = g.S.EawStore.view in
    let E = g.S.EawStore.opens in
    let t = c.args.tid in
    let root = c.args.root in
    let table = c.args.table in
    let key = c.args.key in
    let v0 = pages_of (V c.args.pages.now.store) c.args.pages.now in
    let v1 = pages_of (V c.locate_for.new.pages.store) c.locate_for.new.pages in
    let at = c.in_ok-at.at in
    let looks = c.in_ok-at.ensures.looks in
    let alive = c.in_ok-at.ensures.cause in
    let slots_is : 8 * c.index_page_count-slots.result ≡ slots_of (g.S.EawStore.view c.args.pages.now.store).shape = omega (arith, c.index_page_count-slots.ensures.all, ap slots_of c.in_ok-at.ensures.looks.shape) in
    record {
      may = record {
        number = subst (λ (sh : Shape). c.args.tid < sh.numbers) (sym looks.shape) c.requires.tid;
        one_of = c.requires.table;
        closed = ap (λ (f : ℕ → Option ℕ). f c.args.tid) looks.tops ∙ c.requires.closed alive;
        alive = alive_yet T E t root table key v0 v1 c.requires.sound looks alive;
        sound = yet T E t root table key v0 v1 c.requires.sound looks alive IsSoundChain c.requires.sound;
        named = yet T E t root table key v0 v1 c.requires.sound looks alive (λ (b : List ℕ). IsTable b c.args.table c.args.root) c.requires.named;
      };
      place = record {
        located = subst (λ (sh : Shape). IsLocated sh c.in_ok-at.at.front c.in_ok-at.at.page c.in_ok-at.at.link c.in_ok-at.at.pairs.items) (sym looks.shape) c.in_ok-at.ensures.located;
        said = yet T E t root table key v0 v1 c.requires.sound looks alive (λ (b : List ℕ). Locates b c.args.root c.args.key c.in_ok-at.at.front c.in_ok-at.at.page c.in_ok-at.at.link c.in_ok-at.at.pairs.items) (λ told living. c.in_ok-at.ensures.said told);
        absent = yet T E t root table key v0 v1 c.requires.sound looks alive (λ (b : List ℕ). found (pairs_of_chain b c.args.root) c.args.key ≡ None) c.requires.absent;
        slot = λ none. subst (λ (n : ℕ). c.in_ok-at.at.front.next_slot < n) (slots_is ∙ ap slots_of (sym looks.shape)) (c.if-not-has_slot.ensures.0 refl none);
      };
      full = full_with c.in_ok-at.at.pairs.items c.len.result c.len.ensures.value c.if-len-lt-PAIRS_MAX.false c.in_ok-at.ensures.located.most;
    }

pub returns-clause-inserts : goal.returns-clause-inserts
returns-clause-inserts g c =
    let T = g.S.EawStore.tells in
    let V = g.S.EawStore.view in
    let E = g.S.EawStore.opens in
    let t = c.args.tid in
    let root = c.args.root in
    let table = c.args.table in
    let key = c.args.key in
    let v0 = pages_of (V c.args.pages.now.store) c.args.pages.now in
    let v1 = pages_of (V c.locate_for.new.pages.store) c.locate_for.new.pages in
    let at = c.in_ok-at.at in
    let looks = c.in_ok-at.ensures.looks in
    let alive = c.in_ok-at.ensures.cause in
    let v2 = pages_of (V c.insert_cut.new.pages.store) c.insert_cut.new.pages in
    looked_cut T E t root table key v0 v1 c.requires.sound looks alive v2 c.insert_cut.result c.insert_cut.ensures.inserts

pub returns-clause-dead : goal.returns-clause-dead
returns-clause-dead g c =
    λ told. absurd (c.insert_cut.ensures.dead told)

pub returns-in_err-at-clause-works : goal.returns-in_err-at-clause-works
returns-in_err-at-clause-works g c =
    let exit = err_from_is_err_and c.from_residual.result c.from_residual.ensures.1 in
    rw (exit.1) (
    let V = g.S.EawStore.view in
    let v0 = pages_of (V c.args.pages.now.store) c.args.pages.now in
    let v1 = pages_of (V c.locate_for.new.pages.store) c.locate_for.new.pages in
    let known = is_some c.args.place in
    let limits = insertion_limits known (chain_finding c.args.root c.args.key) v0.store.shape in
    let most = most_read known v0.store.shape in
    let one = limits_one known c.args.root c.args.key v0.store.shape in
    let due = chain_actions v0.store.state.bytes c.args.root c.args.key in
    let s : Result ℕ IndexFault = Err exit.0 in
    works_left _ (told_left c.in_err-at.field-0.0 exit.0 exit.2)
    (finds_fail g.S.EawStore.tells V g.S.EawStore.calls c.args.root c.args.key most Located (λ (at : Located) (steps : List Step). IsMet 0 steps) (IsTrue g.S.EawStore.tells) c.args.tid limits due (blamed_index s) v0.store v1.store one.0 one.1 c.in_err-at.field-0.0
    (ap (λ (f : IndexFault). (let r : Result ℕ IndexFault = Err f in blamed_index r)) exit.2 ∙ blamed_same ℕ Located c.in_err-at.field-0.0) c.in_err-at.ensures.finds))

pub returns-then-not-has_slot-clause-works : goal.returns-then-not-has_slot-clause-works
returns-then-not-has_slot-clause-works g c =
    let V = g.S.EawStore.view in
    let v0 = pages_of (V c.args.pages.now.store) c.args.pages.now in
    let v1 = pages_of (V c.locate_for.new.pages.store) c.locate_for.new.pages in
    let known = is_some c.args.place in
    let limits = unless_full true (insertion_limits known (chain_finding c.args.root c.args.key) v0.store.shape) in
    let most = most_read known v0.store.shape in
    let one = limits_one known c.args.root c.args.key v0.store.shape in
    let due = chain_actions v0.store.state.bytes c.args.root c.args.key in
    let then_due = chain_actions v1.store.state.bytes c.args.root c.args.key in
    finds_then g.S.EawStore.tells V g.S.EawStore.calls c.args.root c.args.key most Located (λ (at : Located) (steps : List Step). IsMet 0 steps) (IsTrue g.S.EawStore.tells) c.args.tid limits due None v0.store v1.store one.0 one.1 v1.store false limits_none then_due (0 ∷ []) c.in_ok-at.ensures.looks.shape c.in_ok-at.at c.in_ok-at.ensures.finds refl refl (omega arith) (omega arith) (λ told. ap (λ (b : List ℕ). chain_actions b c.args.root c.args.key) (ap (λ (s : State). s.bytes) ((c.in_ok-at.ensures.looks.still refl).state told))) (λ page among. front_only page c.in_ok-at.ensures.finds.steps c.in_ok-at.ensures.finds.ends among)
    (none_done g.S.EawStore.tells V g.S.EawStore.calls (IsTrue g.S.EawStore.tells) c.args.tid limits_none then_due None (0 ∷ []) then_due false v1.store tt (λ told. refl) (λ told is. absurd (false≢true is)))

pub returns-then-len-lt-PAIRS_MAX-clause-works : goal.returns-then-len-lt-PAIRS_MAX-clause-works
returns-then-len-lt-PAIRS_MAX-clause-works g c =
    let V = g.S.EawStore.view in
    let v0 = pages_of (V c.args.pages.now.store) c.args.pages.now in
    let v1 = pages_of (V c.locate_for.new.pages.store) c.locate_for.new.pages in
    let known = is_some c.args.place in
    let limits = insertion_limits known (chain_finding c.args.root c.args.key) v0.store.shape in
    let most = most_read known v0.store.shape in
    let one = limits_one known c.args.root c.args.key v0.store.shape in
    let due = chain_actions v0.store.state.bytes c.args.root c.args.key in
    works_left _ (c.insert_here.ensures.left)
    (finds_then g.S.EawStore.tells V g.S.EawStore.calls c.args.root c.args.key most Located (λ (at : Located) (steps : List Step). IsMet 0 steps) (IsTrue g.S.EawStore.tells) c.args.tid limits due (blamed_index c.insert_here.result) v0.store v1.store one.0 one.1 (V c.insert_here.new.pages.store) (is_done c.insert_here.result) limits_here (chain_actions v1.store.state.bytes c.args.root c.args.key) (0 ∷ []) c.in_ok-at.ensures.looks.shape c.in_ok-at.at c.in_ok-at.ensures.finds
    refl refl one.2 one.3 (λ told. ap (λ (b : List ℕ). chain_actions b c.args.root c.args.key) (ap (λ (s : State). s.bytes) ((c.in_ok-at.ensures.looks.still refl).state told))) (λ page among. front_only page c.in_ok-at.ensures.finds.steps c.in_ok-at.ensures.finds.ends among) c.insert_here.ensures.works)

pub returns-clause-works : goal.returns-clause-works
returns-clause-works g c =
    let V = g.S.EawStore.view in
    let v0 = pages_of (V c.args.pages.now.store) c.args.pages.now in
    let v1 = pages_of (V c.locate_for.new.pages.store) c.locate_for.new.pages in
    let known = is_some c.args.place in
    let limits = insertion_limits known (chain_finding c.args.root c.args.key) v0.store.shape in
    let most = most_read known v0.store.shape in
    let one = limits_one known c.args.root c.args.key v0.store.shape in
    let due = chain_actions v0.store.state.bytes c.args.root c.args.key in
    let full : length c.in_ok-at.at.pairs.items ≡ 30 = full_with c.in_ok-at.at.pairs.items c.len.result c.len.ensures.value c.if-len-lt-PAIRS_MAX.false c.in_ok-at.ensures.located.most in
    let unknown : known ≡ false = elim (cases_Bool known) [ inl is ↦ absurd (let room = c.in_ok-at.ensures.room is in omega (arith, room, full)) | inr other ↦ other ] in
    let some : 1 ≤ index_pages_of v0.store.shape = omega (arith, c.in_ok-at.ensures.located.inside) in
    let two = limits_two known c.args.root c.args.key v0.store.shape unknown some in
    works_left _ (c.insert_cut.ensures.left)
    (finds_then g.S.EawStore.tells V g.S.EawStore.calls c.args.root c.args.key most Located (λ (at : Located) (steps : List Step). IsMet 0 steps) (IsTrue g.S.EawStore.tells) c.args.tid limits due (blamed_index c.insert_cut.result) v0.store v1.store one.0 one.1 (V c.insert_cut.new.pages.store) (is_done c.insert_cut.result) limits_cut (chain_actions v1.store.state.bytes c.args.root c.args.key) (0 ∷ []) c.in_ok-at.ensures.looks.shape c.in_ok-at.at c.in_ok-at.ensures.finds
    refl refl two.0 two.1 (λ told. ap (λ (b : List ℕ). chain_actions b c.args.root c.args.key) (ap (λ (s : State). s.bytes) ((c.in_ok-at.ensures.looks.still refl).state told))) (λ page among. front_only page c.in_ok-at.ensures.finds.steps c.in_ok-at.ensures.finds.ends among) c.insert_cut.ensures.works)

pub returns-in_err-at-clause-full : goal.returns-in_err-at-clause-full
returns-in_err-at-clause-full g c =
    let exit = err_from_is_err_and c.from_residual.result c.from_residual.ensures.1 in
    rw (exit.1) (λ full. not_filled _ (told_left c.in_err-at.field-0.0 exit.0 exit.2) full)

pub returns-then-not-has_slot-clause-full : goal.returns-then-not-has_slot-clause-full
returns-then-not-has_slot-clause-full g c = λ full. c.in_ok-at.ensures.looks

pub returns-then-len-lt-PAIRS_MAX-clause-full : goal.returns-then-len-lt-PAIRS_MAX-clause-full
returns-then-len-lt-PAIRS_MAX-clause-full g c = λ full. not_filled _ c.insert_here.ensures.left full

pub returns-clause-full : goal.returns-clause-full
returns-clause-full g c = λ full. not_filled _ c.insert_cut.ensures.left full
