use Rattle.key_list.proofs.Testing.{pair_told}
use Rattle.key_list.specs.Checked.{low_of}
use Rattle.page_store.specs.Shown.{pages_of}
use Rattle.index_pages.proofs.Looking.{looks_none}
use Rattle.std.proofs.Common.{◌≤◌, refl}
use Rattle.std.proofs.lemmas.Bool.{false≢true}
use Rattle.page_store.specs.Index.{index_pages_of}
use Rattle.page_store.specs.Tested.{Plan, holding, at_end}
use Rattle.index_pages.specs.Plans.{slot_plan, held_of, held_after}
use Rattle.index_pages.proofs.Causing.{still_same}
use Rattle.index_pages.proofs.Trying.{so_first, so_holds, so_bad, so_ends}
use Rattle.key_list.proofs.checking.check_pair.Goals as goal

pub returns-clause-cause : goal.returns-clause-cause
returns-clause-cause g c = λ told slots.
    pair_told (g.S.EawStore.view c.args.pages.now.store).state.bytes c.args.table c.args.page (low_of c.args.last) c.args.pair (c.is_above.ensures.0 c.if-not-is_above.false) c.check_slot.result (c.check_slot.ensures.cause told slots)

pub returns-then-not-is_above-clause-looks : goal.returns-then-not-is_above-clause-looks
returns-then-not-is_above-clause-looks g c =
    looks_none g.S.EawStore.tells (g.S.EawStore.opens (g.S.EawStore.view c.args.pages.now.store).shape) (pages_of (g.S.EawStore.view c.args.pages.now.store) c.args.pages.now)

pub returns-then-not-is_above-clause-tests : goal.returns-then-not-is_above-clause-tests
returns-then-not-is_above-clause-tests g c = so_bad _ _ _ (so_first (holding (low_of c.args.last ≤ c.args.pair.0) c.args.page (slot_plan (index_pages_of (g.S.EawStore.view c.args.pages.now.store).shape) c.args.slots c.args.table c.args.page (held_of c.args.held.now) c.args.pair (λ h. at_end)))) (λ above. false≢true (c.if-not-is_above.ensures.1 above))

pub returns-clause-tests : goal.returns-clause-tests
returns-clause-tests g c =
    so_ends (still_same g.S.EawStore.tells (g.S.EawStore.view c.args.pages.now.store)) refl (slot_plan (index_pages_of (g.S.EawStore.view c.args.pages.now.store).shape) c.args.slots c.args.table c.args.page (held_of c.args.held.now) c.args.pair (held_after c.check_slot.result c.check_slot.new.held)) c.check_slot.result
    (so_holds _ _ _ (so_first (holding (low_of c.args.last ≤ c.args.pair.0) c.args.page (slot_plan (index_pages_of (g.S.EawStore.view c.args.pages.now.store).shape) c.args.slots c.args.table c.args.page (held_of c.args.held.now) c.args.pair (held_after c.check_slot.result c.check_slot.new.held)))) (c.is_above.ensures.0 c.if-not-is_above.false)) c.check_slot.ensures.tests
