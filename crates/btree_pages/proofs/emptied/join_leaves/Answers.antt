use Rattle.std.proofs.Common.{◌≡◌, ℕ, List, [], ◌∷◌, ◌∙◌, ap, subst, arith}
use Rattle.array_shape.specs.Logged.{Part}
use Rattle.record_slots.specs.Free.{free_slot_bytes, free_page_bytes}
use Rattle.record_slots.specs.Super.{part_bytes}
use Rattle.page_store.specs.Pairs.{Pair}
use Rattle.page_store.specs.Shown.{pages_of, address}
use Rattle.index_pages.specs.Acts.{Acts}
use Rattle.index_pages.specs.Written.{written_page}
use Rattle.index_pages.proofs.Parting.{page_there, part_in}
use Rattle.btree_pages.proofs.Parts.{slot_in_page, front_in_page}
use Rattle.eaw_face.specs.StoreView.{log_len}
use Rattle.page_store.specs.Runs.{Runs, acting_of}
use Rattle.btree_pages.proofs.emptied.join_leaves.Goals as goal

pub act_all-requires : goal.act_all-requires
act_all-requires g c =
    let store = g.S.EawStore.view c.args.pages.now.store in
    let shape = (g.S.EawStore.view c.args.pages.now.store).shape in
    let ps = slot_in_page store c.args.slot.now.number c.write_free_slot.new.out c.slot_part.result.page c.slot_part.result.at c.slot_part.result.bytes.now c.slot_part.ensures.page c.slot_part.ensures.at c.slot_part.ensures.bytes c.write_free_slot.array_long c.requires.slot in
    let p0 = part_in store c.args.leaf.page 0 512 c.write_page.new.out c.whole_page.result.page c.whole_page.result.at c.whole_page.result.bytes.now c.whole_page.ensures.page c.whole_page.ensures.at c.whole_page.ensures.bytes c.write_page.array_long (omega arith) (omega arith) (page_there shape _ c.requires.leaf) in
    let p1 = part_in store c.args.parent.page 0 512 c.write_page-2.new.out c.whole_page-2.result.page c.whole_page-2.result.at c.whole_page-2.result.bytes.now c.whole_page-2.ensures.page c.whole_page-2.ensures.at c.whole_page-2.ensures.bytes c.write_page-2.array_long (omega arith) (omega arith) (page_there shape _ c.requires.parent) in
    let p2 = part_in store c.args.right.now.number 0 512 c.write_free_page.new.out c.whole_page-3.result.page c.whole_page-3.result.at c.whole_page-3.result.bytes.now c.whole_page-3.ensures.page c.whole_page-3.ensures.at c.whole_page-3.ensures.bytes c.write_free_page.array_long (omega arith) (omega arith) (page_there shape _ c.requires.right) in
    let pf = front_in_page store c.args.leaf.page c.write_super_part.new.out c.front_part.result.page c.front_part.result.at c.front_part.result.bytes.now c.front_part.ensures.page c.front_part.ensures.at c.front_part.ensures.bytes c.write_super_part.array_long c.requires.leaf in
    record { tid = c.requires.tid; closed = c.requires.closed; few = omega arith; inside = (ps.0, ps.1, (p0.0, p0.1, (p1.0, p1.1, (p2.0, p2.1, (pf.0, pf.1, tt))))) }

pub returns-clause-acts : goal.returns-clause-acts
returns-clause-acts g c =
    let V = g.S.EawStore.view in
    let O = g.S.EawStore.opens (V c.args.pages.now.store).shape in
    let v0 = pages_of (V c.args.pages.now.store) c.args.pages.now in
    let v1 = pages_of (V c.act_all.new.pages.store) c.act_all.new.pages in
    let slot : c.slot_part.result.bytes.now ≡ free_slot_bytes c.args.slot.now.free = c.slot_part.ensures.bytes ∙ c.write_free_slot.ensures.written in
    let leaf : c.whole_page.result.bytes.now ≡ written_page 0 0 c.args.leaf.pairs.items = c.whole_page.ensures.bytes ∙ c.write_page.ensures ∙ ap (λ (ps : List Pair). written_page 0 0 ps) c.as_slice.ensures.value in
    let parent : c.whole_page-2.result.bytes.now ≡ written_page 1 0 c.args.parent.pairs.items = c.whole_page-2.ensures.bytes ∙ c.write_page-2.ensures ∙ ap (λ (ps : List Pair). written_page 1 0 ps) c.as_slice-2.ensures.value in
    let right : c.whole_page-3.result.bytes.now ≡ free_page_bytes c.args.right.now.free = c.whole_page-3.ensures.bytes ∙ c.write_free_page.ensures.written in
    let part : c.front_part.result.bytes.now ≡ part_bytes c.args.right.now.front = c.front_part.ensures.bytes ∙ c.write_super_part.ensures in
    subst (λ (x : List ℕ × List Part). Acts g.S.EawStore.tells O c.args.tid x.0 x.1 v0 v1 c.act_all.result) (λ i. (
      c.slot_part.ensures.page i ∷ c.whole_page.ensures.page i ∷ c.whole_page-2.ensures.page i ∷ c.whole_page-3.ensures.page i ∷ c.front_part.ensures.page i ∷ [],
      (address (c.slot_part.ensures.page i) (c.slot_part.ensures.at i), slot i) ∷ (address (c.whole_page.ensures.page i) (c.whole_page.ensures.at i), leaf i)
          ∷ (address (c.whole_page-2.ensures.page i) (c.whole_page-2.ensures.at i), parent i) ∷ (address (c.whole_page-3.ensures.page i) (c.whole_page-3.ensures.at i), right i)
          ∷ (address (c.front_part.ensures.page i) (c.front_part.ensures.at i), part i) ∷ [],
    )) c.act_all.ensures.acts

pub returns-clause-dead : goal.returns-clause-dead
returns-clause-dead g c = c.act_all.ensures.dead

pub returns-clause-runs : goal.returns-clause-runs
returns-clause-runs g c =
    let V = g.S.EawStore.view in
    let v0 = pages_of (V c.args.pages.now.store) c.args.pages.now in
    let v1 = pages_of (V c.act_all.new.pages.store) c.act_all.new.pages in
    let slot : c.slot_part.result.bytes.now ≡ free_slot_bytes c.args.slot.now.free = c.slot_part.ensures.bytes ∙ c.write_free_slot.ensures.written in
    let leaf : c.whole_page.result.bytes.now ≡ written_page 0 0 c.args.leaf.pairs.items = c.whole_page.ensures.bytes ∙ c.write_page.ensures ∙ ap (λ (ps : List Pair). written_page 0 0 ps) c.as_slice.ensures.value in
    let parent : c.whole_page-2.result.bytes.now ≡ written_page 1 0 c.args.parent.pairs.items = c.whole_page-2.ensures.bytes ∙ c.write_page-2.ensures ∙ ap (λ (ps : List Pair). written_page 1 0 ps) c.as_slice-2.ensures.value in
    let right : c.whole_page-3.result.bytes.now ≡ free_page_bytes c.args.right.now.free = c.whole_page-3.ensures.bytes ∙ c.write_free_page.ensures.written in
    let part : c.front_part.result.bytes.now ≡ part_bytes c.args.right.now.front = c.front_part.ensures.bytes ∙ c.write_super_part.ensures in
    subst (λ (l : List Part). Runs g.S.EawStore.tells V g.S.EawStore.calls (acting_of c.args.tid (log_len v0.store c.args.tid) l) v0.store v1.store c.act_all.result) (λ i.
    (address (c.slot_part.ensures.page i) (c.slot_part.ensures.at i), slot i) ∷ (address (c.whole_page.ensures.page i) (c.whole_page.ensures.at i), leaf i) ∷ (address (c.whole_page-2.ensures.page i) (c.whole_page-2.ensures.at i), parent i) ∷ (address (c.whole_page-3.ensures.page i) (c.whole_page-3.ensures.at i), right i) ∷ (address (c.front_part.ensures.page i) (c.front_part.ensures.at i), part i) ∷ []) c.act_all.ensures.runs
