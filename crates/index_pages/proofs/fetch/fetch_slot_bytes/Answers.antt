use Rattle.std.proofs.Common.{◌≡◌, ◌+◌, ◌*◌, ◌/◌, ◌%◌, ℕ, true, sym, ◌∙◌, ap, subst, arith}
use Rattle.std.specs.Prelude.{OnOk}
use Rattle.mars_base.specs.Bytes.{range}
use Rattle.mars_base.specs.Costs.{Costs}
use Rattle.eaw_face.specs.Command as store
use Rattle.record_slots.specs.Places.{slot_of}
use Rattle.page_store.specs.Looks.{is_failed}
use Rattle.page_store.specs.Shown.{Shown, pages_of, address}
use Rattle.page_store.specs.Tested.{HasReadBytes}
use Rattle.index_pages.specs.Plans.{one_excerpt}
use Rattle.index_pages.proofs.Sizes.{slot_read}
use Rattle.index_pages.proofs.Courses.{read_cause, read_dead}
use Rattle.index_pages.proofs.Trying.{bytes_one, ok_bytes}
use Rattle.index_pages.proofs.fetch.fetch_slot_bytes.Goals as goal

pub returns-clause-bytes : goal.returns-clause-bytes
returns-clause-bytes g c = λ told.
    let store = c.args.pages.now.store in
    let view = g.S.EawStore.view store in
    ok_bytes c.read.result c.read.new.buf _ _ (ap (λ (n : ℕ). range view.state.bytes (address (c.index_page_count.result + c.args.slot / 8) (c.args.slot % 8 * 64)) n) c.told-bytes
    ∙ slot_read view.shape view.state.bytes (g.met.S.EawStore.long store told) c.index_page_count.result c.args.slot c.index_page_count.ensures.all) (c.read.ensures.bytes told)

pub returns-clause-reads : goal.returns-clause-reads
returns-clause-reads g c =
    let view = g.S.EawStore.view in
    let calls = g.S.EawStore.calls in
    let old = c.args.pages.now in
    let new = c.read.new.self in
    let b = (view old.store).state.bytes in
    let half = c.index_page_count.result in
    let slot = c.args.slot in
    let same = c.index_page_count.ensures in
    subst (λ (h : ℕ). HasReadBytes g.S.EawStore.tells (is_failed c.read.result) (calls old.store) (calls new.store) (view old.store) (view new.store) (one_excerpt (h + c.args.slot / 8) (c.args.slot % 8 * 64) 64 c.read.new.buf (slot_of b c.args.slot) c.read.result)) c.index_page_count.ensures.count
    (bytes_one g.S.EawStore.tells (calls old.store) (calls new.store) (view old.store) (view new.store) (c.index_page_count.result + c.args.slot / 8) (c.args.slot % 8 * 64) 64 c.read.new.buf (slot_of b c.args.slot) c.read.result
    (omega (arith, c.requires, c.index_page_count.ensures.all))
    (read_cause g.S.EawStore.tells (g.S.EawStore.opens (view old.store).shape) (pages_of (view old.store) old) (pages_of (view new.store) new) c.read.result c.read.ensures.does)
    (subst (λ (n : ℕ). Costs true (calls old.store (store.read (address (c.index_page_count.result + c.args.slot / 8) (c.args.slot % 8 * 64)) n)) (view old.store).moment (view new.store).moment c.read.result) c.told-bytes c.read.ensures.costs)
    c.read.ensures.steady
    (λ told. subst (λ (n : ℕ). OnOk c.read.result (c.read.new.buf ≡ range b (address (c.index_page_count.result + c.args.slot / 8) (c.args.slot % 8 * 64)) n)) c.told-bytes (c.read.ensures.bytes told))
    (λ told. sym (slot_read (view old.store).shape b (g.met.S.EawStore.long old.store told) c.index_page_count.result c.args.slot c.index_page_count.ensures.all))
    (λ dead. let same = read_dead c.read.result c.read.ensures.refused dead in (ap (λ (p : Shown g.row.S.Denot). (view p.store).moment) same, λ command. ap (λ (p : Shown g.row.S.Denot). calls p.store command) same)))
