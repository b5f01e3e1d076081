use Rattle.std.proofs.Common.{ap, ◌∙◌, ℕ}
use Rattle.mars_base.specs.Bytes.{range}
use Rattle.record_slots.specs.Slots.{slot_said}
use Rattle.record_table.proofs.Seeking.{slot_read}
use Rattle.record_table.proofs.removing.read_said.Goals as goal

pub returns-clause-said : goal.returns-clause-said
returns-clause-said g c = λ told.
    let store = c.args.pages.now.store in
    let view = g.S.EawStore.view store in
    c.read_slot.ensures ∙ ap slot_said (c.in_ok-read.ensures.bytes told ∙ ap (λ (at : ℕ). range view.state.bytes at 64) c.page_of-page.ensures.at ∙ slot_read view.state.bytes view.shape c.args.slot (g.met.S.EawStore.long store told))
