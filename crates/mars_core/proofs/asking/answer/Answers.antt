use Rattle.std.proofs.Common.{ℕ, List, sym, ap, ◌∙◌, subst}
use Rattle.history.specs.Locks.{touches, touched}
use Rattle.history.specs.Table.{Granted}
use Rattle.mars_core.specs.Masks.{AreMasksOf}
use Rattle.mars_core.proofs.Answering.{has_asked}
use Rattle.mars_core.proofs.Touching.{masks-push}
use Rattle.mars_core.specs.TableCall.{number_for}
use Rattle.mars_core.specs.Works.{HasSaves}
use Rattle.mars_core.proofs.asking.answer.Goals as goal

pub work-requires : goal.work-requires
work-requires g c = record {
  tid = c.requires.inside;
  table = c.in-Some-number_for.ensures.few;
  asked = λ told alive. ap (λ (ns : List (List ℕ)). number_for ns c.args.asked.now) (sym (c.requires.named told alive)) ∙ sym c.in-Some-number_for.ensures.number;
  saves = subst (λ (n : ℕ). HasSaves n c.args.asked.now) c.saves.ensures.count c.in_default.ensures.has;
}

pub stripes_for-requires-clause-table : goal.stripes_for-requires-clause-table
stripes_for-requires-clause-table g c = sym c.in-Some-number_for.ensures.number

pub stripes_for-requires-clause-locked : goal.stripes_for-requires-clause-locked
stripes_for-requires-clause-locked g c held = c.requires.locked held (has_asked c.args.seats.now.names c.args.asked.now c.in-Some-number_for.table (sym c.in-Some-number_for.ensures.number))

-- the calls are those of the transaction and this one, and so are the masks
pub returns-in-Ok-push-clause-masked : goal.returns-in-Ok-push-clause-masked
returns-in-Ok-push-clause-masked g c =
    let names = c.args.seats.now.names in
    let was = subst (λ (calls : Granted). AreMasksOf (touched c.args.seats.now.names calls) c.args.live.masks) (sym c.in-Ok.ensures.ok) c.requires.masked in
    let these = c.in-Ok-stripes_for.ensures.touches in
    rw c.in-Ok-push.ensures.ok (masks-push names c.in-Ok.calls c.merged-masks.result c.args.asked.now c.in-Ok-work.reply (c.merged-masks.ensures (touched names c.in-Ok.calls) (touches names c.args.asked.now) was these))
