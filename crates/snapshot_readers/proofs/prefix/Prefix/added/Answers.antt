use Rattle.std.proofs.Common.{◌≡◌, sym, ◌∙◌, ap, arith, List, [], ◌∷◌, ◌++◌, length, length-append}
use Rattle.std.proofs.lemmas.Bool.{eq-eqb}
use Rattle.history.specs.declared.transaction.Done.{Done}
use Rattle.snapshot_readers.specs.Batches.{Batch, joined}
use Rattle.snapshot_readers.proofs.Cases.{when_true}
use Rattle.snapshot_readers.proofs.Numbering.{last_at}
use Rattle.snapshot_readers.proofs.Adding.{adds_moves}
use Rattle.snapshot_readers.proofs.prefix.Prefix.added.Goals as goal

pub compare_exchange-found-requires : goal.compare_exchange-found-requires
compare_exchange-found-requires c =
    let h = c.requires.word in
    let offer = c.plain-offer.ensures in
    let pen = c.no_pen-pen.ensures in
    let self = c.args.self.now in (
      ap (λ w. w.tracked) h,
      ap (λ s. s.book) c.again-seen.ensures ∙ sym (ap (λ w. w.book) h),
      pen.0 ∙ (ap (λ s. s.book) c.again-seen.ensures ∙ sym (ap (λ w. w.book) h)),
      offer.0,
      rw (ap (λ w. w.key) h, pen.1, offer.1, offer.3, ap (λ s. s.log) c.again-seen.ensures) (adds_moves self.seen.log c.args.dones.now self.batches c.in_ok-more.more (sym self.as_many) (omega (arith, c.in_ok-more.ensures.1))),
    )

pub invariant_of-result : goal.invariant_of-result
invariant_of-result c =
    let self = c.args.self.now in
    let dones = c.args.dones.now in
    let item = c.index-dones-dones.result in
    let grown = when_true _ _ _ (eq-eqb _ _ c.if-found-batches.false) c.compare_exchange-found.ensures.7 in
    let log : c.compare_exchange-found.new.seen.log ≡ self.seen.log ++ dones ∷ [] = grown ∙ (λ i. (c.again-seen.ensures i).log ++ c.plain-offer.ensures.1 i ∷ []) in
    record {
      as_many = omega (arith, c.in_ok-more.ensures.1, self.as_many, ap length log, length-append self.seen.log (dones ∷ []));
      counted = ap (λ (d : Done). d.at) (sym c.index-dones-dones.is) ∙ last_at self.seen.log dones item c.requires.next c.requires.some c.index-dones-dones.is ∙ sym (ap (λ (l : List Batch). length (joined l)) log);
    }
