use Rattle.std.proofs.Common.{ℕ, ◌∙◌, ap, arith, rules}
use Rattle.resident_media.specs.Past.{Past, newest}
use Rattle.resident_media.specs.Blocks.{fresh, end_block}
use Rattle.resident_media.proofs.Anew.{lies_anew, left_anew}
use Rattle.resident_media.proofs.resident_media.ResidentMedia.over.Goals as goal

pub invariant_of-result : goal.invariant_of-result
invariant_of-result g c =
    let len = c.min-len.result in
    lies_anew g.M.Media.tells (g.M.Media.view c.args.inner) c.moment-moment.result (newest c.at_first-notes.result.said) c.moment-moment.ensures c.at_first-notes.ensures c.in-Ok.blocks len (end_block 0 len) _ c.in-Ok.ensures.fresh
    (omega arith) (omega (arith, c.in-Ok-with_capacity.ensures.exact))

pub returns-clause-anew : goal.returns-clause-anew
returns-clause-anew g c = record {
  inner_is = search rules;
  moment = c.moment-moment.ensures;
  faults = search rules;
  spared = ap (λ (p : Past). p.spared) c.at_first-notes.ensures;
  content = ap (λ (p : Past). record { bytes = (g.M.Media.view c.args.inner).content.bytes; unsettled = p.unsettled }) c.at_first-notes.ensures;
  left = left_anew g.M.Media.tells (g.M.Media.view c.args.inner) c.moment-moment.result (newest c.at_first-notes.result.said) c.moment-moment.ensures c.at_first-notes.ensures
      (λ t image told le left. g.met.M.Media.counts_now c.args.inner t image told le left) (λ image told left. g.met.M.Media.only_now c.args.inner image told left) 0;
  kept = c.in-Ok.ensures.fresh ∙ ap (λ (n : ℕ). fresh n (end_block 0 n)) (omega arith);
}
