use Rattle.std.proofs.Common.{◌<◌, ℕ, List, [], length, refl, sym, ◌∙◌, ap, arith}
use Rattle.std.proofs.lemmas.List.{length-set}
use Rattle.eaw_face.specs.State.{with_each}
use Rattle.eaw_face.proofs.Groups.{with_each_next, with_each_there}
use Rattle.page_store.specs.Marked.{Marked}
use Rattle.page_store.specs.Shown.{counts_in}
use Rattle.page_store.proofs.Marking.{counts_become, counts_past, top_stay}
use Rattle.page_store.proofs.pages.forget_saves.Goals as goal

pub loop-tid-init : goal.loop-tid-init
loop-tid-init c = record {
  many = refl;
  counts = ap (λ (ts : List ℕ). with_each (counts_in c.args.marks.now) ts []) (c.into_iter-tid-iterator.ensures.into_iter_gives ∙ c.members-tid-items.ensures);
  top = refl;
}

pub loop-tid-preserved-then-at-marks : goal.loop-tid-preserved-then-at-marks
loop-tid-preserved-then-at-marks c =
    let marks = c.loop-tid.marks in
    let t = c.in-Some.tid in
    let there : t < length marks = omega (arith, c.if-at-marks.true, c.from-at.ensures) in
    let m = c.index-marks-at.result in
    record {
      many = length-set marks c.from-at.result c.cut.new.self ∙ c.loop-tid.invariant.many;
      counts =
          ap (λ (f : ℕ → List ℕ). with_each f c.next.new.self []) (counts_become marks t c.from-at.result c.from-at.ensures there m m c.index-marks-at.is c.cut.new.self [] (ap (λ (x : Marked). x.counts) c.cut.ensures))
          ∙ with_each_next (counts_in marks) t c.next.new.self []
          ∙ ap (λ (ts : List ℕ). with_each (counts_in marks) ts []) (sym c.in-Some.ensures.steps)
          ∙ c.loop-tid.invariant.counts;
      top = top_stay marks t c.from-at.result c.from-at.ensures there m m c.index-marks-at.is c.cut.new.self (ap (λ (x : Marked). x.top) c.cut.ensures ∙ ap (λ (x : Marked). x.top) (sym c.index-marks-at.is)) ∙ c.loop-tid.invariant.top;
    }

pub loop-tid-preserved : goal.loop-tid-preserved
loop-tid-preserved c =
    let marks = c.loop-tid.marks in record {
      many = c.loop-tid.invariant.many;
      counts =
          with_each_there (counts_in marks) c.in-Some.tid c.next.new.self [] (counts_past marks c.in-Some.tid (omega (arith, c.if-at-marks.false, c.from-at.ensures)))
          ∙ ap (λ (ts : List ℕ). with_each (counts_in marks) ts []) (sym c.in-Some.ensures.steps)
          ∙ c.loop-tid.invariant.counts;
      top = c.loop-tid.invariant.top;
    }

pub returns-clause-counts : goal.returns-clause-counts
returns-clause-counts c = ap (λ (ts : List ℕ). with_each (counts_in c.loop-tid.marks) ts []) (sym c.in-None.ensures.steps.0) ∙ c.loop-tid.invariant.counts

pub returns-clause-top : goal.returns-clause-top
returns-clause-top c = c.loop-tid.invariant.top
