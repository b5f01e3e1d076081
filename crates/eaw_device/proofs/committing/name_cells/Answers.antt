use Rattle.std.proofs.Common.{◌≡◌, ◌-◌, ℕ, ◌<◌, inl, inr, List, length, take, sym, ◌∙◌, ap, subst, arith}
use Rattle.std.specs.Prelude.{slice_index}
use Rattle.std.proofs.lemmas.Bool.{cases_eq}
use Rattle.coordinator.specs.declared.cells.Cells.{Cells}
use Rattle.coordinator.specs.Commits.{cells_in}
use Rattle.write_back.specs.Entries.{cells_on}
use Rattle.row_bytes.specs.declared.ballot.Ballot.{Ballot}
use Rattle.write_back.specs.Orders.{IsFree}
use Rattle.eaw_device.proofs.Keeping.{first_few}
use Rattle.eaw_device.proofs.committing.name_cells.Goals as goal

pub overflow_sub-count : goal.overflow_sub-count
overflow_sub-count c =
    let log = c.args.log.now in
    let k = c.loop-logger.logger in
    let lt : k < c.args.shape.now.loggers = omega arith in
    let first = ap (λ (i : ℕ). slice_index c.counts_of_first-firsts.result i) c.from-at.ensures in
    let held = ap (λ (i : ℕ). slice_index log.held i) c.from-at.ensures in
    omega (arith, first, held, c.counts_of_first-firsts.ensures.counts k lt, first_few c.args.shape.now c.args.offset log.entries.items log.held c.requires.kept.cells k lt)

pub name-requires-clause-apart : goal.name-requires-clause-apart
name-requires-clause-apart c = subst (λ (bs : List Ballot). IsFree c.args.tid bs) (λ i. (sym c.loop-logger.invariant.ballots i).items) c.requires.apart

pub loop-logger-preserved : goal.loop-logger-preserved
loop-logger-preserved c =
    let log = c.args.log.now in
    let shape = c.args.shape.now in
    let k = c.loop-logger.logger in
    let at = c.loop-logger.invariant in
    let lt : k < shape.loggers = omega arith in
    let first : slice_index c.counts_of_first-firsts.result c.from-at.result ≡ length (cells_on shape k (take c.args.offset log.entries.items)) =
    ap (λ (i : ℕ). slice_index c.counts_of_first-firsts.result i) c.from-at.ensures ∙ c.counts_of_first-firsts.ensures.counts k lt in
    let held : slice_index log.held c.from-at.result ≡ slice_index log.held k = ap (λ (i : ℕ). slice_index log.held i) c.from-at.ensures in
    record {
      ready = c.name.ensures.ready;
      ballots = c.name.ensures.ballots ∙ at.ballots;
      depth = c.name.ensures.depth ∙ at.depth;
      parts = c.name.ensures.parts ∙ at.parts;
      tied = λ aside tied. c.name.ensures.tied aside (at.tied aside tied);
      waiting = λ now waiting. c.name.ensures.waiting now (at.waiting now waiting);
      same = λ image. c.name.ensures.same image ∙ at.same image;
      here = λ g below. elim (cases_eq g k) [
        | inl is ↦ ap (λ (h : ℕ). cells_in c.name.new.self.queue.cells h c.args.tid) is
            ∙ c.name.ensures.here
            ∙ (λ i. record { first = first i; count = held i - first i })
            ∙ ap (λ (h : ℕ). let first = length (cells_on shape h (take c.args.offset log.entries.items)) in let y : Cells = record { first = first; count = slice_index log.held h - first } in y) (sym is)
        | inr ne ↦ c.name.ensures.others g c.args.tid (omega (arith, shape.in_range.most_loggers)) (λ same. ne (omega arith)) ∙ at.here g (omega arith)
      ];
      others = λ g t small ne. c.name.ensures.others g t small (λ same. ne (omega (arith, shape.in_range.most_loggers))) ∙ at.others g t small ne;
    }
