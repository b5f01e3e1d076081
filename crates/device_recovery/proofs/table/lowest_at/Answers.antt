use Rattle.std.proofs.Common.{◌≡◌, ℕ, ◌+◌, ◌<◌, ◌≤◌, true, List, inl, inr, ⊎_elim, ap, sym, ◌∙◌, subst, arith}
use Rattle.std.proofs.lemmas.Bool.{cases_eq, false≢true}
use Rattle.array_shape.specs.declared.shape.Shape.{Shape}
use Rattle.row_bytes.specs.declared.row.Row.{Row}
use Rattle.device_recovery.specs.Table.{row_in, decided_in, HasOrder, IsLeastAt}
use Rattle.device_recovery.proofs.table.lowest_at.Goals.{then-is_decided, else-is_decided}
use Rattle.device_recovery.proofs.table.lowest_at.Goals as goal

-- the row at one logger more is looked at
one_more : (shape : Shape) (rows : List Row) (from t n least lower : ℕ) → IsLeastAt shape rows from t n least → lower ≤ least
    → (decided_in shape rows n t ≡ true → from ≤ (row_in rows n t).order → (lower ≤ (row_in rows n t).order) × ((row_in rows n t).order < 65536)) → IsLeastAt shape rows from t (n + 1) lower
one_more shape rows from t n least lower so_far lowers at g lt is le = elim (cases_eq g n) [
  | inl same ↦ subst (λ (k : ℕ). decided_in shape rows k t ≡ true → from ≤ (row_in rows k t).order → (lower ≤ (row_in rows k t).order) × ((row_in rows k t).order < 65536)) (sym same) at is le
  | inr ne ↦ (let before = so_far g (omega arith) is le in (omega (arith, before.0, lowers), before.1))
]

pub loop-logger-preserved-then-order-from : goal.loop-logger-preserved-then-order-from
loop-logger-preserved-then-order-from c =
    let so_far = c.loop-logger.invariant in
    let order = ap (λ (row : Row). row.order) c.row_in.ensures in (
      so_far.0,
      so_far.1,
      one_more c.args.shape.now c.args.rows.now c.args.from c.args.tid c.loop-logger.logger c.loop-logger.lowest c.loop-logger.lowest so_far.2 (omega arith)
          (λ is le. absurd (omega (arith, le, order, c.from-order.ensures, c.if-order-from.true))),
      so_far.3,
    )

pub loop-logger-preserved-then-order-lowest : goal.loop-logger-preserved-then-order-lowest
loop-logger-preserved-then-order-lowest c =
    let so_far = c.loop-logger.invariant in
    let order = ap (λ (row : Row). row.order) c.row_in.ensures in
    let fits : c.row_in.result.order < 65536 = omega (arith, c.row_in.type_inv) in (
      so_far.0,
      so_far.1,
      one_more c.args.shape.now c.args.rows.now c.args.from c.args.tid c.loop-logger.logger c.loop-logger.lowest c.loop-logger.lowest so_far.2 (omega arith)
          (λ is le. (omega (arith, order, c.from-order.ensures, c.if-order-lowest.true), omega (arith, order, fits))),
      so_far.3,
    )

pub loop-logger-preserved : goal.loop-logger-preserved
loop-logger-preserved c =
    let shape = c.args.shape.now in
    let rows = c.args.rows.now in
    let so_far = c.loop-logger.invariant in
    let more = one_more shape rows c.args.from c.args.tid c.loop-logger.logger c.loop-logger.lowest c.if-is_decided.lowest so_far.2 in
    let order = ap (λ (row : Row). row.order) c.row_in.ensures in
    let fits : c.row_in.result.order < 65536 = omega (arith, c.row_in.type_inv) in
    elim c.if-is_decided.branch [
      | then-is_decided w ↦ (
        omega (arith, w.lowest-is, c.if-order-from.false),
        omega (arith, w.lowest-is, c.if-order-lowest.false, so_far.1),
        more (omega (arith, w.lowest-is, c.if-order-lowest.false)) (λ is le. (omega (arith, w.lowest-is, order, c.from-order.ensures), omega (arith, order, fits))),
        inr (record {
          logger = c.loop-logger.logger;
          tid = c.args.tid;
          one_logger = omega (arith, c.loop-logger-test.true);
          one_number = c.requires.tid;
          is_decided = sym c.is_decided.ensures ∙ w.if-is_decided.true;
          order_is = sym order ∙ sym c.from-order.ensures ∙ sym w.lowest-is;
        }),
      )
      | else-is_decided w ↦ (
        omega (arith, w.lowest-is, so_far.0),
        omega (arith, w.lowest-is, so_far.1),
        more (omega (arith, w.lowest-is)) (λ is le. absurd (false≢true (sym w.if-is_decided.false ∙ c.is_decided.ensures ∙ is))),
        ⊎_elim (λ same. inl (w.lowest-is ∙ same)) (λ has. inr (subst (HasOrder shape rows) (sym w.lowest-is) has)) so_far.3,
      )
    ]
