use Rattle.std.proofs.Common.{[], ◌≡◌, ℕ, ◌+◌, List, true, false, sym, ◌∙◌, ap, arith}
use Rattle.std.proofs.lemmas.Bool.{false≢true}
use Rattle.std.proofs.lemmas.Result.{IfOk-weaker}
use Rattle.array_image.proofs.Calls.{none_yet}
use Rattle.row_bytes.specs.declared.row.Row.{Row}
use Rattle.array_image.specs.Decided.{decided}
use Rattle.array_image.specs.Standing.{IsGoodRow}
use Rattle.array_shape.specs.declared.shape.Shape.{Shape}
use Rattle.device_recovery.specs.Table.{row_in, decided_in}
use Rattle.device_recovery.specs.Recovered.{cells_if}
use Rattle.device_recovery.proofs.Totals.{cells_some, cells_none}
use Rattle.device_recovery.proofs.Done.{all_done}
use Rattle.device_recovery.proofs.Read.{table_decided, table_fits, table_good, table_bad}
use Rattle.device_recovery.proofs.checking.is_bad.Goals as goal

pub returns-then-not-is_decided : goal.returns-then-not-is_decided
returns-then-not-is_decided g c =
    let m = g.M.Media in
    let image = (m.view c.args.media.now).content.bytes in
    record {
      none = λ told is so. absurd (false≢true (c.if-not-is_decided.ensures ∙ table_decided c.args.shape.now image c.args.rows.now (c.requires.rows told) c.args.logger c.args.tid c.requires.logger c.requires.tid ∙ so));
      some = λ told is. cc;
      most = omega arith;
      whole = λ is. omega (arith, cells_none (decided_in c.args.shape.now c.args.rows.now) (row_in c.args.rows.now) c.args.logger c.args.tid (sym c.if-not-is_decided.ensures));
      fits = λ is so. absurd (false≢true (c.if-not-is_decided.ensures ∙ so));
      does = all_done m.tells [] _ _ _ (none_yet m.tells [] (m.view c.args.media.now));
    }

pub returns-then-from : goal.returns-then-from
returns-then-from g c =
    let m = g.M.Media in
    let image = (m.view c.args.media.now).content.bytes in
    record {
      none = λ told is. cc;
      some = λ told is. (
        sym (table_decided c.args.shape.now image c.args.rows.now (c.requires.rows told) c.args.logger c.args.tid c.requires.logger c.requires.tid) ∙ sym c.if-not-is_decided.ensures,
        λ good.
            let fits = table_fits c.args.shape.now image c.args.rows.now (c.requires.rows told) c.args.logger c.args.tid c.requires.logger c.requires.tid good in
            let first = ap (λ (r : Row). r.first) c.row_in-row.ensures in
            let count = ap (λ (r : Row). r.count) c.row_in-row.ensures in
            omega (arith, fits, first, count, c.if-from.true, c.from.ensures, c.from-2.ensures, c.from-3.ensures),
      );
      most = omega arith;
      whole = λ is. cc;
      fits = λ is. cc;
      does = all_done m.tells [] _ _ _ (none_yet m.tells [] (m.view c.args.media.now));
    }

pub returns-clause-none : goal.returns-clause-none
returns-clause-none g c told =
    let image = (g.M.Media.view c.args.media.now).content.bytes in
    IfOk-weaker c.has_bad_cell.result _ (λ bad. bad ≡ false → decided c.args.shape.now image c.args.logger c.args.tid ≡ true → IsGoodRow c.args.shape.now image c.args.logger c.args.tid)
    (λ bad good is so. table_good c.args.shape.now image c.args.rows.now (c.requires.rows told) c.args.logger c.args.tid c.requires.logger c.requires.tid c.row_in-row.result c.row_in-row.ensures (omega (arith, c.if-from.false, c.from.ensures, c.from-2.ensures, c.from-3.ensures)) (good is))
    (c.has_bad_cell.ensures.none told)

pub returns-clause-some : goal.returns-clause-some
returns-clause-some g c told =
    let image = (g.M.Media.view c.args.media.now).content.bytes in
    IfOk-weaker c.has_bad_cell.result _ (λ bad. bad ≡ true → (decided c.args.shape.now image c.args.logger c.args.tid ≡ true) × (IsGoodRow c.args.shape.now image c.args.logger c.args.tid → ⊥))
    (λ bad some is.
    let cell = some is in (
      sym (table_decided c.args.shape.now image c.args.rows.now (c.requires.rows told) c.args.logger c.args.tid c.requires.logger c.requires.tid) ∙ sym c.if-not-is_decided.ensures,
      table_bad c.args.shape.now image c.args.rows.now (c.requires.rows told) c.args.logger c.args.tid c.requires.logger c.requires.tid c.row_in-row.result c.row_in-row.ensures cell.0 cell.1 cell.2 cell.3,
    ))
    (c.has_bad_cell.ensures.some told)

named : (shape : Shape) (rows : List Row) (row : Row) (logger tid : ℕ) → row ≡ row_in rows logger tid → true ≡ decided_in shape rows logger tid → cells_if (decided_in shape rows) (row_in rows) logger tid ≡ row.count
named shape rows row logger tid is so = cells_some (decided_in shape rows) (row_in rows) logger tid (sym so) ∙ sym (ap (λ (r : Row). r.count) is)

pub returns-clause-most : goal.returns-clause-most
returns-clause-most g c = omega (arith, c.has_bad_cell.ensures.most, named c.args.shape.now c.args.rows.now c.row_in-row.result c.args.logger c.args.tid c.row_in-row.ensures c.if-not-is_decided.ensures)

pub returns-clause-whole : goal.returns-clause-whole
returns-clause-whole g c =
    let m = g.M.Media in
    let count = named c.args.shape.now c.args.rows.now c.row_in-row.result c.args.logger c.args.tid c.row_in-row.ensures c.if-not-is_decided.ensures in
    IfOk-weaker c.has_bad_cell.result _ (λ bad. bad ≡ false → (m.view c.has_bad_cell.new.media).moment ≡ (m.view c.args.media.now).moment + cells_if (decided_in c.args.shape.now c.args.rows.now) (row_in c.args.rows.now) c.args.logger c.args.tid)
    (λ bad whole is. omega (arith, whole is, count)) c.has_bad_cell.ensures.whole

pub returns-clause-does : goal.returns-clause-does
returns-clause-does g c = c.has_bad_cell.ensures.does
