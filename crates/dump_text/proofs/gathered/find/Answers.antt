use Rattle.std.proofs.Common.{◌≡◌, false, ◌||◌, Bool, Some, sym, ap, ap₂, ◌∙◌, arith}
use Rattle.std.proofs.lemmas.List.Folds.{list_any_more}
use Rattle.std.proofs.lemmas.Option.{get_or_from_slice_get}
use Rattle.history.proofs.Keys.{name_decides}
use Rattle.history.specs.Rows.{NamedRows}
use Rattle.dump_text.specs.Dump.{is_same_name}
use Rattle.dump_text.specs.Gathering.{names_of}
use Rattle.dump_text.proofs.Gathering.{name_at, as_many_names}
use Rattle.dump_text.proofs.gathered.find.Goals as goal

pub returns-then-eq-clause-some : goal.returns-then-eq-clause-some
returns-then-eq-clause-some c =
    let table = c.index-tables-i.result in
    let same : table.0 ≡ c.args.name.now =
    ap (λ (t : NamedRows). t.0) c.index-tables-i.is ∙ sym c.as_bytes-in-loop-i.ensures.text ∙ sym ((name_decides c.as_bytes.result.now c.as_bytes-in-loop-i.result.now).0 (sym c.eq.ensures ∙ c.if-eq.true)) ∙ c.as_bytes.ensures.text in
    (c.loop-i-test.true, name_at c.args.tables.now c.loop-i.i table c.loop-i-test.true c.index-tables-i.is ∙ ap Some same)

pub loop-i-preserved : goal.loop-i-preserved
loop-i-preserved c =
    let tables = c.args.tables.now in
    let names = names_of tables in
    let i = c.loop-i.i in
    let table = c.index-tables-i.result in
    let test = is_same_name c.args.name.now in
    let other : test table.0 ≡ false = ap (λ (t : NamedRows). test t.0) c.index-tables-i.is ∙ sym (ap₂ is_same_name c.as_bytes.ensures.text c.as_bytes-in-loop-i.ensures.text) ∙ sym c.eq.ensures ∙ c.if-eq.false in
    list_any_more test names i table.0 (omega (arith, c.loop-i-test.true, as_many_names tables))
    ∙ ap₂ (λ (a b : Bool). a || b) c.loop-i.invariant
    (ap test (get_or_from_slice_get names i table.0 table.0 (name_at tables i table c.loop-i-test.true c.index-tables-i.is)) ∙ other)
