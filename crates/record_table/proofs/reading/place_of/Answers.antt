use Rattle.std.proofs.Common.{◌≡◌, ℕ, zero, suc, ◌+◌, Bool, true, false, drop, sym, ap, ◌∙◌, arith}
use Rattle.std.specs.Prelude.{if◌then◌else◌}
use Rattle.std.specs.Ordering.{nat_cmp, is_lt}
use Rattle.std.specs.Cmp.Lexicographic.{slice_cmp}
use Rattle.record_table.specs.AllTables.{is_before, place}
use Rattle.record_table.proofs.ByName.{place-next}
use Rattle.record_table.proofs.reading.place_of.Goals as goal

pub returns-then-is_lt : goal.returns-then-is_lt
returns-then-is_lt g c =
    let name = c.args.name.now in
    let tables = c.args.tables.now in
    let table = c.index-tables-at.result in
    let less : is_before name table.0 ≡ true = sym (c.is_lt.ensures ∙ ap is_lt (c.cmp.ensures ∙ (λ i. slice_cmp nat_cmp (c.as_bytes.ensures.text i) (c.as_bytes-in-loop-at.ensures.text i)))) ∙ c.if-is_lt.true in
    let here : place name (drop c.loop-at.at tables) ≡ 0 =
    place-next name tables c.loop-at.at table c.loop-at-test.true c.index-tables-at.is ∙ ap (λ (b : Bool). if b then zero else suc (place name (drop (c.loop-at.at + 1) tables))) less in
    omega (arith, c.loop-at.invariant, here)

pub loop-at-preserved : goal.loop-at-preserved
loop-at-preserved g c =
    let name = c.args.name.now in
    let tables = c.args.tables.now in
    let table = c.index-tables-at.result in
    let not_less : is_before name table.0 ≡ false = sym (c.is_lt.ensures ∙ ap is_lt (c.cmp.ensures ∙ (λ i. slice_cmp nat_cmp (c.as_bytes.ensures.text i) (c.as_bytes-in-loop-at.ensures.text i)))) ∙ c.if-is_lt.false in
    let here : place name (drop c.loop-at.at tables) ≡ suc (place name (drop (c.loop-at.at + 1) tables)) =
    place-next name tables c.loop-at.at table c.loop-at-test.true c.index-tables-at.is ∙ ap (λ (b : Bool). if b then zero else suc (place name (drop (c.loop-at.at + 1) tables))) not_less in
    omega (arith, c.loop-at.invariant, here)
