use Rattle.std.proofs.Common.{◌≡◌, ◌≤◌, ℕ, List, length, subst, sym, ap, ◌∙◌, refl, arith}
use Rattle.std.specs.List.{insert}
use Rattle.std.specs.Prelude.{slice_get}
use Rattle.record_table.specs.AllTables.{place}
use Rattle.history.specs.Rows.{NamedRows}
use Rattle.record_table.proofs.ByName.{one_more, put_at, place_within}
use Rattle.record_table.proofs.reading.with_names.Goals as goal

pub insert-requires : goal.insert-requires
insert-requires g c =
    let at : c.place_of-at.result ≡ place c.in-Some-name.name c.loop-rows.named.items = c.place_of-at.ensures ∙ ap (place c.in-Some-name.name) c.deref.ensures.value in
    omega (arith, at, place_within c.in-Some-name.name c.loop-rows.named.items, sym (ap length c.deref.ensures.value) ∙ c.deref.ensures.len)

pub loop-rows-preserved-in-Continue-1 : goal.loop-rows-preserved-in-Continue-1
loop-rows-preserved-in-Continue-1 g c =
    let inv = c.loop-rows.invariant in
    let name = c.in-Some-name.name in
    let rows = c.in-Some.rows in
    let at : c.place_of-at.result ≡ place name c.loop-rows.named.items = c.place_of-at.ensures ∙ ap (place name) c.deref.ensures.value in
    one_more c.args.names.now c.args.tables.items c.loop-rows.left.items c.pop.new.self.items inv.0 rows name c.loop-rows.named.items c.insert.new.self.items inv.1 c.in-Some.ensures.items
    (ap (slice_get c.args.names.now) (sym (c.len.ensures ∙ c.pop.new.self.ok.0)) ∙ sym c.name.ensures ∙ c.in-Some-name.is) inv.2
    (c.in_ok-insert.ensures.items ∙ ap (λ (n : ℕ). insert c.loop-rows.named.items n (name, rows)) at ∙ put_at (name, rows) c.loop-rows.named.items)
