use Rattle.std.proofs.Common.{List, ◌≡◌, ◌∙◌, ◌+◌, ◌-◌, ◌*◌, refl, sym, subst, arith}
use Rattle.record_slots.specs.Super.{AreTables}
use Rattle.record_slots.specs.declared.super_page.TableEntry.{TableEntry}
use Rattle.record_slots.proofs.Naming.{are_more, last_added}
use Rattle.record_slots.proofs.names.with_table.Goals as goal

pub returns-clause-tables : goal.returns-clause-tables
returns-clause-tables c =
    let k = c.used_count-at.result in
    let size : 32 * c.used_count-at.result + 32 - 32 * c.used_count-at.result ≡ 32 = omega arith in
    (last_added c.args.front.now.entries c.copy_from_slice.new.self c.args.name.now k c.args.front.now.next_page (32 * k + 32 - 32 * k) c.entry_of.ensures.named (omega (arith, c.requires.page)) (omega arith) (c.requires.tables refl).0
    c.used_count-at.ensures.count c.requires.room size (c.copy_from_slice.ensures.after ∙ c.entry_of.ensures.bytes)).0

pub returns-clause-has : goal.returns-clause-has
returns-clause-has c = λ two.
    let k = c.used_count-at.result in
    let size : 32 * c.used_count-at.result + 32 - 32 * c.used_count-at.result ≡ 32 = omega arith in
    let h = last_added c.args.front.now.entries c.copy_from_slice.new.self c.args.name.now k c.args.front.now.next_page (32 * k + 32 - 32 * k) c.entry_of.ensures.named (omega (arith, c.requires.page)) (omega arith) (c.requires.tables refl).0
    c.used_count-at.ensures.count c.requires.room size (c.copy_from_slice.ensures.after ∙ c.entry_of.ensures.bytes) in
    (h.1, subst (λ (ts : List TableEntry). AreTables (c.args.front.now.next_page + 1) ts) (sym h.0) (are_more _ c.args.front.now.next_page c.args.name.now (c.requires.tables refl).1 c.requires.some c.requires.other))
