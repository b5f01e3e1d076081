use Rattle.std.proofs.Common.{ℕ, List, Some, ◌<◌, ap, sym, ◌∙◌, arith, Option, length}
use Rattle.std.specs.Prelude.{slice_get}
use Rattle.std.specs.Option.{option_map}
use Rattle.record_slots.specs.Super.{tables_used}
use Rattle.record_slots.specs.declared.super_page.TableEntry.{TableEntry}
use Rattle.record_slots.proofs.Used.{tables_used_at, beyond_used, used_in}
use Rattle.record_slots.proofs.entries.table_root.Goals as goal

abbrev root_in : List TableEntry → ℕ → Option ℕ
root_in tables j = option_map (λ entry. entry.root) (slice_get tables j)

pub returns-then-j-used_count : goal.returns-then-j-used_count
returns-then-j-used_count c =
    let es = c.args.front.now.entries in
    let lt : c.from-j.result < length (tables_used es) = omega (arith, c.if-j-used_count.true, c.used_count.ensures.count) in
    ap (λ (n : ℕ). Some n) c.root_at.ensures ∙ ap (λ (t : Option TableEntry). option_map (λ entry. entry.root) t) (sym (tables_used_at c.from-j.result es lt).0)
    ∙ (λ i. root_in (sym (used_in c.args.front.now.version es c.if-front-eq1.false) i) (c.from-j.ensures i))

pub returns-else-j-used_count : goal.returns-else-j-used_count
returns-else-j-used_count c =
    let es = c.args.front.now.entries in
    ap (λ (t : Option TableEntry). option_map (λ entry. entry.root) t) (sym (beyond_used (tables_used es) c.from-j.result (omega (arith, c.if-j-used_count.false, c.used_count.ensures.count))))
    ∙ (λ i. root_in (sym (used_in c.args.front.now.version es c.if-front-eq1.false) i) (c.from-j.ensures i))
