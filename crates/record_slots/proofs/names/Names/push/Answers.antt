use Rattle.std.proofs.Common.{ℕ, List, [], ◌∷◌, ◌++◌, ◌≡◌, ◌∙◌, ◌+◌, ◌-◌, ◌*◌, ◌<◌, length, ap, arith}
use Rattle.std.proofs.lemmas.List.{map-append}
use Rattle.record_slots.specs.Names.{names_in}
use Rattle.record_slots.specs.Super.{tables_used}
use Rattle.record_slots.specs.declared.super_page.TableEntry.{TableEntry}
use Rattle.record_slots.proofs.Naming.{last_added}
use Rattle.record_slots.proofs.names.Names.push.Goals as goal

pub invariant_of-self : goal.invariant_of-self
invariant_of-self c =
    let es = c.self.inside.entries in
    let k = c.used_count-count.result in
    let size : 32 * c.used_count-count.result + 32 - 32 * c.used_count-count.result ≡ 32 = omega arith in
    let room : length (tables_used c.self.inside.entries) < 8 = omega (arith, c.used_count-count.ensures.count, c.used_count-count.ensures.most, c.if-count-eq-TABLES_MAX.false) in
    (last_added es c.copy_from_slice.new.self c.args.name.now k 0 (32 * k + 32 - 32 * k) c.entry_of.ensures.named (omega arith) c.self.told c.self.invariant c.used_count-count.ensures.count room size (c.copy_from_slice.ensures.after ∙ c.entry_of.ensures.bytes)).1

pub returns-clause-added : goal.returns-clause-added
returns-clause-added c = λ lt.
    let es = c.self.inside.entries in
    let k = c.used_count-count.result in
    let last : TableEntry = record { name = c.args.name.now; root = 0 } in
    let size : 32 * c.used_count-count.result + 32 - 32 * c.used_count-count.result ≡ 32 = omega arith in
    let room : length (tables_used c.self.inside.entries) < 8 = omega (arith, c.used_count-count.ensures.count, c.used_count-count.ensures.most, c.if-count-eq-TABLES_MAX.false) in
    ap names_in (last_added es c.copy_from_slice.new.self c.args.name.now k 0 (32 * k + 32 - 32 * k) c.entry_of.ensures.named (omega arith) c.self.told c.self.invariant c.used_count-count.ensures.count room size (c.copy_from_slice.ensures.after ∙ c.entry_of.ensures.bytes)).0
    ∙ map-append (λ (t : TableEntry). t.name) (tables_used es) (last ∷ []) ∙ ap (λ (names : List (List ℕ)). names ++ c.args.name.now ∷ []) c.self.view_is
