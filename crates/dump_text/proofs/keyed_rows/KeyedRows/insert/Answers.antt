use Rattle.std.proofs.Common.{◌≡◌, List, ℕ, sym, ap, subst, ◌∙◌}
use Rattle.std.specs.BTreeMap.{insert_entry, is_at}
use Rattle.std.specs.Map.{lookup}
use Rattle.std.specs.Ordering.{nat_cmp}
use Rattle.history.specs.Key.{main_name}
use Rattle.history.specs.Writes.{Row}
use Rattle.dump_text.specs.Dump.{AreRising}
use Rattle.dump_text.specs.Keyed.{AreBelow, kept_rows}
use Rattle.dump_text.proofs.Rising.{none_behind, none_rise, put_behind, rising_more}
use Rattle.dump_text.proofs.keyed_rows.KeyedRows.insert.Goals as goal

pub invariant_of-self-then-is_behind : goal.invariant_of-self-then-is_behind
invariant_of-self-then-is_behind c =
    let below = subst (AreBelow c.args.key) c.as_slice.ensures (c.is_behind.ensures c.if-is_behind.true) in
    subst (λ (rows : List Row). AreRising (main_name, rows)) (sym c.in_ok-push.ensures.ok) (rising_more c.args.key c.args.value c.self.inside.list c.self.invariant below)

pub returns-then-is_behind-clause-had : goal.returns-then-is_behind-clause-had
returns-then-is_behind-clause-had c =
    let list = c.self.inside.list in
    let below = subst (AreBelow c.args.key) c.as_slice.ensures (c.is_behind.ensures c.if-is_behind.true) in
    let same : list ≡ c.args.self.now = sym (ap (kept_rows list) c.in_default.is) ∙ c.self.view_is in
    sym (none_behind c.args.key list below) ∙ ap (λ (rows : List Row). lookup (is_at (nat_cmp c.args.key)) rows) same

pub returns-then-is_behind-clause-rows : goal.returns-then-is_behind-clause-rows
returns-then-is_behind-clause-rows c =
    let list = c.self.inside.list in
    let below = subst (AreBelow c.args.key) c.as_slice.ensures (c.is_behind.ensures c.if-is_behind.true) in
    let same : list ≡ c.args.self.now = sym (ap (kept_rows list) c.in_default.is) ∙ c.self.view_is in
    ap (kept_rows c.push.new.self) c.in_default.is ∙ c.in_ok-push.ensures.ok ∙ sym (put_behind c.args.key c.args.value list below)
    ∙ ap (λ (rows : List Row). insert_entry nat_cmp rows c.args.key c.args.value) same

pub invariant_of-self-2 : goal.invariant_of-self-2
invariant_of-self-2 c = subst (λ (rows : List Row). AreRising (main_name, rows)) (sym c.new.ensures) none_rise
