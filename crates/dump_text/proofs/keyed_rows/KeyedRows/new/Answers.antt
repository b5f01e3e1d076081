use Rattle.std.proofs.Common.{List, sym, subst}
use Rattle.history.specs.Key.{main_name}
use Rattle.history.specs.Writes.{Row}
use Rattle.dump_text.specs.Dump.{AreRising}
use Rattle.dump_text.proofs.Rising.{none_rise}
use Rattle.dump_text.proofs.keyed_rows.KeyedRows.new.Goals as goal

pub invariant_of-result : goal.invariant_of-result
invariant_of-result c = subst (λ (rows : List Row). AreRising (main_name, rows)) (sym c.new.ensures) none_rise
