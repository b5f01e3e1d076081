use Rattle.std.proofs.Common.{List, ℕ, sym, subst, arith}
use Rattle.record_slots.specs.Super.{SaysSuper, main_super}
use Rattle.record_slots.proofs.MainAlone.{says_main, written_main}
use Rattle.record_slots.proofs.super_page.main_super.Goals as goal

pub returns : goal.returns
returns c =
    let front = main_super c.args.form c.args.next_slot c.args.next_page in
    let is = written_main c.args.form c.args.next_slot c.args.next_page c.main_entries.result c.write_super.new.out c.main_entries.ensures c.write_super.ensures in
    record {
      says = subst (λ (bytes : List ℕ). SaysSuper bytes front) (sym is) (says_main c.args.form c.args.next_slot c.args.next_page (omega arith) (omega arith));
      bytes = is;
    }
