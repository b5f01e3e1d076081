use Rattle.std.proofs.Common.{ℕ, List, Option, subst}
use Rattle.std.specs.Prelude.{Ok}
use Rattle.history.specs.declared.call.TableCall.TheVariants.{Get}
use Rattle.transactions.specs.Adds.{Adds}
use Rattle.transactions.specs.Told.{told_get}
use Rattle.long_values.specs.Changing.{seen_by}
use Rattle.long_values.proofs.Telling.{read_text, length_read}
use Rattle.long_values.proofs.reading.length.Goals as goal

pub returns-in-Some-number_in-clause-told : goal.returns-in-Some-number_in-clause-told
returns-in-Some-number_in-clause-told g c told value kept =
    let old = g.C.Core.view c.args.core.now in
    let new = g.C.Core.view c.get.new.core in
    let adds = subst (λ (o : Option (List ℕ)). Adds c.args.caller (Get c.args.table c.first.result) (told_get (Ok o)) old new) c.in-Some.is (c.in_ok-text.ensures.ok told) in
    length_read c.args.table c.args.key c.first.result value (seen_by c.args.caller old) c.in-Some.text c.in-Some-number_in.length c.first.ensures.is
    (read_text c.args.caller old new c.args.table c.first.result c.in-Some.text (c.get.ensures.stays told) adds) c.in-Some-number_in.ensures.0 c.in-Some-number_in.ensures.1 kept
