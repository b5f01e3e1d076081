use Rattle.std.proofs.Common.{sym}
use Rattle.std.proofs.lemmas.Bool.{ltb-true}
use Rattle.dump_text.proofs.Rising.{below_found}
use Rattle.dump_text.proofs.keyed_rows.is_behind.Goals as goal

pub returns-in-Some : goal.returns-in-Some
returns-in-Some c = λ told. below_found c.args.key c.args.rows.now c.in-Some.row.now c.requires (sym c.in-Some.ensures.value) (ltb-true c.in-Some.row.now.0 c.args.key told)
