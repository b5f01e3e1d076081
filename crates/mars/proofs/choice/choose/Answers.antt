use Rattle.std.proofs.Common.{refl, inr, map, string_bytes, ap, take, drop, length, ◌-◌}
use Rattle.mars.specs.Choice.{IsCommand}
use Rattle.mars.proofs.WordLemmas.{split_two, no_command}
use Rattle.mars.proofs.choice.choose.Goals as goal

pub returns-in-Err-NoCommand-clause-refused : goal.returns-in-Err-NoCommand-clause-refused
returns-in-Err-NoCommand-clause-refused c =
    let nothing = (rw c.in-Err-NoCommand.field-0-is at c.in-Err-NoCommand.ensures.refused) refl in
    let split = split_two c.args.line.now c.name-item.result c.in-len2-up.len_at_least c.name-item.is in
    inr (refl, no_command _ _ _ _ (ap (map string_bytes) split.1) nothing)

pub returns-clause-chosen : goal.returns-clause-chosen
returns-clause-chosen c =
    let split = split_two c.args.line.now c.name-item.result c.in-len2-up.len_at_least c.name-item.is in
    let command : IsCommand (map string_bytes c.args.line.now) (string_bytes c.name-item.result) (map string_bytes (take (length c.args.line.now - 2) (drop 2 c.args.line.now))) = record { program = string_bytes split.0; says = ap (map string_bytes) split.1; asked = c.in-Ok.field-0; asks = c.in-Ok.ensures.asked } in
    (string_bytes c.name-item.result, command, rw c.deref.ensures at c.in_ok-image.ensures.image)
