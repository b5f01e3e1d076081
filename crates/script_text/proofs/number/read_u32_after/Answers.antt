use Rattle.std.proofs.Common.{◌<◌, ◌^◌}
use Rattle.std.specs.Fmt.{decimal}
use Rattle.script_text.proofs.Fields.{reads_behind}
use Rattle.script_text.proofs.number.read_u32_after.Goals as goal

pub returns : goal.returns
returns c = reads_behind (λ n. n < 2 ^ 32) decimal c.args.front.now c.args.bytes.now c.in_ok-rest.rest.now _ c.in_ok-rest.ensures c.read_u32.ensures
