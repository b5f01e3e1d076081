use Rattle.command_words.proofs.OneAsked.{one_command}
use Rattle.command_words.proofs.laws.one_command.Goals as goal

pub returns : goal.returns
returns c = one_command
