use Rattle.std.proofs.Common.{inl, subst}
use Rattle.std.specs.Prelude.{map, string_bytes}
use Rattle.command_words.specs.Asked.{AsksFor}
use Rattle.mars_shell.proofs.Saying.{obeyed_say}
use Rattle.mars_shell.proofs.whole.run.Goals as goal

pub returns-in-Err-NoCommand-clause-words : goal.returns-in-Err-NoCommand-clause-words
returns-in-Err-NoCommand-clause-words g c = inl (c.in-Err-NoCommand.ensures.refused c.in-Err-NoCommand.field-0-is)

pub returns-in-Err-NoCommand-clause-input : goal.returns-in-Err-NoCommand-clause-input
returns-in-Err-NoCommand-clause-input g c = inl (c.in-Err-NoCommand.ensures.refused c.in-Err-NoCommand.field-0-is)

pub returns-in-Err-NoCommand-clause-formats : goal.returns-in-Err-NoCommand-clause-formats
returns-in-Err-NoCommand-clause-formats g c = inl (c.in-Err-NoCommand.ensures.refused c.in-Err-NoCommand.field-0-is)

pub returns-in-Err-NoCommand-clause-ran : goal.returns-in-Err-NoCommand-clause-ran
returns-in-Err-NoCommand-clause-ran g c = inl (c.in-Err-NoCommand.ensures.refused c.in-Err-NoCommand.field-0-is)

pub returns-in-Err-NoCommand-clause-untold : goal.returns-in-Err-NoCommand-clause-untold
returns-in-Err-NoCommand-clause-untold g c = inl (c.in-Err-NoCommand.ensures.refused c.in-Err-NoCommand.field-0-is)

pub returns-in-Err-NoCommand-clause-complete : goal.returns-in-Err-NoCommand-clause-complete
returns-in-Err-NoCommand-clause-complete g c = inl (c.in-Err-NoCommand.ensures.refused c.in-Err-NoCommand.field-0-is)

pub obey-status-requires-clause-asked : goal.obey-status-requires-clause-asked
obey-status-requires-clause-asked g c = λ κs lives. (map string_bytes c.args.words.now, c.in-Ok.ensures.asked)

pub returns-in-Ok-clause-usage : goal.returns-in-Ok-clause-usage
returns-in-Ok-clause-usage g c = λ nothing. absurd (nothing c.in-Ok.asked c.in-Ok.ensures.asked)

pub returns-in-Ok-clause-shut : goal.returns-in-Ok-clause-shut
returns-in-Ok-clause-shut g c = λ none. c.obey-status.ensures.shut (λ numbers is. none numbers (subst (AsksFor (map string_bytes c.args.words.now)) is c.in-Ok.ensures.asked))

pub returns-in-Ok-clause-words : goal.returns-in-Ok-clause-words
returns-in-Ok-clause-words g c = obeyed_say (map string_bytes c.args.words.now) c.obey-status.result.0 _ _ c.in-Ok.asked c.obey-status.ensures.usage c.in-Ok.ensures.asked tt

pub returns-in-Ok-clause-input : goal.returns-in-Ok-clause-input
returns-in-Ok-clause-input g c = obeyed_say (map string_bytes c.args.words.now) c.obey-status.result.0 _ _ c.in-Ok.asked c.obey-status.ensures.usage c.in-Ok.ensures.asked c.obey-status.ensures.input

pub returns-in-Ok-clause-formats : goal.returns-in-Ok-clause-formats
returns-in-Ok-clause-formats g c = obeyed_say (map string_bytes c.args.words.now) c.obey-status.result.0 _ _ c.in-Ok.asked c.obey-status.ensures.usage c.in-Ok.ensures.asked c.obey-status.ensures.formats

pub returns-in-Ok-clause-untold : goal.returns-in-Ok-clause-untold
returns-in-Ok-clause-untold g c = obeyed_say (map string_bytes c.args.words.now) c.obey-status.result.0 _ _ c.in-Ok.asked c.obey-status.ensures.usage c.in-Ok.ensures.asked c.obey-status.ensures.untold

pub returns-in-Ok-clause-ran : goal.returns-in-Ok-clause-ran
returns-in-Ok-clause-ran g c = obeyed_say (map string_bytes c.args.words.now) c.obey-status.result.0 _ _ c.in-Ok.asked c.obey-status.ensures.usage c.in-Ok.ensures.asked c.obey-status.ensures.ran

pub returns-in-Ok-clause-complete : goal.returns-in-Ok-clause-complete
returns-in-Ok-clause-complete g c = obeyed_say (map string_bytes c.args.words.now) c.obey-status.result.0 _ _ c.in-Ok.asked c.obey-status.ensures.usage c.in-Ok.ensures.asked c.obey-status.ensures.complete
