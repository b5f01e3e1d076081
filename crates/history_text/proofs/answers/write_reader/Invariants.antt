use Rattle.std.proofs.Common.{◌≡◌, ◌++◌, take}
use Rattle.std.specs.List.{flat_map}
use Rattle.history_text.specs.Text.{answer_line}
use Rattle.history_text.proofs.answers.write_reader.Given as goal

-- the lines so far come after what was there
abbrev pub invariant-loop-answer : goal.invariant-loop-answer
invariant-loop-answer l = l.text.items ≡ l.fn.text.items ++ flat_map (answer_line l.reader) (take l.answer-index l.answers)
