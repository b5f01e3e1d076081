use Rattle.std.proofs.Common.{◌≡◌, ◌++◌, drop}
use Rattle.std.specs.List.{flat_map}
use Rattle.history_text.specs.Text.{answer_line, numbered}
use Rattle.history_text.proofs.answers.write_answers.Given as goal

-- the text so far and the lines of the readers that are left make the whole
abbrev pub invariant-loop-reader : goal.invariant-loop-reader
invariant-loop-reader l = l.text.items ++ numbered (λ reader. flat_map (answer_line reader)) l.reader (drop l.reader l.told) ≡ l.fn.text.items ++ numbered (λ reader. flat_map (answer_line reader)) 0 l.fn.told
