use Rattle.std.proofs.Common.{◌≡◌, ◌≤◌, ◌+◌, ◌++◌, List, ℕ, length, map}
use Rattle.history.specs.declared.key.Key.{Key}
use Rattle.script_run.specs.Lines.{lines_of}
use Rattle.dump_text.specs.Dump.{record_words}
use Rattle.dump_text.specs.Taking.{HasRead}
use Rattle.dump_text.proofs.reading.read_dump.Given as goal

-- the records of the lines so far
abbrev pub invariant-loop-line : goal.invariant-loop-line
invariant-loop-line l = record {
  so_far : (read : List (Key × List ℕ)) × (lines_of l.text ≡ map record_words read ++ lines_of l.rest) × HasRead l.gathered read × (l.count ≡ length read);
  fits : l.count + length l.rest ≤ length l.text;
}

abbrev pub decreases-loop-line : goal.decreases-loop-line
decreases-loop-line l = length l.rest
