use Rattle.std.proofs.Common.{◌≡◌, ◌≤◌, ◌+◌, None, List, length}
use Rattle.script_run.specs.Lines.{lines_of}
use Rattle.script_text.specs.declared.joint_line.JointLine.{JointLine}
use Rattle.caller_plans.specs.Asks.{keys_from, all_asked}
use Rattle.caller_plans.specs.Plans.{AllSay, faults_from, plans_from}
use Rattle.caller_plans.specs.Drafts.{all_faults, all_drafted}
use Rattle.caller_plans.proofs.script.read_script.Given as goal

-- Whatever the remaining lines say, the faults, the plans and what readers ask for of all lines are those of what was read followed by these lines.
abbrev pub invariant-loop-line : goal.invariant-loop-line
invariant-loop-line l = record {
  reads : (rest : List JointLine) → AllSay l.callers l.readers (lines_of l.rest) rest
      → (said : List JointLine) × AllSay l.callers l.readers (lines_of l.input) said
      × (all_faults l.number l.reading rest ≡ faults_from 1 (λ caller. None) said) × (all_drafted 0 l.reading.drafts.items rest ≡ plans_from 0 l.callers said)
      × (all_asked 0 l.reading.asks.items rest ≡ keys_from 0 l.readers said);
  count : length l.reading.drafts.items ≡ l.callers;
  readers : length l.reading.asks.items ≡ l.readers;
  number : l.number + length l.rest ≤ length l.input + 1;
}

abbrev pub decreases-loop-line : goal.decreases-loop-line
decreases-loop-line l = length l.rest
