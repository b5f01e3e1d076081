use Rattle.std.proofs.Common.{◌≡◌, ◌≤◌, List, length, false}
use Rattle.caller_steps.specs.Run.{Turn}
use Rattle.mars_shell.specs.Made.{Made, GoOn}
use Rattle.mars_shell.specs.Tally.{tally_of, total}
use Rattle.mars_shell.proofs.turns.make_turns.Given as goal

-- the calls so far, with their replies
abbrev pub invariant-loop-turn : goal.invariant-loop-turn
invariant-loop-turn g l =
    let core = g.C.Core in
    record {
      made : (turns : List Turn) × Made core.tells (core.view l.fn.core) l.script turns (core.view l.core) × (length turns ≡ l.turn-index) × GoOn turns × (l.tally ≡ tally_of turns);
      few : total l.tally ≤ l.turn-index;
      alive : (core.view l.core).state.is_dead ≡ false;
      faults : (core.view l.core).faults ≡ (core.view l.fn.core).faults;
    }
