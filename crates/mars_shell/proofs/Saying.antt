-- What is said of the words, at each status.
use Rattle.std.proofs.Common.{◌≡◌, ℕ, inr, List, refl, subst}
use Rattle.command_words.specs.Asked.{AsksFor}
use Rattle.command_words.specs.declared.words.CallersNumbers.{CallersNumbers}
use Rattle.command_words.specs.declared.words.Words.{Words}
use Rattle.command_words.specs.declared.words.Words.TheVariants.{Callers}
use Rattle.mars_shell.specs.Asked.{WordsSay}
use Rattle.array_runs.specs.declared.status.Status.{Status}
use Rattle.array_runs.specs.declared.status.Status.TheVariants.{Good, Usage, TooLong, ReadFault, WriteFault, MediaFault, NoMemory, Damaged, BadRow, NotMars, BadShape, Refused, BadFrame, Gap}

-- What the words ask for is obeyed. `Usage` comes only for callers.
pub obeyed_say : (words : List (List ℕ)) (status : Status) (Unread : Type 0) (Holds : Words → Type 0) (asked : Words) → (status ≡ Usage → (numbers : CallersNumbers) × (asked ≡ Callers numbers)) → AsksFor words asked → Holds asked
    → WordsSay words status Unread Holds
obeyed_say words Usage Unread Holds asked callers asks holds = (let c = callers refl in inr (c.0, subst (AsksFor words) c.1 asks, subst Holds c.1 holds))
obeyed_say words NoMemory Unread Holds asked callers asks holds = inr (asked, asks, holds)
obeyed_say words Good Unread Holds asked callers asks holds = (asked, asks, holds)
obeyed_say words TooLong Unread Holds asked callers asks holds = (asked, asks, holds)
obeyed_say words ReadFault Unread Holds asked callers asks holds = (asked, asks, holds)
obeyed_say words WriteFault Unread Holds asked callers asks holds = (asked, asks, holds)
obeyed_say words MediaFault Unread Holds asked callers asks holds = (asked, asks, holds)
obeyed_say words (Damaged page) Unread Holds asked callers asks holds = (asked, asks, holds)
obeyed_say words (BadRow logger tid) Unread Holds asked callers asks holds = (asked, asks, holds)
obeyed_say words NotMars Unread Holds asked callers asks holds = (asked, asks, holds)
obeyed_say words (BadShape which given) Unread Holds asked callers asks holds = (asked, asks, holds)
obeyed_say words (Refused refusal) Unread Holds asked callers asks holds = (asked, asks, holds)
obeyed_say words (BadFrame n) Unread Holds asked callers asks holds = (asked, asks, holds)
obeyed_say words (Gap expected got) Unread Holds asked callers asks holds = (asked, asks, holds)
