-- What the words of the command line ask for, and what comes of it.
use Rattle.std.specs.Prelude.{ℕ, ◌≡◌, ◌≤◌, ◌⊎◌, List, length, Bool, true, false, IsTrue, ⊤}
use Rattle.pcm_media.specs.View.{View}
use Rattle.array_shape.specs.declared.shape.Shape.{Shape}
use Rattle.command_words.specs.Asked.{AsksFor}
use Rattle.command_words.specs.declared.words.CallersNumbers.{CallersNumbers}
use Rattle.command_words.specs.declared.words.Words.{Words}
use Rattle.command_words.specs.declared.words.Words.TheVariants.{Run, Callers, Eaw, Dump, Drill, Format, Make, Purge, Follow}
use Rattle.eaw_device.specs.Opens.{HoldsArray}
use Rattle.frame_lines.specs.declared.ended.FollowEnd.{FollowEnd}
use Rattle.script_run.specs.Input.{input_limit}
use Rattle.mars_shell.specs.Commands.{ObeysAs}
use Rattle.mars_shell.specs.Follow.{Follows, follow_status}
use Rattle.mars_shell.specs.Formats.{GiveLength, FormatOutcome}
use Rattle.reader_work.specs.Readership.{passes_for}
use Rattle.caller_work.specs.declared.gate.Place.{Place}
use Rattle.mars_shell.specs.Joint.{JointWork}
use Rattle.mars_shell.specs.Late.{depth_of}
use Rattle.array_runs.specs.Outcome.{OutcomeOf}
use Rattle.mars_shell.specs.Drill.{Drills}
use Rattle.told_commands.specs.Dump.{DumpsRecords}
use Rattle.array_runs.specs.Records.{HoldsRecords}
use Rattle.mars_shell.specs.Run.{TakesTurns}
use Rattle.mars_shell.specs.FramedRun.{RunsAs}
use Rattle.told_commands.specs.Tables.{Tries, MakesTable, Refuses}
use Rattle.told_commands.specs.Purge.{PurgesRecords}
use Rattle.told_commands.specs.Told.{ByEnd, HasRecords, names_on, WorksOn}
use Rattle.array_runs.specs.declared.status.Refusal.{Refusal}
use Rattle.array_runs.specs.declared.status.Status.{Status}
use Rattle.array_runs.specs.declared.status.Status.TheVariants.{Good, Usage, MediaFault, NoMemory, Refused, BadFrame, Gap}

-- `Usage` comes only if the words ask for nothing or for callers, for whom an array may have too few numbers. Else they ask for something
-- of which Holds is said, but if memory ran out they may be unread.
abbrev pub WordsSay : List (List ℕ) → Status → Type 0 → (Words → Type 0) → Type 0
WordsSay words Usage Unread Holds = ((asked : Words) → AsksFor words asked → ⊥) ⊎ ((numbers : CallersNumbers) × AsksFor words (Callers numbers) × Holds (Callers numbers))
WordsSay words NoMemory Unread Holds = Unread ⊎ ((asked : Words) × AsksFor words asked × Holds asked)
WordsSay words _ Unread Holds = (asked : Words) × AsksFor words asked × Holds asked

-- one thing for a command that reads no input, another for one that does
abbrev pub IfReads : Words → Type 0 → Type 0 → Type 0
IfReads (Run given) Without Reads = Reads
IfReads (Callers numbers) Without Reads = Reads
IfReads (Eaw given) Without Reads = Reads
IfReads Follow Without Reads = Reads
IfReads _ Without Reads = Without

-- What was written and done, by what is asked for. `run`, `callers`, `drill`, `dump`, `make` and `purge` read the records of an array that
-- was opened. `eaw` and `follow` do not. Only `callers` need numbers, and tell a gate, which Knows of places.
abbrev pub OutcomeFor : Words → (Place → Type 0) → View → Status → View → List ℕ → Bool → List ℕ → Type 0
OutcomeFor (Run given) Knows old status new input cut text = OutcomeOf false true 0 (λ ended. RunsAs given.frames (depth_of given.writing) input cut text old ended new) old status new cut text
OutcomeFor (Callers numbers) Knows old status new input cut text =
    OutcomeOf false true (passes_for numbers.callers numbers.readers) (λ ended. TakesTurns (depth_of numbers.writing) (JointWork Knows numbers.callers numbers.readers input ended cut text) old ended new) old status new cut text
OutcomeFor (Eaw given) Knows old status new input cut text = OutcomeOf true false 0 (λ ended. ObeysAs given.frames old input ended new cut text) old status new cut text
OutcomeFor Follow Knows old status new input cut text = OutcomeOf true false 0 (λ ended. ⊥) old status new cut text
    ⊎ ((ended : FollowEnd) × (status ≡ follow_status ended) × Follows old input ended new cut text)
OutcomeFor Dump Knows old status new input cut text = OutcomeOf true true 0 (DumpsRecords old new cut text) old status new cut text
OutcomeFor (Drill numbers) Knows old status new input cut text = OutcomeOf false true 0 (λ ended. TakesTurns (depth_of numbers.writing) (Drills numbers ended cut text) old ended new) old status new cut text
OutcomeFor (Format numbers) Knows old status new input cut text = FormatOutcome numbers old status new cut text
OutcomeFor (Make name) Knows old status new input cut text = OutcomeOf true true 0 (ByEnd (λ shape. Tries name shape old new) (MakesTable name old new cut text) cut text) old status new cut text
    ⊎ ((refusal : Refusal) × (status ≡ Refused refusal) × Refuses name refusal old new cut text)
OutcomeFor Purge Knows old status new input cut text = OutcomeOf false true 0 (ByEnd (λ shape. WorksOn shape (HasRecords shape old (names_on shape old)) old new) (PurgesRecords old new cut text) cut text) old status new cut text

-- The medium holds an array that the command can work on. Its records are sound if the command reads them, and it has as many numbers as
-- there are callers.
abbrev pub HoldsFor : Words → View → Type 0
HoldsFor (Callers numbers) media = (shape : Shape) × HoldsRecords shape media × (passes_for numbers.callers numbers.readers ≤ shape.numbers)
HoldsFor (Eaw given) media = HoldsArray media
HoldsFor Follow media = HoldsArray media
HoldsFor asked media = (shape : Shape) × HoldsRecords shape media

-- What is asked for can be done. A format has numbers in range and a medium of the length that they give. For the other commands the input,
-- if it is read, is within the limit, and the medium holds an array.
abbrev pub IsFit : Words → Bool → List ℕ → Bool → View → Type 0
IsFit (Format numbers) source_tells input media_tells media = GiveLength numbers media.size
IsFit asked source_tells input media_tells media = IfReads asked ⊤ (IsTrue source_tells × (length input ≤ input_limit)) × IsTrue media_tells × HoldsFor asked media

-- what can be done is done, unless memory runs out, an array has no room for a table or has one of its name, or a line is not followed
abbrev pub IsComplete : Words → Status → Type 0
IsComplete (Make name) status = (status ≡ Good) ⊎ ((status ≡ NoMemory) ⊎ ((refusal : Refusal) × (status ≡ Refused refusal)))
IsComplete Follow status = (status ≡ Good) ⊎ ((status ≡ NoMemory) ⊎ (((n : ℕ) × (status ≡ BadFrame n)) ⊎ ((expected : ℕ) × (got : ℕ) × (status ≡ Gap expected got))))
IsComplete asked status = (status ≡ Good) ⊎ (status ≡ NoMemory)

-- A command ended so before it told what it tells at its end. One that answers lines tells as it goes.
abbrev pub TellsLate : Words → Status → Type 0
TellsLate (Callers numbers) status = status ≡ NoMemory
TellsLate (Drill numbers) status = status ≡ NoMemory
TellsLate asked status = IfReads asked ((status ≡ MediaFault) ⊎ (status ≡ NoMemory)) ⊥
