-- The stops of inputs that were not read.
use Rattle.script_run.specs.declared.input.InputFault.{InputFault}
use Rattle.script_run.specs.declared.input.InputFault.TheVariants as input
use Rattle.restore_runs.specs.declared.stop.Stop.{Stop}
use Rattle.restore_runs.specs.declared.stop.Stop.TheVariants.{TooLong, ReadFault, NoMemory}

abbrev pub input_stop : InputFault → Stop
input_stop input.TooLong = TooLong
input_stop input.Failed = ReadFault
input_stop input.NoMemory = NoMemory
