use Rattle.mars_shell.specs.Late.{depth_of}
use Rattle.mars_shell.proofs.obeying.obey.Given as goal

-- on the device of a run so many commits may wait as the words ask for
abbrev pub ghosts-run_lines : goal.ghosts-run_lines
ghosts-run_lines g a = record { least = depth_of a.options.writing; most = depth_of a.options.writing }

abbrev pub ghosts-run_callers : goal.ghosts-run_callers
ghosts-run_callers g a = record { least = depth_of a.crew.now.numbers.writing; most = depth_of a.crew.now.numbers.writing }

abbrev pub ghosts-over_records : goal.ghosts-over_records
ghosts-over_records g a = record { least = depth_of a.writing; most = depth_of a.writing }
