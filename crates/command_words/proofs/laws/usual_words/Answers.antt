use Rattle.command_words.proofs.UsualWords.{run_asks, late_asks, run_frames_asks, eaw_asks, frames_asks, dump_asks, format_asks, joined_asks, drill_asks, callers_asks, tries_asks, readers_asks, make_asks, purge_asks, follow_asks, none_asks, help_asks, help_option_asks, version_option_asks}
use Rattle.command_words.proofs.laws.usual_words.Goals as goal

pub returns : goal.returns
returns c = record {
  run = run_asks;
  late = late_asks;
  run_frames = run_frames_asks;
  callers = callers_asks;
  tries = tries_asks;
  readers = readers_asks;
  eaw = eaw_asks;
  frames = frames_asks;
  dump = dump_asks;
  purge = purge_asks;
  follow = follow_asks;
  format = format_asks;
  joined = joined_asks;
  drill = drill_asks;
  make = make_asks;
  no_word = none_asks;
  help = help_asks;
  help_option = help_option_asks;
  version_option = version_option_asks;
}
