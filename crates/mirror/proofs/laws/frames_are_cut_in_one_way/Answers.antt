use Rattle.mirror.proofs.Cuts.{frame_once, frame_alone}
use Rattle.mirror.proofs.laws.frames_are_cut_in_one_way.Goals as goal

pub returns-clause-read_back : goal.returns-clause-read_back
returns-clause-read_back c = frame_once

pub returns-clause-alone : goal.returns-clause-alone
returns-clause-alone c = frame_alone
