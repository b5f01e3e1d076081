use Rattle.page_store.proofs.Reading.{part_missed, part_laid, part_seen}
use Rattle.page_store.proofs.laws.parts_are_read.Goals as goal

pub returns-clause-missed : goal.returns-clause-missed
returns-clause-missed c d p at n fits away = part_missed d p at n fits away

pub returns-clause-laid : goal.returns-clause-laid
returns-clause-laid c d p at n lo hi fits inside lo_is hi_is meets = part_laid d p at n lo hi fits inside lo_is hi_is meets

pub returns-clause-seen : goal.returns-clause-seen
returns-clause-seen c log d pos addr bytes fits fit some lt is last = part_seen log d pos addr bytes fits fit some lt is last
