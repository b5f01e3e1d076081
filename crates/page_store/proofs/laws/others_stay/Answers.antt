use Rattle.page_store.proofs.Others.{data_stays, others_parts, others_saves, others_tops}
use Rattle.page_store.proofs.laws.others_stay.Goals as goal

pub returns-clause-parts : goal.returns-clause-parts
returns-clause-parts c command s u other = others_parts s u command other

pub returns-clause-saves : goal.returns-clause-saves
returns-clause-saves c command s u other = others_saves s u command other

pub returns-clause-mark : goal.returns-clause-mark
returns-clause-mark c command s u other = others_tops s u command other

pub returns-clause-committed : goal.returns-clause-committed
returns-clause-committed c command s quiet = data_stays command s quiet
