use Rattle.index_pages.proofs.Rising.{inserted-rises, found-inserted, length-inserted}
use Rattle.index_pages.proofs.laws.insertion_adds.Goals as goal

pub returns-clause-rises : goal.returns-clause-rises
returns-clause-rises c = inserted-rises

pub returns-clause-found : goal.returns-clause-found
returns-clause-found c = found-inserted

pub returns-clause-one_more : goal.returns-clause-one_more
returns-clause-one_more c = length-inserted
