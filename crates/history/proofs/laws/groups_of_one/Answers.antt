use Rattle.history.proofs.Grouping.{alone_grouped, alone_whole, grouped_more}
use Rattle.history.proofs.laws.groups_of_one.Goals as goal

pub returns : goal.returns
returns c = record { grouped = alone_grouped; whole = alone_whole; more = grouped_more }
