-- What is kept of transactions in doubt.
use Rattle.std.specs.Prelude.{List}
use Rattle.std.specs.Option.{option_to_list}
use Rattle.history.specs.declared.transaction.Done.{Done}
use Rattle.noted.specs.declared.doubt.Doubted.{Doubted}
use Rattle.noted.specs.declared.doubt.Doubted.TheVariants.{Single, Group}

-- all that are kept
abbrev pub all_of : Doubted → List Done
all_of (Single done) = option_to_list done
all_of (Group dones) = dones.items
