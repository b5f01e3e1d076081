use Rattle.caller_steps.proofs.Refusing.{keys_changed}
use Rattle.caller_steps.proofs.Gaining.{changed_slots, gained_missing, gained_apart}
use Rattle.caller_steps.proofs.run_laws.what_an_index_gains.Goals as goal

pub returns : goal.returns
returns g = record { run = keys_changed; slots = changed_slots; missing = gained_missing; apart = gained_apart }
