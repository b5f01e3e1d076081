use Rattle.page_store.proofs.Edit.{outside_met}
use Rattle.page_store.proofs.Exact.{edit_found, edit_there, met_by_bytes}
use Rattle.page_store.proofs.laws.writes_edit_exactly.Goals as goal

pub returns-clause-meeting : goal.returns-clause-meeting
returns-clause-meeting c r q some some' = ((λ none i. outside_met r q i none), met_by_bytes r q some some')

pub returns-clause-edited : goal.returns-clause-edited
returns-clause-edited c floor r ranges pos some = (edit_found r floor ranges pos, edit_there r floor ranges pos some)
