use Rattle.std.proofs.Common.{◌≡◌, ◌≤◌, ◌<◌, None, Some, arith, sym, true, ◌∙◌}
use Rattle.std.proofs.lemmas.Bool.{true≢false}
use Rattle.command_words.proofs.AskedLemmas.{one_number}
use Rattle.command_words.proofs.words.read_callers.Goals as goal

pub returns-then-not-has_room : goal.returns-then-not-has_room
returns-then-not-has_room c = λ numbers gives.
    let callers : numbers.callers ≡ c.in_ok-callers.callers = one_number 1 32 None _ _ _ (omega arith) gives.callers c.in_ok-callers.ensures in
    let readers : numbers.readers ≡ c.in_ok-readers.readers = one_number 1 8 (Some 0) _ _ _ (omega arith) gives.readers c.in_ok-readers.ensures in
    let fits : 0 < c.in_ok-readers.readers → c.in_ok-callers.callers ≤ 31 = (λ some. let room = gives.room (omega arith) in omega arith) in
    let room : c.has_room.result ≡ true = c.has_room.ensures.1 fits in
    true≢false (sym room ∙ c.if-not-has_room.true)
