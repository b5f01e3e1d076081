-- One more commit waits, where one may.
use Rattle.std.proofs.Common.{◌≡◌, ℕ, ◌<◌, cond, nat_eq, List, [], ◌∷◌, ◌++◌, length, drop, ap, arith}
use Rattle.std.proofs.lemmas.Bool.{cond-false, ne_eqb}
use Rattle.std.proofs.lemmas.List.{length-append}
use Rattle.row_bytes.specs.declared.ballot.Ballot.{Ballot}
use Rattle.write_back.specs.Orders.{behind, due_for_place, with_one_more}

pub one_waits : (depth : ℕ) (bs : List Ballot) (ballot : Ballot) → 0 < depth → 0 < length (with_one_more depth bs ballot)
one_waits depth bs ballot may =
    let left = drop (due_for_place depth bs) bs in
    let is = cond-false (nat_eq depth 0) bs (left ++ behind left ballot ∷ []) (ne_eqb depth 0 (λ none. omega (arith, none, may))) in
    omega (arith, ap (λ (l : List Ballot). length l) is, length-append left (behind left ballot ∷ []))
