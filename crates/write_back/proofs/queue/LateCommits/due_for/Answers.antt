use Rattle.std.proofs.Common.{◌≡◌, ◌+◌, ◌<◌, ℕ, Bool, cond, List, [], ◌∷◌, ◌++◌, length, take, sym, ◌∙◌, ap, arith}
use Rattle.std.proofs.lemmas.List.{length-take-le, take_more}
use Rattle.row_bytes.specs.declared.ballot.Ballot.{Ballot}
use Rattle.write_back.specs.Orders.{due_for, shares}
use Rattle.write_back.proofs.Orders.{due_snoc}
use Rattle.write_back.proofs.queue.LateCommits.due_for.Goals as goal

-- one more ballot is seen
one_more : (group : ℕ) (items : List Ballot) (at : ℕ) (b : Ballot) → at < length items → take (at + 1) items ≡ take at items ++ b ∷ [] → due_for group (take (at + 1) items) ≡ cond (shares group b) (at + 1) (due_for group (take at items))
one_more group items at b lt is = ap (due_for group) is ∙ due_snoc group (take at items) b at (sym (length-take-le at items (omega arith)))

pub loop-at-preserved-then-not-shares : goal.loop-at-preserved-then-not-shares
loop-at-preserved-then-not-shares c =
    let items = c.args.self.now.ballots.items in
    let b = c.index.result.now in
    let next = take_more items c.loop-at.at b (omega arith) ∙ ap (λ (k : Ballot). take c.loop-at.at items ++ k ∷ []) (sym c.index.ensures) in
    c.loop-at.invariant ∙ sym (one_more c.args.group items c.loop-at.at b (omega arith) next ∙ ap (λ (s : Bool). cond s (c.loop-at.at + 1) (due_for c.args.group (take c.loop-at.at items))) (sym c.shares.ensures ∙ c.if-not-shares.true))

pub loop-at-preserved : goal.loop-at-preserved
loop-at-preserved c =
    let items = c.args.self.now.ballots.items in
    let b = c.index.result.now in
    let next = take_more items c.loop-at.at b (omega arith) ∙ ap (λ (k : Ballot). take c.loop-at.at items ++ k ∷ []) (sym c.index.ensures) in
    sym (one_more c.args.group items c.loop-at.at b (omega arith) next ∙ ap (λ (s : Bool). cond s (c.loop-at.at + 1) (due_for c.args.group (take c.loop-at.at items))) (sym c.shares.ensures ∙ c.if-not-shares.false))
