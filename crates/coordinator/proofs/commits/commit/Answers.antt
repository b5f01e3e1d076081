use Rattle.std.proofs.Common.{◌≡◌, ◌+◌, ℕ, cond, false, inr, List, [], ◌∷◌, ◌++◌, refl, sym, ap, subst, append-nil, arith}
use Rattle.std.specs.Prelude.{IsTrue}
use Rattle.std.proofs.lemmas.Bool.{ne_eqb}
use Rattle.std.proofs.lemmas.Result.{on_ok_weaker}
use Rattle.mars_base.proofs.Costing.{costs_err, costs_then}
use Rattle.mars_base.proofs.Going.{then, weaker}
use Rattle.pcm_media.specs.Images.{IsOutside}
use Rattle.array_shape.specs.Logged.{Part, applied, places_of}
use Rattle.array_image.specs.Standing.{StandsFor}
use Rattle.array_image.proofs.Calls.{ends_with, hands_on, none_yet}
use Rattle.commit_queue.specs.Queue.{Commit}
use Rattle.commit_queue.specs.Between.{IsAtRest}
use Rattle.array_shape.specs.declared.shape.Shape.{Shape}
use Rattle.row_bytes.specs.declared.ballot.Ballot.{Ballot}
use Rattle.coordinator.specs.declared.cells.Cells.{Cells}
use Rattle.coordinator.specs.Costs.{commit_calls, decide_calls, write_back_calls}
use Rattle.coordinator.specs.Commits.{Names, commit_of, parts_named}
use Rattle.coordinator.specs.Places.{commit_places, row_places}
use Rattle.coordinator.proofs.Applying.{all_same, none_named}
use Rattle.coordinator.proofs.Committing.{succeeded}
use Rattle.coordinator.proofs.Placing.{rows_in_all_places}
use Rattle.coordinator.proofs.RowBytes.{cleared_again, no_rows}
use Rattle.coordinator.proofs.commits.commit.Given.{Over}
use Rattle.coordinator.proofs.commits.commit.Goals as goal

pub returns-then-ballot-eq0-clause-committed : goal.returns-then-ballot-eq0-clause-committed
returns-then-ballot-eq0-clause-committed g c told bytes rest =
    let none : parts_named c.args.table.now.shape.now (g.M.Media.view c.args.media.now).content.bytes c.args.ballot c.args.table.now.cells.now ≡ [] = none_named c.args.table.now.shape.now c.args.ballot c.args.table.now.cells.now c.requires.there c.if-ballot-eq0.true (g.M.Media.view c.args.media.now).content.bytes in
    subst (λ (ps : List Part). IsAtRest c.args.table.now.shape.now [] (applied ps bytes) (g.M.Media.view c.args.media.now).content) (sym none) rest

pub returns-in_err-decide-clause-any_moment : goal.returns-in_err-decide-clause-any_moment
returns-in_err-decide-clause-any_moment g c told bytes rest = c.decide.ensures.any_moment told [] bytes rest (record { later = tt; apart = λ h t lt lt' has. refl })

pub returns-in_err-decide-clause-does : goal.returns-in_err-decide-clause-does
returns-in_err-decide-clause-does g c =
    let base = g.M.Media.view c.args.media.now in
    hands_on g.M.Media.tells (commit_places c.args.table.now.shape.now base.content.bytes c.args.ballot c.args.table.now.cells.now) (row_places c.args.table.now.shape.now c.args.ballot) base base (g.M.Media.view c.decide.new.media)
    (λ told. rows_in_all_places c.args.table.now.shape.now c.args.ballot base.content.bytes c.args.table.now.cells.now) (none_yet g.M.Media.tells _ base) c.from_residual.result c.from_residual.ensures.0 c.in_err-decide.ensures.does

module _ (g : Over) (c : goal.After-write_back g) where
  abbrev its : Commit
  its = commit_of c.args.table.now.shape.now (g.M.Media.view c.args.media.now).content.bytes c.args.ballot c.args.table.now.cells.now

  named : Names c.args.table.now.shape.now c.args.ballot c.args.table.now.cells.now its
  named = record { ballot_is = refl; first_is = λ h t lt lt' has. refl; count_is = λ h t lt lt' has. refl }

  joined : IsTrue g.M.Media.tells → (bytes : List ℕ) → IsAtRest c.args.table.now.shape.now [] bytes (g.M.Media.view c.args.media.now).content → IsAtRest c.args.table.now.shape.now (its ∷ []) bytes (g.M.Media.view c.decide.new.media).content
  joined told bytes rest = c.in_ok-decide.ensures.joined told [] bytes rest (record { later = tt; apart = λ h t lt lt' has. refl })

pub returns-clause-any_moment : goal.returns-clause-any_moment
returns-clause-any_moment g c told bytes rest =
    then (c.in_ok-decide.ensures.any_moment told [] bytes rest (record { later = tt; apart = λ h t lt lt' has. refl }))
    (weaker (λ image stands. inr (subst (λ (ps : List Part). StandsFor c.args.table.now.shape.now image (applied ps bytes)) (append-nil (its g c).parts) stands))
    (c.write_back.ensures.any_moment told [] (its g c) bytes (named g c) (joined g c told bytes rest)))

pub returns-clause-committed : goal.returns-clause-committed
returns-clause-committed g c told bytes rest = c.write_back.ensures.left told [] (its g c) bytes (named g c) (joined g c told bytes rest)

pub returns-clause-does : goal.returns-clause-does
returns-clause-does g c =
    let base = g.M.Media.view c.args.media.now in
    let mid = g.M.Media.view c.decide.new.media in
    let shape = c.args.table.now.shape.now in
    let ballot = c.args.ballot in
    let cells = c.args.table.now.cells.now in
    let first = ends_with g.M.Media.tells (commit_places shape base.content.bytes ballot cells) (row_places shape ballot) base base mid (λ told. rows_in_all_places shape ballot base.content.bytes cells) (none_yet g.M.Media.tells _ base) _ (succeeded g.M.Media.tells _ _ _ c.in_ok-decide.ensures.does refl) in
    ends_with g.M.Media.tells (commit_places shape base.content.bytes ballot cells) (commit_places shape mid.content.bytes ballot cells) base mid (g.M.Media.view c.write_back.new.media)
    (λ told i out. subst (λ places. IsOutside places i) (ap (λ (ps : List Part). row_places shape ballot ++ places_of shape ps) (sym (all_same shape ballot cells c.requires.there base.content.bytes mid.content.bytes (c.in_ok-decide.ensures.cells told)))) out)
    first c.write_back.result c.write_back.ensures.does

pub returns-then-ballot-eq0-clause-rows : goal.returns-then-ballot-eq0-clause-rows
returns-then-ballot-eq0-clause-rows g c told = no_rows c.args.table.now.shape.now c.args.ballot c.args.table.now.cells.now false (g.M.Media.view c.args.media.now).content.bytes c.if-ballot-eq0.true

pub returns-clause-rows : goal.returns-clause-rows
returns-clause-rows g c told =
    on_ok_weaker c.write_back.result
    (cleared_again c.args.table.now.shape.now c.args.ballot c.args.table.now.cells.now (g.M.Media.view c.args.media.now).content.bytes (g.M.Media.view c.decide.new.media).content.bytes (g.M.Media.view c.write_back.new.media).content.bytes (c.in_ok-decide.ensures.rows told))
    (c.write_back.ensures.rows told)

-- where some logger takes part, a commit is decided and written back
both : (shape : Shape) (ballot : Ballot) (cells : List Cells) → (ballot.mask ≡ 0 → ⊥) → commit_calls shape ballot cells ≡ decide_calls shape ballot + write_back_calls shape ballot cells
both shape ballot cells some = ap (λ b. cond b 0 (decide_calls shape ballot + write_back_calls shape ballot cells)) (ne_eqb ballot.mask 0 some)

pub returns-in_err-decide-clause-costs : goal.returns-in_err-decide-clause-costs
returns-in_err-decide-clause-costs g c =
    costs_err g.M.Media.tells _ _ _ c.from_residual.result c.from_residual.ensures.0 (omega (arith, c.decide.ensures.costs.most, both c.args.table.now.shape.now c.args.ballot c.args.table.now.cells.now (λ none. omega (arith, none, c.if-ballot-eq0.false))))

pub returns-clause-costs : goal.returns-clause-costs
returns-clause-costs g c =
    let all = both c.args.table.now.shape.now c.args.ballot c.args.table.now.cells.now (λ none. omega (arith, none, c.if-ballot-eq0.false)) in
    let decided = c.in_ok-decide.ensures.costs in
    costs_then g.M.Media.tells _ _ _ _ _ _ c.write_back.result all (record { done = λ told. decided.done refl; most = decided.most }) c.write_back.ensures.costs
