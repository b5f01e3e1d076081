-- A commit behind what was written back for it.
use Rattle.std.proofs.Common.{◌≡◌, ℕ, ◌+◌, Bool, inl, List, [], take, Result, Ok, refl, sym, ◌∙◌, ap, subst, arith}
use Rattle.std.specs.Prelude.{IsErr, IsTrue}
use Rattle.std.proofs.lemmas.Result.{on_ok_weaker}
use Rattle.mars_base.specs.declared.Failed.{Failed}
use Rattle.mars_base.proofs.Costing.{costs_err, costs_then}
use Rattle.mars_base.specs.Costs.{Costs}
use Rattle.mars_base.proofs.Going.{stays, then, weaker}
use Rattle.pcm_media.specs.View.{View, LeavesOnly}
use Rattle.array_shape.specs.declared.shape.Shape.{Shape}
use Rattle.array_shape.specs.Logged.{Part, applied}
use Rattle.row_bytes.specs.declared.ballot.Ballot.{Ballot}
use Rattle.array_image.specs.Standing.{IsEither}
use Rattle.coordinator.specs.Commits.{AreThere, parts_named}
use Rattle.coordinator.proofs.Applying.{all_same}
use Rattle.write_back.specs.declared.queue.LateCommits.{LateCommits}
use Rattle.write_back.specs.Costs.{calls_back, late_calls}
use Rattle.write_back.specs.Steps.{CommitsOne, WritesBack}
use Rattle.write_back.specs.Waiting.{AreWaiting, IsFit, data_with}
use Rattle.write_back.proofs.Steps.{behind_more, behind_none, off_ok}
use Rattle.write_back.specs.Steps.{Commits}

-- The queue is written back up to `due`, cells are named for the ballot's numbers, and it is committed.
module _ (tells : Bool) (shape : Shape) (ballot : Ballot) (due : ℕ) (queue back named : LateCommits) (old mid : View) (there : AreThere shape ballot named.cells)
    (same : (image : List ℕ) → data_with shape named image ≡ data_with shape back image) (depth : named.depth ≡ back.depth) where
  abbrev calls : ℕ
  calls = calls_back shape queue.cells (take due queue.ballots.items) + late_calls shape named.depth named.ballots.items ballot named.cells

  pub commits_after : (queue_new : LateCommits) (new : View) (r : Result (Unit {0}) Failed) → (let ok : Result (Unit {0}) Failed = Ok tt in WritesBack tells shape due queue old back mid ok) → CommitsOne tells shape ballot named mid queue_new new r
      → Commits tells shape (parts_named shape old.content.bytes ballot named.cells) calls queue old queue_new new r
  commits_after queue_new new r gone adds = record {
    fit = adds.fit;
    depth = adds.depth ∙ depth ∙ gone.depth;
    any_moment = λ told. then (weaker (λ image stands. inl stands) (gone.any_moment told)) (subst (λ (p : List ℕ × List Part). LeavesOnly (IsEither shape p.0 (applied p.1 p.0)) mid new) (both told) (adds.any_moment told));
    waiting = adds.waiting;
    committed = λ told. on_ok_weaker r (λ is. is ∙ (λ i. applied (both told i).1 (both told i).0)) (adds.committed told);
    cells = λ told g t e lt lt' lt''. adds.cells told g t e lt lt' lt'' ∙ gone.cells told g t e lt lt' lt'';
    does = behind_more tells old mid new r refl gone.does adds.does;
    costs = costs_then tells _ (calls_back shape queue.cells (take due queue.ballots.items)) (late_calls shape named.depth named.ballots.items ballot named.cells) _ _ _ r refl (record { done = gone.costs.done; most = gone.costs.most }) adds.costs;
  }
    where
      same_parts : IsTrue tells → parts_named shape mid.content.bytes ballot named.cells ≡ parts_named shape old.content.bytes ballot named.cells
      same_parts told = all_same shape ballot named.cells there old.content.bytes mid.content.bytes (gone.cells told)

      both : IsTrue tells → ◌≡◌ {A = List ℕ × List Part} (data_with shape named mid.content.bytes, parts_named shape mid.content.bytes ballot named.cells) (data_with shape queue old.content.bytes, parts_named shape old.content.bytes ballot named.cells)
      both told = (λ i. ((same mid.content.bytes ∙ gone.same told) i, same_parts told i))

-- the medium failed in the write-back: nothing is committed
pub back_fails : (tells : Bool) (shape : Shape) (due calls more : ℕ) (parts : List Part) (queue back : LateCommits) (old mid : View) (r : Result (Unit {0}) Failed) → IsErr r → calls ≡ calls_back shape queue.cells (take due queue.ballots.items) + more
    → WritesBack tells shape due queue old back mid r → Commits tells shape parts calls queue old back mid r
back_fails tells shape due calls more parts queue back old mid r err is gone = record {
  fit = gone.fit;
  depth = gone.depth;
  any_moment = λ told. weaker (λ image stands. inl stands) (gone.any_moment told);
  waiting = gone.waiting;
  committed = λ told. off_ok _ r err;
  cells = gone.cells;
  does = gone.does;
  costs = costs_err tells _ _ _ r err (omega (arith, is, gone.costs.most));
}

-- other words for the parts and the calls
pub commits_as : {T E : Type 0} (tells : Bool) (shape : Shape) (parts parts' : List Part) (count count' : ℕ) (queue : LateCommits) (old : View) (queue_new : LateCommits) (new : View) (r : Result T E)
    → (IsTrue tells → applied parts (data_with shape queue old.content.bytes) ≡ applied parts' (data_with shape queue old.content.bytes)) → count ≡ count' → Commits tells shape parts count queue old queue_new new r → Commits tells shape parts' count' queue old queue_new new r
commits_as tells shape parts parts' count count' queue old queue_new new r same count_same is = record {
  fit = is.fit;
  depth = is.depth;
  any_moment = λ told. subst (λ (after : List ℕ). LeavesOnly (IsEither shape (data_with shape queue old.content.bytes) after) old new) (same told) (is.any_moment told);
  waiting = is.waiting;
  committed = λ told. on_ok_weaker r (λ done. done ∙ same told) (is.committed told);
  cells = is.cells;
  does = is.does;
  costs = subst (λ (n : ℕ). Costs tells n old.moment new.moment r) count_same is.costs;
}

-- a commit of no part
pub commits_none : (tells : Bool) (shape : Shape) (parts : List Part) (count : ℕ) (queue : LateCommits) (now : View) → IsFit shape queue → (IsTrue tells → AreWaiting shape queue now.content) → (IsTrue tells → parts ≡ []) → count ≡ 0
    → (let ok : Result (Unit {0}) Failed = Ok tt in Commits tells shape parts count queue now queue now ok)
commits_none tells shape parts count queue now fit waiting none no_calls = record {
  fit = fit;
  depth = refl;
  any_moment = λ told. stays now.moment now.left_since _;
  waiting = waiting;
  committed = λ told. ap (λ (ps : List Part). applied ps (data_with shape queue now.content.bytes)) (sym (none told));
  cells = λ told g t e lt lt' lt''. refl;
  does = behind_none tells now tt;
  costs = record { done = λ told. omega (arith, no_calls); most = omega arith };
}
