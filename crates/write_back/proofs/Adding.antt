-- One more commit behind those that wait.
use Rattle.std.proofs.Common.{◌≡◌, ℕ, ◌+◌, ◌-◌, ◌^◌, ◌<◌, ◌≤◌, Bool, true, false, cond, nat_eq, nat_lt, inl, List, [], ◌∷◌, ◌++◌, length, drop, take, append-nil, length-append, Result, Ok, Err, refl, sym, ◌∙◌, ap, subst, arith}
use Rattle.std.specs.Prelude.{All, IsErr, IsTrue, OnOk, vec_capacity}
use Rattle.std.proofs.lemmas.Bool.{and_parts, cond-false, lt-ltb, ne_eqb, false≢true}
use Rattle.std.proofs.lemmas.List.Elements.{All-push}
use Rattle.std.proofs.lemmas.Result.{on_ok_weaker}
use Rattle.mars_base.specs.Costs.{Costs}
use Rattle.mars_base.specs.declared.Failed.{Failed}
use Rattle.mars_base.proofs.Costing.{costs_err, costs_then}
use Rattle.mars_base.proofs.Going.{then, weaker}
use Rattle.pcm_media.specs.View.{View, LeavesOnly, Writes}
use Rattle.pcm_media.proofs.Left.{left_as_read}
use Rattle.array_shape.specs.declared.shape.Shape.{Shape}
use Rattle.array_shape.specs.Logged.{Part, applied}
use Rattle.row_bytes.specs.declared.ballot.Ballot.{Ballot}
use Rattle.array_shape.specs.NumberSet.{has}
use Rattle.array_image.specs.Image.{data_of}
use Rattle.array_image.specs.Standing.{IsEither, SameCells}
use Rattle.array_image.proofs.Applied.{applied-append}
use Rattle.commit_queue.specs.Between.{IsAtRest}
use Rattle.commit_queue.specs.Queue.{Commit, Each, queue_parts}
use Rattle.commit_queue.specs.Rows.{HasRowBytes, bytes_of, with_votes}
use Rattle.coordinator.specs.declared.cells.Cells.{Cells}
use Rattle.coordinator.specs.Commits.{AreThere, MayJoin, commit_of, parts_named}
use Rattle.coordinator.specs.Costs.{commit_calls, decide_calls}
use Rattle.coordinator.specs.Places.{commit_places, row_places}
use Rattle.coordinator.specs.Rows.{with_rows}
use Rattle.coordinator.proofs.Applying.{all_same}
use Rattle.write_back.specs.declared.queue.LateCommits.{LateCommits}
use Rattle.write_back.specs.Costs.{calls_back, late_calls}
use Rattle.write_back.specs.Orders.{IsFree, behind, due_for_place, last_order, placing, some_row, voted_with, with_one_more}
use Rattle.write_back.specs.Steps.{CommitsOne, DecidesOne, WritesBack, WritesBehind}
use Rattle.write_back.specs.Waiting.{AreWaiting, IsFit, commits_of, data_with}
use Rattle.write_back.proofs.Waiting.{RestsWith, commits-append, data_in, queue_parts-append, rests_again, stands_again}
use Rattle.write_back.proofs.Orders.{all_before, rows_apart}
use Rattle.write_back.proofs.RowsBack.{rows_placed}
use Rattle.write_back.proofs.Steps.{behind_fault, behind_more, commit_behind, off_ok, rows_behind}

-- it is decided, where place was made for it
module _ (tells : Bool) (shape : Shape) (ballot : Ballot) (order : ℕ) (late : LateCommits) (order_is : order ≡ last_order late.ballots.items + 1) (fit : IsFit shape late) (there : AreThere shape ballot late.cells) (old new : View) (waiting : IsTrue tells → AreWaiting shape late old.content) where
  abbrev its : Ballot
  its = record { mask = ballot.mask; group = ballot.group; order = order }

  pub may_join : ((t : ℕ) → has ballot.group t ≡ true → IsFree t late.ballots.items) → IsTrue tells → MayJoin shape (commits_of shape old.content.bytes late.cells late.ballots.items) (record { mask = ballot.mask; group = ballot.group; order = order })
  may_join apart told = record {
    later = subst (λ (n : ℕ). Each (λ (c : Commit). c.ballot.order < n) (commits_of shape old.content.bytes late.cells late.ballots.items)) (sym order_is)
        (all_before shape late.cells old.content.bytes late.ballots.items 0 (waiting told old.content.bytes (left_as_read old.content)).holds.queued.rise);
    apart = λ g t lt lt' on. rows_apart shape late.cells old.content.bytes late.ballots.items g t (apart t (and_parts (has ballot.mask g) (has ballot.group t) on).1);
  }

  module _ {r : Result (Unit {0}) Failed} (apart : (t : ℕ) → has ballot.group t ≡ true → IsFree t late.ballots.items)
      (any_moment : IsTrue tells → (queue : List Commit) (bytes : List ℕ) → IsAtRest shape queue bytes old.content → MayJoin shape queue its → (let before = applied (queue_parts queue) bytes in
      LeavesOnly (IsEither shape before (applied (parts_named shape old.content.bytes its late.cells) before)) old new))
      (kept : IsTrue tells → SameCells shape old.content.bytes new.content.bytes) (does : Writes tells (row_places shape its) old new r) (costs : Costs true (decide_calls shape its) old.moment new.moment r) where
    moments : IsTrue tells → (let before = data_with shape late old.content.bytes in LeavesOnly (IsEither shape before (applied (parts_named shape old.content.bytes ballot late.cells) before)) old new)
    moments told = any_moment told (commits_of shape old.content.bytes late.cells late.ballots.items) (data_of shape old.content.bytes) (waiting told) (may_join apart told)

    behind_header : WritesBehind tells old new r
    behind_header = record { places = row_places shape its; behind = rows_behind shape its; does = does }

    pub decide_fault : (s : Result (Unit {0}) Failed) → IsErr s → IsErr r → DecidesOne tells shape ballot late old late new s
    decide_fault s err failed = record {
      fit = fit;
      depth = refl;
      table = refl;
      any_moment = moments;
      waiting = λ told. off_ok _ s err;
      committed = λ told. off_ok _ s err;
      cells = kept;
      rows = λ told. off_ok _ s err;
      does = fault_of r failed behind_header;
      left_is = off_ok _ s err;
      costs = costs_err tells _ _ _ s err costs.most;
    }
      where
        fault_of : (q : Result (Unit {0}) Failed) → IsErr q → WritesBehind tells old new q → WritesBehind tells old new s
        fault_of (Ok x) bad call = absurd (false≢true bad)
        fault_of (Err e) bad call = behind_fault tells old old new s err call

    pub decided : (late_new : LateCommits) → late_new.depth ≡ late.depth → late_new.cells ≡ late.cells → late_new.ballots.items ≡ late.ballots.items ++ its ∷ [] → vec_capacity late_new.ballots ≡ vec_capacity late.ballots
        → length late.ballots.items < late.depth → last_order late.ballots.items < 2 ^ 16 - 1 → (0 < ballot.mask) × (0 < ballot.group)
        → (IsTrue tells → IsAtRest shape (commits_of shape old.content.bytes late.cells late.ballots.items ++ commit_of shape old.content.bytes its late.cells ∷ []) (data_of shape old.content.bytes) new.content)
        → (IsTrue tells → HasRowBytes shape new.content.bytes (with_rows its late.cells true (bytes_of shape old.content.bytes)))
        → (let ok : Result (Unit {0}) Failed = Ok tt in r ≡ ok) → (let ok : Result (Unit {0}) Failed = Ok tt in DecidesOne tells shape ballot late old late_new new ok)
    decided late_new depth table items room place small has_rows joined written is = record {
      fit = record {
        few = omega (arith, place, depth, ap (λ (xs : List Ballot). length xs) items, length-append {A = Ballot} late.ballots.items (its ∷ []));
        room = omega (arith, fit.room, depth, room);
        there = subst (λ (cs : List Cells). All (λ (b : Ballot). AreThere shape b cs) late_new.ballots.items) (sym table)
            (pushed (λ (b : Ballot). AreThere shape b late.cells) fit.there (record { small_mask = there.small_mask; small_group = there.small_group; fit = there.fit }));
        ordered = pushed (λ (b : Ballot). (0 < b.order) × (b.order < 2 ^ 16)) fit.ordered (omega (arith, order_is), omega (arith, order_is, small));
        has_rows = pushed (λ (b : Ballot). (0 < b.mask) × (0 < b.group)) fit.has_rows has_rows;
      };
      depth = depth;
      table = table;
      any_moment = moments;
      waiting = λ told. subst (λ (p : List Cells × List Ballot). RestsWith shape p.0 p.1 new.content) again (rests_again shape late.cells old.content.bytes (late.ballots.items ++ its ∷ []) _ new.content (with_it told));
      committed = λ told.
          subst (λ (p : List Cells × List Ballot). data_in shape p.0 p.1 new.content.bytes ≡ applied (parts_named shape old.content.bytes ballot late.cells) (data_with shape late old.content.bytes)) again
          (stands_again shape late.cells old.content.bytes (late.ballots.items ++ its ∷ []) _ new.content (with_it told) ∙ all_applied);
      cells = kept;
      rows = λ told. subst (λ (b : Ballot). HasRowBytes shape new.content.bytes (with_rows b late.cells true (bytes_of shape old.content.bytes))) behind_is (written told);
      does = subst (λ (q : Result (Unit {0}) Failed). WritesBehind tells old new q) is behind_header;
      left_is = items ∙ ap (λ (b : Ballot). late.ballots.items ++ b ∷ []) behind_is;
      costs = subst (λ (q : Result (Unit {0}) Failed). Costs tells (decide_calls shape ballot) old.moment new.moment q) is (record { done = λ told. costs.done refl; most = costs.most });
    }
      where
        pushed : (P : Ballot → Type 0) → All P late.ballots.items → P its → All P late_new.ballots.items
        pushed P all here = subst (All P) (sym items) (All-push P late.ballots.items its all here)

        behind_is : its ≡ behind late.ballots.items ballot
        behind_is = (λ i. record { mask = ballot.mask; group = ballot.group; order = order_is i })

        again : ◌≡◌ {A = List Cells × List Ballot} (late.cells, late.ballots.items ++ its ∷ []) (late_new.cells, late_new.ballots.items)
        again = (λ i. (sym table i, sym items i))

        with_it : IsTrue tells → IsAtRest shape (commits_of shape old.content.bytes late.cells (late.ballots.items ++ its ∷ [])) (data_of shape old.content.bytes) new.content
        with_it told = subst (λ (q : List Commit). IsAtRest shape q (data_of shape old.content.bytes) new.content) (sym (commits-append shape late.cells old.content.bytes late.ballots.items (its ∷ []))) (joined told)

        all_applied : applied (queue_parts (commits_of shape old.content.bytes late.cells (late.ballots.items ++ its ∷ []))) (data_of shape old.content.bytes) ≡ applied (parts_named shape old.content.bytes ballot late.cells) (data_with shape late old.content.bytes)
        all_applied =
            let q = commits_of shape old.content.bytes late.cells late.ballots.items in
            let ps = parts_named shape old.content.bytes ballot late.cells in
            ap (λ (ps' : List Part). applied ps' (data_of shape old.content.bytes)) (ap queue_parts (commits-append shape late.cells old.content.bytes late.ballots.items (its ∷ [])) ∙ queue_parts-append q (commit_of shape old.content.bytes its late.cells ∷ []))
            ∙ applied-append (queue_parts q) (ps ++ []) (data_of shape old.content.bytes)
            ∙ ap (λ (ps' : List Part). applied ps' (data_with shape late old.content.bytes)) (append-nil ps)

-- where none may wait: the commit is written back at once
module _ (tells : Bool) (shape : Shape) (ballot : Ballot) (late : LateCommits) (none : late.depth ≡ 0) (fit : IsFit shape late) (old new : View) (waiting : IsTrue tells → AreWaiting shape late old.content) where
  abbrev once : Ballot
  once = record { mask = ballot.mask; group = ballot.group; order = 0 }

  nothing : late.ballots.items ≡ []
  nothing = empty late.ballots.items (omega (arith, fit.few, none))
    where
      empty : (xs : List Ballot) → length xs ≤ 0 → xs ≡ []
      empty [] le = refl
      empty (x ∷ xs) le = absurd (omega arith)

  unqueued : IsTrue tells → IsAtRest shape [] (data_of shape old.content.bytes) old.content
  unqueued told = subst (λ (xs : List Ballot). IsAtRest shape (commits_of shape old.content.bytes late.cells xs) (data_of shape old.content.bytes) old.content) nothing (waiting told)

  before_is : (image : List ℕ) → data_of shape image ≡ data_with shape late image
  before_is image = ap (λ (xs : List Ballot). data_in shape late.cells xs image) (sym nothing)

  none' : 0 ≡ late.depth
  none' = sym none

  pub at_once : (r : Result (Unit {0}) Failed)
      → (IsTrue tells → (bytes : List ℕ) → IsAtRest shape [] bytes old.content → LeavesOnly (IsEither shape bytes (applied (parts_named shape old.content.bytes once late.cells) bytes)) old new)
      → (IsTrue tells → (bytes : List ℕ) → IsAtRest shape [] bytes old.content → OnOk r (IsAtRest shape [] (applied (parts_named shape old.content.bytes once late.cells) bytes) new.content))
      → (IsTrue tells → OnOk r (HasRowBytes shape new.content.bytes (with_rows once late.cells false (bytes_of shape old.content.bytes))))
      → (IsTrue tells → SameCells shape old.content.bytes new.content.bytes) → Writes tells (commit_places shape old.content.bytes once late.cells) old new r → Costs tells (commit_calls shape once late.cells) old.moment new.moment r
      → CommitsOne tells shape ballot late old late new r
  at_once r any_moment committed written kept does costs = record {
    fit = fit;
    depth = refl;
    table = refl;
    any_moment = λ told. subst (λ (d : List ℕ). LeavesOnly (IsEither shape d (applied (parts_named shape old.content.bytes ballot late.cells) d)) old new) (before_is old.content.bytes) (any_moment told (data_of shape old.content.bytes) (unqueued told));
    waiting = λ told. on_ok_weaker r (λ rest. subst (λ (xs : List Ballot). RestsWith shape late.cells xs new.content) (sym nothing) (rests_again shape late.cells old.content.bytes [] _ new.content rest)) (ended told);
    committed = λ told. on_ok_weaker r (λ rest.
        sym (before_is new.content.bytes) ∙ (rest new.content.bytes (left_as_read new.content)).holds.queued.holds ∙ ap (applied (parts_named shape old.content.bytes ballot late.cells)) (before_is old.content.bytes)) (ended told);
    cells = kept;
    rows = λ told. on_ok_weaker r (λ are g t lt lt'. are g t lt lt' ∙ ap (λ (d : ℕ). with_rows (voted_with d late.ballots.items ballot) late.cells (nat_lt 0 d) (with_votes (some_row (placing d late.ballots.items)) false (bytes_of shape old.content.bytes)) g t) none') (written told);
    does = record { places = commit_places shape old.content.bytes once late.cells; behind = commit_behind shape old.content.bytes once late.cells; does = does };
    left_is = always r (ap (λ (d : ℕ). with_one_more d late.ballots.items ballot) none');
    costs = subst (λ (n : ℕ). Costs tells n old.moment new.moment r) (ap (λ (d : ℕ). late_calls shape d late.ballots.items ballot late.cells) none') costs;
  }
    where
      ended : IsTrue tells → OnOk r (IsAtRest shape [] (applied (parts_named shape old.content.bytes ballot late.cells) (data_of shape old.content.bytes)) new.content)
      ended told = committed told (data_of shape old.content.bytes) (unqueued told)

      always : {P : Type 0} (q : Result (Unit {0}) Failed) → P → OnOk q P
      always (Ok x) p = p
      always (Err e) p = tt

-- place is made, and then it is decided
module _ (tells : Bool) (shape : Shape) (ballot : Ballot) (late mid_late : LateCommits) (may : 0 < late.depth) (there : AreThere shape ballot late.cells) (old mid : View) where
  waits : nat_eq late.depth 0 ≡ false
  waits = ne_eqb late.depth 0 (λ is. omega (arith, is, may))

  calls_late : late_calls shape late.depth late.ballots.items ballot late.cells ≡ calls_back shape late.cells (take (due_for_place late.depth late.ballots.items) late.ballots.items) + decide_calls shape ballot
  calls_late = cond-false (nat_eq late.depth 0) (commit_calls shape ballot late.cells) (calls_back shape late.cells (take (due_for_place late.depth late.ballots.items) late.ballots.items) + decide_calls shape ballot) waits

  left_late : (let left = drop (due_for_place late.depth late.ballots.items) late.ballots.items in left ++ behind left ballot ∷ []) ≡ with_one_more late.depth late.ballots.items ballot
  left_late = sym (cond-false (nat_eq late.depth 0) late.ballots.items (let left = drop (due_for_place late.depth late.ballots.items) late.ballots.items in left ++ behind left ballot ∷ []) waits)

  voted_late : behind (drop (due_for_place late.depth late.ballots.items) late.ballots.items) ballot ≡ voted_with late.depth late.ballots.items ballot
  voted_late = sym (cond-false (nat_eq late.depth 0) once (behind (drop (due_for_place late.depth late.ballots.items) late.ballots.items) ballot) waits)
    where
      once : Ballot
      once = record { mask = ballot.mask; group = ballot.group; order = 0 }

  placing_late : take (due_for_place late.depth late.ballots.items) late.ballots.items ≡ placing late.depth late.ballots.items
  placing_late = sym (cond-false (nat_eq late.depth 0) [] (take (due_for_place late.depth late.ballots.items) late.ballots.items) waits)

  pub place_fault : {q : Result (Unit {0}) Failed} (s : Result (Unit {0}) Failed) → IsErr s → IsErr q → WritesBack tells shape (due_for_place late.depth late.ballots.items) late old mid_late mid q → CommitsOne tells shape ballot late old mid_late mid s
  place_fault {q} s err failed back = record {
    fit = back.fit;
    depth = back.depth;
    table = back.table;
    any_moment = λ told. weaker (λ image stands. inl stands) (back.any_moment told);
    waiting = λ told. off_ok _ s err;
    committed = λ told. off_ok _ s err;
    cells = back.cells;
    rows = λ told. off_ok _ s err;
    does = fault_of q failed back.does;
    left_is = off_ok _ s err;
    costs = costs_err tells _ _ _ s err (omega (arith, back.costs.most, calls_late));
  }
    where
      fault_of : (p : Result (Unit {0}) Failed) → IsErr p → WritesBehind tells old mid p → WritesBehind tells old mid s
      fault_of (Ok x) bad call = absurd (false≢true bad)
      fault_of (Err e) bad call = behind_fault tells old old mid s err call

  pub placed_and_decided : (late_new : LateCommits) (new : View) (r : Result (Unit {0}) Failed) → (let ok : Result (Unit {0}) Failed = Ok tt in WritesBack tells shape (due_for_place late.depth late.ballots.items) late old mid_late mid ok) → DecidesOne tells shape ballot mid_late mid late_new new r → CommitsOne tells shape ballot late old late_new new r
  placed_and_decided late_new new r back adds = record {
    fit = adds.fit;
    depth = adds.depth ∙ back.depth;
    table = adds.table ∙ back.table;
    any_moment = λ told. then (weaker (λ image stands. inl stands) (back.any_moment told))
        (subst (λ (p : List ℕ × List Part). LeavesOnly (IsEither shape p.0 (applied p.1 p.0)) mid new) (both told) (adds.any_moment told));
    waiting = adds.waiting;
    committed = λ told. on_ok_weaker r (λ is. is ∙ (λ i. applied (both told i).1 (both told i).0)) (adds.committed told);
    cells = λ told g t e lt lt' lt''. adds.cells told g t e lt lt' lt'' ∙ back.cells told g t e lt lt' lt'';
    rows = λ told. on_ok_weaker r
        (rows_placed shape late.cells mid_late.cells (behind mid_late.ballots.items ballot) (voted_with late.depth late.ballots.items ballot) (nat_lt 0 late.depth) (take (due_for_place late.depth late.ballots.items) late.ballots.items) (placing late.depth late.ballots.items)
        old.content.bytes mid.content.bytes new.content.bytes back.table (ap (λ (xs : List Ballot). behind xs ballot) back.left ∙ voted_late) (sym (lt-ltb 0 late.depth may)) placing_late (back.rows told)) (adds.rows told);
    does = behind_more tells old mid new r refl back.does adds.does;
    left_is = on_ok_weaker r (λ is. is ∙ ap (λ (xs : List Ballot). xs ++ behind xs ballot ∷ []) back.left ∙ left_late) adds.left_is;
    costs = costs_then tells _ (calls_back shape late.cells (take (due_for_place late.depth late.ballots.items) late.ballots.items)) (decide_calls shape ballot) _ _ _ r calls_late (record { done = back.costs.done; most = back.costs.most }) adds.costs;
  }
    where
      same_parts : IsTrue tells → parts_named shape mid.content.bytes ballot mid_late.cells ≡ parts_named shape old.content.bytes ballot late.cells
      same_parts told = ap (parts_named shape mid.content.bytes ballot) back.table ∙ all_same shape ballot late.cells there old.content.bytes mid.content.bytes (back.cells told)

      both : IsTrue tells → ◌≡◌ {A = List ℕ × List Part} (data_with shape mid_late mid.content.bytes, parts_named shape mid.content.bytes ballot mid_late.cells) (data_with shape late old.content.bytes, parts_named shape old.content.bytes ballot late.cells)
      both told = (λ i. (back.same told i, same_parts told i))
