-- Steps of a queue, one and then more.
use Rattle.std.proofs.Common.{◌≡◌, ℕ, ◌+◌, ◌-◌, ◌^◌, ◌<◌, ◌≤◌, Bool, false, List, [], ◌∷◌, ◌++◌, length, length-drop, drop, take, Some, None, Result, Ok, Err, refl, sym, ◌∙◌, ap, subst, arith}
use Rattle.std.specs.Prelude.{All, IsErr, IsOk, IsTrue, OnOk, slice_get, vec_capacity}
use Rattle.std.proofs.lemmas.Bool.{false≢true}
use Rattle.std.proofs.lemmas.List.Elements.{All-drop, All-head}
use Rattle.std.proofs.lemmas.Result.{on_ok_weaker}
use Rattle.std.proofs.Math.Seq.{take-add}
use Rattle.std.proofs.lemmas.List.{drop-drop}
use Rattle.mars_base.specs.Costs.{Costs}
use Rattle.mars_base.specs.declared.Failed.{Failed}
use Rattle.mars_base.proofs.Costing.{costs_err, costs_then}
use Rattle.mars_base.proofs.Going.{stays, then}
use Rattle.pcm_media.specs.View.{View, LeavesOnly, Writes}
use Rattle.pcm_media.proofs.Left.{left_as_read, outside-append}
use Rattle.pcm_media.proofs.Writing.{writes_none}
use Rattle.array_shape.specs.declared.shape.Shape.{Shape}
use Rattle.array_shape.specs.Logged.{applied, places_of}
use Rattle.array_shape.specs.Places.{row_at}
use Rattle.row_bytes.specs.declared.ballot.Ballot.{Ballot}
use Rattle.row_bytes.specs.Ballots.{has_row}
use Rattle.array_image.specs.Image.{data_of}
use Rattle.array_image.specs.Standing.{SameCells, StandsFor}
use Rattle.array_image.proofs.Calls.{ends_with, goes_on, hands_on, none_yet}
use Rattle.array_image.proofs.Frames.{chosen_outside}
use Rattle.array_image.proofs.Headers.{AreBehind, behind-append, places_behind}
use Rattle.array_image.proofs.Joined.{outside_joined}
use Rattle.commit_queue.specs.Between.{IsAtRest}
use Rattle.commit_queue.specs.Queue.{Commit, queue_parts}
use Rattle.commit_queue.specs.Rows.{HasRowBytes, bytes_of, with_votes}
use Rattle.coordinator.specs.declared.cells.Cells.{Cells}
use Rattle.coordinator.specs.Commits.{AreGood, AreThere, Names, commit_of, parts_named}
use Rattle.coordinator.specs.Costs.{write_back_calls}
use Rattle.coordinator.specs.Places.{commit_places, row_places}
use Rattle.write_back.specs.declared.queue.LateCommits.{LateCommits}
use Rattle.write_back.specs.Costs.{calls_back}
use Rattle.write_back.specs.Steps.{WritesBack, WritesBehind}
use Rattle.write_back.specs.Waiting.{AreWaiting, IsFit, commits_of, data_with}
use Rattle.write_back.specs.Orders.{some_row}
use Rattle.write_back.proofs.RowsBack.{more_cleared, none_cleared, one_cleared}
use Rattle.write_back.proofs.Waiting.{RestsWith, data_in, parts_first, rests_again, stands_again}

pub off_ok : {T E : Type 0} (P : Type 0) (r : Result T E) → IsErr r → OnOk r P
off_ok P (Ok x) err = absurd (false≢true err)
off_ok P (Err e) err = tt

-- a commit writes behind the header
pub rows_behind : (shape : Shape) (ballot : Ballot) → AreBehind (row_places shape ballot)
rows_behind shape ballot i lt =
    outside_joined _ i 0 shape.numbers (λ t from below. outside_joined _ i 0 shape.loggers (λ g from' below'.
    chosen_outside (has_row ballot g t) (row_at shape g t, 16) i (λ so. ((λ le past. omega arith), tt))))

pub commit_behind : (shape : Shape) (image : List ℕ) (ballot : Ballot) (cells : List Cells) → AreBehind (commit_places shape image ballot cells)
commit_behind shape image ballot cells = behind-append (row_places shape ballot) (places_of shape (parts_named shape image ballot cells)) (rows_behind shape ballot) (places_behind shape (parts_named shape image ballot cells))

-- writes behind the header, one after another
module _ (tells : Bool) (old mid new : View) where
  pub behind_more : {T E U F : Type 0} {r : Result T E} (s : Result U F) → IsOk r → WritesBehind tells old mid r → WritesBehind tells mid new s → WritesBehind tells old new s
  behind_more s ok first more = record {
    places = first.places ++ more.places;
    behind = behind-append first.places more.places first.behind more.behind;
    does = ends_with tells (first.places ++ more.places) more.places old mid new (λ told i out. (outside-append first.places more.places i out).1)
        (goes_on tells (first.places ++ more.places) first.places old old mid (λ told i out. (outside-append first.places more.places i out).0) (none_yet tells (first.places ++ more.places) old) first.does ok) s more.does;
  }

  pub behind_fault : {T E U F : Type 0} {e : E} (s : Result U F) → IsErr s → (let r : Result T E = Err e in WritesBehind tells mid new r) → WritesBehind tells mid new s
  behind_fault s err call = record {
    places = call.places;
    behind = call.behind;
    does = hands_on tells call.places call.places mid mid new (λ told i out. out) (none_yet tells call.places mid) s err call.does;
  }

pub behind_none : {T E : Type 0} (tells : Bool) (now : View) (x : T) → (let r : Result T E = Ok x in WritesBehind tells now now r)
behind_none tells now x = record { places = []; behind = λ i lt. tt; does = writes_none tells [] now x }

-- the first of a list
pub opened : (xs : List Ballot) (b : Ballot) → Some b ≡ slice_get xs 0 → xs ≡ b ∷ drop 1 xs
opened [] b is = cc
opened (x ∷ xs) b is = cc

pub opened_in : (items lent : List Ballot) (b : Ballot) → lent ≡ items → Some b ≡ slice_get lent 0 → items ≡ b ∷ drop 1 items
opened_in items lent b same got = opened items b (subst (λ (xs : List Ballot). Some b ≡ slice_get xs 0) same got)

pub none_first : (xs : List Ballot) → None ≡ slice_get xs 0 → xs ≡ []
none_first [] is = refl
none_first (x ∷ xs) is = cc

pub fit_drop : (shape : Shape) (late : LateCommits) (n : ℕ) (bs : List Ballot) (late_new : LateCommits) → late_new.depth ≡ late.depth → late_new.cells ≡ late.cells → bs ≡ drop n late.ballots.items → late_new.ballots.items ≡ bs
    → vec_capacity late_new.ballots ≡ vec_capacity late.ballots → IsFit shape late → IsFit shape late_new
fit_drop shape late n bs late_new depth table left items room fit =
    let same : late_new.ballots.items ≡ drop n late.ballots.items = items ∙ left in
    record {
      few = omega (arith, fit.few, depth, ap (λ (xs : List Ballot). length xs) same, length_drop_le n late.ballots.items);
      room = omega (arith, fit.room, depth, room);
      there = subst (λ (cs : List Cells). All (λ (b : Ballot). AreThere shape b cs) late_new.ballots.items) (sym table) (kept (λ (b : Ballot). AreThere shape b late.cells) same fit.there);
      ordered = kept (λ (b : Ballot). (0 < b.order) × (b.order < 2 ^ 16)) same fit.ordered;
      has_rows = kept (λ (b : Ballot). (0 < b.mask) × (0 < b.group)) same fit.has_rows;
    }
  where
    kept : (P : Ballot → Type 0) → late_new.ballots.items ≡ drop n late.ballots.items → All P late.ballots.items → All P late_new.ballots.items
    kept P is all = subst (All P) (sym is) (All-drop P n late.ballots.items all)

    length_drop_le : (k : ℕ) (xs : List Ballot) → length (drop k xs) ≤ length xs
    length_drop_le k xs = omega (arith, length-drop k xs)

-- nothing waits, or nothing is to be done
pub nothing_back : (tells : Bool) (shape : Shape) (some : ℕ) (late : LateCommits) (now : View) → take some late.ballots.items ≡ [] → drop some late.ballots.items ≡ late.ballots.items → IsFit shape late → (IsTrue tells → AreWaiting shape late now.content)
    → (let r : Result (Unit {0}) Failed = Ok tt in WritesBack tells shape some late now late now r)
nothing_back tells shape some late now none all fit waiting = record {
  fit = fit;
  depth = refl;
  table = refl;
  any_moment = λ told. stays now.moment now.left_since _;
  waiting = waiting;
  same = λ told. refl;
  cells = λ told g t e lt lt' lt''. refl;
  rows = λ told. none_cleared shape now.content.bytes (take some late.ballots.items) none;
  does = behind_none tells now tt;
  left = sym all;
  costs = let calls : calls_back shape late.cells (take some late.ballots.items) ≡ 0 = ap (calls_back shape late.cells) none in record { done = λ told. omega (arith, calls); most = omega arith };
}

-- the oldest
module _ (tells : Bool) (shape : Shape) (late : LateCommits) (b : Ballot) (bs : List Ballot) (whole : late.ballots.items ≡ b ∷ bs) (fit : IsFit shape late) (old new : View) (waiting : IsTrue tells → AreWaiting shape late old.content) where
  pub its_names : Names shape b late.cells (commit_of shape old.content.bytes b late.cells)
  its_names = record { ballot_is = refl; first_is = λ g t lt lt' has. refl; count_is = λ g t lt lt' has. refl }

  pub rest_first : IsTrue tells → IsAtRest shape (commit_of shape old.content.bytes b late.cells ∷ commits_of shape old.content.bytes late.cells bs) (data_of shape old.content.bytes) old.content
  rest_first told = subst (λ (xs : List Ballot). IsAtRest shape (commits_of shape old.content.bytes late.cells xs) (data_of shape old.content.bytes) old.content) whole (waiting told)

  pub there_first : AreThere shape b late.cells
  there_first = All-head (λ (k : Ballot). AreThere shape k late.cells) b bs (subst (All (λ (k : Ballot). AreThere shape k late.cells)) whole fit.there)

  pub good_first : IsTrue tells → AreGood shape old.content.bytes b late.cells
  good_first told g t e lt lt' has from below =
      let named = (rest_first told old.content.bytes (left_as_read old.content)).holds.queued.written.0.rows g t lt lt' has in
      named.cells e from below

  stands_as : applied (queue_parts (commit_of shape old.content.bytes b late.cells ∷ commits_of shape old.content.bytes late.cells bs)) (data_of shape old.content.bytes) ≡ data_with shape late old.content.bytes
  stands_as = ap (λ (xs : List Ballot). data_in shape late.cells xs old.content.bytes) (sym whole)

  module _ {r : Result (Unit {0}) Failed}
      (any_moment : IsTrue tells → (queue : List Commit) (first : Commit) (bytes : List ℕ) → Names shape b late.cells first → IsAtRest shape (first ∷ queue) bytes old.content → LeavesOnly (λ image. StandsFor shape image (applied (queue_parts (first ∷ queue)) bytes)) old new)
      (kept : IsTrue tells → SameCells shape old.content.bytes new.content.bytes) (does : Writes tells (commit_places shape old.content.bytes b late.cells) old new r) (costs : Costs tells (write_back_calls shape b late.cells) old.moment new.moment r) where
    moments : IsTrue tells → LeavesOnly (λ image. StandsFor shape image (data_with shape late old.content.bytes)) old new
    moments told = subst (λ (d : List ℕ). LeavesOnly (λ image. StandsFor shape image d) old new) stands_as
        (any_moment told (commits_of shape old.content.bytes late.cells bs) (commit_of shape old.content.bytes b late.cells) (data_of shape old.content.bytes) its_names (rest_first told))

    calls_one : calls_back shape late.cells (take 1 late.ballots.items) ≡ write_back_calls shape b late.cells
    calls_one = ap (λ (xs : List Ballot). calls_back shape late.cells (take 1 xs)) whole ∙ omega arith

    behind : WritesBehind tells old new r
    behind = record { places = commit_places shape old.content.bytes b late.cells; behind = commit_behind shape old.content.bytes b late.cells; does = does }

    its_costs : Costs tells (calls_back shape late.cells (take 1 late.ballots.items)) old.moment new.moment r
    its_costs = subst (λ (n : ℕ). Costs tells n old.moment new.moment r) (sym calls_one) costs

    -- it failed
    pub oldest_fault : (s : Result (Unit {0}) Failed) → IsErr s → IsErr r → WritesBack tells shape 1 late old late new s
    oldest_fault s err failed = record {
      fit = fit;
      depth = refl;
      table = refl;
      any_moment = moments;
      waiting = λ told. off_ok _ s err;
      same = λ told. off_ok _ s err;
      cells = kept;
      rows = λ told. off_ok _ s err;
      does = fault_of r failed behind;
      left = off_ok _ s err;
      costs = costs_err tells _ _ _ s err its_costs.most;
    }
      where
        fault_of : (q : Result (Unit {0}) Failed) → IsErr q → WritesBehind tells old new q → WritesBehind tells old new s
        fault_of (Ok x) bad call = absurd (false≢true bad)
        fault_of (Err e) bad call = behind_fault tells old old new s err call

    -- it is written back, and leaves the queue
    pub oldest_left : (late_new : LateCommits) → late_new.depth ≡ late.depth → late_new.cells ≡ late.cells → late_new.ballots.items ≡ drop 1 late.ballots.items → vec_capacity late_new.ballots ≡ vec_capacity late.ballots
        → (IsTrue tells → IsAtRest shape (commits_of shape old.content.bytes late.cells bs) (applied (parts_named shape old.content.bytes b late.cells) (data_of shape old.content.bytes)) new.content)
        → (IsTrue tells → HasRowBytes shape new.content.bytes (with_votes (has_row b) false (bytes_of shape old.content.bytes)))
        → (let ok : Result (Unit {0}) Failed = Ok tt in r ≡ ok) → (let ok : Result (Unit {0}) Failed = Ok tt in WritesBack tells shape 1 late old late_new new ok)
    oldest_left late_new depth table items room left cleared is = record {
      fit = fit_drop shape late 1 (drop 1 late.ballots.items) late_new depth table refl items room fit;
      depth = depth;
      table = table;
      any_moment = moments;
      waiting = λ told. subst (λ (p : List Cells × List Ballot). RestsWith shape p.0 p.1 new.content) again (rests_again shape late.cells old.content.bytes bs _ new.content (left told));
      same = λ told.
          subst (λ (p : List Cells × List Ballot). data_in shape p.0 p.1 new.content.bytes ≡ data_with shape late old.content.bytes) again
          (stands_again shape late.cells old.content.bytes bs _ new.content (left told) ∙ sym (parts_first shape late.cells old.content.bytes b bs) ∙ stands_as);
      cells = kept;
      rows = λ told. one_cleared shape old.content.bytes new.content.bytes b bs late.ballots.items whole (cleared told);
      does = subst (λ (q : Result (Unit {0}) Failed). WritesBehind tells old new q) is behind;
      left = items;
      costs = subst (λ (q : Result (Unit {0}) Failed). Costs tells (calls_back shape late.cells (take 1 late.ballots.items)) old.moment new.moment q) is its_costs;
    }
      where
        rest_is : late_new.ballots.items ≡ bs
        rest_is = items ∙ ap (λ (xs : List Ballot). drop 1 xs) whole

        again : ◌≡◌ {A = List Cells × List Ballot} (late.cells, bs) (late_new.cells, late_new.ballots.items)
        again = (λ i. (sym table i, sym rest_is i))

-- some, and then more
calls-append : (shape : Shape) (cells : List Cells) (bs cs : List Ballot) → calls_back shape cells (bs ++ cs) ≡ calls_back shape cells bs + calls_back shape cells cs
calls-append shape cells [] cs = omega arith
calls-append shape cells (b ∷ bs) cs = omega (arith, calls-append shape cells bs cs)

drop-add : (n m : ℕ) (xs : List Ballot) → drop m (drop n xs) ≡ drop (n + m) xs
drop-add n m xs = drop-drop m n xs

module _ (tells : Bool) (shape : Shape) (n m : ℕ) (late mid_late late_new : LateCommits) (old mid new : View) where
  pub back_more : (r : Result (Unit {0}) Failed) → (let ok : Result (Unit {0}) Failed = Ok tt in WritesBack tells shape n late old mid_late mid ok) → WritesBack tells shape m mid_late mid late_new new r → WritesBack tells shape (n + m) late old late_new new r
  back_more r first more = record {
    fit = more.fit;
    depth = more.depth ∙ first.depth;
    table = more.table ∙ first.table;
    any_moment = λ told. then (first.any_moment told) (subst (λ (d : List ℕ). LeavesOnly (λ image. StandsFor shape image d) mid new) (first.same told) (more.any_moment told));
    waiting = more.waiting;
    same = λ told. on_ok_weaker r (λ same. same ∙ first.same told) (more.same told);
    cells = λ told g t e lt lt' lt''. more.cells told g t e lt lt' lt'' ∙ first.cells told g t e lt lt' lt'';
    rows = λ told. on_ok_weaker r
        (more_cleared shape old.content.bytes mid.content.bytes new.content.bytes (take n late.ballots.items) (take m mid_late.ballots.items) (take (n + m) late.ballots.items)
        (take-add n m late.ballots.items ∙ ap (λ (xs : List Ballot). take n late.ballots.items ++ take m xs) (sym first.left)) (first.rows told)) (more.rows told);
    does = behind_more tells old mid new r refl first.does more.does;
    left = on_ok_weaker r (λ left. left ∙ ap (λ (xs : List Ballot). drop m xs) first.left ∙ drop-add n m late.ballots.items) more.left;
    costs = costs_then tells _ (calls_back shape late.cells (take n late.ballots.items)) (calls_back shape mid_late.cells (take m mid_late.ballots.items)) _ _ _ r
        (ap (calls_back shape late.cells) (take-add n m late.ballots.items) ∙ calls-append shape late.cells (take n late.ballots.items) (take m (drop n late.ballots.items))
        ∙ (λ i. calls_back shape late.cells (take n late.ballots.items) + calls_back shape (sym first.table i) (take m (sym first.left i))))
        (record { done = first.costs.done; most = first.costs.most }) more.costs;
  }

-- at a failure the count of those that were to be written back only bounds the calls
pub more_back : (tells : Bool) (shape : Shape) (n m : ℕ) (late late_new : LateCommits) (old new : View) (r : Result (Unit {0}) Failed) → IsErr r → n ≤ m → WritesBack tells shape n late old late_new new r → WritesBack tells shape m late old late_new new r
more_back tells shape n m late late_new old new r err le back = record {
  fit = back.fit;
  depth = back.depth;
  table = back.table;
  any_moment = back.any_moment;
  waiting = back.waiting;
  same = back.same;
  cells = back.cells;
  rows = λ told. off_ok _ r err;
  does = back.does;
  left = off_ok _ r err;
  costs = costs_err tells _ _ _ r err (omega (arith, back.costs.most, calls_more));
}
  where
    calls_more : calls_back shape late.cells (take n late.ballots.items) ≤ calls_back shape late.cells (take m late.ballots.items)
    calls_more =
        let all : n + (m - n) ≡ m = omega arith in
        omega (arith, ap (λ (k : ℕ). calls_back shape late.cells (take k late.ballots.items)) all, ap (calls_back shape late.cells) (take-add n (m - n) late.ballots.items), calls-append shape late.cells (take n late.ballots.items) (take (m - n) (drop n late.ballots.items)))

-- a failure that is handed on
pub back_handed : (tells : Bool) (shape : Shape) (n : ℕ) (late late_new : LateCommits) (old new : View) {q : Result (Unit {0}) Failed} (r : Result (Unit {0}) Failed) → IsErr r → IsErr q → WritesBack tells shape n late old late_new new q → WritesBack tells shape n late old late_new new r
back_handed tells shape n late late_new old new {q} r err failed back = record {
  fit = back.fit;
  depth = back.depth;
  table = back.table;
  any_moment = back.any_moment;
  waiting = λ told. off_ok _ r err;
  same = λ told. off_ok _ r err;
  cells = back.cells;
  rows = λ told. off_ok _ r err;
  does = fault_of q failed back.does;
  left = off_ok _ r err;
  costs = costs_err tells _ _ _ r err back.costs.most;
}
  where
    fault_of : (s : Result (Unit {0}) Failed) → IsErr s → WritesBehind tells old new s → WritesBehind tells old new r
    fault_of (Ok x) bad call = absurd (false≢true bad)
    fault_of (Err e) bad call = behind_fault tells old old new r err call
