use Rattle.std.proofs.Common.{◌≡◌, ◌≤◌, ◌<◌, ◌+◌, ◌^◌, ℕ, suc, [], min, Bool, true, Some, None, Option, Ok, Err, Result, false, IsTrue, List, sym, ap, subst, ◌∙◌, arith, length}
use Rattle.std.specs.Prelude.{slice_get, unwrap_or}
use Rattle.array_shape.specs.declared.shape.Shape.{Shape}
use Rattle.history.specs.Key.{of_table}
use Rattle.history.specs.declared.key.Key.{Key}
use Rattle.page_store.specs.Index.{Index}
use Rattle.page_store.specs.Looks.{Looks}
use Rattle.page_store.specs.Shown.{pages_of}
use Rattle.record_table.specs.Does.{is_failed}
use Rattle.record_table.specs.Names.{names_of, name_at}
use Rattle.record_table.specs.Removing.{IsAbsent, IsNextAbsent}
use Rattle.record_table.specs.declared.fault.TableFault.{TableFault}
use Rattle.mars_core.specs.Purging.{IsBelow, IsOfTable, Tries}
use Rattle.mars_core.proofs.Clearing.{one_if, still_may, going_first, going_look, going_on, going_to, next_still, all_tried, counted, was_absent, look_refused, try_refused}
use Rattle.mars_core.proofs.Passing.{there, all_below, below_next, below_none, below_more, below_both, below_before}
use Rattle.std.proofs.lemmas.Result.{err_from_is_err_and}
use Rattle.mars_core.proofs.purging.clear_table.Goals as goal

-- what is found is found in the table of this name
named_next : (names : List (List ℕ)) (table : ℕ) (name : List ℕ) (index : Index) (bytes : List ℕ) (from : ℕ) (found : Option ℕ) → names_of bytes ≡ names → slice_get names table ≡ Some name
    → IsNextAbsent index bytes (name_at bytes table) from found → IsNextAbsent index bytes name from found
named_next names table name index bytes from found same at next =
    subst (λ (n : List ℕ). IsNextAbsent index bytes n from found) (ap (λ (ns : List (List ℕ)). unwrap_or (slice_get ns table) []) same ∙ ap (λ (o : Option (List ℕ)). unwrap_or o []) at) next

pub returns-in_default : goal.returns-in_default
returns-in_default g c =
    let V = g.S.EawStore.view in
    let T = g.S.EawStore.tells in
    let I = g.K.KeyIndex.index in
    let E = g.S.EawStore.opens (V c.args.records.now.store).shape in
    let p = pages_of (V c.args.records.now.store) c.args.records.now in
    let m = pages_of (V c.loop-key.records.store) c.loop-key.records in
    let q = pages_of (V c.next_absent.new.self.store) c.next_absent.new.self in
    let looks = subst (λ (s : Shape). Looks g.S.EawStore.tells (g.S.EawStore.opens s) false (pages_of (g.S.EawStore.view c.loop-key.records.store) c.loop-key.records) (pages_of (g.S.EawStore.view c.next_absent.new.self.store) c.next_absent.new.self)) c.loop-key.invariant.0.shape c.in_ok-key.ensures.looks in
    let going = going_look T E I c.args.seats.now c.args.caller p c.requires.may.alive (IsBelow c.args.name.now c.loop-key.from) c.loop-key.taken m c.loop-key.invariant.0 q looks in
    let next = λ (told : IsTrue g.S.EawStore.tells). next_still T E I m q c.args.name.now c.loop-key.from (None) looks told (named_next c.args.seats.now.names c.args.table c.args.name.now I (V c.loop-key.records.store).state.bytes c.loop-key.from (None) (c.loop-key.invariant.0.ready told).named c.requires.named (rw c.in_default.is at (c.in_ok-key.ensures.next told))) in
    record {
      clears = all_tried T E I c.args.seats.now c.args.caller p c.requires.may.alive (IsBelow c.args.name.now c.loop-key.from) c.loop-key.taken q going (IsOfTable c.args.name.now) (λ told. all_below I q.store.state.bytes c.args.name.now c.loop-key.from (next told))
          (λ told. below_more c.args.name.now c.loop-key.from (2 ^ 64) (omega (arith, c.loop-key.invariant.1)));
    }

pub next_absent-requires-clause-there : goal.next_absent-requires-clause-there
next_absent-requires-clause-there g c = λ told alive.
    subst (λ (ns : List (List ℕ)). c.args.table < length ns) (sym (c.loop-key.invariant.0.ready told).named) (there c.args.seats.now.names c.args.table c.args.name.now c.requires.named)

pub try_key-requires-clause-may : goal.try_key-requires-clause-may
try_key-requires-clause-may g c =
    let V = g.S.EawStore.view in
    let T = g.S.EawStore.tells in
    let I = g.K.KeyIndex.index in
    let E = g.S.EawStore.opens (V c.args.records.now.store).shape in
    let p = pages_of (V c.args.records.now.store) c.args.records.now in
    let m = pages_of (V c.loop-key.records.store) c.loop-key.records in
    let q = pages_of (V c.next_absent.new.self.store) c.next_absent.new.self in
    let looks = subst (λ (s : Shape). Looks g.S.EawStore.tells (g.S.EawStore.opens s) false (pages_of (g.S.EawStore.view c.loop-key.records.store) c.loop-key.records) (pages_of (g.S.EawStore.view c.next_absent.new.self.store) c.next_absent.new.self)) c.loop-key.invariant.0.shape c.in_ok-key.ensures.looks in
    still_may T E I c.args.seats.now c.args.caller p (IsBelow c.args.name.now c.loop-key.from) c.loop-key.taken q
    (going_look T E I c.args.seats.now c.args.caller p c.requires.may.alive (IsBelow c.args.name.now c.loop-key.from) c.loop-key.taken m c.loop-key.invariant.0 q looks) c.requires.may

pub try_key-requires-clause-absent : goal.try_key-requires-clause-absent
try_key-requires-clause-absent g c =
    let V = g.S.EawStore.view in
    let T = g.S.EawStore.tells in
    let I = g.K.KeyIndex.index in
    let E = g.S.EawStore.opens (V c.args.records.now.store).shape in
    let p = pages_of (V c.args.records.now.store) c.args.records.now in
    let m = pages_of (V c.loop-key.records.store) c.loop-key.records in
    let q = pages_of (V c.next_absent.new.self.store) c.next_absent.new.self in
    let looks = subst (λ (s : Shape). Looks g.S.EawStore.tells (g.S.EawStore.opens s) false (pages_of (g.S.EawStore.view c.loop-key.records.store) c.loop-key.records) (pages_of (g.S.EawStore.view c.next_absent.new.self.store) c.next_absent.new.self)) c.loop-key.invariant.0.shape c.in_ok-key.ensures.looks in
    let next = λ (told : IsTrue g.S.EawStore.tells). next_still T E I m q c.args.name.now c.loop-key.from (Some c.in-Some.key) looks told (named_next c.args.seats.now.names c.args.table c.args.name.now I (V c.loop-key.records.store).state.bytes c.loop-key.from (Some c.in-Some.key) (c.loop-key.invariant.0.ready told).named c.requires.named (rw c.in-Some.is at (c.in_ok-key.ensures.next told))) in
    (λ told. (next told).1)

-- the count after a key was tried
count_is : (was : Bool) (taken one sum : ℕ) → one ≡ mir.Val.bool_byte was → sum ≡ min (taken + one) 4294967295 → taken + one_if was < 2 ^ 32 → sum ≡ taken + one_if was
count_is true taken one sum is total lt = omega (arith, is, total, lt)
count_is false taken one sum is total lt = omega (arith, is, total, lt)

pub loop-key-preserved : goal.loop-key-preserved
loop-key-preserved g c =
    let V = g.S.EawStore.view in
    let T = g.S.EawStore.tells in
    let I = g.K.KeyIndex.index in
    let E = g.S.EawStore.opens (V c.args.records.now.store).shape in
    let p = pages_of (V c.args.records.now.store) c.args.records.now in
    let m = pages_of (V c.loop-key.records.store) c.loop-key.records in
    let q = pages_of (V c.next_absent.new.self.store) c.next_absent.new.self in
    let looks = subst (λ (s : Shape). Looks g.S.EawStore.tells (g.S.EawStore.opens s) false (pages_of (g.S.EawStore.view c.loop-key.records.store) c.loop-key.records) (pages_of (g.S.EawStore.view c.next_absent.new.self.store) c.next_absent.new.self)) c.loop-key.invariant.0.shape c.in_ok-key.ensures.looks in
    let going = going_look T E I c.args.seats.now c.args.caller p c.requires.may.alive (IsBelow c.args.name.now c.loop-key.from) c.loop-key.taken m c.loop-key.invariant.0 q looks in
    let next = λ (told : IsTrue g.S.EawStore.tells). next_still T E I m q c.args.name.now c.loop-key.from (Some c.in-Some.key) looks told (named_next c.args.seats.now.names c.args.table c.args.name.now I (V c.loop-key.records.store).state.bytes c.loop-key.from (Some c.in-Some.key) (c.loop-key.invariant.0.ready told).named c.requires.named (rw c.in-Some.is at (c.in_ok-key.ensures.next told))) in
    let r = pages_of (V c.try_key.new.records.store) c.try_key.new.records in
    let key = of_table c.args.name.now c.in-Some.key in
    let tries = subst (λ (s : Shape). Tries g.S.EawStore.tells (g.S.EawStore.opens s) g.K.KeyIndex.index c.args.seats.now c.args.table (of_table c.args.name.now c.in-Some.key) (pages_of (g.S.EawStore.view c.next_absent.new.self.store) c.next_absent.new.self) (pages_of (g.S.EawStore.view c.try_key.new.records.store) c.try_key.new.records) (Ok c.in_ok-was.was')) going.shape c.in_ok-was.ensures.tries in
    let on = going_on T E I c.args.seats.now c.args.caller p c.requires.may.alive (IsBelow c.args.name.now c.loop-key.from) c.loop-key.taken q going c.args.table key r (λ told. (next told).1) c.in_ok-was.was' tries
    (λ told. below_before c.args.seats.now.names c.args.name.now c.loop-key.from c.in-Some.key (next told).0) in
    let count = λ (told : IsTrue g.S.EawStore.tells). count_is c.in_ok-was.was' c.loop-key.taken c.from.result c.saturating_add-taken.result c.from.ensures c.saturating_add-taken.ensures (counted T E I c.args.seats.now c.args.caller p c.requires.may.alive (IsBelow c.args.name.now c.loop-key.from) c.loop-key.taken q going c.args.table key r (λ told. (next told).1) c.in_ok-was.was' tries told (c.requires.may.ready told)) in
    let passed = λ (told : IsTrue g.S.EawStore.tells) (to : ℕ) (le : to ≤ suc c.in-Some.key) (one : Key) (below : IsBelow c.args.name.now to one) (is : IsAbsent g.K.KeyIndex.index (g.S.EawStore.view c.try_key.new.records.store).state.bytes one).
    below_next I q.store.state.bytes c.args.name.now c.loop-key.from c.in-Some.key (next told).2 one (below.0, omega (arith, le, below.1)) (was_absent T E I c.args.seats.now c.args.caller p c.requires.may.alive (IsBelow c.args.name.now c.loop-key.from) c.loop-key.taken q going c.args.table key r (λ told. (next told).1) c.in_ok-was.was' tries told one is) in (
      going_to T E I c.args.seats.now c.args.caller (c.loop-key.taken + one_if c.in_ok-was.was') c.saturating_add-taken.result _ (IsBelow c.args.name.now (c.in-Some.key + 1)) p r count (λ told. passed told (c.in-Some.key + 1) (omega arith))
          (λ told. below_both c.args.name.now c.loop-key.from c.in-Some.key (c.in-Some.key + 1) (next told).0 (omega arith)) on,
      omega arith,
    )

pub returns-then-key : goal.returns-then-key
returns-then-key g c =
    let V = g.S.EawStore.view in
    let T = g.S.EawStore.tells in
    let I = g.K.KeyIndex.index in
    let E = g.S.EawStore.opens (V c.args.records.now.store).shape in
    let p = pages_of (V c.args.records.now.store) c.args.records.now in
    let m = pages_of (V c.loop-key.records.store) c.loop-key.records in
    let q = pages_of (V c.next_absent.new.self.store) c.next_absent.new.self in
    let looks = subst (λ (s : Shape). Looks g.S.EawStore.tells (g.S.EawStore.opens s) false (pages_of (g.S.EawStore.view c.loop-key.records.store) c.loop-key.records) (pages_of (g.S.EawStore.view c.next_absent.new.self.store) c.next_absent.new.self)) c.loop-key.invariant.0.shape c.in_ok-key.ensures.looks in
    let going = going_look T E I c.args.seats.now c.args.caller p c.requires.may.alive (IsBelow c.args.name.now c.loop-key.from) c.loop-key.taken m c.loop-key.invariant.0 q looks in
    let next = λ (told : IsTrue g.S.EawStore.tells). next_still T E I m q c.args.name.now c.loop-key.from (Some c.in-Some.key) looks told (named_next c.args.seats.now.names c.args.table c.args.name.now I (V c.loop-key.records.store).state.bytes c.loop-key.from (Some c.in-Some.key) (c.loop-key.invariant.0.ready told).named c.requires.named (rw c.in-Some.is at (c.in_ok-key.ensures.next told))) in
    let r = pages_of (V c.try_key.new.records.store) c.try_key.new.records in
    let key = of_table c.args.name.now c.in-Some.key in
    let tries = subst (λ (s : Shape). Tries g.S.EawStore.tells (g.S.EawStore.opens s) g.K.KeyIndex.index c.args.seats.now c.args.table (of_table c.args.name.now c.in-Some.key) (pages_of (g.S.EawStore.view c.next_absent.new.self.store) c.next_absent.new.self) (pages_of (g.S.EawStore.view c.try_key.new.records.store) c.try_key.new.records) (Ok c.in_ok-was.was')) going.shape c.in_ok-was.ensures.tries in
    let on = going_on T E I c.args.seats.now c.args.caller p c.requires.may.alive (IsBelow c.args.name.now c.loop-key.from) c.loop-key.taken q going c.args.table key r (λ told. (next told).1) c.in_ok-was.was' tries
    (λ told. below_before c.args.seats.now.names c.args.name.now c.loop-key.from c.in-Some.key (next told).0) in
    let count = λ (told : IsTrue g.S.EawStore.tells). count_is c.in_ok-was.was' c.loop-key.taken c.from.result c.saturating_add-taken.result c.from.ensures c.saturating_add-taken.ensures (counted T E I c.args.seats.now c.args.caller p c.requires.may.alive (IsBelow c.args.name.now c.loop-key.from) c.loop-key.taken q going c.args.table key r (λ told. (next told).1) c.in_ok-was.was' tries told (c.requires.may.ready told)) in
    let passed = λ (told : IsTrue g.S.EawStore.tells) (to : ℕ) (le : to ≤ suc c.in-Some.key) (one : Key) (below : IsBelow c.args.name.now to one) (is : IsAbsent g.K.KeyIndex.index (g.S.EawStore.view c.try_key.new.records.store).state.bytes one).
    below_next I q.store.state.bytes c.args.name.now c.loop-key.from c.in-Some.key (next told).2 one (below.0, omega (arith, le, below.1)) (was_absent T E I c.args.seats.now c.args.caller p c.requires.may.alive (IsBelow c.args.name.now c.loop-key.from) c.loop-key.taken q going c.args.table key r (λ told. (next told).1) c.in_ok-was.was' tries told one is) in
    record {
      clears = all_tried T E I c.args.seats.now c.args.caller p c.requires.may.alive (IsBelow c.args.name.now (2 ^ 64)) c.saturating_add-taken.result r
          (going_to T E I c.args.seats.now c.args.caller (c.loop-key.taken + one_if c.in_ok-was.was') c.saturating_add-taken.result _ (IsBelow c.args.name.now (2 ^ 64)) p r count (λ told. passed told (2 ^ 64) (omega (arith, c.if-key.true)))
          (λ told. below_both c.args.name.now c.loop-key.from c.in-Some.key (2 ^ 64) (next told).0 (omega (arith, c.if-key.true))) on)
          (IsOfTable c.args.name.now) (λ told one wanted is. wanted) (λ told one passed. passed);
    }

pub loop-key-init : goal.loop-key-init
loop-key-init g c =
    let V = g.S.EawStore.view in
    let p = pages_of (V c.args.records.now.store) c.args.records.now in
    (going_first g.S.EawStore.tells (g.S.EawStore.opens (V c.args.records.now.store).shape) g.K.KeyIndex.index c.args.seats.now c.args.caller p c.requires.may.alive (IsBelow c.args.name.now 0) (below_none c.args.name.now) c.requires.may.ready, omega arith)

pub returns-in_err-key : goal.returns-in_err-key
returns-in_err-key g c =
    let exit = err_from_is_err_and c.from_residual.result c.from_residual.ensures.1 in
    rw (exit.1, exit.2) (
    let V = g.S.EawStore.view in
    let T = g.S.EawStore.tells in
    let I = g.K.KeyIndex.index in
    let E = g.S.EawStore.opens (V c.args.records.now.store).shape in
    let p = pages_of (V c.args.records.now.store) c.args.records.now in
    let m = pages_of (V c.loop-key.records.store) c.loop-key.records in
    let q = pages_of (V c.next_absent.new.self.store) c.next_absent.new.self in
    let looks = subst (λ (s : Shape). Looks g.S.EawStore.tells (g.S.EawStore.opens s) (let r : Result (Option ℕ) TableFault = Err c.in_err-key.field-0.0 in is_failed r) (pages_of (g.S.EawStore.view c.loop-key.records.store) c.loop-key.records) (pages_of (g.S.EawStore.view c.next_absent.new.self.store) c.next_absent.new.self)) c.loop-key.invariant.0.shape c.in_err-key.ensures.looks in
    record { clears = look_refused T E I c.args.seats.now c.args.caller p c.requires.may.alive (IsBelow c.args.name.now c.loop-key.from) c.loop-key.taken m c.loop-key.invariant.0 (IsOfTable c.args.name.now) q c.in_err-key.field-0.0 (looks, c.in_err-key.ensures.cause) })

pub returns-in_err-was : goal.returns-in_err-was
returns-in_err-was g c =
    let exit = err_from_is_err_and c.from_residual-in_err-was.result c.from_residual-in_err-was.ensures.1 in
    rw (exit.1, exit.2) (
    let V = g.S.EawStore.view in
    let T = g.S.EawStore.tells in
    let I = g.K.KeyIndex.index in
    let E = g.S.EawStore.opens (V c.args.records.now.store).shape in
    let p = pages_of (V c.args.records.now.store) c.args.records.now in
    let m = pages_of (V c.loop-key.records.store) c.loop-key.records in
    let q = pages_of (V c.next_absent.new.self.store) c.next_absent.new.self in
    let looks = subst (λ (s : Shape). Looks g.S.EawStore.tells (g.S.EawStore.opens s) false (pages_of (g.S.EawStore.view c.loop-key.records.store) c.loop-key.records) (pages_of (g.S.EawStore.view c.next_absent.new.self.store) c.next_absent.new.self)) c.loop-key.invariant.0.shape c.in_ok-key.ensures.looks in
    let going = going_look T E I c.args.seats.now c.args.caller p c.requires.may.alive (IsBelow c.args.name.now c.loop-key.from) c.loop-key.taken m c.loop-key.invariant.0 q looks in
    let r = pages_of (V c.try_key.new.records.store) c.try_key.new.records in
    let key = of_table c.args.name.now c.in-Some.key in
    let tries = subst (λ (s : Shape). Tries g.S.EawStore.tells (g.S.EawStore.opens s) g.K.KeyIndex.index c.args.seats.now c.args.table (of_table c.args.name.now c.in-Some.key) (pages_of (g.S.EawStore.view c.next_absent.new.self.store) c.next_absent.new.self) (pages_of (g.S.EawStore.view c.try_key.new.records.store) c.try_key.new.records) (Err c.in_err-was.field-0.0)) going.shape c.in_err-was.ensures.tries in
    record { clears = try_refused T E I c.args.seats.now c.args.caller p c.requires.may.alive (IsBelow c.args.name.now c.loop-key.from) c.loop-key.taken q going c.args.table key r (IsOfTable c.args.name.now) c.in_err-was.field-0.0 tries })
