use Rattle.std.proofs.Common.{◌≡◌, ℕ, Bool, true, false, List, length, Option, Some, None, Result, Ok, Err, refl, sym, subst}
use Rattle.std.specs.Prelude.{IfOk, if◌then◌else◌}
use Rattle.page_store.specs.Index as below
use Rattle.page_store.specs.Shown.{PagesView, pages_of}
use Rattle.history.specs.Table.{found}
use Rattle.history.specs.declared.call.Call.TheVariants.{Table as OnTable}
use Rattle.history.specs.declared.call.TableCall.{TableCall}
use Rattle.history.specs.declared.call.TableCall.TheVariants as asked
use Rattle.history.specs.declared.call.Reply.{Reply}
use Rattle.history.specs.declared.call.Reply.TheVariants as reply
use Rattle.caller_steps.specs.Fate.{is_refusal, is_committed}
use Rattle.caller_steps.specs.Step.{uses_index}
use Rattle.caller_steps.specs.Cause.{IsOfKind}
use Rattle.record_table.specs.Does.{Does}
use Rattle.record_table.specs.Names.{names_of}
use Rattle.record_table.specs.declared.fault.TableFault.{TableFault}
use Rattle.mars_core.specs.TableCall.{number_for}
use Rattle.mars_core.specs.Works.{Works}
use Rattle.mars_core.proofs.Naming.{number_at}
use Rattle.mars_core.proofs.Passing.{there}
use Rattle.std.proofs.lemmas.Result.{err_from_is_err_and}
use Rattle.mars_core.proofs.asking.work.Goals as goal

-- a call that uses the index, as the records made it
works_of : (tells : Bool) (Opens : List ℕ → List ℕ → Type 0) (index : below.Index) (table t : ℕ) (one other : TableCall) (p q : PagesView) (r : Result Reply TableFault) → other ≡ one → uses_index one ≡ true
    → IfOk r (λ answer. (is_refusal answer ≡ false) × (is_committed answer ≡ false) × IsOfKind (length (p.counts t)) one answer) → Does tells Opens index table t (OnTable one) p q r → Works tells Opens index table t other p q r
works_of tells Opens index table t one other p q r same uses plain does = subst (λ (k : TableCall). Works tells Opens index table t k p q r) (sym same) (record {
  does = does;
  due = λ media. uses;
  granted = weaker r (λ answer both. both.0) plain;
  plain = weaker r (λ answer both. both.1) plain;
  kind = weaker r (λ answer both. both.2) plain;
})
  where
    weaker : {A B : Reply → Type 0} (r : Result Reply TableFault) → ((x : Reply) → A x → B x) → IfOk r A → IfOk r B
    weaker (Ok x) f h = f x h
    weaker (Err e) f h = tt

found_plain : (n : ℕ) (name : List ℕ) (key : ℕ) (o : Option (List ℕ)) → (is_refusal (found o) ≡ false) × (is_committed (found o) ≡ false) × IsOfKind n (asked.Get name key) (found o)
found_plain n name key None = (refl, refl, tt)
found_plain n name key (Some value) = (refl, refl, tt)

removed_plain : (n : ℕ) (name : List ℕ) (key : ℕ) (was : Bool) → (let r : Reply = if was then reply.Fine else reply.Absent in (is_refusal r ≡ false) × (is_committed r ≡ false) × IsOfKind n (asked.Del name key) r)
removed_plain n name key true = (refl, refl, tt)
removed_plain n name key false = (refl, refl, tt)

pub get-requires-clause-there : goal.get-requires-clause-there
get-requires-clause-there g c = λ told alive.
    there (names_of (g.S.EawStore.view c.args.records.now.store).state.bytes) c.args.table c.in-Get.table (number_at (names_of (g.S.EawStore.view c.args.records.now.store).state.bytes) c.in-Get.table c.args.table (subst (λ (k : TableCall). number_for (names_of (g.S.EawStore.view c.args.records.now.store).state.bytes) k ≡ Some c.args.table) c.in-Get.is (c.requires.asked told alive)))

pub returns-in_ok-get-in-Get : goal.returns-in_ok-get-in-Get
returns-in_ok-get-in-Get g c = record {
  works = works_of g.S.EawStore.tells (g.S.EawStore.opens (g.S.EawStore.view c.args.records.now.store).shape) g.K.KeyIndex.index c.args.table c.args.tid (asked.Get c.in-Get.table c.in-Get.key) c.args.asked.now (pages_of (g.S.EawStore.view c.args.records.now.store) c.args.records.now) (pages_of (g.S.EawStore.view c.get.new.self.store) c.get.new.self) (Ok c.found.result) c.in-Get.is refl (subst (λ (r : Reply). (is_refusal r ≡ false) × (is_committed r ≡ false) × IsOfKind (length ((pages_of (g.S.EawStore.view c.args.records.now.store) c.args.records.now).counts c.args.tid)) (asked.Get c.in-Get.table c.in-Get.key) r) (sym c.found.ensures) (found_plain (length ((pages_of (g.S.EawStore.view c.args.records.now.store) c.args.records.now).counts c.args.tid)) c.in-Get.table c.in-Get.key c.in_ok-get-in-Get.field-0))
      (subst (λ (r : Reply). Does g.S.EawStore.tells (g.S.EawStore.opens (g.S.EawStore.view c.args.records.now.store).shape) g.K.KeyIndex.index c.args.table c.args.tid (OnTable (asked.Get c.in-Get.table c.in-Get.key)) (pages_of (g.S.EawStore.view c.args.records.now.store) c.args.records.now) (pages_of (g.S.EawStore.view c.get.new.self.store) c.get.new.self) (Ok r)) (sym c.found.ensures) (c.in_ok-get-in-Get.ensures.does c.in-Get.table (λ told alive. number_at (names_of (g.S.EawStore.view c.args.records.now.store).state.bytes) c.in-Get.table c.args.table (subst (λ (k : TableCall). number_for (names_of (g.S.EawStore.view c.args.records.now.store).state.bytes) k ≡ Some c.args.table) c.in-Get.is (c.requires.asked told alive)))));
}

pub returns-in_err-get-in-Get : goal.returns-in_err-get-in-Get
returns-in_err-get-in-Get g c =
    let exit = err_from_is_err_and c.from_residual.result c.from_residual.ensures.1 in
    rw (exit.1, exit.2) (record {
      works = works_of g.S.EawStore.tells (g.S.EawStore.opens (g.S.EawStore.view c.args.records.now.store).shape) g.K.KeyIndex.index c.args.table c.args.tid (asked.Get c.in-Get.table c.in-Get.key) c.args.asked.now (pages_of (g.S.EawStore.view c.args.records.now.store) c.args.records.now) (pages_of (g.S.EawStore.view c.get.new.self.store) c.get.new.self) (Err c.in_err-get-in-Get.field-0.0) c.in-Get.is refl tt
          (c.in_err-get-in-Get.ensures.does c.in-Get.table (λ told alive. number_at (names_of (g.S.EawStore.view c.args.records.now.store).state.bytes) c.in-Get.table c.args.table (subst (λ (k : TableCall). number_for (names_of (g.S.EawStore.view c.args.records.now.store).state.bytes) k ≡ Some c.args.table) c.in-Get.is (c.requires.asked told alive))));
    })

pub put-requires-clause-there : goal.put-requires-clause-there
put-requires-clause-there g c = λ told alive.
    there (names_of (g.S.EawStore.view c.args.records.now.store).state.bytes) c.args.table c.in-Put.table (number_at (names_of (g.S.EawStore.view c.args.records.now.store).state.bytes) c.in-Put.table c.args.table (subst (λ (k : TableCall). number_for (names_of (g.S.EawStore.view c.args.records.now.store).state.bytes) k ≡ Some c.args.table) c.in-Put.is (c.requires.asked told alive)))

pub returns-in_ok-put-in-Put : goal.returns-in_ok-put-in-Put
returns-in_ok-put-in-Put g c = record {
  works = works_of g.S.EawStore.tells (g.S.EawStore.opens (g.S.EawStore.view c.args.records.now.store).shape) g.K.KeyIndex.index c.args.table c.args.tid (asked.Put c.in-Put.table c.in-Put.key c.in-Put.value) c.args.asked.now (pages_of (g.S.EawStore.view c.args.records.now.store) c.args.records.now) (pages_of (g.S.EawStore.view c.put.new.self.store) c.put.new.self) (Ok reply.Fine) c.in-Put.is refl (refl, refl, tt)
      (c.in_ok-put-in-Put.ensures.does c.in-Put.table (λ told alive. number_at (names_of (g.S.EawStore.view c.args.records.now.store).state.bytes) c.in-Put.table c.args.table (subst (λ (k : TableCall). number_for (names_of (g.S.EawStore.view c.args.records.now.store).state.bytes) k ≡ Some c.args.table) c.in-Put.is (c.requires.asked told alive))));
}

pub returns-in_err-put-in-Put : goal.returns-in_err-put-in-Put
returns-in_err-put-in-Put g c =
    let exit = err_from_is_err_and c.from_residual-in_err-put-in-Put.result c.from_residual-in_err-put-in-Put.ensures.1 in
    rw (exit.1, exit.2) (record {
      works = works_of g.S.EawStore.tells (g.S.EawStore.opens (g.S.EawStore.view c.args.records.now.store).shape) g.K.KeyIndex.index c.args.table c.args.tid (asked.Put c.in-Put.table c.in-Put.key c.in-Put.value) c.args.asked.now (pages_of (g.S.EawStore.view c.args.records.now.store) c.args.records.now) (pages_of (g.S.EawStore.view c.put.new.self.store) c.put.new.self) (Err c.in_err-put-in-Put.field-0.0) c.in-Put.is refl tt
          (c.in_err-put-in-Put.ensures.does c.in-Put.table (λ told alive. number_at (names_of (g.S.EawStore.view c.args.records.now.store).state.bytes) c.in-Put.table c.args.table (subst (λ (k : TableCall). number_for (names_of (g.S.EawStore.view c.args.records.now.store).state.bytes) k ≡ Some c.args.table) c.in-Put.is (c.requires.asked told alive))));
    })

pub del-requires-clause-there : goal.del-requires-clause-there
del-requires-clause-there g c = λ told alive.
    there (names_of (g.S.EawStore.view c.args.records.now.store).state.bytes) c.args.table c.in-Del.table (number_at (names_of (g.S.EawStore.view c.args.records.now.store).state.bytes) c.in-Del.table c.args.table (subst (λ (k : TableCall). number_for (names_of (g.S.EawStore.view c.args.records.now.store).state.bytes) k ≡ Some c.args.table) c.in-Del.is (c.requires.asked told alive)))

pub returns-in_ok-del-in-Del : goal.returns-in_ok-del-in-Del
returns-in_ok-del-in-Del g c = record {
  works = works_of g.S.EawStore.tells (g.S.EawStore.opens (g.S.EawStore.view c.args.records.now.store).shape) g.K.KeyIndex.index c.args.table c.args.tid (asked.Del c.in-Del.table c.in-Del.key) c.args.asked.now (pages_of (g.S.EawStore.view c.args.records.now.store) c.args.records.now) (pages_of (g.S.EawStore.view c.del.new.self.store) c.del.new.self) (Ok c.removed.result) c.in-Del.is refl (subst (λ (r : Reply). (is_refusal r ≡ false) × (is_committed r ≡ false) × IsOfKind (length ((pages_of (g.S.EawStore.view c.args.records.now.store) c.args.records.now).counts c.args.tid)) (asked.Del c.in-Del.table c.in-Del.key) r) (sym c.removed.ensures) (removed_plain (length ((pages_of (g.S.EawStore.view c.args.records.now.store) c.args.records.now).counts c.args.tid)) c.in-Del.table c.in-Del.key c.in_ok-del-in-Del.field-0))
      (subst (λ (r : Reply). Does g.S.EawStore.tells (g.S.EawStore.opens (g.S.EawStore.view c.args.records.now.store).shape) g.K.KeyIndex.index c.args.table c.args.tid (OnTable (asked.Del c.in-Del.table c.in-Del.key)) (pages_of (g.S.EawStore.view c.args.records.now.store) c.args.records.now) (pages_of (g.S.EawStore.view c.del.new.self.store) c.del.new.self) (Ok r)) (sym c.removed.ensures) (c.in_ok-del-in-Del.ensures.does c.in-Del.table (λ told alive. number_at (names_of (g.S.EawStore.view c.args.records.now.store).state.bytes) c.in-Del.table c.args.table (subst (λ (k : TableCall). number_for (names_of (g.S.EawStore.view c.args.records.now.store).state.bytes) k ≡ Some c.args.table) c.in-Del.is (c.requires.asked told alive)))));
}

pub returns-in_err-del-in-Del : goal.returns-in_err-del-in-Del
returns-in_err-del-in-Del g c =
    let exit = err_from_is_err_and c.from_residual-in_err-del-in-Del.result c.from_residual-in_err-del-in-Del.ensures.1 in
    rw (exit.1, exit.2) (record {
      works = works_of g.S.EawStore.tells (g.S.EawStore.opens (g.S.EawStore.view c.args.records.now.store).shape) g.K.KeyIndex.index c.args.table c.args.tid (asked.Del c.in-Del.table c.in-Del.key) c.args.asked.now (pages_of (g.S.EawStore.view c.args.records.now.store) c.args.records.now) (pages_of (g.S.EawStore.view c.del.new.self.store) c.del.new.self) (Err c.in_err-del-in-Del.field-0.0) c.in-Del.is refl tt
          (c.in_err-del-in-Del.ensures.does c.in-Del.table (λ told alive. number_at (names_of (g.S.EawStore.view c.args.records.now.store).state.bytes) c.in-Del.table c.args.table (subst (λ (k : TableCall). number_for (names_of (g.S.EawStore.view c.args.records.now.store).state.bytes) k ≡ Some c.args.table) c.in-Del.is (c.requires.asked told alive))));
    })

pub scan-requires-clause-there : goal.scan-requires-clause-there
scan-requires-clause-there g c = λ told alive.
    there (names_of (g.S.EawStore.view c.args.records.now.store).state.bytes) c.args.table c.in-Scan.table (number_at (names_of (g.S.EawStore.view c.args.records.now.store).state.bytes) c.in-Scan.table c.args.table (subst (λ (k : TableCall). number_for (names_of (g.S.EawStore.view c.args.records.now.store).state.bytes) k ≡ Some c.args.table) c.in-Scan.is (c.requires.asked told alive)))

pub returns-in_ok-scan-in-Scan : goal.returns-in_ok-scan-in-Scan
returns-in_ok-scan-in-Scan g c = record {
  works = works_of g.S.EawStore.tells (g.S.EawStore.opens (g.S.EawStore.view c.args.records.now.store).shape) g.K.KeyIndex.index c.args.table c.args.tid (asked.Scan c.in-Scan.table c.in-Scan.low c.in-Scan.high) c.args.asked.now (pages_of (g.S.EawStore.view c.args.records.now.store) c.args.records.now) (pages_of (g.S.EawStore.view c.scan.new.self.store) c.scan.new.self) (Ok (reply.Listed c.in_ok-scan-in-Scan.field-0)) c.in-Scan.is refl (refl, refl, tt)
      (c.in_ok-scan-in-Scan.ensures.does c.in-Scan.table (λ told alive. number_at (names_of (g.S.EawStore.view c.args.records.now.store).state.bytes) c.in-Scan.table c.args.table (subst (λ (k : TableCall). number_for (names_of (g.S.EawStore.view c.args.records.now.store).state.bytes) k ≡ Some c.args.table) c.in-Scan.is (c.requires.asked told alive))));
}

pub returns-in_err-scan-in-Scan : goal.returns-in_err-scan-in-Scan
returns-in_err-scan-in-Scan g c =
    let exit = err_from_is_err_and c.from_residual-in_err-scan-in-Scan.result c.from_residual-in_err-scan-in-Scan.ensures.1 in
    rw (exit.1, exit.2) (record {
      works = works_of g.S.EawStore.tells (g.S.EawStore.opens (g.S.EawStore.view c.args.records.now.store).shape) g.K.KeyIndex.index c.args.table c.args.tid (asked.Scan c.in-Scan.table c.in-Scan.low c.in-Scan.high) c.args.asked.now (pages_of (g.S.EawStore.view c.args.records.now.store) c.args.records.now) (pages_of (g.S.EawStore.view c.scan.new.self.store) c.scan.new.self) (Err c.in_err-scan-in-Scan.field-0.0) c.in-Scan.is refl tt
          (c.in_err-scan-in-Scan.ensures.does c.in-Scan.table (λ told alive. number_at (names_of (g.S.EawStore.view c.args.records.now.store).state.bytes) c.in-Scan.table c.args.table (subst (λ (k : TableCall). number_for (names_of (g.S.EawStore.view c.args.records.now.store).state.bytes) k ≡ Some c.args.table) c.in-Scan.is (c.requires.asked told alive))));
    })
