use Rattle.std.proofs.Common.{◌≡◌, ◌≤◌, ℕ, [], false, length, refl, sym, subst, ap, ap₂, ◌∙◌, arith}
use Rattle.std.proofs.lemmas.List.{append-nil}
use Rattle.mars_core.specs.Held.{core_of}
use Rattle.mars_manager.specs.Sharing.{CanShare}
use Rattle.caller_work.specs.Worked.{Worked}
use Rattle.reader_work.specs.Readership.{passes_for, asks_with}
use Rattle.mars_shell.specs.Told.{answers_in}
use Rattle.mars_shell.proofs.Joining.{as_many, as_many_asks, few_answers, answered_in, callers_within, retold, joint_turns}
use Rattle.mars_shell.proofs.callers.work_jointly.Goals as goal

pub work_with-requires-clause-few : goal.work_with-requires-clause-few
work_with-requires-clause-few g c κs within =
    let read = c.in-Ok.ensures in
    let callers : length c.in-Ok.script.plans.items ≡ c.args.crew.now.numbers.callers = ap length read.3 ∙ as_many 0 c.args.crew.now.numbers.callers read.0 in
    let readers : length (asks_with c.in-Ok-open_readership.readership) ≡ c.args.crew.now.numbers.readers = ap length (c.in-Ok-open_readership.ensures.asks ∙ read.4) ∙ as_many_asks 0 c.args.crew.now.numbers.readers read.0 in
    subst (λ (n : ℕ). n ≤ 32) (sym (ap₂ passes_for callers readers)) c.requires.few

pub work_with-requires-clause-ready : goal.work_with-requires-clause-ready
work_with-requires-clause-ready g c κs within =
    let s = g.S.EawStore in
    let read = c.in-Ok.ensures in
    let callers : length c.in-Ok.script.plans.items ≡ c.args.crew.now.numbers.callers = ap length read.3 ∙ as_many 0 c.args.crew.now.numbers.callers read.0 in
    let readers : length (asks_with c.in-Ok-open_readership.readership) ≡ c.args.crew.now.numbers.readers = ap length (c.in-Ok-open_readership.ensures.asks ∙ read.4) ∙ as_many_asks 0 c.args.crew.now.numbers.readers read.0 in
    subst (λ (core : _). CanShare s.tells (passes_for (length c.in-Ok.script.plans.items) (length (asks_with c.in-Ok-open_readership.readership))) (core_of s.opens g.I.KeyIndex.index (s.view core.records.store) core)) (sym c.in-Ok-new.ensures.ok)
    (subst (λ (n : ℕ). CanShare s.tells n (core_of s.opens g.I.KeyIndex.index (s.view c.args.core.records.store) c.args.core)) (sym (ap₂ passes_for callers readers)) c.requires.ready)

pub tell_end-ended-requires-clause-few : goal.tell_end-ended-requires-clause-few
tell_end-ended-requires-clause-few g c =
    let read = c.in-Ok.ensures in
    let counted : length c.in-Ok-work_with.fates.items ≡ c.args.crew.now.numbers.callers = c.in-Ok-work_with.ensures.worked.each ∙ ap length read.3 ∙ as_many 0 c.args.crew.now.numbers.callers read.0 in
    omega (arith, counted, callers_within c.args.crew.now.numbers.callers c.args.crew.now.numbers.readers 32 c.requires.few)

pub tell_end-ended-requires-clause-readers : goal.tell_end-ended-requires-clause-readers
tell_end-ended-requires-clause-readers g c =
    let read = c.in-Ok.ensures in
    let readers : length (asks_with c.in-Ok-open_readership.readership) ≡ c.args.crew.now.numbers.readers = ap length (c.in-Ok-open_readership.ensures.asks ∙ read.4) ∙ as_many_asks 0 c.args.crew.now.numbers.readers read.0 in
    few_answers c.in-Ok-work_with.answers _ _ _ _ c.in-Ok-work_with.ensures.answered (omega (arith, readers, c.requires.readers))

pub returns-in-Ok-work_with-clause-works : goal.returns-in-Ok-work_with-clause-works
returns-in-Ok-work_with-clause-works g c =
    let s = g.S.EawStore in
    let read = c.in-Ok.ensures in
    let numbers = c.args.crew.now.numbers in
    let plans = c.in-Ok.script.plans.items in
    let core = c.into_inner-core.result in
    let told = c.tell_end-ended.ensures.told in
    let whole = c.tell_end-ended.ensures.whole in
    let answers = c.in-Ok-work_with.answers in
    let worked = subst (λ (n : ℕ). Worked s.tells n plans (core_of s.opens g.I.KeyIndex.index (s.view c.args.core.records.store) c.args.core) (core_of s.opens g.I.KeyIndex.index (s.view core.records.store) core) c.in-Ok-work_with.fates.items c.in-Ok-work_with.end) c.from.ensures
    (subst (λ (last : _). Worked s.tells c.from.result plans (core_of s.opens g.I.KeyIndex.index (s.view c.args.core.records.store) c.args.core) (core_of s.opens g.I.KeyIndex.index (s.view last.records.store) last) c.in-Ok-work_with.fates.items c.in-Ok-work_with.end) (sym c.into_inner-core.ensures)
    (subst (λ (first : _). Worked s.tells c.from.result plans (core_of s.opens g.I.KeyIndex.index (s.view first.records.store) first) (core_of s.opens g.I.KeyIndex.index (s.view c.in-Ok-work_with.core.value.records.store) c.in-Ok-work_with.core.value) c.in-Ok-work_with.fates.items c.in-Ok-work_with.end) c.in-Ok-new.ensures.ok c.in-Ok-work_with.ensures.worked)) in
    let base = ap (λ (first : _). (core_of s.opens g.I.KeyIndex.index (s.view first.records.store) first).state.base) c.in-Ok-new.ensures.ok ∙ sym worked.since.base in
    let names = ap (λ (first : _). (core_of s.opens g.I.KeyIndex.index (s.view first.records.store) first).state.names) c.in-Ok-new.ensures.ok in
    let history = ap (λ (last : _). (core_of s.opens g.I.KeyIndex.index (s.view last.records.store) last).state.history) (sym c.into_inner-core.ensures) in
    let asks = c.in-Ok-open_readership.ensures.asks ∙ read.4 in
    record {
      cut = told.cut;
      text = told.text;
      wrote = told.wrote;
      counts = told.counts;
      holds = λ tells. joint_turns s.tells _ _ numbers.callers numbers.readers numbers.tries c.args.input.now read.0 read.1 plans read.3 c.in-Ok-work_with.fates.items c.in-Ok-work_with.end worked c.requires.ready (answers_in answers) (g.G.Gate.told c.args.crew.now.gate.now) c.in-Ok-work_with.ensures.told tells
          c.tell_end-ended.result told.cut told.text (λ unfailed remembered. (whole unfailed remembered).0) c.tell_end-ended.ensures.fault
          (λ unfailed remembered. answered_in answers _ _ _ _ _ _ _ _ (names ∙ sym (worked.since.continues tells).names) base history asks c.in-Ok-work_with.ensures.answered (whole unfailed remembered).1)
          (retold c.tell_end-ended.result told.cut told.text _ _ _ _ _ _ c.in-Ok-work_with.fates.items c.in-Ok-work_with.fates.items (answers_in answers) read.2 c.history_of.ensures c.base_of.ensures refl told.holds);
    }

pub returns-in-Err-work_with-clause-works : goal.returns-in-Err-work_with-clause-works
returns-in-Err-work_with-clause-works g c = record { cut = false; text = []; wrote = λ _. sym (append-nil _); counts = refl; holds = λ told. (refl, refl) }

pub returns-in-Err-work_with-clause-given_back : goal.returns-in-Err-work_with-clause-given_back
returns-in-Err-work_with-clause-given_back g c = c.into_inner-in-Err-work_with.ensures ∙ ap (λ (boxed : _). boxed.value) c.in-Err-work_with.ensures.given_back ∙ c.in-Ok-new.ensures.ok

pub returns-in_default-clause-works : goal.returns-in_default-clause-works
returns-in_default-clause-works g c = record { cut = false; text = []; wrote = λ _. sym (append-nil _); counts = refl; holds = λ told. (refl, refl) }

pub returns-in-Err-clause-works : goal.returns-in-Err-clause-works
returns-in-Err-clause-works g c = record { cut = false; text = []; wrote = λ _. sym (append-nil _); counts = refl; holds = λ told. (refl, refl) }

pub returns-in_default-open_readership-clause-works : goal.returns-in_default-open_readership-clause-works
returns-in_default-open_readership-clause-works g c = record { cut = false; text = []; wrote = λ _. sym (append-nil _); counts = refl; holds = λ told. (refl, refl) }

pub open_readership-requires : goal.open_readership-requires
open_readership-requires g c =
    let readers : length c.in-Ok.script.asks.items ≡ c.args.crew.now.numbers.readers = ap length c.in-Ok.ensures.4 ∙ as_many_asks 0 c.args.crew.now.numbers.readers c.in-Ok.ensures.0 in
    record { few = omega (arith, readers, c.requires.readers) }

pub work_with-requires-clause-some : goal.work_with-requires-clause-some
work_with-requires-clause-some g c κs within =
    let callers : length c.in-Ok.script.plans.items ≡ c.args.crew.now.numbers.callers = ap length c.in-Ok.ensures.3 ∙ as_many 0 c.args.crew.now.numbers.callers c.in-Ok.ensures.0 in
    omega (arith, callers, c.requires.some)

pub returns-in-Ok-work_with-clause-short : goal.returns-in-Ok-work_with-clause-short
returns-in-Ok-work_with-clause-short g c = c.tell_end-ended.ensures.short
