use Rattle.std.proofs.Common.{ℕ, List, ◌≡◌, ◌<◌, ◌≤◌, ◌-◌, refl, length, take, drop, sym, ◌∙◌, ap, subst, arith}
use Rattle.std.proofs.lemmas.List.{take_all, length-drop}
use Rattle.byteorder.specs.Endian.{little_number}
use Rattle.array_shape.specs.declared.shape.Shape.{Shape}
use Rattle.array_shape.specs.NumberSet.{numbers_in}
use Rattle.mirror.proofs.Grouping.{none_logged, number_said, group_long, groups_first, next_group, has_parts, groups_next, group_fault, group_moments, committed, commit_fault, commit_moments}
use Rattle.std.proofs.lemmas.Result.{err_from_is_err_and}
use Rattle.mirror.proofs.apply.apply_frame.Goals as goal

-- the bytes from a place on, as a slice gives them
from_place : (n : ℕ) (l : List ℕ) → take (length l - n) (drop n l) ≡ drop n l
from_place n l = take_all (length l - n) (drop n l) (let e = length-drop n l in omega (arith, e))

count_is : (n : ℕ) (l : List ℕ) → n ≡ little_number 2 (take (length l - 12) (drop 12 l)) → n ≡ little_number 2 (drop 12 l)
count_is n l is = is ∙ ap (λ (m : List ℕ). little_number 2 m) (from_place 12 l)

pub loop-group-init : goal.loop-group-init
loop-group-init g c =
    let s = g.S.EawStore in
    let old = s.view c.args.store.now in
    let frame = c.args.frame.now in
    groups_first s.tells s.opens 0 frame (take (length frame - 14) (drop 14 frame)) c.empty-numbers.result.bits old old c.requires.frame c.requires.alive c.requires.free
    (λ told u. none_logged (old.state.logs u) (sym (c.requires.free u) ∙ g.met.S.EawStore.outlines c.args.store.now u told c.requires.alive))
    (from_place 14 frame) c.empty-numbers.ensures.none c.empty-numbers.ensures.lacks

pub cut_group-number-requires : goal.cut_group-number-requires
cut_group-number-requires g c =
    let s = g.S.EawStore in
    let old = s.view c.args.store.now in
    let on = c.loop-group.invariant in
    let n = next_group s.tells s.opens c.loop-group._group c.args.frame.now c.loop-group.rest.now c.loop-group.numbers.bits old (s.view c.loop-group.store) on
    (subst (λ (m : ℕ). c.loop-group._group < m) (count_is c.read_u16-count.result c.args.frame.now c.read_u16-count.ensures) c.loop-group-test.true) in
    group_long old.shape on.low n.group n.more c.loop-group.rest.now n.next

pub log_parts-requires-clause-number : goal.log_parts-requires-clause-number
log_parts-requires-clause-number g c =
    let s = g.S.EawStore in
    let old = s.view c.args.store.now in
    let on = c.loop-group.invariant in
    let n = next_group s.tells s.opens c.loop-group._group c.args.frame.now c.loop-group.rest.now c.loop-group.numbers.bits old (s.view c.loop-group.store) on
    (subst (λ (m : ℕ). c.loop-group._group < m) (count_is c.read_u16-count.result c.args.frame.now c.read_u16-count.ensures) c.loop-group-test.true) in
    let number = c.cut_group-number.ensures.number ∙ number_said old.shape on.low n.group n.more c.loop-group.rest.now n.next in
    subst (λ (q : ℕ × Shape). q.0 < q.1.numbers) (λ i. (sym number i, sym on.shape i)) n.next.good.0

pub log_parts-requires-clause-free : goal.log_parts-requires-clause-free
log_parts-requires-clause-free g c =
    let s = g.S.EawStore in
    let old = s.view c.args.store.now in
    let on = c.loop-group.invariant in
    let n = next_group s.tells s.opens c.loop-group._group c.args.frame.now c.loop-group.rest.now c.loop-group.numbers.bits old (s.view c.loop-group.store) on
    (subst (λ (m : ℕ). c.loop-group._group < m) (count_is c.read_u16-count.result c.args.frame.now c.read_u16-count.ensures) c.loop-group-test.true) in
    let number = c.cut_group-number.ensures.number ∙ number_said old.shape on.low n.group n.more c.loop-group.rest.now n.next in
    on.free c.cut_group-number.result.0 (omega (arith, number, n.next.least))

pub log_parts-requires-clause-parts : goal.log_parts-requires-clause-parts
log_parts-requires-clause-parts g c =
    let s = g.S.EawStore in
    let old = s.view c.args.store.now in
    let on = c.loop-group.invariant in
    let cut = c.cut_group-number in
    let n = next_group s.tells s.opens c.loop-group._group c.args.frame.now c.loop-group.rest.now c.loop-group.numbers.bits old (s.view c.loop-group.store) on
    (subst (λ (m : ℕ). c.loop-group._group < m) (count_is c.read_u16-count.result c.args.frame.now c.read_u16-count.ensures) c.loop-group-test.true) in
    has_parts s.tells s.opens c.loop-group._group c.args.frame.now c.loop-group.rest.now c.loop-group.numbers.bits old (s.view c.loop-group.store) on n
    cut.result.0 cut.result.1 cut.result.2.now cut.ensures.number cut.ensures.count cut.ensures.rest

pub with-numbers-requires : goal.with-numbers-requires
with-numbers-requires g c =
    let s = g.S.EawStore in
    let old = s.view c.args.store.now in
    let on = c.loop-group.invariant in
    let n = next_group s.tells s.opens c.loop-group._group c.args.frame.now c.loop-group.rest.now c.loop-group.numbers.bits old (s.view c.loop-group.store) on
    (subst (λ (m : ℕ). c.loop-group._group < m) (count_is c.read_u16-count.result c.args.frame.now c.read_u16-count.ensures) c.loop-group-test.true) in
    let number = c.cut_group-number.ensures.number ∙ number_said old.shape on.low n.group n.more c.loop-group.rest.now n.next in
    let shaped = g.met.S.EawStore.shaped c.args.store.now in
    omega (arith, number, n.next.good.0, shaped.most_numbers)

pub loop-group-preserved : goal.loop-group-preserved
loop-group-preserved g c =
    let s = g.S.EawStore in
    let old = s.view c.args.store.now in
    let on = c.loop-group.invariant in
    let cut = c.cut_group-number in
    let n = next_group s.tells s.opens c.loop-group._group c.args.frame.now c.loop-group.rest.now c.loop-group.numbers.bits old (s.view c.loop-group.store) on
    (subst (λ (m : ℕ). c.loop-group._group < m) (count_is c.read_u16-count.result c.args.frame.now c.read_u16-count.ensures) c.loop-group-test.true) in
    let shaped = g.met.S.EawStore.shaped c.args.store.now in
    groups_next s.tells s.opens c.loop-group._group c.args.frame.now c.loop-group.rest.now c.loop-group.numbers.bits old (s.view c.loop-group.store) on n
    cut.result.0 cut.result.1 cut.result.2.now cut.ensures.number cut.ensures.count cut.ensures.rest
    c.in_ok-rest.rest.now c.with-numbers.result.bits (s.view c.log_parts.new.store) c.in_ok-rest.ensures.wrote c.with-numbers.ensures.here c.with-numbers.ensures.others shaped.most_numbers c.log_parts.ensures.moments

pub returns-in_err-rest-clause-fault : goal.returns-in_err-rest-clause-fault
returns-in_err-rest-clause-fault g c =
    let exit = err_from_is_err_and c.from_residual.result c.from_residual.ensures.1 in
    rw (exit.1, exit.2) (
    let s = g.S.EawStore in
    let on = c.loop-group.invariant in
    group_fault s.tells s.opens c.loop-group._group c.args.frame.now c.loop-group.rest.now c.loop-group.numbers.bits (s.view c.args.store.now) (s.view c.loop-group.store) on
    c.in_err-rest.field-0.0 (s.view c.log_parts.new.store) c.in_err-rest.ensures.fault)

pub returns-in_err-rest-clause-moments : goal.returns-in_err-rest-clause-moments
returns-in_err-rest-clause-moments g c told =
    let s = g.S.EawStore in
    let on = c.loop-group.invariant in
    group_moments s.tells s.opens c.loop-group._group c.args.frame.now c.loop-group.rest.now c.loop-group.numbers.bits (s.view c.args.store.now) (s.view c.loop-group.store) on
    told (s.view c.log_parts.new.store) (c.log_parts.ensures.moments told)

pub returns-clause-applied : goal.returns-clause-applied
returns-clause-applied g c =
    let s = g.S.EawStore in
    let on = c.loop-group.invariant in
    let last : little_number 2 (drop 12 c.args.frame.now) ≤ c.loop-group._group = omega (arith, c.loop-group-test.false, count_is c.read_u16-count.result c.args.frame.now c.read_u16-count.ensures) in
    committed s.tells s.opens c.loop-group._group c.args.frame.now c.loop-group.rest.now c.loop-group.numbers.bits (s.view c.args.store.now) (s.view c.loop-group.store) on
    last (numbers_in c.loop-group.numbers.bits) refl (s.view c.commit_group.new.self) c.commit_group.result c.commit_group.ensures.does

pub returns-clause-fault : goal.returns-clause-fault
returns-clause-fault g c =
    let s = g.S.EawStore in
    let on = c.loop-group.invariant in
    let last : little_number 2 (drop 12 c.args.frame.now) ≤ c.loop-group._group = omega (arith, c.loop-group-test.false, count_is c.read_u16-count.result c.args.frame.now c.read_u16-count.ensures) in
    commit_fault s.tells s.opens c.loop-group._group c.args.frame.now c.loop-group.rest.now c.loop-group.numbers.bits (s.view c.args.store.now) (s.view c.loop-group.store) on
    last (numbers_in c.loop-group.numbers.bits) refl (s.view c.commit_group.new.self) c.commit_group.result c.commit_group.ensures.does

pub returns-clause-moments : goal.returns-clause-moments
returns-clause-moments g c told =
    let s = g.S.EawStore in
    let on = c.loop-group.invariant in
    let last : little_number 2 (drop 12 c.args.frame.now) ≤ c.loop-group._group = omega (arith, c.loop-group-test.false, count_is c.read_u16-count.result c.args.frame.now c.read_u16-count.ensures) in
    commit_moments s.tells s.opens c.loop-group._group c.args.frame.now c.loop-group.rest.now c.loop-group.numbers.bits (s.view c.args.store.now) (s.view c.loop-group.store) on
    last (numbers_in c.loop-group.numbers.bits) refl (s.view c.commit_group.new.self) c.commit_group.result c.commit_group.ensures.does told
