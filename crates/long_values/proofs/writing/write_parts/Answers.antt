use Rattle.std.proofs.Common.{◌+◌, refl, ◌∙◌, arith}
use Rattle.transactions.specs.declared.work.Stop.TheVariants.{Refused}
use Rattle.long_values.specs.Values.{part_count}
use Rattle.long_values.proofs.Undoing.{handed_on}
use Rattle.long_values.proofs.Records.{changes_none, changes_on, changes_wider, changes_kept, changes_put, part_written}
use Rattle.long_values.proofs.writing.write_parts.Goals as goal

pub loop-n-init : goal.loop-n-init
loop-n-init g c = record {
  limits = refl;
  changes = λ told. changes_none c.args.caller c.args.at.now.table (c.args.at.now.first + 1) (c.args.at.now.first + 1 + 0) (g.C.Core.view c.args.core.now) (c.requires.sound told);
  stays = λ start told stays. stays;
  written = λ told k lt. absurd (omega (arith, lt));
}

pub loop-n-preserved : goal.loop-n-preserved
loop-n-preserved g c =
    let old = c.args.core.now in
    let cur = c.loop-n.core in
    let new = c.put.new.core in
    let view = g.C.Core.view in
    let n = c.loop-n.n in
    record {
      limits = c.put.ensures.steps.limits ∙ c.loop-n.invariant.limits;
      changes = λ told.
          changes_on c.args.caller c.args.at.now.table (c.args.at.now.first + 1) (c.args.at.now.first + 1 + (n + 1)) (view old) (view cur) (view new)
          (c.calls_join.ensures.within old cur new c.args.caller (c.loop-n.invariant.changes told).within (c.put.ensures.within told))
          (changes_wider c.args.caller c.args.at.now.table (c.args.at.now.first + 1) (c.args.at.now.first + 1 + n) (c.args.at.now.first + 1) (c.args.at.now.first + 1 + (n + 1)) (view old) (view cur) (omega arith) (omega arith) (c.loop-n.invariant.changes told))
          (changes_put c.args.caller c.args.at.now.table c.part.result (c.args.at.now.first + 1 + n) (c.args.at.now.first + 1) (c.args.at.now.first + 1 + (n + 1)) (view cur) (view new) (c.put.ensures.stays told) (c.put.ensures.within told)
          (c.in_ok-put.ensures.ok told) (omega arith) (omega arith));
      stays = λ start told stays. c.calls_join.ensures.stays start cur new c.args.caller (c.loop-n.invariant.stays start told stays) (c.put.ensures.stays told);
      written = λ told.
          part_written c.args.caller c.args.at.now.table c.args.at.now.first c.args.bytes.now c.part.result n (view cur) (view new) (c.put.ensures.stays told) (c.put.ensures.within told)
          (c.in_ok-put.ensures.ok told) c.part.ensures (c.loop-n.invariant.written told);
    }

-- a record was refused
pub returns-in_err-put-clause-changes : goal.returns-in_err-put-clause-changes
returns-in_err-put-clause-changes g c told =
    let old = c.args.core.now in
    let cur = c.loop-n.core in
    let new = c.put.new.core in
    let view = g.C.Core.view in
    let n = c.loop-n.n in
    let count = c.part_count-n-end.ensures in
    let lt = c.loop-n-test.true in
    let last = c.args.at.now.first + 1 + part_count c.args.bytes.now in
    changes_on c.args.caller c.args.at.now.table (c.args.at.now.first + 1) last (view old) (view cur) (view new)
    (c.calls_join.ensures.within old cur new c.args.caller (c.loop-n.invariant.changes told).within (c.put.ensures.within told))
    (changes_wider c.args.caller c.args.at.now.table (c.args.at.now.first + 1) (c.args.at.now.first + 1 + n) (c.args.at.now.first + 1) last (view old) (view cur) (omega arith) (omega (arith, count, lt)) (c.loop-n.invariant.changes told))
    (changes_kept c.args.caller c.args.at.now.table (c.args.at.now.first + 1) last (view cur) (view new) (c.put.ensures.stays told) (c.put.ensures.within told) (c.in_err-put.ensures.err told))

pub returns-in_err-put-clause-stays : goal.returns-in_err-put-clause-stays
returns-in_err-put-clause-stays g c start told stays =
    c.calls_join.ensures.stays start c.loop-n.core c.put.new.core c.args.caller (c.loop-n.invariant.stays start told stays) (c.put.ensures.stays told)

pub returns-in_err-put-clause-refused : goal.returns-in_err-put-clause-refused
returns-in_err-put-clause-refused g c start told stays =
    handed_on _ c.from_residual.result _ c.from_residual.ensures
    (c.calls_join.ensures.later start c.loop-n.core c.put.new.core c.args.caller (Refused c.in_err-put.field-0.0) (c.loop-n.invariant.stays start told stays) (c.in_err-put.ensures.refused told))

-- all were put
pub returns-clause-changes : goal.returns-clause-changes
returns-clause-changes g c told =
    let view = g.C.Core.view in
    let count = c.part_count-n-end.ensures in
    let le = c.loop-n.auto.n-end in
    changes_wider c.args.caller c.args.at.now.table (c.args.at.now.first + 1) (c.args.at.now.first + 1 + c.loop-n.n) (c.args.at.now.first + 1) (c.args.at.now.first + 1 + part_count c.args.bytes.now) (view c.args.core.now) (view c.loop-n.core)
    (omega arith) (omega (arith, count, le)) (c.loop-n.invariant.changes told)

pub returns-clause-written : goal.returns-clause-written
returns-clause-written g c told k lt = c.loop-n.invariant.written told k (let count = c.part_count-n-end.ensures in let past = c.loop-n-test.false in omega (arith, count, past, lt))
