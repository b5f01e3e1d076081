use Rattle.std.proofs.Common.{ℕ, inl, inr, List, [], ◌∷◌, ◌++◌, Option, Some, unwrap_or, ◌∙◌, ap, arith}
use Rattle.std.proofs.lemmas.List.{append_assoc}
use Rattle.history.specs.Key.{main_name}
use Rattle.history.specs.Table.{Granted, found}
use Rattle.history.specs.declared.call.TableCall.TheVariants.{Get}
use Rattle.caller_steps.specs.Core.{CoreView}
use Rattle.caller_steps.specs.State.{calls_of}
use Rattle.transactions.specs.Adds.{Adds}
use Rattle.transactions.proofs.Handing.{handed_on}
use Rattle.job_queue.specs.Queue.{IsNumber, Reads}
use Rattle.job_queue.proofs.Missing.{first_out, count_out}
use Rattle.job_queue.proofs.queue.bounds.Goals as goal
use Rattle.job_queue.proofs.queue.bounds.Goals.{then-size-gt-MOST-via-then-size-gt-MOST, then-size-gt-MOST-via-else-size-gt-MOST+then-first-size, then-size-gt-MOST-via-else-size-gt-MOST+else-first-size+then-count-size}

-- both numbers were read
both_read : (caller first count : ℕ) (old mid new : CoreView) → ((one : Option (List ℕ)) × IsNumber first one × Adds caller (Get main_name 0) (found one) old mid)
    → ((other : Option (List ℕ)) × IsNumber count other × Adds caller (Get main_name 1) (found other) mid new) → Reads first count caller old new
both_read caller first count old mid new a b = record {
  one = a.0;
  other = b.0;
  is_first = a.1;
  is_count = b.1;
  live = b.2 ∙ ap (λ (o : Option Granted). Some (unwrap_or o [] ++ (Get main_name 1, found b.0) ∷ [])) a.2
      ∙ ap Some (append_assoc (calls_of old.state caller) ((Get main_name 0, found a.0) ∷ []) ((Get main_name 1, found b.0) ∷ []));
}

-- they are none of a queue
pub returns-then-size-gt-MOST-clause-stays : goal.returns-then-size-gt-MOST-clause-stays
returns-then-size-gt-MOST-clause-stays g c told =
    c.calls_join.ensures.stays c.args.core.now c.read_number.new.core c.read_number-2.new.core c.args.caller (c.in_ok-first.ensures.stays told) (c.in_ok-count.ensures.stays told)

pub returns-then-size-gt-MOST-clause-none : goal.returns-then-size-gt-MOST-clause-none
returns-then-size-gt-MOST-clause-none g c told =
    let old = g.C.Core.view c.args.core.now in
    let mid = g.C.Core.view c.read_number.new.core in
    let new = g.C.Core.view c.read_number-2.new.core in
    let first = c.in_ok-first.first in
    let count = c.in_ok-count.count in
    let stays = c.calls_join.ensures.stays c.args.core.now c.read_number.new.core c.read_number-2.new.core c.args.caller (c.in_ok-first.ensures.stays told) (c.in_ok-count.ensures.stays told) in
    let reads = both_read c.args.caller first count old mid new (c.in_ok-first.ensures.found told) (c.in_ok-count.ensures.found told) in
    elim c.then-size-gt-MOST.branch [
      | then-size-gt-MOST-via-then-size-gt-MOST w ↦ inl w.if-size-gt-MOST.true
      | then-size-gt-MOST-via-else-size-gt-MOST+then-first-size w ↦ inr (first_out c.args.size c.args.caller first count old new (omega arith) (c.requires.begun told) reads stays c.in_ok-first.ensures.small w.if-first-size.true)
      | then-size-gt-MOST-via-else-size-gt-MOST+else-first-size+then-count-size w ↦ inr (count_out c.args.size c.args.caller first count old new (omega arith) (c.requires.begun told) reads stays c.in_ok-count.ensures.small w.if-count-size.true)
    ]

-- they are
pub returns-clause-stays : goal.returns-clause-stays
returns-clause-stays g c told =
    c.calls_join.ensures.stays c.args.core.now c.read_number.new.core c.read_number-2.new.core c.args.caller (c.in_ok-first.ensures.stays told) (c.in_ok-count.ensures.stays told)

pub returns-clause-found : goal.returns-clause-found
returns-clause-found g c told =
    both_read c.args.caller c.in_ok-first.first c.in_ok-count.count (g.C.Core.view c.args.core.now) (g.C.Core.view c.read_number.new.core) (g.C.Core.view c.read_number-2.new.core)
    (c.in_ok-first.ensures.found told) (c.in_ok-count.ensures.found told)

-- the second was not
pub returns-in_err-count-clause-stays : goal.returns-in_err-count-clause-stays
returns-in_err-count-clause-stays g c told =
    c.calls_join.ensures.stays c.args.core.now c.read_number.new.core c.read_number-2.new.core c.args.caller (c.in_ok-first.ensures.stays told) (c.read_number-2.ensures.stays told)

pub returns-in_err-count-clause-of_core : goal.returns-in_err-count-clause-of_core
returns-in_err-count-clause-of_core g c told =
    let stop = c.in_err-count.field-0.0 in
    handed_on c.from_residual-in_err-count.result stop c.from_residual-in_err-count.ensures _
    (c.calls_join.ensures.later c.args.core.now c.read_number.new.core c.read_number-2.new.core c.args.caller stop (c.in_ok-first.ensures.stays told) (c.in_err-count.ensures.of_core told))
