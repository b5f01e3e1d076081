use Rattle.std.proofs.Common.{inl, inr, [], ◌∷◌, refl, ◌∙◌, arith}
use Rattle.std.specs.Prelude.{decimal, IsTrue}
use Rattle.history.specs.Key.{main_name}
use Rattle.history.specs.declared.call.TableCall.{TableCall}
use Rattle.history.specs.declared.call.TableCall.TheVariants.{Get}
use Rattle.history.specs.declared.call.Reply.{Reply}
use Rattle.history.specs.declared.call.Reply.TheVariants.{Found}
use Rattle.transactions.proofs.Handing.{if_ok, if_err, handed_on, none_handed_on}
use Rattle.bank.proofs.Paying.{one_more, paid_over}
use Rattle.bank.proofs.Refusing.{has_balance, unread, unwritten}
use Rattle.bank.proofs.transfers.PaymentWorkUnitRefusal.make.Goals as goal

-- the payer's account was not read,
pub returns-in_err-paying : goal.returns-in_err-paying
returns-in_err-paying g c =
    let pay = c.args.self.now in
    let old = g.C.Core.view c.args.core.now in
    let new = g.C.Core.view c.read.new.core in
    let stop = c.in_err-paying.field-0.0 in
    record {
      limits = c.read.ensures.limits;
      stays = c.read.ensures.stays;
      within = c.read.ensures.within;
      done = λ told. none_handed_on c.from_residual.result stop c.from_residual.ensures _;
      stopped = λ told. handed_on c.from_residual.result stop c.from_residual.ensures _
          (unread pay.from pay.to pay.amount c.args.caller pay.from [] old old new stop (inl refl) (c.read.ensures.stays told) (c.requires.begun told) refl c.in_err-paying.ensures.cause (c.in_err-paying.ensures.none told));
      of_core = λ told. handed_on c.from_residual.result stop c.from_residual.ensures _ (c.in_err-paying.ensures.of_core told);
    }

-- or it was, and the payee's was not
pub returns-in_err-paid : goal.returns-in_err-paid
returns-in_err-paid g c =
    let pay = c.args.self.now in
    let view = g.C.Core.view in
    let old = c.args.core.now in
    let caller = c.args.caller in
    let stop = c.in_err-paid.field-0.0 in
    let paying : TableCall × Reply = (Get main_name pay.from, Found (decimal c.in_ok-paying.paying)) in
    record {
      limits = c.read-2.ensures.limits ∙ c.read.ensures.limits;
      stays = λ told. c.calls_join.ensures.stays old c.read.new.core c.read-2.new.core caller (c.read.ensures.stays told) (c.read-2.ensures.stays told);
      within = λ told. c.calls_join.ensures.within old c.read.new.core c.read-2.new.core caller (c.read.ensures.within told) (c.read-2.ensures.within told);
      done = λ told. none_handed_on c.from_residual-in_err-paid.result stop c.from_residual-in_err-paid.ensures _;
      stopped = λ told. handed_on c.from_residual-in_err-paid.result stop c.from_residual-in_err-paid.ensures _
          (unread pay.from pay.to pay.amount caller pay.to (paying ∷ []) (view old) (view c.read.new.core) (view c.read-2.new.core) stop (inr refl)
          (c.calls_join.ensures.stays old c.read.new.core c.read-2.new.core caller (c.read.ensures.stays told) (c.read-2.ensures.stays told))
          (one_more caller (view old) (view c.read.new.core) [] paying.0 paying.1 (c.requires.begun told) (c.in_ok-paying.ensures.found told)) refl c.in_err-paid.ensures.cause (c.in_err-paid.ensures.none told));
      of_core = λ told. handed_on c.from_residual-in_err-paid.result stop c.from_residual-in_err-paid.ensures _
          (c.calls_join.ensures.later old c.read.new.core c.read-2.new.core caller stop (c.read.ensures.stays told) (c.in_err-paid.ensures.of_core told));
    }

-- both were read, and the amount is too large
pub returns-in_default : goal.returns-in_default
returns-in_default g c =
    let pay = c.args.self.now in
    let view = g.C.Core.view in
    let old = c.args.core.now in
    let caller = c.args.caller in
    record {
      limits = c.read-2.ensures.limits ∙ c.read.ensures.limits;
      stays = λ told. c.calls_join.ensures.stays old c.read.new.core c.read-2.new.core caller (c.read.ensures.stays told) (c.read-2.ensures.stays told);
      within = λ told. c.calls_join.ensures.within old c.read.new.core c.read-2.new.core caller (c.read.ensures.within told) (c.read-2.ensures.within told);
      done = λ told. tt;
      stopped = λ told. (has_balance c.args.caller pay.from c.in_ok-paying.paying [] (view old) (view old) (view c.read.new.core) (c.read.ensures.stays told) (c.requires.begun told) refl (c.in_ok-paying.ensures.found told), omega (arith, c.in_default.ensures));
      of_core = λ told. tt;
    }

-- or the payee would have too much
pub returns-in_default-checked_add : goal.returns-in_default-checked_add
returns-in_default-checked_add g c =
    let pay = c.args.self.now in
    let view = g.C.Core.view in
    let old = c.args.core.now in
    let caller = c.args.caller in
    let paying : TableCall × Reply = (Get main_name pay.from, Found (decimal c.in_ok-paying.paying)) in
    record {
      limits = c.read-2.ensures.limits ∙ c.read.ensures.limits;
      stays = λ told. c.calls_join.ensures.stays old c.read.new.core c.read-2.new.core caller (c.read.ensures.stays told) (c.read-2.ensures.stays told);
      within = λ told. c.calls_join.ensures.within old c.read.new.core c.read-2.new.core caller (c.read.ensures.within told) (c.read-2.ensures.within told);
      done = λ told. tt;
      stopped = λ told. (
        has_balance c.args.caller pay.to c.in_ok-paid.paid (paying ∷ []) (view old) (view c.read.new.core) (view c.read-2.new.core)
            (c.calls_join.ensures.stays old c.read.new.core c.read-2.new.core caller (c.read.ensures.stays told) (c.read-2.ensures.stays told))
            (one_more caller (view old) (view c.read.new.core) [] paying.0 paying.1 (c.requires.begun told) (c.in_ok-paying.ensures.found told)) refl (c.in_ok-paid.ensures.found told),
        omega (arith, c.in_default-checked_add.ensures),
      );
      of_core = λ told. tt;
    }

-- one of them was not written,
pub returns-in_err-write : goal.returns-in_err-write
returns-in_err-write g c =
    let pay = c.args.self.now in
    let old = c.args.core.now in
    let caller = c.args.caller in
    let join = c.calls_join.ensures in
    let stop = c.in_err-write.field-0.0 in
    let both = λ (told : IsTrue g.C.Core.tells). join.stays old c.read.new.core c.read-2.new.core caller (c.read.ensures.stays told) (c.read-2.ensures.stays told) in
    record {
      limits = c.write.ensures.limits ∙ c.read-2.ensures.limits ∙ c.read.ensures.limits;
      stays = λ told. join.stays old c.read-2.new.core c.write.new.core caller (both told) (c.write.ensures.stays told);
      within = λ told. join.within old c.read-2.new.core c.write.new.core caller (join.within old c.read.new.core c.read-2.new.core caller (c.read.ensures.within told) (c.read-2.ensures.within told)) (c.write.ensures.within told);
      done = λ told. none_handed_on c.from_residual-in_err-write.result stop c.from_residual-in_err-write.ensures _;
      stopped = λ told. handed_on c.from_residual-in_err-write.result stop c.from_residual-in_err-write.ensures _ (unwritten pay.from pay.to pay.amount _ stop c.in_err-write.ensures.cause);
      of_core = λ told. handed_on c.from_residual-in_err-write.result stop c.from_residual-in_err-write.ensures _ (join.later old c.read-2.new.core c.write.new.core caller stop (both told) (c.in_err-write.ensures.of_core told));
    }

-- or the other was not, or both were
pub returns : goal.returns
returns g c =
    let pay = c.args.self.now in
    let view = g.C.Core.view in
    let old = c.args.core.now in
    let caller = c.args.caller in
    let join = c.calls_join.ensures in
    let both = λ (told : IsTrue g.C.Core.tells). join.stays old c.read.new.core c.read-2.new.core caller (c.read.ensures.stays told) (c.read-2.ensures.stays told) in
    let one = λ (told : IsTrue g.C.Core.tells). join.stays old c.read-2.new.core c.write.new.core caller (both told) (c.write.ensures.stays told) in
    record {
      limits = c.write-2.ensures.limits ∙ c.write.ensures.limits ∙ c.read-2.ensures.limits ∙ c.read.ensures.limits;
      stays = λ told. join.stays old c.write.new.core c.write-2.new.core caller (one told) (c.write-2.ensures.stays told);
      within = λ told. join.within old c.write.new.core c.write-2.new.core caller
          (join.within old c.read-2.new.core c.write.new.core caller (join.within old c.read.new.core c.read-2.new.core caller (c.read.ensures.within told) (c.read-2.ensures.within told)) (c.write.ensures.within told)) (c.write-2.ensures.within told);
      done = λ told. if_ok _ _ c.write-2.result
          (λ done wrote. paid_over caller pay.from pay.to pay.amount c.in_ok-paying.paying c.in_ok-paid.paid c.in-Some.less c.in-Some-checked_add.more (view old) (view c.read.new.core) (view c.read-2.new.core)
          (view c.write.new.core) (view c.write-2.new.core) (c.requires.begun told) (c.read.ensures.stays told) (both told) (c.in_ok-paying.ensures.found told) (c.in_ok-paid.ensures.found told) (c.in_ok-write.ensures.written told)
          wrote c.in-Some.ensures.0 c.in_ok-paying.ensures.small c.in-Some-checked_add.ensures.0 c.in-Some.ensures.1 c.in-Some-checked_add.ensures.1)
          (c.write-2.ensures.written told);
      stopped = λ told. if_err _ _ c.write-2.result (λ stop none. unwritten pay.from pay.to pay.amount _ stop none) c.write-2.ensures.cause;
      of_core = λ told. if_err _ _ c.write-2.result (λ stop of_core. join.later old c.write.new.core c.write-2.new.core caller stop (one told) of_core) (c.write-2.ensures.of_core told);
    }
