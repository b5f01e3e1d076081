use Rattle.std.proofs.Common.{ap, sym, subst, ◌∙◌, ◌∷◌, List, ℕ, arith}
use Rattle.std.proofs.lemmas.Bool.{eqb-false}
use Rattle.history.specs.declared.call.TableCall.{TableCall}
use Rattle.history.specs.Told.{told_reply}
use Rattle.history.specs.Packed.{CanCall, entries_in}
use Rattle.history.proofs.ReadAgain.{front_of, can_behind, packed_behind, entries_behind}
use Rattle.history.proofs.transaction.Entries.next.Goals as goal

pub read_call-call-requires : goal.read_call-call-requires
read_call-call-requires c =
    let front = front_of c.self.inside.bytes.now c.self.invariant (omega (arith, eqb-false _ 0 (sym c.if-is_empty.ensures))) in
    subst (λ (call : TableCall). CanCall call) (sym (ap (λ (p : TableCall × List ℕ). p.0) front.call)) front.can.0

pub read_told-told-requires : goal.read_told-told-requires
read_told-told-requires c =
    let front = front_of c.self.inside.bytes.now c.self.invariant (omega (arith, eqb-false _ 0 (sym c.if-is_empty.ensures))) in
    can_behind c.self.inside.bytes.now c.read_call-call.result.1.now front c.read_call-call.ensures.rest

pub invariant_of-result : goal.invariant_of-result
invariant_of-result c =
    let front = front_of c.self.inside.bytes.now c.self.invariant (omega (arith, eqb-false _ 0 (sym c.if-is_empty.ensures))) in
    packed_behind c.self.inside.bytes.now c.read_call-call.result.1.now c.read_told-told.result.1.now front c.read_call-call.ensures.rest c.read_told-told.ensures.rest

pub returns : goal.returns
returns c =
    let front = front_of c.self.inside.bytes.now c.self.invariant (omega (arith, eqb-false _ 0 (sym c.if-is_empty.ensures))) in
    let reply = told_reply c.read_told-told.result.0 in
    let rest = c.read_told-told.result.1.now in
    let all = entries_behind c.self.inside.bytes.now c.read_call-call.result.1.now rest front reply c.read_call-call.ensures.rest c.read_told-told.ensures.told c.read_told-told.ensures.rest in
    let call = sym (c.read_call-call.ensures.call ∙ ap (λ (p : TableCall × List ℕ). p.0) front.call) in
    sym c.self.view_is ∙ all ∙ ap (λ (first : TableCall). (first, reply) ∷ entries_in rest) call
