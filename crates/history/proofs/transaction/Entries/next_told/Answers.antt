use Rattle.std.proofs.Common.{sym, ◌∙◌, arith}
use Rattle.std.proofs.lemmas.Bool.{eqb-false}
use Rattle.history.specs.Told.{told_reply}
use Rattle.history.proofs.ReadAgain.{front_of, can_behind, packed_behind, entries_behind}
use Rattle.history.proofs.transaction.Entries.next_told.Goals as goal

pub read_told-told-requires : goal.read_told-told-requires
read_told-told-requires c =
    let front = front_of c.self.inside.bytes.now c.self.invariant (omega (arith, eqb-false _ 0 (sym c.if-is_empty.ensures))) in
    can_behind c.self.inside.bytes.now c.behind_call-rest.result.now front c.behind_call-rest.ensures

pub invariant_of-result : goal.invariant_of-result
invariant_of-result c =
    let front = front_of c.self.inside.bytes.now c.self.invariant (omega (arith, eqb-false _ 0 (sym c.if-is_empty.ensures))) in
    packed_behind c.self.inside.bytes.now c.behind_call-rest.result.now c.read_told-told.result.1.now front c.behind_call-rest.ensures c.read_told-told.ensures.rest

pub returns : goal.returns
returns c =
    let front = front_of c.self.inside.bytes.now c.self.invariant (omega (arith, eqb-false _ 0 (sym c.if-is_empty.ensures))) in
    let reply = told_reply c.read_told-told.result.0 in
    let all = entries_behind c.self.inside.bytes.now c.behind_call-rest.result.now c.read_told-told.result.1.now front reply c.behind_call-rest.ensures c.read_told-told.ensures.told c.read_told-told.ensures.rest in
    (front.entry.0, sym c.self.view_is ∙ all)
