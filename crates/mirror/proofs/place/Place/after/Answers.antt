use Rattle.std.proofs.Common.{sym, subst}
use Rattle.mirror.specs.declared.place.Place.{Place}
use Rattle.std.specs.Prelude.{Some}
use Rattle.mirror.specs.Rest.{IsOpen, Takes}
use Rattle.mirror.proofs.place.Place.after.Goals as goal

pub returns-in-Mark : goal.returns-in-Mark
returns-in-Mark c = subst (λ (p : Place). Takes c.args.shape p c.args.byte c.take_mark.result) (sym c.in-Mark.is) (c.take_mark.ensures c.args.shape)

pub returns-in-Length : goal.returns-in-Length
returns-in-Length c =
    let ready = subst (λ (p : Place). IsOpen c.args.shape p) c.in-Length.is c.requires in
    subst (λ (p : Place). Takes c.args.shape p c.args.byte c.take_length.result) (sym c.in-Length.is) (c.take_length.ensures c.args.shape ready.1)

pub returns-in-Sequence : goal.returns-in-Sequence
returns-in-Sequence c =
    subst (λ (p : Place). Takes c.args.shape p c.args.byte (Some c.take_sequence.result)) (sym c.in-Sequence.is) (c.take_sequence.ensures.ready c.args.shape, c.take_sequence.ensures.goes_on, c.take_sequence.ensures.same c.args.shape)
