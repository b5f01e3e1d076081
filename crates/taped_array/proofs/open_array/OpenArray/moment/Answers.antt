use Rattle.std.proofs.Common.{inl, refl}
use Rattle.taped_array.specs.Shown.{store_in}
use Rattle.taped_array.proofs.open_array.OpenArray.moment.Goals as goal

pub returns : goal.returns
returns c = record {
  is = c.moment.ensures.moment;
  now = λ alive image left. ((store_in c.args.self.now).state.bytes, c.moment.ensures.now refl alive image left, inl refl);
}
