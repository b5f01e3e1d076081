use Rattle.std.proofs.Common.{ap, ◌∙◌}
use Rattle.stripe_words.specs.declared.hold.Hold.TheVariants.{Free}
use Rattle.mars_manager.specs.Seat.{first_of}
use Rattle.mars_manager.specs.Locks.{with_hold}
use Rattle.mars_manager.proofs.Knowns.{try_undone}
use Rattle.mars_manager.proofs.mars.Mars.gain.Goals as goal

pub returns-clause-refused : goal.returns-clause-refused
returns-clause-refused g c = (
  c.undo.ensures.known ∙ ap (with_hold c.args.stripe Free) c.mark-found.ensures.known ∙ try_undone c.args.stripe c.mark-found.result (first_of c.args.seat.now.me.0.passes) c.requires.free,
  c.mark-found.ensures.found,
  c.if-found-eq0.false,
)
